use Rattle.std.proofs.Common.{◌≡◌, ◌<◌, ◌^◌, ◌∙◌, length, codes, ap, arith}
use Rattle.net_model.specs.Printed.{printed_text}
use Rattle.net_frame.specs.Frames.{Frame}
use Rattle.aut_format.specs.Rows.{listing_of_det}
use Rattle.aut_format.proofs.Printing.{guards-valid}
use Rattle.solution_text.proofs.Solved.{solution-is}
use Rattle.solution_text.proofs.solving.solved.Goals as goal

pub auto_text-requires : goal.auto_text-requires
auto_text-requires c = guards-valid c.safe_words.new.space c.args.frame.now.x c.in_ok-safe.safe c.in_ok-safe.ensures.rule

pub returns : goal.returns
returns c =
    let (third, fits) = c.requires.fits in
    let det = c.in_ok-safe.safe in
    let space = c.safe_words.new.space in
    let few : length det < 2 ^ 64 = omega (arith, c.states-count.ensures.states, c.states-count.type_inv) in
    solution-is c.args.problem.now space c.args.frame.now.x det (record { text = c.in_ok-text.text; has_word = c.in_ok-has_word.has_word }) c.mode-mode.ensures.built c.requires.mode
    (ap (λ (f : Frame). f.x.scope) fits.is) c.in_ok-safe.ensures.rule c.in_ok-safe.ensures.reads c.states-count.ensures.det few
    (c.in_ok-text.ensures ∙ (λ i. printed_text (codes "solution") (listing_of_det space (c.x.ensures i) det)))
    c.in_ok-safe.ensures.words c.in_ok-has_word.ensures
