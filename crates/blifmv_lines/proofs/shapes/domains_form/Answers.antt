use Rattle.std.proofs.Common.{◌∙◌, sym}
use Rattle.blifmv_lines.proofs.Listed.{domains_shape-none, domains_shape-some}
use Rattle.blifmv_lines.proofs.shapes.domains_form.Goals as goal

pub returns-in_err-place : goal.returns-in_err-place
returns-in_err-place c =
    rw c.from_residual.ensures (sym (domains_shape-none c.args.words.now (sym c.count_place.ensures.place ∙ c.in_err-place.was)))

pub returns : goal.returns
returns c =
    c.counted_form.ensures
    ∙ domains_shape-some c.args.words.now c.split_at.result.0.now c.split_at.result.1.now c.in_ok-place.place
    (sym c.count_place.ensures.place ∙ c.in_ok-place.was) c.split_at.ensures.front c.split_at.ensures.back
