use Rattle.std.proofs.Common.{◌∙◌, sym, subst}
use Rattle.mv_encoding.specs.Layouts.{levels_of}
use Rattle.net_frame.specs.Frames.{IsFilePlaced}
use Rattle.frame_words.proofs.Order.{in-order}
use Rattle.det_core.specs.Automata.{MeetsRule, IsComplete, ReadsAlone}
use Rattle.det_core.specs.Languages.{letters_of}
use Rattle.sync_solve.specs.Files.{AreDiagrams}
use Rattle.sync_solve.specs.Safe.{HasOthers}
use Rattle.sync_solve.proofs.Files.{file-placed-later, diagrams-grow}
use Rattle.sync_solve.proofs.Turned.{turned-rule, turned-complete, turned-reads}
use Rattle.sync_solve.proofs.Solved.{order-later, x-laid, solved}
use Rattle.sync_solve.proofs.safe.safe_words.Goals as goal

pub others-requires-clause-placed : goal.others-requires-clause-placed
others-requires-clause-placed c =
    let problem = c.args.problem.now in
    let frame = c.args.frame.now in
    let (third, fits) = c.requires.fits in
    subst (λ file. IsFilePlaced c.of_file.new.space file frame.s) (sym c.s.ensures)
    (file-placed-later c.args.space.now c.of_file.new.space c.of_file.ensures.levels problem.s frame.s (fits.s c.requires.mode))

pub others-requires-clause-order : goal.others-requires-clause-order
others-requires-clause-order c =
    let (third, fits) = c.requires.fits in
    let order = order-later c.args.space.now c.of_file.new.space c.args.frame.now c.of_file.ensures.levels
    (in-order c.args.space.now c.args.problem.now third c.args.frame.now c.mode-mode.ensures.built c.requires.mode fits) in
    (order.start, order.within, order.s)

pub composed-requires-clause-f : goal.composed-requires-clause-f
composed-requires-clause-f c =
    let problem = c.args.problem.now in
    let frame = c.args.frame.now in
    let f = c.in_ok-f.f in (
      problem.f,
      diagrams-grow c.of_file.new.space c.others.new.space c.others.ensures.grows c.others.ensures.levels problem.f frame.f f.parts f.init f.acc
          (subst (λ file. AreDiagrams c.of_file.new.space file frame.f f.parts f.init f.acc) c.f.ensures c.in_ok-f.ensures.ok),
    )

pub composed-requires-clause-order : goal.composed-requires-clause-order
composed-requires-clause-order c =
    let (third, fits) = c.requires.fits in
    order-later c.args.space.now c.others.new.space c.args.frame.now (c.others.ensures.levels ∙ c.of_file.ensures.levels)
    (in-order c.args.space.now c.args.problem.now third c.args.frame.now c.mode-mode.ensures.built c.requires.mode fits)

pub composed-requires-clause-x : goal.composed-requires-clause-x
composed-requires-clause-x c = x-laid c.others.new.space c.args.frame.now (composed-requires-clause-order c)

pub returns-clause-rule : goal.returns-clause-rule
returns-clause-rule c =
    let letters = letters_of c.args.frame.now.x in
    subst (λ det. MeetsRule c.composed.new.space letters det) (sym c.complement.ensures.states)
    (turned-rule c.composed.new.space letters c.in_ok-unsafe_words.unsafe_words c.in_ok-unsafe_words.ensures.rule)

pub returns-clause-complete : goal.returns-clause-complete
returns-clause-complete c =
    let letters = letters_of c.args.frame.now.x in
    subst (λ det. IsComplete c.composed.new.space letters det) (sym c.complement.ensures.states)
    (turned-complete c.composed.new.space letters c.in_ok-unsafe_words.unsafe_words c.in_ok-unsafe_words.ensures.complete)

pub returns-clause-reads : goal.returns-clause-reads
returns-clause-reads c =
    let levels = levels_of c.args.frame.now.x in
    subst (λ det. ReadsAlone c.composed.new.space levels det) (sym c.complement.ensures.states)
    (turned-reads c.composed.new.space levels c.in_ok-unsafe_words.unsafe_words c.in_ok-unsafe_words.ensures.reads)

pub returns-clause-words : goal.returns-clause-words
returns-clause-words c =
    let problem = c.args.problem.now in
    let frame = c.args.frame.now in
    let f = c.in_ok-f.f in
    let (third, fits) = c.requires.fits in
    let are = diagrams-grow c.of_file.new.space c.others.new.space c.others.ensures.grows c.others.ensures.levels problem.f frame.f f.parts f.init f.acc
    (subst (λ file. AreDiagrams c.of_file.new.space file frame.f f.parts f.init f.acc) c.f.ensures c.in_ok-f.ensures.ok) in
    solved c.args.space.now c.others.new.space c.composed.new.space problem third frame c.in_ok-outside.outside c.in_ok-unsafe_words.unsafe_words c.complement.result
    c.mode-mode.ensures.built c.requires.mode fits
    (subst (λ file. HasOthers c.others.new.space file frame.s.letters c.in_ok-outside.outside) c.s.ensures c.in_ok-outside.ensures.others) c.in_ok-outside.ensures.rule
    (c.in_ok-unsafe_words.ensures.words problem.f are) c.in_ok-unsafe_words.ensures.complete
    (subst (λ det. MeetsRule c.composed.new.space (letters_of frame.x) det) (sym c.complement.ensures.states)
    (turned-rule c.composed.new.space (letters_of frame.x) c.in_ok-unsafe_words.unsafe_words c.in_ok-unsafe_words.ensures.rule))
    c.complement.ensures.words
