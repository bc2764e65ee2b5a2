use Rattle.std.proofs.Common.{◌∙◌, ℕ, List, Bool, ap, sym, subst}
use Rattle.std.proofs.lemmas.Result.{IfOk-weaker}
use Rattle.node_table.specs.Table.{Bits, Table, IsValid}
use Rattle.net_model.specs.Problems.{File, file_of, IsSoundFile}
use Rattle.net_model.specs.declared.refusal.Slot.TheVariants.{F}
use Rattle.net_frame.specs.Frames.{IsFilePlaced, spots_in}
use Rattle.part_relation.specs.Plans.{AreValid}
use Rattle.net_relation.specs.Relations.{AreFor, file_meanings}
use Rattle.net_relation.proofs.Added.{are-valid}
use Rattle.bench_diagrams.proofs.relations.steps_of_f.Goals as goal

pub relation_of-requires-clause-mode : goal.relation_of-requires-clause-mode
relation_of-requires-clause-mode c = ap (λ frame. frame.mode) c.requires.fits.is ∙ c.requires.sync

pub relation_of-requires-clause-sound : goal.relation_of-requires-clause-sound
relation_of-requires-clause-sound c = subst IsSoundFile (sym c.f.ensures) c.mode-mode.ensures.built.f_sound

pub relation_of-requires-clause-placed : goal.relation_of-requires-clause-placed
relation_of-requires-clause-placed c =
    let P : File → Type 0 = λ file. IsFilePlaced c.args.space.now file c.args.frame.now.f in
    subst P (sym c.f.ensures) (c.requires.fits.f c.requires.sync)

pub returns : goal.returns
returns c =
    let new : Table = c.relation_of.new.space in
    let ms : List (Bits → Bool) = file_meanings (file_of c.f.result.now) (spots_in c.args.frame.now F) in
    IfOk-weaker c.relation_of.result (λ parts. AreFor new parts ms) (AreValid new) (λ parts are. are-valid new parts ms are) c.relation_of.ensures.parts
