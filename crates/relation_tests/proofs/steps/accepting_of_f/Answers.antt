use Rattle.std.proofs.Common.{◌∙◌, ℕ, List, Bool, ap, sym, subst}
use Rattle.std.proofs.lemmas.Result.{IfOk-weaker}
use Rattle.node_table.specs.Table.{Bits, Table, IsValid}
use Rattle.net_model.specs.Problems.{File, file_of, IsSoundFile}
use Rattle.net_model.specs.declared.refusal.Slot.TheVariants.{F}
use Rattle.net_frame.specs.Frames.{IsFilePlaced, spots_in}
use Rattle.mv_encoding.specs.Spots.{StandsForValues}
use Rattle.net_relation.specs.Relations.{IsAcceptingOf}
use Rattle.relation_tests.proofs.steps.accepting_of_f.Goals as goal

pub accepting-requires-clause-mode : goal.accepting-requires-clause-mode
accepting-requires-clause-mode c = ap (λ frame. frame.mode) c.requires.fits.is ∙ c.requires.sync

pub accepting-requires-clause-sound : goal.accepting-requires-clause-sound
accepting-requires-clause-sound c = subst IsSoundFile (sym c.f.ensures) c.mode-mode.ensures.built.f_sound

pub accepting-requires-clause-placed : goal.accepting-requires-clause-placed
accepting-requires-clause-placed c =
    let P : File → Type 0 = λ file. IsFilePlaced c.args.space.now file c.args.frame.now.f in
    subst P (sym c.f.ensures) (c.requires.fits.f c.requires.sync)

pub returns : goal.returns
returns c =
    let new : Table = c.accepting.new.space in
    IfOk-weaker c.accepting.result (λ r. StandsForValues new (spots_in c.args.frame.now F).present r (IsAcceptingOf (file_of c.f.result.now))) (IsValid new) (λ r set. set.valid) c.accepting.ensures.states
