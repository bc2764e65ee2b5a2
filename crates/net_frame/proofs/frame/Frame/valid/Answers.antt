use Rattle.std.proofs.Common.{List, sym, subst, IfOk}
use Rattle.bdd_ops.specs.Meaning.{StandsFor}
use Rattle.mv_encoding.specs.Layouts.{Layout}
use Rattle.mv_encoding.specs.Spots.{AreLaid, spell_values}
use Rattle.net_frame.proofs.frame.Frame.valid.Goals as goal

pub all_values-requires : goal.all_values-requires
all_values-requires c = subst (λ (spots : List Layout). AreLaid c.args.space.now spots) (sym c.letter_codings.ensures) c.requires

pub returns-clause-ok : goal.returns-clause-ok
returns-clause-ok c = subst (λ (spots : List Layout). IfOk c.all_values.result (λ r. StandsFor c.all_values.new.space r (spell_values spots))) c.letter_codings.ensures c.all_values.ensures.ok
