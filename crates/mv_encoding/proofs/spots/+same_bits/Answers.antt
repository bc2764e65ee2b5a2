use Rattle.std.proofs.Common.{◌==◌, ◌&&◌, ◌∙◌, arith}
use Rattle.std.proofs.lemmas.Result.{IfOk-weaker}
use Rattle.node_table.specs.Table.{Table, value_at}
use Rattle.bdd_ops.specs.Meaning.{StandsFor}
use Rattle.mv_encoding.specs.Layouts.{number_at}
use Rattle.mv_encoding.proofs.Alike.{alike-next}
use Rattle.mv_encoding.proofs.spots.+same_bits.Goals as goal

pub returns-clause-ok : goal.returns-clause-ok
returns-clause-ok t c =
    let old : Table = c.same_bit.new.space in
    let new : Table = c.and.new.space in
    let here = c.in_ok-here.ensures.ok in
    let behind = c.in_ok-behind.ensures.ok in
    let kept = c.in_ok-here.ensures.grows.value c.in_ok-behind.behind behind.valid.held in
    IfOk-weaker c.and.result (λ r. StandsFor new r (λ u. value_at old c.in_ok-here.here u && value_at old c.in_ok-behind.behind u)) (λ r. StandsFor new r (λ u. number_at c.args.a c.args.bits u == number_at c.args.b c.args.bits u))
    (λ r s. record {
      valid = s.valid;
      value = λ u. s.value u ∙ (λ i. here.value u i && (kept u ∙ behind.value u) i) ∙ alike-next c.args.a c.args.b c.args.bits u (omega arith);
    })
    c.and.ensures.ok
