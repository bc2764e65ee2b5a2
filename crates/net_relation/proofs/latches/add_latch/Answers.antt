use Rattle.std.proofs.Common.{◌&&◌, IfOk, sym, subst}
use Rattle.node_table.specs.Table.{Table}
use Rattle.bdd_ops.specs.Meaning.{StandsFor}
use Rattle.mv_encoding.specs.Layouts.{Layout}
use Rattle.mv_encoding.specs.Spots.{spot_at}
use Rattle.net_model.specs.Nets.{latch_of}
use Rattle.net_relation.specs.Relations.{spells_value, are_alike, latch_value}
use Rattle.net_relation.proofs.Added.{added}
use Rattle.net_relation.proofs.LatchList.{read-at}
use Rattle.net_relation.proofs.Spelled.{nowhere}
use Rattle.net_relation.proofs.latches.add_latch.Goals as goal

pub returns-clause-ok : goal.returns-clause-ok
returns-clause-ok c =
    let t : Table = c.latch_part-part.new.space in
    let output : Layout = c.index-signals-latch.result in
    let input : Layout = c.index-signals-latch-2.result in
    let output-is = read-at c.args.signals.now c.args.latch.now.output.0 output nowhere c.requires.output c.index-signals-latch.is in
    let input-is = read-at c.args.signals.now c.args.latch.now.input.0 input nowhere c.requires.input c.index-signals-latch-2.is in
    let P : Layout → Layout → Type 0 = λ o n. IfOk c.latch_part-part.result (λ r. StandsFor t r (λ bits. (spells_value o bits && are_alike c.args.present.now o bits) && (spells_value n bits && are_alike c.args.next.now n bits))) in
    let Q : Layout → Type 0 = λ o. P o input in
    let R : Layout → Type 0 = λ n. P (spot_at c.args.signals.now c.args.latch.now.output.0) n in
    let made = subst Q (sym output-is) c.latch_part-part.ensures.ok in
    added c.args.space.now t c.add.result c.latch_part-part.result (latch_value c.args.signals.now (latch_of c.args.latch.now) c.args.present.now c.args.next.now) c.args.parts.now c.add.new.parts
    c.latch_part-part.ensures.grows (subst R (sym input-is) made) c.add.ensures.ok
