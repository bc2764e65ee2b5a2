use Rattle.std.proofs.Common.{◌∙◌, Bool, List, refl, sym, subst, arith}
use Rattle.std.proofs.lemmas.List.{append-nil}
use Rattle.node_table.specs.Table.{Bits}
use Rattle.node_table.proofs.Growth.{grows-refl, grows-trans}
use Rattle.net_model.specs.Nets.{table_of}
use Rattle.mv_encoding.specs.Spots.{variables_at}
use Rattle.table_parts.specs.TableParts.{IsTableOver, part_value}
use Rattle.net_relation.specs.Relations.{AreFor}
use Rattle.net_relation.proofs.StateSets.{constant-more}
use Rattle.net_relation.proofs.Spelled.{all-mapped}
use Rattle.net_relation.proofs.initial_states.add_constant.Goals as goal

pub add_if_constant-requires-clause-laid : goal.add_if_constant-requires-clause-laid
add_if_constant-requires-clause-laid c k d within j inside = omega (arith, c.requires.laid k d within j inside, c.loop-table.invariant.levels)

pub add_if_constant-requires-clause-table : goal.add_if_constant-requires-clause-table
add_if_constant-requires-clause-table c =
    all-mapped (IsTableOver (variables_at c.args.signals.now)) table_of c.args.tables.now c.requires.tables c.loop-table.table-index c.table-item.result (omega (arith, c.loop-table-test.true)) c.table-item.is

pub loop-table-preserved : goal.loop-table-preserved
loop-table-preserved c =
    let P : List (Bits → Bool) → Type 0 = λ ms. AreFor c.add_if_constant.new.space c.add_if_constant.new.parts ms in
    record {
      are = λ before are. subst P (constant-more (part_value c.args.signals.now) c.args.varying.now c.args.tables.now c.loop-table.table-index c.table-item.result before (omega (arith, c.loop-table-test.true)) (sym c.table-item.is)) (c.in_ok-add_if_constant.ensures.ok _ (c.loop-table.invariant.are before are));
      grows = grows-trans _ _ _ c.loop-table.invariant.grows c.in_ok-add_if_constant.ensures.grows;
      levels = c.in_ok-add_if_constant.ensures.levels ∙ c.loop-table.invariant.levels;
    }

pub loop-table-init : goal.loop-table-init
loop-table-init c =
    let P : List (Bits → Bool) → Type 0 = λ ms. AreFor c.args.space.now c.args.parts.now ms in
    record {
      are = λ before are. subst P (sym (append-nil before)) are;
      grows = grows-refl c.args.space.now c.levels-levels.ensures.table;
      levels = refl;
    }
