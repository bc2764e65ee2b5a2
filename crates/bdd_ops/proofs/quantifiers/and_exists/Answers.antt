use Rattle.std.proofs.Common.{◌&&◌}
use Rattle.node_table.specs.Table.{Table, value_at}
use Rattle.bdd_ops.specs.declared.choice.Choice.{Choice}
use Rattle.bdd_ops.specs.Recursion.{ite_value, IsIte, IsHidden}
use Rattle.bdd_ops.proofs.Choices.{and-ite}
use Rattle.bdd_ops.proofs.Memos.{right-empty}
use Rattle.bdd_ops.proofs.Short.{short-same}
use Rattle.bdd_ops.proofs.quantifiers.and_exists.Goals as goal

pub returns-clause-needed : goal.returns-clause-needed
returns-clause-needed c full =
    let old : Table = c.args.space.now in
    let three : Choice = record { f = c.args.f; g = c.args.g; h = c.zero-zero.result } in
    short-same c.hide_below.new.space c.args.levels.now (ite_value old three) (λ bits. value_at old c.args.f bits && value_at old c.args.g bits)
    (λ bits. and-ite (value_at old c.args.f bits) (value_at old c.args.g bits) (value_at old c.zero-zero.result bits) (c.zero-zero.ensures.value bits))
    (c.hide_below.ensures.needed full)

pub hide_below-requires-clause-ites : goal.hide_below-requires-clause-ites
hide_below-requires-clause-ites c = right-empty IsIte c.args.space.now c.new-ites.result c.new-ites.ensures

pub hide_below-requires-clause-hidden : goal.hide_below-requires-clause-hidden
hide_below-requires-clause-hidden c = right-empty (IsHidden c.args.levels.now) c.args.space.now c.new-hidden.result c.new-hidden.ensures
