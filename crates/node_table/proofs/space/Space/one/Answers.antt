use Rattle.std.proofs.Common.{true, subst}
use Rattle.node_table.specs.Table.{Table, table_of, IsConstant}
use Rattle.node_table.proofs.Ends.{constant-one}
use Rattle.node_table.proofs.space.Space.one.Goals as goal

pub returns : goal.returns
returns c =
    let P : Table → Type 0 = λ t. IsConstant t true 1 in
    subst P c.self.view_is
    (constant-one (table_of c.self.inside.held.keys c.self.inside.levels c.self.inside.limit c.self.inside.peak) c.self.invariant)
