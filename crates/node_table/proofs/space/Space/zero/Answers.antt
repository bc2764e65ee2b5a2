use Rattle.std.proofs.Common.{false, subst}
use Rattle.node_table.specs.Table.{Table, table_of, IsConstant}
use Rattle.node_table.proofs.Ends.{constant-zero}
use Rattle.node_table.proofs.space.Space.zero.Goals as goal

pub returns : goal.returns
returns c =
    let P : Table → Type 0 = λ t. IsConstant t false 0 in
    subst P c.self.view_is
    (constant-zero (table_of c.self.inside.held.keys c.self.inside.levels c.self.inside.limit c.self.inside.peak) c.self.invariant)
