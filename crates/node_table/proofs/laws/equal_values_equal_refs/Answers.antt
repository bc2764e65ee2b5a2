use Rattle.std.proofs.Common.{ap}
use Rattle.node_table.specs.Table.{value_at}
use Rattle.node_table.proofs.Canonical.{canonical}
use Rattle.node_table.proofs.laws.equal_values_equal_refs.Goals as goal

pub returns : goal.returns
returns c t f g f_valid g_valid = (
  λ same bits. ap (λ r. value_at t r bits) same,
  canonical t.levels t.nodes f_valid.table.nodes f g f_valid.held g_valid.held,
)
