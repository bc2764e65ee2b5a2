use Rattle.node_table.proofs.Growth.{grows-refl, grows-trans}
use Rattle.node_table.proofs.laws.growth_is_transitive.Goals as goal

pub returns-clause-chain : goal.returns-clause-chain
returns-clause-chain c = grows-trans

pub returns-clause-same : goal.returns-clause-same
returns-clause-same c = grows-refl
