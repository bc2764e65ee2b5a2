use Rattle.node_table.proofs.Ends.{tells}
use Rattle.node_table.proofs.space.Space.lo.Goals as goal

pub returns-clause-end : goal.returns-clause-end
returns-clause-end c = (tells c.args.self.now c.requires.valid.table c.args.r c.node.result c.node.ensures.node).lo
