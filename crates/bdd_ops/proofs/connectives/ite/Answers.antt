use Rattle.bdd_ops.specs.Recursion.{IsIte}
use Rattle.bdd_ops.proofs.Memos.{right-empty}
use Rattle.bdd_ops.proofs.connectives.ite.Goals as goal

pub ite_below-requires-clause-memo : goal.ite_below-requires-clause-memo
ite_below-requires-clause-memo c = right-empty IsIte c.args.space.now c.new-memo.result c.new-memo.ensures
