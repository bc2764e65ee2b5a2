use Rattle.bdd_ops.specs.Recursion.{IsRenamed}
use Rattle.bdd_ops.proofs.Memos.{right-empty}
use Rattle.bdd_ops.proofs.renaming.rename.Goals as goal

pub rename_below-requires-clause-memo : goal.rename_below-requires-clause-memo
rename_below-requires-clause-memo c = right-empty (IsRenamed c.args.map.now) c.args.space.now c.new-memo.result c.new-memo.ensures
