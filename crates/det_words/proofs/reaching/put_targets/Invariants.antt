use Rattle.det_words.specs.Reaching.{ArePut}
use Rattle.det_words.proofs.reaching.put_targets.Given as goal

abbrev pub invariant-loop-m : goal.invariant-loop-m
invariant-loop-m l = ArePut l.fn.reached l.reached l.moves l.m-index
