use Rattle.subset_build.proofs.Conjoined.{IsJoined}
use Rattle.subset_build.proofs.joining.join_small.Given as goal

abbrev pub invariant-loop-k : goal.invariant-loop-k
invariant-loop-k l = IsJoined l.initial.space l.space l.parts l.joined l.last l.k
