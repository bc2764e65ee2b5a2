use Rattle.std.proofs.Common.{◌-◌, ◌^◌}
use Rattle.det_words.specs.Reaching.{IsGoneThrough}
use Rattle.det_words.proofs.Words.{AreReached}
use Rattle.det_words.proofs.reaching.has_some_word.Given as goal

abbrev pub invariant-loop-state : goal.invariant-loop-state
invariant-loop-state l = record {
  gone : IsGoneThrough l.det l.place l.reached;
  reached : AreReached l.space l.det l.reached;
}

abbrev pub decreases-loop-state : goal.decreases-loop-state
decreases-loop-state l = 2 ^ 64 - l.place
