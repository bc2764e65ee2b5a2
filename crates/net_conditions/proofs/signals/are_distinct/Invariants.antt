use Rattle.std.proofs.Common.{false, map, take, replicate}
use Rattle.net_conditions.specs.Marks.{Adds}
use Rattle.net_conditions.proofs.Listed.{IsOnce}
use Rattle.net_conditions.proofs.signals.are_distinct.Given as goal

abbrev pub invariant-loop-signal : goal.invariant-loop-signal
invariant-loop-signal l = record {
  met : Adds (replicate l.count false) (map (λ v. v.0) (take l.signal-index l.signals)) l.met;
  once : IsOnce (map (λ v. v.0) (take l.signal-index l.signals));
}
