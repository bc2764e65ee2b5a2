use Rattle.std.proofs.Common.{map, take}
use Rattle.net_conditions.specs.Marks.{Adds, GrowsIf}
use Rattle.net_conditions.proofs.signals.Signals.insert_all.Given as goal

abbrev pub invariant-loop-signal : goal.invariant-loop-signal
invariant-loop-signal l = record {
  added : Adds l.fn.self (map (λ v. v.0) (take l.signal-index l.signals)) l.self;
  grown : GrowsIf l.grown l.fn.self l.self;
}
