use Rattle.std.proofs.Common.{◌≡◌, drop, map, nat_eq}
use Rattle.std.specs.List.{list_any, list_all}
use Rattle.net_model.specs.Nets.{latch_of}
use Rattle.net_model.proofs.automaton.are_latch_outputs.Given as goal

abbrev pub invariant-loop-signal : goal.invariant-loop-signal
invariant-loop-signal l =
    list_all (λ signal. list_any (nat_eq signal) (map (λ latch. latch.output) (map latch_of l.latches))) (map (λ v. v.0) (drop l.signal-index l.signals))
    ≡ list_all (λ signal. list_any (nat_eq signal) (map (λ latch. latch.output) (map latch_of l.latches))) (map (λ v. v.0) l.signals)
