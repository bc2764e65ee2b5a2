use Rattle.std.proofs.Common.{◌≡◌, ◌++◌, take, map, not, nat_eq}
use Rattle.std.specs.Prelude.{filter}
use Rattle.std.specs.List.{list_any}
use Rattle.net_model.proofs.letter_signals.push_others.Given as goal

abbrev pub invariant-loop-signal : goal.invariant-loop-signal
invariant-loop-signal l =
    map (λ v. v.0) l.vars.items
    ≡ map (λ v. v.0) l.fn.vars.items
    ++ filter (λ signal. not (list_any (nat_eq signal) (map (λ v. v.0) l.inputs))) (map (λ v. v.0) (take l.signal-index l.outputs))
