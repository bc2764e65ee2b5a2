use Rattle.std.proofs.Common.{◌≡◌, ◌++◌, drop, map}
use Rattle.std.specs.List.{flat_map}
use Rattle.net_model.specs.Printed.{line_bytes, mark_lines}
use Rattle.aut_format.proofs.auto.push_marks.Given as goal

abbrev pub invariant-loop-state : goal.invariant-loop-state
invariant-loop-state l =
    l.text.items ++ flat_map line_bytes (mark_lines l.state (map (λ s. s.accepting) (drop l.state l.det))) ≡ l.initial.text.items ++ flat_map line_bytes (mark_lines 0 (map (λ s. s.accepting) l.det))
