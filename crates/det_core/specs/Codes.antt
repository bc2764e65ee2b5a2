-- The states of an automaton in bits.
use Rattle.std.specs.Prelude.{◌==◌, ◌+◌, ◌^◌, ◌&&◌, ℕ, Bool, false, if◌then◌else◌, List, [], ◌∷◌, length}
use Rattle.std.specs.List.{list_any}
use Rattle.node_table.specs.Table.{Bits, Table, value_at}
use Rattle.det_core.specs.declared.det.Move.{Move}
use Rattle.det_core.specs.Automata.{State, state_at}

-- the number that the bits spell at these levels, the least significant digit at the last of them
abbrev pub code_number : List ℕ → Bits → ℕ
code_number [] bits = 0
code_number (level ∷ levels) bits = (if bits level then 2 ^ length levels else 0) + code_number levels bits

-- whether the bit at a level is this digit, and the rest holds
abbrev pub has_digit : ℕ → Bool → Bool → Bits → Bool
has_digit level digit rest bits = if bits level then (if digit then rest else false) else (if digit then false else rest)

-- whether one of these moves leads to the target by the letter
abbrev pub leads_to : Table → List Move → Bits → ℕ → Bool
leads_to t moves bits target = list_any (λ m. (target == m.target) && value_at t m.guard bits) moves

-- whether a move leads from one state to the other by the letter
abbrev pub steps_by : Table → List State → ℕ → Bits → ℕ → Bool
steps_by t det k bits target = leads_to t (state_at det k).moves bits target
