-- How many bits the letters, signals and states of a problem have.
use Rattle.std.specs.Prelude.{ℕ, ◌+◌, [], ◌∷◌, length, if◌then◌else◌, nat_eq, Option, Some, None}
use Rattle.std.specs.List.{list_any, flat_map, range_with_len}
use Rattle.name_table.specs.CodeBits.{bits_in}
use Rattle.name_table.specs.ScopeVars.{variable_at}
use Rattle.net_model.specs.Words.{Scope}
use Rattle.net_model.specs.Nets.{Net}
use Rattle.net_model.specs.Conditions.{latch_outputs}
use Rattle.net_model.specs.NetLanguages.{letter_signals}
use Rattle.net_model.specs.Equation.{Topology}
use Rattle.net_model.specs.Outlines.{outline}
use Rattle.net_model.specs.Problems.{File, Problem}
use Rattle.net_model.specs.declared.class.Mode.{Mode}
use Rattle.net_model.specs.declared.class.Mode.TheVariants.{Sync, Parallel}

-- The variables that a signal adds to those of the letters: a latch output two, for its present and its next value; a letter
-- none, for its bits are those of a joint variable; any other signal one.
abbrev pub own_of : Net → ℕ → Scope
own_of net signal =
    if list_any (nat_eq signal) (latch_outputs net) then variable_at net.names signal ∷ variable_at net.names signal ∷ []
    else (if list_any (nat_eq signal) (letter_signals net) then [] else variable_at net.names signal ∷ [])

-- those of the signals before this one, in the order of the names
abbrev pub own_before : Net → ℕ → Scope
own_before net signal = flat_map (own_of net) (range_with_len 0 signal)

abbrev pub own_scope : Net → Scope
own_scope net = own_before net (length net.names)

-- the bits that a file adds to those of the letters; a machine adds twice those of its state
abbrev pub file_bits : File → ℕ
file_bits file = bits_in (own_scope (outline file))

abbrev pub third_bits : Option File → ℕ
third_bits None = 0
third_bits (Some file) = file_bits file

-- the bits of the letters: those of the joint variables; in parallel mode X's letter has bits of its own besides
abbrev pub letter_bits : Mode → Scope → Scope → ℕ
letter_bits Sync joint x = bits_in joint
letter_bits Parallel joint x = bits_in joint + bits_in x

abbrev pub joint_bits : Topology → ℕ
joint_bits topology = letter_bits topology.mode topology.joint topology.x

-- the bits of a problem with a third file, which is X's in a check
abbrev pub problem_bits : Problem → Option File → ℕ
problem_bits problem third = joint_bits problem.topology + file_bits problem.f + file_bits problem.s + third_bits third
