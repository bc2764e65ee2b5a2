-- Letters in bits. Each variable of a scope has a code of its own, the variables one after another on consecutive levels,
-- and in each code the most significant bit comes first.
use Rattle.std.specs.Prelude.{◌≡◌, ◌+◌, ◌^◌, ◌<◌, ℕ, zero, suc, Bool, true, false, ◌&&◌, if◌then◌else◌, nat_lt, List, [], ◌∷◌, length, take}
use Rattle.std.specs.List.{range_with_len}
use Rattle.name_table.specs.CodeBits.{bits_of, bits_in}
use Rattle.name_table.specs.ScopeVars.{variable_at}
use Rattle.net_model.specs.Words.{Scope}
use Rattle.node_table.specs.Table.{Bits, Table}
use Rattle.mv_encoding.specs.declared.fault.CodeFault.{CodeFault}
use Rattle.mv_encoding.specs.declared.fault.CodeFault.TheVariants as faults

-- where the code of a letter stands: on consecutive levels from the first on
pub record Layout : Type 0 where
  pub scope : Scope
  pub first : ℕ

-- the bits before those of a variable
abbrev pub bits_before : Scope → ℕ → ℕ
bits_before scope var = bits_in (take var scope)

-- the number that so many bits spell, from this level on
abbrev pub number_at : ℕ → ℕ → Bits → ℕ
number_at level zero bits = 0
number_at level (suc b) bits = (if bits level then 2 ^ b else 0) + number_at (level + 1) b bits

-- the number of each variable, from this level on
abbrev pub numbers_at : Scope → ℕ → Bits → List ℕ
numbers_at [] level bits = []
numbers_at (v ∷ scope) level bits = number_at level (bits_of v) bits ∷ numbers_at scope (level + bits_of v) bits

-- whether these numbers are the values of a letter
abbrev pub is_letter : Scope → List ℕ → Bool
is_letter [] [] = true
is_letter [] (a ∷ letter) = false
is_letter (v ∷ scope) [] = false
is_letter (v ∷ scope) (a ∷ letter) = nat_lt a (length v.values) && is_letter scope letter

-- the number of one variable under a layout, and of each
abbrev pub number_of : Layout → ℕ → Bits → ℕ
number_of layout var bits =
    number_at (layout.first + bits_before layout.scope var) (bits_of (variable_at layout.scope var)) bits

abbrev pub numbers_of : Layout → Bits → List ℕ
numbers_of layout bits = numbers_at layout.scope layout.first bits

abbrev pub levels_of : Layout → List ℕ
levels_of layout = range_with_len layout.first (bits_in layout.scope)

-- each level of the code is there; a code without bits asks for none
abbrev pub IsLaid : Layout → Table → Type 0
IsLaid layout t = (k : ℕ) → k < bits_in layout.scope → layout.first + k < t.levels

-- a letter over the scope has too many bits, and this is their number
abbrev pub IsRefused : ℕ → CodeFault → Type 0
IsRefused bits (faults.Bits n) = (n ≡ bits) × (2000 < bits)
IsRefused bits faults.Memory = Unit {0}
