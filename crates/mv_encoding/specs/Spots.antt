-- Codes of variables that stand apart. A spot is the layout of one variable; a list of spots says where the code of each
-- variable of a list stands.
use Rattle.std.specs.Prelude.{◌≡◌, ◌<◌, ◌⊎◌, ℕ, Bool, true, false, List, [], ◌∷◌, length, drop, map, slice_index_or, All}
use Rattle.std.specs.List.{list_all, flat_map}
use Rattle.name_table.specs.ScopeVars.{variable_at}
use Rattle.net_model.specs.Words.{Variable, Scope, IsLetter}
use Rattle.node_table.specs.Table.{Bits, Table, value_at, IsValid}
use Rattle.bdd_ops.specs.Levels.{is_in}
use Rattle.bdd_ops.specs.Meaning.{DependsOn, IsMissing}
use Rattle.mv_encoding.specs.Layouts.{Layout, number_of, numbers_of, levels_of, is_letter, IsLaid}

-- the spot of a variable, from this level on
abbrev pub spot_of : Variable → ℕ → Layout
spot_of v first = record { scope = v ∷ []; first = first }

-- a layout of one variable
abbrev pub IsSpot : Layout → Type 0
IsSpot spot = (v : Variable) × (spot.scope ≡ v ∷ [])

abbrev pub AreSpots : List Layout → Type 0
AreSpots spots = All IsSpot spots

-- each level of each code is there
abbrev pub AreLaid : Table → List Layout → Type 0
AreLaid t spots = All (λ spot. IsLaid spot t) spots

-- the variables of the spots
abbrev pub variables_at : List Layout → Scope
variables_at spots = map (λ spot. variable_at spot.scope 0) spots

-- the levels of all their codes
abbrev pub all_levels : List Layout → List ℕ
all_levels spots = flat_map levels_of spots

-- the spot of a signal that has this number
abbrev pub spot_at : List Layout → ℕ → Layout
spot_at spots signal = slice_index_or spots signal (record { scope = []; first = 0 })

abbrev pub spots_at : List Layout → List ℕ → List Layout
spots_at spots signals = map (spot_at spots) signals

-- the number that the bits spell at each spot
abbrev pub spelled : List Layout → Bits → List ℕ
spelled spots bits = map (λ spot. number_of spot 0 bits) spots

-- whether the number at each spot is a value
abbrev pub spell_values : List Layout → Bits → Bool
spell_values spots bits = list_all (λ spot. is_letter spot.scope (numbers_of spot bits)) spots

-- an answer on the way to the values of all spots is missing: the values of one spot, or those of all spots from it on
pub record AreValuesShort (t : Table) (spots : List Layout) : Type 0 where
  pub place : ℕ
  pub within : place < length spots
  pub missing : IsMissing t (λ bits. is_letter (spot_at spots place).scope (numbers_of (spot_at spots place) bits)) ⊎ IsMissing t (spell_values (drop place spots))

-- two codes share no level
abbrev pub AreApart : Layout → Layout → Type 0
AreApart a b = (k : ℕ) → is_in (levels_of a) k ≡ true → is_in (levels_of b) k ≡ false

-- The ref stands for the lists of values of which `Member` tells, one value at each spot: it depends on the levels of the
-- codes alone, has the value 1 at the codes of each member, and 0 at all other bits.
pub record StandsForValues (t : Table) (spots : List Layout) (r : ℕ) (Member : List ℕ → Type 0) : Type 0 where
  pub valid : IsValid t r
  pub depends : DependsOn t (all_levels spots) r
  pub found : (bits : Bits) → value_at t r bits ≡ true → IsLetter (variables_at spots) (spelled spots bits) × Member (spelled spots bits)
  pub holds : (bits : Bits) → IsLetter (variables_at spots) (spelled spots bits) → Member (spelled spots bits) → value_at t r bits ≡ true
