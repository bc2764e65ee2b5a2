-- Where the bits of each variable stand in a code.
use Rattle.std.specs.Prelude.{◌≡◌, ◌<◌, ◌≤◌, ◌^◌, ℕ, ◌+◌, Bool, List, [], ◌∷◌, length, drop}
use Rattle.std.specs.List.{range_with_len}
use Rattle.name_table.specs.ScopeVars.{variable_at}
use Rattle.net_model.specs.Words.{Scope}
use Rattle.node_table.specs.Table.{Bits}
use Rattle.mv_encoding.specs.declared.field.Field.{Field}
use Rattle.name_table.specs.CodeBits.{bits_of, bits_in}
use Rattle.mv_encoding.specs.Layouts.{Layout, bits_before, numbers_at, is_letter}

-- the field of one variable
abbrev pub field_at : Scope → ℕ → Field
field_at scope var =
    record { before = bits_before scope var; bits = bits_of (variable_at scope var); values = length (variable_at scope var).values }

-- the fields of the variables from this one on, after so many bits
abbrev pub fields_from : ℕ → Scope → List Field
fields_from before [] = []
fields_from before (v ∷ scope) =
    record { before = before; bits = bits_of v; values = length v.values } ∷ fields_from (before + bits_of v) scope

-- a field that fits in a code of so many bits
pub record FitsIn (total : ℕ) (field : Field) : Type 0 where
  pub within : field.before + field.bits ≤ total
  pub few : field.bits ≤ 32
  pub some : 0 < field.values
  pub enough : field.values ≤ 2 ^ field.bits

-- the fields of all variables fit
abbrev pub AllFit : Scope → Type 0
AllFit scope = (var : ℕ) → var < length scope → FitsIn (bits_in scope) (field_at scope var)

-- the first level of a variable
abbrev pub level_of : Layout → ℕ → ℕ
level_of layout var = layout.first + bits_before layout.scope var

-- whether the numbers of the variables from this one on are values
abbrev pub is_letter_from : Layout → ℕ → Bits → Bool
is_letter_from layout var bits = is_letter (drop var layout.scope) (numbers_at (drop var layout.scope) (level_of layout var) bits)

-- what a coding keeps
pub record IsCoding (scope : Scope) (first : ℕ) (levels : List ℕ) (fields : List Field) : Type 0 where
  pub low : first ≤ 8192
  pub few : bits_in scope ≤ 2000
  pub levels_are : levels ≡ range_with_len first (bits_in scope)
  pub fields_are : fields ≡ fields_from 0 scope
  pub all_fit : AllFit scope
