use Rattle.std.specs.Prelude.{◌≡◌, ◌≤◌, ◌+◌, ℕ, Bool, true, false, not, ◌&&◌, ◌||◌, List, [], ◌∷◌, length, Option, None}
use Rattle.std.specs.List.{list_any}
use Rattle.net_model.specs.Forms.{Form}
use Rattle.net_model.specs.NetTexts.{names_in, text_in, LinesSay}
use Rattle.blifmv_names.specs.declared.place.Width.{Width}
use Rattle.blifmv_names.specs.LineFaults.{is_misfit, is_second_default, has_many_values, has_many_columns, rows_on, width_behind}

-- The lines of a text that have no fault, without going from line to line.

abbrev pub rows_in : List Form → ℕ
rows_in [] = 0
rows_in (form ∷ text) = rows_on form + rows_in text

pub record IsWithinLimits (text : List Form) : Type 0 where
  pub signals : length (names_in text) ≤ 4096
  pub values : list_any has_many_values text ≡ false
  pub columns : list_any has_many_columns text ≡ false
  pub rows : rows_in text ≤ 1000000

-- each row and default stands under a table and spells as many entries as it has columns, a default once
abbrev pub rows_fit : Option Width → List Form → Bool
rows_fit width [] = true
rows_fit width (form ∷ text) =
    not (is_misfit width form || is_second_default width form) && rows_fit (width_behind width form) text

pub record IsFaultless (bytes : List ℕ) : Type 0 where
  pub says : LinesSay bytes (text_in bytes)
  pub fit : rows_fit None (text_in bytes) ≡ true
  pub within : IsWithinLimits (text_in bytes)
