use Rattle.std.specs.Prelude.{ℕ, suc, List, [], ◌∷◌, Option, None, Some, if◌then◌else◌}
use Rattle.std.specs.Option.{option_map}
use Rattle.net_model.specs.Forms.{Name, Form, values_shape, is_comma, is_closing, is_mark}
use Rattle.net_model.specs.Spellings.{is_list_sign}

-- The places of the words that end lists of names.

-- the place two words further
abbrev pub two_further : Option ℕ → Option ℕ
two_further place = option_map (λ n. suc (suc n)) place

-- the place of the first word behind a name that is no comma
abbrev pub count_place : List Name → Option ℕ
count_place [] = None
count_place (name ∷ []) = None
count_place (name ∷ word ∷ words) =
    if is_mark name then None else (if is_comma word then two_further (count_place words) else Some 1)

-- the place of the closing parenthesis behind names with commas between them
abbrev pub list_place : List Name → Option ℕ
list_place [] = None
list_place (name ∷ []) = None
list_place (name ∷ sign ∷ words) =
    if is_list_sign name then None
    else (if is_closing sign then Some 1 else (if is_comma sign then two_further (list_place words) else None))

-- what a line says with these names, and behind them a count and values
abbrev pub counted_shape : List Name → List Name → Option Form
counted_shape names [] = None
counted_shape names (count ∷ values) = values_shape names count values
