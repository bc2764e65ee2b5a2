use Rattle.std.specs.Prelude.{◌≡◌, ◌<◌, ℕ, true, List, length}
use Rattle.std.specs.List.{AllByRecursion}
use Rattle.name_table.specs.Variables.{Variable, are_different}
use Rattle.net_model.specs.Forms.{is_name, is_value_name}
pub use Rattle.lex_core.specs.TextWords.{is_word_byte, is_word}

-- Names that can stand in a text as words.

-- a word that can be the name of a signal
pub record IsTextName (name : List ℕ) : Type 0 where
  pub word : is_word name ≡ true
  pub name_is : is_name name ≡ true

-- a word that can be the name of a value
pub record IsTextValue (name : List ℕ) : Type 0 where
  pub word : is_word name ≡ true
  pub name_is : is_value_name name ≡ true

-- a variable as a text can have it: its name and those of its values are words, it has a value, and none twice
pub record IsTextVariable (v : Variable) : Type 0 where
  pub name : IsTextName v.name
  pub values : AllByRecursion IsTextValue v.values
  pub some : 0 < length v.values
  pub different : are_different v.values ≡ true
