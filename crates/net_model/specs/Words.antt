use Rattle.std.specs.Prelude.{◌<◌, ℕ, List, [], ◌∷◌, length}
-- A variable has a name and a domain, the list of its value names. A value is a place in that list.
pub use Rattle.name_table.specs.Variables.{Variable}

-- A scope is a list of variables.
abbrev pub Scope : Type 0
Scope = List Variable

-- A letter over a scope gives each variable a value, in the order of the scope.
abbrev pub Letter : Type 0
Letter = List ℕ

-- A word is a list of letters.
abbrev pub Word : Type 0
Word = List Letter

-- A language is told by which words are in it.
abbrev pub Language : Type 1
Language = Word → Type 0

-- a letter over the scope: as many values as variables, each below the size of its domain
abbrev pub IsLetter : Scope → Letter → Type 0
IsLetter [] [] = Unit {0}
IsLetter [] (a ∷ letter) = ⊥
IsLetter (v ∷ scope) [] = ⊥
IsLetter (v ∷ scope) (a ∷ letter) = (a < length v.values) × IsLetter scope letter

-- a word over the scope
abbrev pub IsWord : Scope → Word → Type 0
IsWord scope [] = Unit {0}
IsWord scope (letter ∷ word) = IsLetter scope letter × IsWord scope word
