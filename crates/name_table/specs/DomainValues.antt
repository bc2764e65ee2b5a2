use Rattle.std.specs.Prelude.{ℕ, List}
use Rattle.name_table.specs.Variables.{numbers}
use Rattle.name_table.specs.declared.domain.Values.{Values}
use Rattle.name_table.specs.declared.domain.Values.TheVariants.{Numbered, Named}

-- the names of the values, which are numbers or are kept
abbrev pub names_told : Values → List (List ℕ)
names_told (Numbered count) = numbers count
names_told (Named names) = names.value
