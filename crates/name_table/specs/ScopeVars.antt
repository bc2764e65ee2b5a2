use Rattle.std.specs.Prelude.{ℕ, List, [], map, slice_get, unwrap_or}
use Rattle.name_table.specs.Variables.{Variable}
use Rattle.name_table.specs.declared.scope_var.ScopeVar.{ScopeVar}

-- the variable as a name with its domain
abbrev pub variable_of : ScopeVar → Variable
variable_of v = record { name = v.name.items; values = v.domain }

-- the variables as names with their domains
abbrev pub variables_of : List ScopeVar → List Variable
variables_of vars = map variable_of vars

-- the variable of a number that is known
abbrev pub variable_at : List Variable → ℕ → Variable
variable_at vars k = unwrap_or (slice_get vars k) (record { name = []; values = [] })

-- the variables of these numbers, in the order of the numbers
abbrev pub chosen_of : List Variable → List ℕ → List Variable
chosen_of vars numbers = map (variable_at vars) numbers
