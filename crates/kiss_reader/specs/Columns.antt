use Rattle.std.specs.Prelude.{◌≡◌, ◌++◌, Bool, true, false, List}
use Rattle.name_table.specs.Variables.{are_different}
use Rattle.net_model.specs.Forms.{Name}

-- these names stand behind the others, and all of them are different; or they are not
abbrev pub IsJoined : List Name → List Name → List Name → Bool → Type 0
IsJoined old more new true = (new ≡ old ++ more) × (are_different (old ++ more) ≡ true)
IsJoined old more new false = are_different (old ++ more) ≡ false
