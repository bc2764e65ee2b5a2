use Rattle.std.specs.Prelude.{◌≡◌, ◌≢◌, ◌<◌, ◌≤◌, ℕ, true, false, List, length, slice_get, Some}
use Rattle.name_table.specs.Variables.{Variable, names_of, is_in, place_of, are_different}
use Rattle.name_table.specs.declared.fault.DomainFault.{DomainFault}
use Rattle.name_table.specs.declared.fault.DomainFault.TheVariants as domains
use Rattle.name_table.specs.declared.fault.NameFault.{NameFault}
use Rattle.name_table.specs.declared.fault.NameFault.TheVariants as vars

-- why a list of names is no domain; want of memory is free
abbrev pub DomainRefused : List (List ℕ) → DomainFault → Type 0
DomainRefused names domains.Empty = length names ≡ 0
DomainRefused names domains.Repeated = (0 < length names) × (are_different names ≡ false)
DomainRefused names domains.TooMany = (are_different names ≡ true) × (131072 < length names)
DomainRefused names domains.Memory = Unit {0}

-- why there is no domain of so many numbers
abbrev pub NumberRefused : ℕ → DomainFault → Type 0
NumberRefused n domains.Empty = n ≡ 0
NumberRefused n domains.Repeated = ⊥
NumberRefused n domains.TooMany = 131072 < n
NumberRefused n domains.Memory = Unit {0}

-- why a table doesn't take the variable; memory can be wanting only for a new name that has room
abbrev pub NameRefused : List Variable → Variable → NameFault → Type 0
NameRefused old v vars.DomainDiffers = (k : ℕ) × (had : Variable) × (place_of (names_of old) v.name ≡ Some k) × (slice_get old k ≡ Some had) × (had.values ≢ v.values)
NameRefused old v vars.TooManyVars = (is_in (names_of old) v.name ≡ false) × (4096 ≤ length old)
NameRefused old v vars.TooManyValues = (is_in (names_of old) v.name ≡ false) × (length old < 4096) × (65536 < length v.values)
NameRefused old v vars.Memory = (is_in (names_of old) v.name ≡ false) × (length old < 4096) × (length v.values ≤ 65536)
