use Rattle.std.specs.Prelude.{◌≡◌, ◌<◌, ◌≤◌, ℕ, Bool, true, ◌&&◌, not, List, [], ◌∷◌, ◌++◌, length, map, position, slice_get, Option, Some, MatchOption, if◌then◌else◌, decimal}
use Rattle.std.specs.Str.{bytes_eq}
use Rattle.std.specs.Cmp.Lexicographic.{pointwise}
use Rattle.std.specs.List.{list_any, range_with_len, AllByRecursion}

-- A variable has a name and a domain, the list of its value names. A value is a place in that list.
pub record Variable : Type 0 where
  pub name : List ℕ
  pub values : List (List ℕ)

-- the names of the variables, in their order
abbrev pub names_of : List Variable → List (List ℕ)
names_of vars = map (λ v. v.name) vars

-- the name is one of the list
abbrev pub is_in : List (List ℕ) → List ℕ → Bool
is_in names name = list_any (bytes_eq name) names

-- the place of the name in the list, counted from 0
abbrev pub place_of : List (List ℕ) → List ℕ → Option ℕ
place_of names name = position (bytes_eq name) names

-- no name stands twice in the list
abbrev pub are_different : List (List ℕ) → Bool
are_different [] = true
are_different (name ∷ names) = not (list_any (bytes_eq name) names) && are_different names

-- the two are the same names in the same order
abbrev pub are_same : List (List ℕ) → List (List ℕ) → Bool
are_same = pointwise bytes_eq

-- the list with the name at its end, unless the name is there
abbrev pub with_name : List (List ℕ) → List ℕ → List (List ℕ)
with_name names name = if is_in names name then names else names ++ name ∷ []

-- the n names 0, 1, 2 and so on
abbrev pub numbers : ℕ → List (List ℕ)
numbers n = map decimal (range_with_len 0 n)

-- a list that a domain can be: some names, not too many, and none twice
pub record IsDomain (names : List (List ℕ)) : Type 0 where
  pub some : 0 < length names
  pub few : length names ≤ 131072
  pub different : are_different names ≡ true

-- variables that a table can have: not too many, no two of one name, and none with too many values
pub record IsTable (vars : List Variable) : Type 0 where
  pub few : length vars ≤ 4096
  pub different : are_different (names_of vars) ≡ true
  pub small : AllByRecursion (λ v. length v.values ≤ 65536) vars

-- variables that a scope can have: not too many, and no two of one name
pub record IsScope (vars : List Variable) : Type 0 where
  pub few : length vars ≤ 16384
  pub different : are_different (names_of vars) ≡ true

-- a new variable goes last, and its number is the length that the table had
pub record IsNew (old : List Variable) (v : Variable) (new : List Variable) (number : ℕ) : Type 0 where
  pub number_is : number ≡ length old
  pub appended : new ≡ old ++ v ∷ []
  pub room : length old < 4096
  pub few : length v.values ≤ 65536

-- a variable that is there keeps its number, and the table stays
pub record IsKnown (old : List Variable) (v : Variable) (new : List Variable) (place number : ℕ) : Type 0 where
  pub number_is : number ≡ place
  pub same : slice_get old place ≡ Some v
  pub kept : new ≡ old

-- the table `old` has taken the variable, with this number, and is now `new`
abbrev pub IsAdded : List Variable → Variable → List Variable → ℕ → Type 0
IsAdded old v new number = MatchOption (place_of (names_of old) v.name) (IsNew old v new number) (λ place. IsKnown old v new place number)
