-- Sets of levels, and maps from levels to levels, as lists.
use Rattle.std.specs.Prelude.{◌≡◌, ◌==◌, ◌<◌, ℕ, Bool, true, false, if◌then◌else◌, List, [], ◌∷◌, map}
use Rattle.std.specs.List.{list_any, AllPairs, All}
use Rattle.std.specs.List.Sorted.{IsStrictlyIncreasing}
use Rattle.node_table.specs.Table.{Bits}

-- whether the level stands in the list
abbrev pub is_in : List ℕ → ℕ → Bool
is_in levels k = list_any (λ l. l == k) levels

-- a list of levels as a set: they rise, and are the levels that were given
pub record IsSetOf (given levels : List ℕ) : Type 0 where
  pub rises : IsStrictlyIncreasing levels
  pub same : (k : ℕ) → is_in levels k ≡ is_in given k

-- the bits agree at all other levels
abbrev pub SameOutside : List ℕ → Bits → Bits → Type 0
SameOutside levels u v = (k : ℕ) → is_in levels k ≡ false → u k ≡ v k

-- the bits agree at these levels
abbrev pub SameAt : List ℕ → Bits → Bits → Type 0
SameAt levels u v = (k : ℕ) → is_in levels k ≡ true → u k ≡ v k

-- the levels that a map takes to others
abbrev pub sources : List (ℕ × ℕ) → List ℕ
sources pairs = map (λ p. p.0) pairs

-- the level that a map takes this one to, and `other` where it takes it nowhere
abbrev pub target_or : ℕ → List (ℕ × ℕ) → ℕ → ℕ
target_or other [] k = other
target_or other (p ∷ pairs) k = if k == p.0 then p.1 else target_or other pairs k

-- the bits that are read through a map: at a source stands the bit of its target
abbrev pub renamed : List (ℕ × ℕ) → Bits → Bits
renamed [] bits k = bits k
renamed (p ∷ pairs) bits k = if k == p.0 then bits p.1 else renamed pairs bits k

-- the sources rise strictly, and so do the targets
abbrev pub IsRisingMap : List (ℕ × ℕ) → Type 0
IsRisingMap pairs = AllPairs (λ p q. (p.0 < q.0) × (p.1 < q.1)) pairs

-- all targets are levels of a Space with so many levels
abbrev pub TargetsWithin : ℕ → List (ℕ × ℕ) → Type 0
TargetsWithin levels pairs = All (λ p. p.1 < levels) pairs
