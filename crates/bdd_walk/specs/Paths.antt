-- The paths of a diagram to the constant 1.
use Rattle.std.specs.Prelude.{◌≡◌, ◌==◌, ◌<◌, ◌⊎◌, ℕ, Bool, true, false, if◌then◌else◌, List, [], ◌∷◌, ◌++◌, map, All}
use Rattle.std.specs.List.{AllByRecursion, AllPairs, Any}
use Rattle.std.specs.List.Sorted.{IsStrictlyIncreasing}
use Rattle.node_table.specs.declared.node.Node.{Node}
use Rattle.node_table.specs.Table.{Bits, Table, number_of_next, value_at}
use Rattle.bdd_walk.specs.declared.paths.Lit.{Lit}

-- a level, and the bit that stands there
abbrev pub Literal : Type 0
Literal = ℕ × Bool

abbrev pub Path : Type 0
Path = List Literal

-- the plain data of a path of the code
abbrev pub path_of : List Lit → Path
path_of lits = map (λ lit. (lit.level, lit.value)) lits

-- the bits at the levels of the path are those that it names
abbrev pub Follows : Path → Bits → Type 0
Follows path bits = AllByRecursion (λ literal. bits literal.0 ≡ literal.1) path

abbrev pub levels_on : Path → List ℕ
levels_on path = map (λ literal. literal.0) path

-- each of these paths, behind this bit of a level
abbrev pub behind : ℕ → Bool → List Path → List Path
behind level bit paths = map (λ path. (level, bit) ∷ path) paths

-- the paths of a ref to the constant 1: of a node those by its end 0, and then those by its end 1
abbrev pub paths_of : List Node → ℕ → List Path
paths_of [] r = if r == 1 then [] ∷ [] else []
paths_of (n ∷ older) r =
    if r == number_of_next older
    then behind n.level false (paths_of older n.lo) ++ behind n.level true (paths_of older n.hi)
    else paths_of older r

-- where the two part, the first has the bit 0 and the second the bit 1, at one level
abbrev pub IsBefore : Path → Path → Type 0
IsBefore [] q = ⊥
IsBefore (l ∷ p) [] = ⊥
IsBefore (l ∷ p) (m ∷ q) = (l.0 ≡ m.0) × (((l.1 ≡ false) × (m.1 ≡ true)) ⊎ ((l.1 ≡ m.1) × IsBefore p q))

-- what the paths of a ref are: they cover the bits at which it has the value 1 and no others, no two of them have bits in
-- common, each has rising levels, and a path with the bit 0 comes before one with the bit 1
pub record ArePathsOf (t : Table) (r : ℕ) (paths : List Path) : Type 0 where
  pub covering : (bits : Bits) → value_at t r bits ≡ true → Any (λ path. Follows path bits) paths
  pub inside : All (λ path. (bits : Bits) → Follows path bits → value_at t r bits ≡ true) paths
  pub disjoint : AllPairs (λ p q. (bits : Bits) → Follows p bits → Follows q bits → ⊥) paths
  pub rising : All (λ path. IsStrictlyIncreasing (levels_on path)) paths
  pub within : All (λ path. All (λ level. level < t.levels) (levels_on path)) paths
  pub ordered : AllPairs IsBefore paths
