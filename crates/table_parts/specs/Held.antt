-- The equalities that are held for a table.
use Rattle.std.specs.Prelude.{◌≡◌, ◌==◌, ◌&&◌, ℕ, Bool, List, Some}
use Rattle.indexmap.specs.IndexMap.{get}
use Rattle.node_table.specs.Table.{Bits, Table}
use Rattle.bdd_ops.specs.Meaning.{StandsFor}
use Rattle.mv_encoding.specs.Layouts.{Layout, number_of}
use Rattle.mv_encoding.specs.Spots.{spot_at}
use Rattle.table_parts.specs.declared.equalities.Pair.{Pair}
use Rattle.table_parts.specs.declared.equalities.Equalities.{Equalities}

-- whether the bits spell the same number at two signals
abbrev pub spell_same : List Layout → Pair → Bits → Bool
spell_same signals pair bits = number_of (spot_at signals pair.input) 0 bits == number_of (spot_at signals pair.column) 0 bits

-- the test by which pairs are told apart
abbrev pub is_pair : Pair → Pair → Bool
is_pair p q = (p.input == q.input) && (p.column == q.column)

-- this ref is held for the pair
abbrev pub IsHeld : Equalities → Pair → ℕ → Type 0
IsHeld held pair r = get is_pair held.built pair ≡ Some r

-- each ref that is held is right
pub record AreRight (signals : List Layout) (t : Table) (held : Equalities) : Type 0 where
  pub stands : (pair : Pair) (r : ℕ) → IsHeld held pair r → StandsFor t r (spell_same signals pair)
