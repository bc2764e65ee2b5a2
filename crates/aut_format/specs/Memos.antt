-- What was counted so far.
use Rattle.std.specs.Prelude.{◌≡◌, ℕ, Option, Some, length, nat_eq}
use Rattle.indexmap.specs.IndexMap.{get}
use Rattle.node_table.specs.Table.{Table}
use Rattle.bdd_walk.specs.Paths.{paths_of}
use Rattle.aut_format.specs.declared.counts.Counts.{Counts}
use Rattle.aut_format.specs.Counts.{at_most_64_bits}

-- the count that is held of this ref
abbrev pub count_of : Counts → ℕ → Option ℕ
count_of counts r = get nat_eq counts.paths r

-- each count that is held is that of the ref's paths
abbrev pub AreRight : Table → Counts → Type 0
AreRight t counts = (r n : ℕ) → count_of counts r ≡ Some n → n ≡ at_most_64_bits (length (paths_of t.nodes r))
