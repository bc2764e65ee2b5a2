use Rattle.std.specs.Prelude.{ℕ, List, codes}
use Rattle.balm_bench.specs.declared.layer.Layer.{Layer}
use Rattle.balm_bench.specs.declared.layer.Layer.TheVariants.{Lines, Names, Nodes, Interleaved, Blocked, Rows, Domains, Collisions, Counts, Valued, Chain, Drawn, Subsets, Targets}

-- the word that names a layer
abbrev pub name_of : Layer → List ℕ
name_of Lines = codes "lines"
name_of Names = codes "names"
name_of Nodes = codes "nodes"
name_of Interleaved = codes "interleaved"
name_of Blocked = codes "blocked"
name_of Rows = codes "rows"
name_of Domains = codes "domains"
name_of Collisions = codes "collisions"
name_of Counts = codes "counts"
name_of Valued = codes "valued"
name_of Chain = codes "chain"
name_of Drawn = codes "drawn"
name_of Subsets = codes "subsets"
name_of Targets = codes "targets"
