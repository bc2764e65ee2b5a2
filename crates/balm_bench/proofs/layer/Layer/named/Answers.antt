use Rattle.std.proofs.Common.{◌≡◌, arith}
use Rattle.balm_bench.specs.declared.layer.Layer.{Layer}
use Rattle.balm_bench.specs.declared.layer.Layer.TheVariants.{Lines, Names, Nodes, Interleaved, Blocked, Rows, Domains, Collisions, Counts, Valued, Chain, Drawn, Subsets, Targets}
use Rattle.balm_bench.specs.LayerNames.{name_of}
use Rattle.balm_bench.proofs.layer.Layer.named.Goals as goal

pub returns-clause-unknown : goal.returns-clause-unknown
returns-clause-unknown c = unknown
  where
    unknown : (layer : Layer) → name_of layer ≡ c.args.word.now → ⊥
    unknown Lines = c.loop-layer.invariant 0 Lines (omega (arith, c.loop-layer.auto.layer-index-end))
    unknown Names = c.loop-layer.invariant 1 Lines (omega (arith, c.loop-layer.auto.layer-index-end))
    unknown Nodes = c.loop-layer.invariant 2 Lines (omega (arith, c.loop-layer.auto.layer-index-end))
    unknown Interleaved = c.loop-layer.invariant 3 Lines (omega (arith, c.loop-layer.auto.layer-index-end))
    unknown Blocked = c.loop-layer.invariant 4 Lines (omega (arith, c.loop-layer.auto.layer-index-end))
    unknown Rows = c.loop-layer.invariant 5 Lines (omega (arith, c.loop-layer.auto.layer-index-end))
    unknown Domains = c.loop-layer.invariant 6 Lines (omega (arith, c.loop-layer.auto.layer-index-end))
    unknown Collisions = c.loop-layer.invariant 7 Lines (omega (arith, c.loop-layer.auto.layer-index-end))
    unknown Counts = c.loop-layer.invariant 8 Lines (omega (arith, c.loop-layer.auto.layer-index-end))
    unknown Valued = c.loop-layer.invariant 9 Lines (omega (arith, c.loop-layer.auto.layer-index-end))
    unknown Chain = c.loop-layer.invariant 10 Lines (omega (arith, c.loop-layer.auto.layer-index-end))
    unknown Drawn = c.loop-layer.invariant 11 Lines (omega (arith, c.loop-layer.auto.layer-index-end))
    unknown Subsets = c.loop-layer.invariant 12 Lines (omega (arith, c.loop-layer.auto.layer-index-end))
    unknown Targets = c.loop-layer.invariant 13 Lines (omega (arith, c.loop-layer.auto.layer-index-end))
