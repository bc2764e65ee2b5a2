use Rattle.std.proofs.Common.{◌≡◌, ℕ, ◌<◌}
use Rattle.balm_bench.specs.declared.layer.Layer.{Layer}
use Rattle.balm_bench.specs.LayerNames.{name_of}
use Rattle.balm_bench.proofs.layer.Layer.named.Given as goal
use Rattle.std.proofs.Common.{slice_index_or}

-- no layer that was tried has the name
abbrev pub invariant-loop-layer : goal.invariant-loop-layer
invariant-loop-layer l = (k : ℕ) → (d : Layer) → k < l.layer-index → name_of (slice_index_or l.layer-items k d) ≡ l.word → ⊥
