-- Why work on diagrams ends early.
use Rattle.std.specs.Prelude.{◌≡◌, ℕ, length}
use Rattle.node_table.specs.Table.{Table}
use Rattle.node_table.specs.declared.space.MkFault.{MkFault}
use Rattle.node_table.specs.declared.space.MkFault.TheVariants as mk
use Rattle.det_core.specs.declared.fault.SolveFault.{SolveFault}
use Rattle.det_core.specs.declared.fault.SolveFault.TheVariants as faults

-- a fault of the node table, told after so many states
abbrev pub IsStopped : Table → MkFault → ℕ → SolveFault → Type 0
IsStopped t mk.Full states fault = fault ≡ faults.NodeLimit t.limit states
IsStopped t mk.Memory states fault = fault ≡ faults.Memory

-- the limit is told only where the Space holds as many nodes as it may; want of memory is free
abbrev pub IsLimit : Table → (ℕ → Type 0) → SolveFault → Type 0
IsLimit t Counted (faults.NodeLimit limit states) = (limit ≡ t.limit) × (length t.nodes ≡ t.limit) × Counted states
IsLimit t Counted faults.Memory = Unit {0}
