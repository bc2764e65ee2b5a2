use Rattle.std.specs.Prelude.{◌≡◌, ◌≤◌, ◌+◌, ◌-◌, ◌^◌, ◌⊎◌, ℕ, List, min, Result, Err, OnErr}
use Rattle.io_core.specs.declared.sink.SinkFault.{SinkFault}
use Rattle.io_core.specs.declared.sink.WriteFault.{WriteFault}
use Rattle.io_core.specs.declared.shelf.LoadFault.{LoadFault}
use Rattle.io_core.specs.declared.sink.SinkFault.TheVariants as sink_fault
use Rattle.io_core.specs.declared.sink.WriteFault.TheVariants as write_fault
use Rattle.io_core.specs.declared.shelf.LoadFault.TheVariants as load_fault

-- a count has risen; one that stands at the end of a `u64` counts as risen
abbrev pub Rose : ℕ → ℕ → Type 0
Rose before now = min (before + 1) (2 ^ 64 - 1) ≤ now

-- the counts of faults of a shelf, name by name, before and after a load of this name
pub record LoadCause {T : Type 0} (before now : List ℕ → ℕ) (name : List ℕ) (result : Result T LoadFault) : Type 0 where
  pub later : (other : List ℕ) → before other ≤ now other
  pub failed : result ≡ Err load_fault.Failed → Rose (before name) (now name)

-- the counts of faults and of wants of a sink, before and after one piece was put
pub record PutCause {T : Type 0} (faults faults' wants wants' : ℕ) (result : Result T SinkFault) : Type 0 where
  pub later : faults ≤ faults'
  pub more : wants ≤ wants'
  pub failed : result ≡ Err sink_fault.Failed → Rose faults faults'
  pub memory : result ≡ Err sink_fault.Memory → Rose wants wants'

-- the same counts before and after a whole text was written
pub record WriteCause {T : Type 0} (faults faults' wants wants' : ℕ) (result : Result T WriteFault) : Type 0 where
  pub later : faults ≤ faults'
  pub more : wants ≤ wants'
  pub failed : result ≡ Err write_fault.Failed → Rose faults faults'
  pub memory : result ≡ Err write_fault.Memory → Rose wants wants'
  pub either : OnErr result (Rose faults faults' ⊎ Rose wants wants')
