use Rattle.std.specs.Prelude.{◌≡◌, ◌≤◌, ℕ, List, length, Err, Option, Some}
use Rattle.io_core.specs.Files.{Files, bytes_under}
use Rattle.io_core.specs.Causes.{Rose}
use Rattle.net_model.specs.Nets.{Net}
use Rattle.net_model.specs.NetTexts.{text_in}
use Rattle.net_model.specs.Files.{File, NetFile, MachineFile, StandsForFile}
use Rattle.net_model.specs.declared.text_fault.TextFault.{TextFault}
use Rattle.net_model.specs.declared.text_fault.TextFault.TheVariants.{At, Memory as NoMemory}
use Rattle.net_model.specs.declared.text_fault.TextKind.{TextKind}
use Rattle.blifmv_names.specs.Limits.{IsWithinLimits}
use Rattle.blifmv_reader.specs.Told.{FindsNetFault}
use Rattle.fault_lines.specs.declared.stop.Stop.{Stop}
use Rattle.fault_lines.specs.declared.stop.Stop.TheVariants.{NoJob, Unreadable, TooLong, Faulty, BadNames, TooManyBits, Memory}
use Rattle.job_files.specs.declared.files.TheConstants.{MAX_BYTES}

-- How a file of a job is read.

-- no longer than a file may be
abbrev pub IsWithin : List ℕ → Type 0
IsWithin bytes = length bytes ≤ MAX_BYTES

-- no count of a network's text passes its limit; no machine is read
abbrev pub KeepsLimits : List ℕ → File → Type 0
KeepsLimits bytes (NetFile net) = IsWithinLimits (text_in bytes)
KeepsLimits bytes (MachineFile machine) = ⊥

-- the file of this name is read, as this network: it isn't too long, stands for it, and passes no limit
pub record IsReadAs (files : Files) (name : List ℕ) (file : File) : Type 0 where
  pub within : IsWithin (bytes_under files name)
  pub stands : StandsForFile (bytes_under files name) file
  pub limits : KeepsLimits (bytes_under files name) file

-- the first fault of a text, by the order of the passes over it
abbrev pub HasFault : List ℕ → ℕ → TextKind → Type 0
HasFault bytes line kind = FindsNetFault {T = Net} (Err (At line kind)) bytes

-- the fault of a text, where it isn't want of memory
abbrev pub IsFaultIn : List ℕ → TextFault → Type 0
IsFaultIn bytes (At line kind) = HasFault bytes line kind
IsFaultIn bytes NoMemory = Unit {0}

-- the cause of a stop at the file of this name
abbrev pub StopsAtFile : List ℕ → Option Files → (List ℕ → ℕ) → (List ℕ → ℕ) → Stop → Type 0
StopsAtFile name holds faults faults' NoJob = ⊥
StopsAtFile name holds faults faults' (Unreadable asked) = (asked.now ≡ name) × Rose (faults name) (faults' name)
StopsAtFile name holds faults faults' (TooLong asked) =
    (asked.now ≡ name) × ((files : Files) → holds ≡ Some files → IsWithin (bytes_under files name) → ⊥)
StopsAtFile name holds faults faults' (Faulty asked line kind) =
    (asked.now ≡ name)
    × ((files : Files) → holds ≡ Some files → IsWithin (bytes_under files name) × HasFault (bytes_under files name) line kind)
StopsAtFile name holds faults faults' (BadNames refusal) = ⊥
StopsAtFile name holds faults faults' TooManyBits = ⊥
StopsAtFile name holds faults faults' Memory = Unit {0}
