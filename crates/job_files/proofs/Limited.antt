use Rattle.std.proofs.Common.{◌≡◌, ℕ, List, Option, Some, None, Result, Ok, Err, refl}
use Rattle.net_model.specs.Nets.{Net}
use Rattle.net_model.specs.NetTexts.{text_in, variables_in, net_said}
use Rattle.net_model.specs.declared.net.Net as declared_net
use Rattle.net_model.specs.declared.text_fault.TextFault.{TextFault}
use Rattle.net_model.specs.declared.text_fault.TextFault.TheVariants.{At, Memory}
use Rattle.net_model.specs.declared.text_fault.TextKind.{TextKind}
use Rattle.net_model.specs.Faults.{Finds}
use Rattle.blifmv_names.specs.Limits.{IsWithinLimits}
use Rattle.blifmv_names.specs.LineFaults.{line_fault}
use Rattle.blifmv_names.proofs.Within.{text_faultless}
use Rattle.blifmv_tables.specs.RowFaults.{row_fault}
use Rattle.blifmv_reader.specs.Told.{FindsFirst, FindsRowFault, FindsSignalFault, FindsNetFault}
use Rattle.job_files.specs.Reads.{IsFaultIn}

-- What the reader's answer says of a text.

-- the first pass finds nothing in a text that is read
none_first : (net : declared_net.Net) (first : Option TextFault) (later : Type 0) → FindsFirst (Ok net) first later → first ≡ None
none_first net None later found = refl
none_first net (Some fault) later found = cc

-- so the text passes no limit
pub limits_met : (bytes : List ℕ) (net : declared_net.Net) → FindsNetFault (Ok net) bytes → IsWithinLimits (text_in bytes)
limits_met bytes net found =
    (text_faultless bytes (none_first net (line_fault bytes) (FindsRowFault (Ok net) bytes (FindsSignalFault (Ok net) bytes)) found)).within

-- a fault that is told is one of the text, whatever the reader would have answered
told_first : (line : ℕ) (kind : TextKind) (first : Option TextFault) (later later' : Type 0) → (later → later') → FindsFirst {T = declared_net.Net} (Err (At line kind)) first later → FindsFirst {T = Net} (Err (At line kind)) first later'
told_first line kind None later later' on found = on found
told_first line kind (Some fault) later later' on found = found

fault_told : (bytes : List ℕ) (line : ℕ) (kind : TextKind) → FindsNetFault {T = declared_net.Net} (Err (At line kind)) bytes → FindsNetFault {T = Net} (Err (At line kind)) bytes
fault_told bytes line kind found =
    told_first line kind (line_fault bytes) _ _
    (told_first line kind (row_fault (variables_in (text_in bytes)) bytes) _ _ (λ (signals : FindsSignalFault {T = declared_net.Net} (Err (At line kind)) bytes). (signals.0, signals.1, signals.2)))
    found

pub net_told : (bytes : List ℕ) (fault : TextFault) → FindsNetFault {T = declared_net.Net} (Err fault) bytes → IsFaultIn bytes fault
net_told bytes (At line kind) found = fault_told bytes line kind found
net_told bytes Memory found = tt
