use Rattle.std.specs.Prelude.{◌≡◌, ℕ, List, Option, Some, None, Result}
use Rattle.net_model.specs.declared.text_fault.TextFault.{TextFault}
use Rattle.net_model.specs.Faults.{Finds}
use Rattle.net_model.specs.Nets.{Net}
use Rattle.net_model.specs.NetTexts.{text_in, variables_in, net_said, StandsForNet}
use Rattle.blifmv_names.specs.Limits.{IsWithinLimits}
use Rattle.blifmv_names.specs.LineFaults.{line_fault}
use Rattle.blifmv_signals.specs.SignalFaults.{Known, IsKnown, signal_fault}
use Rattle.blifmv_tables.specs.RowFaults.{row_fault}

-- What is told of a text: the fault of the first pass that finds one.

-- the fault of this pass, where it has one, and else what is told of the later passes
abbrev pub FindsFirst : {T : Type 0} → Result T TextFault → Option TextFault → Type 0 → Type 0
FindsFirst result None later = later
FindsFirst result (Some fault) later = Finds result (Some fault)

abbrev pub FindsRowFault : {T : Type 0} → Result T TextFault → List ℕ → Type 0 → Type 0
FindsRowFault result bytes later = FindsFirst result (row_fault (variables_in (text_in bytes)) bytes) later

-- the fault of the third pass: something that is rightly known of the network that the lines say picks it
pub record IsSignalFault (bytes : List ℕ) (fault : Option TextFault) : Type 0 where
  pub known : Known
  pub right : IsKnown (net_said (text_in bytes)) (text_in bytes) known
  pub picked : signal_fault (net_said (text_in bytes)) known bytes ≡ fault

abbrev pub FindsSignalFault : {T : Type 0} → Result T TextFault → List ℕ → Type 0
FindsSignalFault result bytes = (fault : Option TextFault) × IsSignalFault bytes fault × Finds result fault

abbrev pub FindsNetFault : {T : Type 0} → Result T TextFault → List ℕ → Type 0
FindsNetFault result bytes =
    FindsFirst result (line_fault bytes) (FindsRowFault result bytes (FindsSignalFault result bytes))

-- no pass finds a fault
pub record HasNoFault (bytes : List ℕ) : Type 0 where
  pub lines : line_fault bytes ≡ None
  pub rows : row_fault (variables_in (text_in bytes)) bytes ≡ None
  pub signals : IsSignalFault bytes None

-- the bytes stand for a network, and pass no limit
pub record StandsWithinLimits (bytes : List ℕ) : Type 0 where
  pub net : Net
  pub stands : StandsForNet bytes net
  pub within : IsWithinLimits (text_in bytes)
