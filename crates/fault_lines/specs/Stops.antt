use Rattle.std.specs.Prelude.{ℕ, List, Option, Some, None}
use Rattle.net_model.specs.Problems as problems
use Rattle.net_model.specs.declared.refusal.NameRefusal as declared_refusal
use Rattle.net_model.specs.declared.refusal.NameRefusal.TheVariants as names
use Rattle.net_model.specs.declared.text_fault.TextKind.{TextKind}
use Rattle.net_model.specs.declared.text_fault.TextKind.TheVariants as kinds
use Rattle.fault_lines.specs.Lines.{usage_line, unreadable_line, long_line, fault_line, names_line, bits_line, memory_line}
use Rattle.fault_lines.specs.declared.status.Status.{Status}
use Rattle.fault_lines.specs.declared.status.Status.TheVariants as status
use Rattle.fault_lines.specs.declared.stop.Stop.{Stop}
use Rattle.fault_lines.specs.declared.stop.Stop.TheVariants.{NoJob, Unreadable, TooLong, Faulty, BadNames, TooManyBits, Memory}

-- The status and the line of each stop.

-- a refusal of names as plain data; want of memory is none
abbrev pub told_refusal : declared_refusal.NameRefusal → Option problems.NameRefusal
told_refusal (names.UnknownName name) = Some (problems.UnknownName name.items)
told_refusal (names.RepeatedName name) = Some (problems.RepeatedName name.items)
told_refusal (names.InBoth name) = Some (problems.InBoth name.items)
told_refusal (names.ReservedName name) = Some (problems.ReservedName name.items)
told_refusal (names.DomainDiffers name) = Some (problems.DomainDiffers name.items)
told_refusal (names.NotOneVariable slot) = Some (problems.NotOneVariable slot)
told_refusal (names.LettersDiffer name) = Some (problems.LettersDiffer name.items)
told_refusal names.Memory = None

-- a limit that is passed has a status of its own
abbrev pub fault_status : TextKind → Status
fault_status (kinds.Limit which) = status.Limit
fault_status _ = status.Refused

abbrev pub names_status : Option problems.NameRefusal → Status
names_status None = status.Memory
names_status (Some refusal) = status.Refused

abbrev pub told_line : Option problems.NameRefusal → List ℕ
told_line None = memory_line
told_line (Some refusal) = names_line refusal

abbrev pub stop_status : Stop → Status
stop_status NoJob = status.Usage
stop_status (Unreadable name) = status.ReadFault
stop_status (TooLong name) = status.Limit
stop_status (Faulty name line kind) = fault_status kind
stop_status (BadNames refusal) = names_status (told_refusal refusal)
stop_status TooManyBits = status.Limit
stop_status Memory = status.Memory

abbrev pub stop_line : Stop → List ℕ
stop_line NoJob = usage_line
stop_line (Unreadable name) = unreadable_line name.now
stop_line (TooLong name) = long_line name.now
stop_line (Faulty name line kind) = fault_line name.now line kind
stop_line (BadNames refusal) = told_line (told_refusal refusal)
stop_line TooManyBits = bits_line
stop_line Memory = memory_line
