use Rattle.std.specs.Prelude.{◌≡◌, ℕ, Option, Some, None, Result, Ok, Err}
use Rattle.net_model.specs.declared.text_fault.TextFault.{TextFault}
use Rattle.net_model.specs.declared.text_fault.TextFault.TheVariants.{At, Memory}
use Rattle.net_model.specs.declared.text_fault.TextKind.{TextKind}

-- What is told of a text whose first fault is known: nothing is refused without a fault, and a refusal is that fault. Want
-- of memory is free.
abbrev pub Finds : {T : Type 0} → Result T TextFault → Option TextFault → Type 0
Finds (Ok x) fault = fault ≡ None
Finds (Err (At line kind)) fault = fault ≡ Some (At line kind)
Finds (Err Memory) fault = Unit {0}

-- the fault of a line of this number, where it has one, and else that of the lines below it
abbrev pub fault_or : Option TextKind → ℕ → Option TextFault → Option TextFault
fault_or None line later = later
fault_or (Some kind) line later = Some (At line kind)
