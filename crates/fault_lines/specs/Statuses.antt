use Rattle.std.specs.Prelude.{ℕ}
use Rattle.fault_lines.specs.declared.status.Status.{Status}
use Rattle.fault_lines.specs.declared.status.Status.TheVariants.{Done, Negative, Usage, Refused, Limit, NodeLimit, ReadFault, WriteFault, Memory}

-- the number that the program ends with
abbrev pub code_of : Status → ℕ
code_of Done = 0
code_of Negative = 1
code_of Usage = 2
code_of Refused = 3
code_of Limit = 4
code_of NodeLimit = 5
code_of ReadFault = 6
code_of WriteFault = 7
code_of Memory = 8

-- the job was done
abbrev pub IsFinished : Status → Type 0
IsFinished Done = Unit {0}
IsFinished Negative = Unit {0}
IsFinished Usage = ⊥
IsFinished Refused = ⊥
IsFinished Limit = ⊥
IsFinished NodeLimit = ⊥
IsFinished ReadFault = ⊥
IsFinished WriteFault = ⊥
IsFinished Memory = ⊥
