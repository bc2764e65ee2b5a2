use Rattle.std.specs.Prelude.{ℕ, List, [], ◌∷◌, codes, decimal}
use Rattle.std.specs.List.{flat_map}
use Rattle.net_model.specs.declared.refusal.Slot.{Slot}
use Rattle.net_model.specs.declared.refusal.Slot.TheVariants.{F, S, X}
use Rattle.net_model.specs.Problems.{NameRefusal, UnknownName, RepeatedName, InBoth, ReservedName, DomainDiffers, NotOneVariable, LettersDiffer}
use Rattle.net_model.specs.declared.text_fault.TextKind.{TextKind}
use Rattle.net_model.specs.declared.text_fault.TextKind.TheVariants as kinds
use Rattle.net_model.specs.declared.text_fault.Which.{Which}
use Rattle.net_model.specs.declared.text_fault.Which.TheVariants as limits

-- The lines that tell why there is no answer.

-- the words of a line, one after another
abbrev pub line_with : List (List ℕ) → List ℕ
line_with words = flat_map (λ word. word) words

-- a limit that is passed, by its name
abbrev pub limit_name : Which → List ℕ
limit_name limits.Bytes = codes "Limit Bytes"
limit_name limits.Signals = codes "Limit Signals"
limit_name limits.Values = codes "Limit Values"
limit_name limits.Columns = codes "Limit Columns"
limit_name limits.Rows = codes "Limit Rows"
limit_name limits.Bits = codes "Limit Bits"
limit_name limits.Letters = codes "Limit Letters"

-- the kind of a text's fault, by its name
abbrev pub kind_name : TextKind → List ℕ
kind_name kinds.UnknownDirective = codes "UnknownDirective"
kind_name kinds.BadCount = codes "BadCount"
kind_name kinds.UnknownValue = codes "UnknownValue"
kind_name kinds.RowWidth = codes "RowWidth"
kind_name kinds.EqDomain = codes "EqDomain"
kind_name kinds.DrivenTwice = codes "DrivenTwice"
kind_name kinds.Undriven = codes "Undriven"
kind_name kinds.ResetNotConstant = codes "ResetNotConstant"
kind_name kinds.AccShape = codes "AccShape"
kind_name kinds.NoModel = codes "NoModel"
kind_name kinds.TwiceDefault = codes "TwiceDefault"
kind_name (kinds.Limit which) = limit_name which
kind_name kinds.Hierarchy = codes "Hierarchy"
kind_name kinds.BadName = codes "BadName"
kind_name kinds.BadDomain = codes "BadDomain"
kind_name kinds.BadWidth = codes "BadWidth"
kind_name kinds.BadBit = codes "BadBit"
kind_name kinds.UnknownReset = codes "UnknownReset"
kind_name kinds.MissingWidths = codes "MissingWidths"
kind_name kinds.NoRows = codes "NoRows"
kind_name kinds.BadHeader = codes "BadHeader"
kind_name kinds.BadLetter = codes "BadLetter"

abbrev pub slot_name : Slot → List ℕ
slot_name F = codes "F"
slot_name S = codes "S"
slot_name X = codes "X"

-- the kind of a refusal of names, and the name that it tells
abbrev pub refusal_kind : NameRefusal → List ℕ
refusal_kind (UnknownName name) = codes "UnknownName"
refusal_kind (RepeatedName name) = codes "RepeatedName"
refusal_kind (InBoth name) = codes "InBoth"
refusal_kind (ReservedName name) = codes "ReservedName"
refusal_kind (DomainDiffers name) = codes "DomainDiffers"
refusal_kind (NotOneVariable slot) = codes "NotOneVariable"
refusal_kind (LettersDiffer name) = codes "LettersDiffer"

abbrev pub refused_name : NameRefusal → List ℕ
refused_name (UnknownName name) = name
refused_name (RepeatedName name) = name
refused_name (InBoth name) = name
refused_name (ReservedName name) = name
refused_name (DomainDiffers name) = name
refused_name (NotOneVariable slot) = slot_name slot
refused_name (LettersDiffer name) = name

abbrev pub usage_line : List ℕ
usage_line = line_with (codes "balm: usage\n" ∷ [])

-- a file cannot be read
abbrev pub unreadable_line : List ℕ → List ℕ
unreadable_line file = line_with (codes "balm: cannot read " ∷ file ∷ codes "\n" ∷ [])

-- a file has too many bytes
abbrev pub long_line : List ℕ → List ℕ
long_line file = line_with (codes "balm: " ∷ file ∷ codes ": Limit Bytes\n" ∷ [])

-- a text has a fault of this kind at this line
abbrev pub fault_line : List ℕ → ℕ → TextKind → List ℕ
fault_line file line kind = line_with (codes "balm: " ∷ file ∷ codes ":" ∷ decimal line ∷ codes ": " ∷ kind_name kind ∷ codes "\n" ∷ [])

-- the problem has too many bits
abbrev pub bits_line : List ℕ
bits_line = line_with (codes "balm: limit Bits\n" ∷ [])

-- the names are refused
abbrev pub names_line : NameRefusal → List ℕ
names_line refusal = line_with (codes "balm: names: " ∷ refusal_kind refusal ∷ codes " " ∷ refused_name refusal ∷ codes "\n" ∷ [])

abbrev pub write_line : List ℕ
write_line = line_with (codes "balm: cannot write\n" ∷ [])

abbrev pub memory_line : List ℕ
memory_line = line_with (codes "balm: out of memory\n" ∷ [])
