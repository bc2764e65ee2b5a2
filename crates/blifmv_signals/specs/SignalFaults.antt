use Rattle.std.specs.Prelude.{◌≡◌, ◌↔◌, ℕ, Bool, true, false, not, ◌&&◌, ◌||◌, IsTrue, List, [], ◌∷◌, ◌++◌, Option, Some, None, if◌then◌else◌, nat_eq}
use Rattle.std.specs.List.{list_any, flat_map}
use Rattle.lex_core.specs.LogicalLines.{LogicalLine, logical_lines}
use Rattle.net_model.specs.declared.text_fault.TextFault.{TextFault}
use Rattle.net_model.specs.declared.text_fault.TextKind.{TextKind}
use Rattle.net_model.specs.declared.text_fault.TextKind.TheVariants.{DrivenTwice, Undriven, ResetNotConstant, AccShape}
use Rattle.net_model.specs.Words.{Scope}
use Rattle.net_model.specs.Forms.{Form, InputsLine, OutputsLine, TableLine, ResetLine, LatchLine, said_by}
use Rattle.net_model.specs.Nets.{Net}
use Rattle.net_model.specs.NetTexts.{place_in, places_in}
use Rattle.net_model.specs.Conditions.{Varies, IsAutomaton, HasAcceptance, latch_outputs}
use Rattle.net_model.specs.Faults.{fault_or}
use Rattle.net_conditions.specs.Marks.{is_marked, IsSetOf}

-- Which fault of the third pass a line has: how its signals are driven, reset and used.

-- the signals that a line drives, those that it resets, and those that it uses
abbrev pub drives_on : Scope → Form → List ℕ
drives_on vars (InputsLine names) = places_in vars names
drives_on vars (TableLine ins outs) = places_in vars outs
drives_on vars (LatchLine input output) = place_in vars output ∷ []
drives_on vars _ = []

abbrev pub sets_on : Scope → Form → List ℕ
sets_on vars (ResetLine ins outs) = places_in vars outs
sets_on vars _ = []

abbrev pub uses_on : Scope → Form → List ℕ
uses_on vars (OutputsLine names) = places_in vars names
uses_on vars (TableLine ins outs) = places_in vars ins ++ places_in vars outs
uses_on vars (ResetLine ins outs) = places_in vars ins ++ places_in vars outs
uses_on vars (LatchLine input output) = place_in vars input ∷ place_in vars output ∷ []
uses_on vars _ = []

-- what the lines above drive and reset, and whether one of them names outputs
pub record Seen : Type 0 where
  pub driven : List ℕ
  pub reset : List ℕ
  pub has_outputs : Bool

abbrev pub nothing_seen : Seen
nothing_seen = record { driven = []; reset = []; has_outputs = false }

abbrev pub names_outputs : Form → Bool
names_outputs (OutputsLine names) = true
names_outputs _ = false

abbrev pub seen_behind : Scope → Seen → Form → Seen
seen_behind vars seen form = record {
  driven = seen.driven ++ drives_on vars form;
  reset = seen.reset ++ sets_on vars form;
  has_outputs = seen.has_outputs || names_outputs form;
}

abbrev pub is_among : List ℕ → ℕ → Bool
is_among signals signal = list_any (nat_eq signal) signals

-- one of these signals is among those before it
abbrev pub some_twice : List ℕ → List ℕ → Bool
some_twice had [] = false
some_twice had (signal ∷ signals) = is_among had signal || some_twice (had ++ signal ∷ []) signals

abbrev pub is_driven_twice : Scope → Seen → Form → Bool
is_driven_twice vars seen form = some_twice seen.driven (drives_on vars form) || some_twice seen.reset (sets_on vars form)

-- a signal that is used, and that nothing of all that is driven is
abbrev pub is_undriven : Scope → List ℕ → Form → Bool
is_undriven vars all form = list_any (λ signal. not (is_among all signal)) (uses_on vars form)

-- a reset table that reads what varies, or sets what is no latch output
abbrev pub is_no_reset : Scope → List Bool → List ℕ → Form → Bool
is_no_reset vars varying latches (ResetLine ins outs) =
    list_any (is_marked varying) (places_in vars ins) || list_any (λ signal. not (is_among latches signal)) (places_in vars outs)
is_no_reset vars varying latches _ = false

-- what is known of the network's signals: which are driven, which vary, which are latch outputs, and whether the condition
-- on `Acc` holds
pub record Known : Type 0 where
  pub all : List ℕ
  pub varying : List Bool
  pub latches : List ℕ
  pub acceptance : Bool

-- the tests stand in the order of the numbers of their kinds, of which the least counts
abbrev pub kind_of_signals : Scope → Known → Seen → Form → Option TextKind
kind_of_signals vars known seen form =
    if is_driven_twice vars seen form then Some DrivenTwice
    else (if is_undriven vars known.all form then Some Undriven
    else (if is_no_reset vars known.varying known.latches form then Some ResetNotConstant
    else (if names_outputs form && (not seen.has_outputs && not known.acceptance) then Some AccShape else None)))

-- a line without the form of its directive says nothing
abbrev pub kind_said : Scope → Known → Seen → Option Form → Option TextKind
kind_said vars known seen None = None
kind_said vars known seen (Some form) = kind_of_signals vars known seen form

abbrev pub seen_said : Scope → Seen → Option Form → Seen
seen_said vars seen None = seen
seen_said vars seen (Some form) = seen_behind vars seen form

-- the first fault of these lines
abbrev pub first_fault : Scope → Known → Seen → List LogicalLine → Option TextFault
first_fault vars known seen [] = None
first_fault vars known seen (line ∷ lines) =
    fault_or (kind_said vars known seen (said_by line)) line.number (first_fault vars known (seen_said vars seen (said_by line)) lines)

-- the condition on `Acc`
abbrev pub AcceptsRightly : Net → Type 0
AcceptsRightly net = (signal : ℕ) → IsAutomaton net signal → HasAcceptance net signal

-- what is known of the network that this text says
pub record IsKnown (net : Net) (text : List Form) (known : Known) : Type 0 where
  pub all : known.all ≡ flat_map (drives_on net.names) text
  pub varying : IsSetOf known.varying (Varies net)
  pub latches : known.latches ≡ latch_outputs net
  pub acceptance : IsTrue known.acceptance ↔ AcceptsRightly net

abbrev pub signal_fault : Net → Known → List ℕ → Option TextFault
signal_fault net known bytes = first_fault net.names known nothing_seen (logical_lines bytes)
