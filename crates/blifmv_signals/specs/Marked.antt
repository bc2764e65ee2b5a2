use Rattle.std.specs.Prelude.{◌<◌, ◌↔◌, ◌+◌, ℕ, Bool, true, false, not, ◌&&◌, ◌||◌, IsTrue, List, [], ◌∷◌, length, replicate, slice_set, Option, Some, None, if◌then◌else◌, Contains}
use Rattle.std.specs.List.{list_any}
use Rattle.lex_core.specs.LogicalLines.{LogicalLine}
use Rattle.net_model.specs.declared.text_fault.TextFault.{TextFault}
use Rattle.net_model.specs.declared.text_fault.TextKind.{TextKind}
use Rattle.net_model.specs.declared.text_fault.TextKind.TheVariants.{DrivenTwice, Undriven, ResetNotConstant, AccShape}
use Rattle.net_model.specs.Words.{Scope}
use Rattle.net_model.specs.Forms.{Form, ResetLine, said_by}
use Rattle.net_model.specs.Nets.{Net}
use Rattle.net_model.specs.NetTexts.{places_in}
use Rattle.net_model.specs.Conditions.{times_driven, latch_outputs, Varies}
use Rattle.net_model.specs.Faults.{fault_or}
use Rattle.net_conditions.specs.Marks.{is_marked, IsSetOf}
use Rattle.blifmv_signals.specs.SignalFaults.{drives_on, sets_on, uses_on, names_outputs, AcceptsRightly}
use Rattle.blifmv_signals.specs.declared.above.Above.{Above}
use Rattle.blifmv_signals.specs.declared.whole.Whole.{Whole}

-- The faults of the lines, by marks in the place of lists.

abbrev pub all_marked : List Bool → List ℕ → List Bool
all_marked set [] = set
all_marked set (signal ∷ signals) = all_marked (slice_set set signal true) signals

-- one of these signals has a mark, or stands among them before
abbrev pub marks_twice : List Bool → List ℕ → Bool
marks_twice set [] = false
marks_twice set (signal ∷ signals) = is_marked set signal || marks_twice (slice_set set signal true) signals

-- each set has a mark more than there are names
pub record HasMarks (vars : Scope) (above : Above) : Type 0 where
  pub driven : length vars < length above.driven
  pub reset : length vars < length above.reset

abbrev pub nothing_above : Scope → Above
nothing_above vars = record {
  driven = replicate (length vars + 1) false;
  reset = replicate (length vars + 1) false;
  has_outputs = false;
}

abbrev pub above_behind : Scope → Above → Form → Above
above_behind vars above form = record {
  driven = all_marked above.driven (drives_on vars form);
  reset = all_marked above.reset (sets_on vars form);
  has_outputs = above.has_outputs || names_outputs form;
}

-- what is known of this network
pub record IsWhole (net : Net) (whole : Whole) : Type 0 where
  pub driven : IsSetOf whole.driven (λ signal. 0 < times_driven net signal)
  pub varying : IsSetOf whole.varying (Varies net)
  pub latches : IsSetOf whole.latches (Contains (latch_outputs net))
  pub acceptance : IsTrue whole.acceptance ↔ AcceptsRightly net

abbrev pub is_undriven_by : Scope → List Bool → Form → Bool
is_undriven_by vars driven form = list_any (λ signal. not (is_marked driven signal)) (uses_on vars form)

abbrev pub is_no_reset_by : Scope → Whole → Form → Bool
is_no_reset_by vars whole (ResetLine ins outs) =
    list_any (is_marked whole.varying) (places_in vars ins) || list_any (λ signal. not (is_marked whole.latches signal)) (places_in vars outs)
is_no_reset_by vars whole _ = false

abbrev pub is_twice_by : Scope → Above → Form → Bool
is_twice_by vars above form = marks_twice above.driven (drives_on vars form) || marks_twice above.reset (sets_on vars form)

abbrev pub kind_of_marked : Scope → Whole → Above → Form → Option TextKind
kind_of_marked vars whole above form =
    if is_twice_by vars above form then Some DrivenTwice
    else (if is_undriven_by vars whole.driven form then Some Undriven
    else (if is_no_reset_by vars whole form then Some ResetNotConstant
    else (if names_outputs form && (not above.has_outputs && not whole.acceptance) then Some AccShape else None)))

abbrev pub kind_by : Scope → Whole → Above → Option Form → Option TextKind
kind_by vars whole above None = None
kind_by vars whole above (Some form) = kind_of_marked vars whole above form

abbrev pub above_by : Scope → Above → Option Form → Above
above_by vars above None = above
above_by vars above (Some form) = above_behind vars above form

abbrev pub marked_fault : Scope → Whole → Above → List LogicalLine → Option TextFault
marked_fault vars whole above [] = None
marked_fault vars whole above (line ∷ lines) =
    fault_or (kind_by vars whole above (said_by line)) line.number (marked_fault vars whole (above_by vars above (said_by line)) lines)
