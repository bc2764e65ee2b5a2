-- A text has no fault exactly where it stands for a machine within the limits.
use Rattle.std.proofs.Common.{◌≡◌, ◌<◌, ◌≤◌, ◌+◌, ◌||◌, ◌&&◌, ◌++◌, ◌==◌, ℕ, Bool, true, false, not, nat_lt, List, [], ◌∷◌, length, map, Option, Some, None, if◌then◌else◌, refl, sym, ◌∙◌, ap, subst, append_assoc, arith}
use Rattle.std.specs.Prelude.{is_some}
use Rattle.std.specs.List.{list_any, list_all, flat_map}
use Rattle.std.proofs.lemmas.Bool.{false≢true, and_parts}
use Rattle.std.proofs.lemmas.Bool.Decides.{nat_tests}
use Rattle.std.proofs.lemmas.List.Folds.{list_any-append}
use Rattle.lex_core.specs.LogicalLines.{LogicalLine, logical_lines}
use Rattle.name_table.specs.Variables.{are_different, is_in}
use Rattle.net_model.specs.declared.kiss_directive.KissDirective.{KissDirective}
use Rattle.net_model.specs.declared.kiss_directive.KissDirective.TheVariants as directives
use Rattle.net_model.specs.declared.text_fault.TextFault.{TextFault}
use Rattle.net_model.specs.declared.text_fault.TextFault.TheVariants.{At}
use Rattle.net_model.specs.declared.text_fault.TextKind.TheVariants as kinds
use Rattle.net_model.specs.declared.text_fault.Which.TheVariants.{Signals, Values, Columns, Rows}
use Rattle.net_model.specs.Faults.{fault_or}
use Rattle.net_model.specs.Forms.{Name, is_name, words_of}
use Rattle.net_model.specs.NetTexts.{distinct}
use Rattle.net_model.specs.KissForms.{KissForm, InputsWidth, OutputsWidth, CountLine, ResetState, InputNames, OutputNames, StepRow, LastLine, kiss_shape_by, kiss_directive_of, kiss_shape_of, kiss_said_by}
use Rattle.net_model.specs.KissTexts.{input_width, output_width, reset_given, input_names_given, output_names_given, is_step, is_last, is_wide, is_bit_byte, is_pattern, form_stands, forms_stand, opens_machine, input_names, output_names, states_on, states_in, is_reset_known, machine_said, kiss_text_in}
use Rattle.kiss_reader.specs.KissFaults.{is_end_word, is_unknown_word, is_row_word, is_miscounted, is_repeated, column_names_on, column_names_in, has_many_columns, rows_in, kiss_limit, agrees, kind_of_shape, limit_or, kind_by, kind_of_words, fault_behind, form_fault, text_fault, first_of, first_line, begins_machine, kiss_fault, IsWithinLimits, StandsWithinLimits}
use Rattle.kiss_reader.specs.Above.{rows_on}
use Rattle.kiss_reader.specs.Header.{or_first}
use Rattle.kiss_reader.specs.SecondPass.{resets_unknown_at, kind_of_form, kind_of_said, rows_fault}
use Rattle.kiss_reader.proofs.Names.{more_distinct}
use Rattle.kiss_reader.proofs.Kept.{names_append, reset_append, rows_append, rows_with, any_with}
use Rattle.kiss_reader.proofs.Passing.{IsGood, directive_for, shape_directive, row_word, known_word, counted_word, is_wide_agrees, neither, lt_is_not, not_true}
use Rattle.kiss_reader.proofs.Standing.{text_said}
use Rattle.kiss_reader.proofs.Reading.{has_forms, stands_machine, same_begin, same_pass}

-- without a fault

first_none : (first later : Option TextFault) → first_of first later ≡ None → (first ≡ None) × (later ≡ None)
first_none None later h = (refl, h)
first_none (Some fault) later h = cc

parts_none : (begins : Bool) (first later : Option TextFault) (line : ℕ) → (if begins then first_of first later else Some (At line kinds.NoModel)) ≡ None → (begins ≡ true) × (first ≡ None)
parts_none true first later line h = (refl, (first_none first later h).0)
parts_none false first later line h = cc

faultless_stands : (bytes : List ℕ) → kiss_fault bytes ≡ None → StandsWithinLimits bytes
faultless_stands bytes h =
    let lines = logical_lines bytes in
    let text = kiss_text_in bytes in
    let parts = parts_none (begins_machine lines) (form_fault [] lines) (text_fault text [] lines) (first_line lines) h in
    let forms = has_forms bytes parts.0 parts.1 in
    record { machine = machine_said text; stands = stands_machine bytes forms h; within = forms.within }

-- a line that can stand passes the tests

none_or : (had any : Bool) → not had ≡ true → not any ≡ true → (had || any) ≡ false
none_or had any h k = rw (not_true had h, not_true any k) refl

names_good : (had any : Bool) (width : Option ℕ) (names : List Name) → (not had && (not any && (is_wide width (length names) && list_all is_name names))) ≡ true
    → ((had || any) ≡ false) × ((list_all is_name names ≡ true) × ((agrees width (length names) ≡ true) × (is_some width ≡ true)))
names_good had any width names h =
    let parts = and_parts (not had) _ h in
    let more = and_parts (not any) _ parts.1 in
    let both = and_parts (is_wide width (length names)) (list_all is_name names) more.1 in
    (none_or had any parts.0 more.0, (both.1, is_wide_agrees width (length names) both.0))

stands_good : (above : List KissForm) (form : KissForm) → form_stands above form ≡ true → IsGood above form
stands_good above (InputsWidth count) h = record { once = not_true _ h; named = refl; widths = refl; bits = refl; given = refl }
stands_good above (OutputsWidth count) h = record { once = not_true _ h; named = refl; widths = refl; bits = refl; given = refl }
stands_good above CountLine h = record { once = refl; named = refl; widths = refl; bits = refl; given = refl }
stands_good above (ResetState name) h = record { once = not_true _ h; named = refl; widths = refl; bits = refl; given = refl }
stands_good above (InputNames names) h =
    let good = names_good (is_some (input_names_given above)) (list_any is_step above) (input_width above) names h in
    record { once = good.0; named = ap not good.1.0; widths = ap not good.1.1.0; bits = refl; given = ap not good.1.1.1 }
stands_good above (OutputNames names) h =
    let good = names_good (is_some (output_names_given above)) (list_any is_step above) (output_width above) names h in
    record { once = good.0; named = ap not good.1.0; widths = ap not good.1.1.0; bits = refl; given = ap not good.1.1.1 }
stands_good above (StepRow input present next output) h =
    let parts = and_parts (is_pattern (input_width above) input) (is_pattern (output_width above) output) h in
    let ins = and_parts (is_wide (input_width above) (length input)) (list_all is_bit_byte input) parts.0 in
    let outs = and_parts (is_wide (output_width above) (length output)) (list_all is_bit_byte output) parts.1 in
    let input_is = is_wide_agrees (input_width above) (length input) ins.0 in
    let output_is = is_wide_agrees (output_width above) (length output) outs.0 in
    record {
      once = refl;
      named = refl;
      widths = (λ i. not (input_is.0 i && output_is.0 i));
      bits = (λ i. not (ins.1 i && outs.1 i));
      given = (λ i. not (input_is.1 i && output_is.1 i));
    }
stands_good above LastLine h = record { once = refl; named = refl; widths = refl; bits = refl; given = refl }

-- behind the end of a text stands no word
end_alone : (directive : KissDirective) (first : Name) (words : List Name) (form : KissForm) → kiss_shape_by directive first words ≡ Some form → (is_end_word directive && nat_lt 1 (length (first ∷ words))) ≡ false
end_alone directives.Inputs first words form h = refl
end_alone directives.Outputs first words form h = refl
end_alone directives.Count first words form h = refl
end_alone directives.Reset first words form h = refl
end_alone directives.InputNames first words form h = refl
end_alone directives.OutputNames first words form h = refl
end_alone directives.End first [] form h = refl
end_alone directives.End first (word ∷ words) form h = cc
end_alone directives.Unknown first words form h = refl
end_alone directives.Row first words form h = refl

-- counts within their limits at a line
record AreFew (above : List KissForm) (form : KissForm) : Type 0 where
  signals : length (column_names_in (above ++ form ∷ [])) ≤ 4096
  values : length (states_in (above ++ form ∷ [])) ≤ 65536
  columns : has_many_columns form ≡ false
  rows : rows_in above + rows_on form ≤ 1000000

row_within : (form : KissForm) (n : ℕ) → n + rows_on form ≤ 1000000 → (is_step form && nat_lt 1000000 (n + 1)) ≡ false
row_within (InputsWidth count) n h = refl
row_within (OutputsWidth count) n h = refl
row_within CountLine n h = refl
row_within (ResetState name) n h = refl
row_within (InputNames names) n h = refl
row_within (OutputNames names) n h = refl
row_within (StepRow input present next output) n h = lt_is_not 1000000 (n + 1) h
row_within LastLine n h = refl

no_limits : (above : List KissForm) (directive : KissDirective) (form : KissForm) → directive ≡ directive_for form → AreFew above form → kiss_limit above directive (Some form) ≡ None
no_limits above directive form fits h =
    let row : is_row_word directive ≡ is_step form = ap is_row_word fits ∙ row_word form in
    let rows : (is_row_word directive && nat_lt 1000000 (rows_in above + 1)) ≡ false = ap (λ b. b && nat_lt 1000000 (rows_in above + 1)) row ∙ row_within form (rows_in above) h.rows in
    (λ i. if lt_is_not 4096 (length (column_names_in (above ++ form ∷ []))) h.signals i then Some Signals
    else (if lt_is_not 65536 (length (states_in (above ++ form ∷ []))) h.values i then Some Values
    else (if h.columns i then Some Columns else (if rows i then Some Rows else None))))

good_kind : (above : List KissForm) (form : KissForm) → IsGood above form → kind_of_shape above (Some form) ≡ None
good_kind above form h = λ i.
    if h.named i then Some kinds.BadName
    else (if h.widths i then Some kinds.BadWidth
    else (if h.bits i then Some kinds.BadBit
    else (if h.given i then Some kinds.MissingWidths else None)))

-- a line that can stand below these has no fault
line_passes : (above : List KissForm) (words : List Name) (form : KissForm) → kiss_shape_of words ≡ Some form → list_any is_last above ≡ false → form_stands above form ≡ true → AreFew above form → kind_of_words above words ≡ None
line_passes above [] form says before stands few = refl
line_passes above (first ∷ words) form says before stands few =
    let directive = kiss_directive_of first in
    let fits = shape_directive directive first words form says in
    let good = stands_good above form stands in
    let known : is_unknown_word directive ≡ false = ap is_unknown_word fits ∙ known_word form in
    let alone = end_alone directive first words form says in
    let counted : is_miscounted directive (Some form) ≡ false = ap (λ d. is_miscounted d (Some form)) fits ∙ counted_word form in
    let once : is_repeated above directive ≡ false = ap (is_repeated above) fits ∙ good.once in
    let limit = no_limits above directive form fits few in
    let kind = good_kind above form good in
    ap (kind_by above directive (first ∷ words)) says
    ∙ (λ i. if known i || (before i || alone i) then Some kinds.UnknownDirective
    else (if counted i || once i then Some kinds.BadCount else limit_or (limit i) (kind i)))

-- so no line has one

fewer_names : (on : KissForm → List Name) (most : ℕ) (above text : List KissForm) → length (distinct [] (flat_map on (above ++ text))) ≤ most → length (distinct [] (flat_map on above)) ≤ most
fewer_names on most above text h =
    let whole = ap length (names_append on above text) in
    let more = more_distinct (distinct [] (flat_map on above)) (flat_map on text) in
    omega (arith, whole, more, h)

few_above : (above : List KissForm) (form : KissForm) (text : List KissForm) → IsWithinLimits (above ++ form ∷ text) → AreFew above form
few_above above form text h =
    let regroup = append_assoc above (form ∷ []) text in
    let within : IsWithinLimits ((above ++ form ∷ []) ++ text) = subst IsWithinLimits (sym regroup) h in
    let rows = rows_append (above ++ form ∷ []) text in
    let with_form = rows_with above form in
    let most = within.rows in
    let many : (list_any has_many_columns (above ++ form ∷ []) || list_any has_many_columns text) ≡ false = sym (list_any-append has_many_columns (above ++ form ∷ []) text) ∙ within.columns in
    let front : (list_any has_many_columns above || has_many_columns form) ≡ false = sym (any_with has_many_columns above form) ∙ (neither (list_any has_many_columns (above ++ form ∷ [])) _ many).0 in
    record {
      signals = fewer_names column_names_on 4096 (above ++ form ∷ []) text within.signals;
      values = fewer_names states_on 65536 (above ++ form ∷ []) text within.values;
      columns = (neither (list_any has_many_columns above) _ front).1;
      rows = omega (arith, rows, with_form, most);
    }

lines_pass : (above : List KissForm) (lines : List LogicalLine) (text : List KissForm) → map kiss_said_by lines ≡ map Some text → forms_stand above text ≡ true → IsWithinLimits (above ++ text) → form_fault above lines ≡ None
lines_pass above [] text says stand within = refl
lines_pass above (line ∷ lines) [] says stand within = cc
lines_pass above (line ∷ lines) (form ∷ text) says stand within =
    let first : kiss_said_by line ≡ Some form = cc in
    let rest : map kiss_said_by lines ≡ map Some text = cc in
    let parts = and_parts (not (list_any is_last above)) _ stand in
    let both = and_parts (form_stands above form) _ parts.1 in
    let kind = line_passes above (words_of line) form first (not_true _ parts.0) both.0 (few_above above form text within) in
    let later = lines_pass (above ++ form ∷ []) lines text rest both.1 (subst IsWithinLimits (sym (append_assoc above (form ∷ []) text)) within) in
    (λ i. fault_or (kind i) line.number (fault_behind (λ above'. form_fault above' lines) above (first i))) ∙ later

-- the second pass

and_no : (b : Bool) → (b && false) ≡ false
and_no true = refl
and_no false = refl

given_here : (first : Option Name) (name : Name) → not (is_some first) ≡ true → or_first first (Some name) ≡ Some name
given_here None name h = refl
given_here (Some had) name h = absurd (false≢true h)

reset_there : (states : List Name) (above text : List KissForm) (form : KissForm) → form_stands above form ≡ true → is_reset_known states (reset_given (above ++ form ∷ text)) ≡ true → resets_unknown_at states form ≡ false
reset_there states above text (InputsWidth count) h known = refl
reset_there states above text (OutputsWidth count) h known = refl
reset_there states above text CountLine h known = refl
reset_there states above text (ResetState name) h known =
    let given : reset_given (above ++ ResetState name ∷ text) ≡ Some name = reset_append above (ResetState name ∷ text) ∙ given_here (reset_given above) name h in
    let there : is_in states name ≡ true = ap (is_reset_known states) (sym given) ∙ known in
    ap not there
reset_there states above text (InputNames names) h known = refl
reset_there states above text (OutputNames names) h known = refl
reset_there states above text (StepRow input present next output) h known = refl
reset_there states above text LastLine h known = refl

not_zero : (n : ℕ) → 0 < n → (n == 0) ≡ false
not_zero n h = grind (arith, nat_tests)

some_there : (states : List Name) (last : ℕ) → 0 < length states → (if length states == 0 then Some (At last kinds.NoRows) else None) ≡ None
some_there states last some = ap (λ b. if b then Some (At last kinds.NoRows) else None) (not_zero (length states) some)

rows_pass : (states : List Name) (last : ℕ) (above : List KissForm) (lines : List LogicalLine) (text : List KissForm) → map kiss_said_by lines ≡ map Some text → forms_stand above text ≡ true → is_reset_known states (reset_given (above ++ text)) ≡ true → 0 < length states → rows_fault false states last lines ≡ None
rows_pass states last above [] text says stand known some = some_there states last some
rows_pass states last above (line ∷ lines) [] says stand known some = cc
rows_pass states last above (line ∷ lines) (form ∷ text) says stand known some =
    let first : kiss_said_by line ≡ Some form = cc in
    let rest : map kiss_said_by lines ≡ map Some text = cc in
    let parts = and_parts (not (list_any is_last above)) _ stand in
    let both = and_parts (form_stands above form) _ parts.1 in
    let there = reset_there states above text form both.0 known in
    let kind : kind_of_form false states form ≡ None = (λ i. if and_no (is_step form) i then Some kinds.DrivenTwice else (if there i then Some kinds.UnknownReset else None)) in
    let later = rows_pass states line.number (above ++ form ∷ []) lines text rest both.1 (subst (λ (t : List KissForm). is_reset_known states (reset_given t) ≡ true) (sym (append_assoc above (form ∷ []) text)) known) some in
    ap (λ said. fault_or (kind_of_said false states said) line.number (rows_fault false states line.number lines)) first
    ∙ ((λ i. fault_or (kind i) line.number (rows_fault false states line.number lines)) ∙ later)

-- both

stands_faultless : (bytes : List ℕ) → StandsWithinLimits bytes → kiss_fault bytes ≡ None
stands_faultless bytes h =
    let lines = logical_lines bytes in
    let text = kiss_text_in bytes in
    let same : h.stands.text ≡ text = sym (text_said lines h.stands.text h.stands.lines) in
    let says : map kiss_said_by lines ≡ map Some text = h.stands.lines ∙ ap (map Some) same in
    let begins : begins_machine lines ≡ true = same_begin lines text says ∙ subst (λ (t : List KissForm). opens_machine t ≡ true) same h.stands.begins in
    let stand : forms_stand [] text ≡ true = subst (λ (t : List KissForm). forms_stand [] t ≡ true) same h.stands.stand in
    let columns : are_different (input_names text ++ output_names text) ≡ true = subst (λ (t : List KissForm). are_different (input_names t ++ output_names t) ≡ true) same h.stands.columns in
    let states : 0 < length (states_in text) = subst (λ (t : List KissForm). 0 < length (states_in t)) same h.stands.states in
    let reset : is_reset_known (states_in text) (reset_given text) ≡ true = subst (λ (t : List KissForm). is_reset_known (states_in t) (reset_given t) ≡ true) same h.stands.reset in
    let none = lines_pass [] lines text says stand h.within in
    (λ i. if begins i then first_of (none i) (text_fault text [] lines) else Some (At (first_line lines) kinds.NoModel))
    ∙ (same_pass text text lines begins says
    ∙ (ap (λ b. rows_fault (not b) (states_in text) 0 lines) columns ∙ rows_pass (states_in text) 0 [] lines text says stand reset states))

pub without_fault : (bytes : List ℕ) → ((kiss_fault bytes ≡ None → StandsWithinLimits bytes) × (StandsWithinLimits bytes → kiss_fault bytes ≡ None))
without_fault bytes = (faultless_stands bytes, stands_faultless bytes)
