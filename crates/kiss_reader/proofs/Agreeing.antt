-- The fault that the code finds is the one that is to be told.
use Rattle.std.proofs.Common.{◌≡◌, ◌<◌, ◌||◌, ◌++◌, ℕ, Bool, nat_lt, List, [], ◌∷◌, length, map, Option, Some, None, Result, Err, if◌then◌else◌, refl, sym, ◌∙◌, ap, arith}
use Rattle.std.specs.Prelude.{is_some}
use Rattle.std.specs.List.{flat_map, filter_map, cons_option}
use Rattle.lex_core.specs.LogicalLines.{TextWord, LogicalLine}
use Rattle.net_model.specs.declared.kiss_directive.KissDirective.{KissDirective}
use Rattle.net_model.specs.declared.kiss_directive.KissDirective.TheVariants as directives
use Rattle.net_model.specs.declared.text_fault.TextFault.{TextFault}
use Rattle.net_model.specs.declared.text_fault.TextFault.TheVariants.{At, Memory}
use Rattle.net_model.specs.declared.text_fault.TextKind.{TextKind}
use Rattle.net_model.specs.declared.text_fault.TextKind.TheVariants as kinds
use Rattle.net_model.specs.declared.text_fault.Which.TheVariants.{Signals, Values}
use Rattle.net_model.specs.Faults.{Finds, fault_or}
use Rattle.net_model.specs.Forms.{Name, words_of}
use Rattle.net_model.specs.NetTexts.{distinct}
use Rattle.net_model.specs.KissForms.{KissForm, InputsWidth, OutputsWidth, CountLine, ResetState, InputNames, OutputNames, StepRow, LastLine, kiss_directive_of, kiss_shape_of, kiss_said_by}
use Rattle.net_model.specs.KissTexts.{input_names_given, output_names_given, states_on, states_in}
use Rattle.kiss_reader.specs.declared.place.Place.{Place}
use Rattle.kiss_reader.specs.KissFaults.{is_unknown, is_miscounted, is_repeated, column_names_in, kiss_limit, has_bad_name, has_bad_width, has_bad_bit, misses_widths, limit_or, kind_of_shape, kind_of_words, fault_behind, form_fault}
use Rattle.kiss_reader.specs.Above.{is_repeated_at, columns_behind, states_behind, limit_of_counts, limit_at, has_bad_width_at, misses_widths_at, kind_of_form_at, kind_of_shape_at, kind_at, place_behind, places_from, place_of, fault_past, fault_from}
use Rattle.kiss_reader.specs.Header.{Given, header_behind, headers_from}
use Rattle.kiss_reader.specs.SecondPass.{kind_of_form, kind_of_said, rows_fault}
use Rattle.kiss_reader.proofs.Lined.{HaveWords}
use Rattle.kiss_reader.proofs.Names.{distinct_append}
use Rattle.kiss_reader.proofs.Kept.{stepped, columns_with, states_with, place_with}

-- one line

same_repeated : (above : List KissForm) (directive : KissDirective) → is_repeated above directive ≡ is_repeated_at (place_of above) directive
same_repeated above directives.Inputs = refl
same_repeated above directives.Outputs = refl
same_repeated above directives.Count = refl
same_repeated above directives.Reset = refl
same_repeated above directives.InputNames = ap (λ b. is_some (input_names_given above) || b) (stepped above)
same_repeated above directives.OutputNames = ap (λ b. is_some (output_names_given above) || b) (stepped above)
same_repeated above directives.End = refl
same_repeated above directives.Unknown = refl
same_repeated above directives.Row = refl

same_width : (above : List KissForm) (form : KissForm) → has_bad_width above form ≡ has_bad_width_at (place_of above) form
same_width above (InputsWidth count) = refl
same_width above (OutputsWidth count) = refl
same_width above CountLine = refl
same_width above (ResetState name) = refl
same_width above (InputNames names) = refl
same_width above (OutputNames names) = refl
same_width above (StepRow input present next output) = refl
same_width above LastLine = refl

same_misses : (above : List KissForm) (form : KissForm) → misses_widths above form ≡ misses_widths_at (place_of above) form
same_misses above (InputsWidth count) = refl
same_misses above (OutputsWidth count) = refl
same_misses above CountLine = refl
same_misses above (ResetState name) = refl
same_misses above (InputNames names) = refl
same_misses above (OutputNames names) = refl
same_misses above (StepRow input present next output) = refl
same_misses above LastLine = refl

same_form : (above : List KissForm) (form : KissForm) → kind_of_shape above (Some form) ≡ kind_of_form_at (place_of above) form
same_form above form = λ i.
    if has_bad_name form then Some kinds.BadName
    else (if same_width above form i then Some kinds.BadWidth
    else (if has_bad_bit form then Some kinds.BadBit
    else (if same_misses above form i then Some kinds.MissingWidths else None)))

same_limit : (above : List KissForm) (directive : KissDirective) (form : KissForm) → kiss_limit above directive (Some form) ≡ limit_at (place_of above) (column_names_in above) (states_in above) directive form
same_limit above directive form = λ i.
    if nat_lt 4096 (length (columns_with above form i)) then Some Signals
    else (if nat_lt 65536 (length (states_with above form i)) then Some Values else limit_of_counts (place_of above) directive form)

same_shape : (above : List KissForm) (directive : KissDirective) (shape : Option KissForm) → limit_or (kiss_limit above directive shape) (kind_of_shape above shape) ≡ kind_of_shape_at (place_of above) (column_names_in above) (states_in above) directive shape
same_shape above directive None = refl
same_shape above directive (Some form) = λ i. limit_or (same_limit above directive form i) (same_form above form i)

same_kind : (above : List KissForm) (words : List Name) → 0 < length words → kind_of_words above words ≡ kind_at (place_of above) (column_names_in above) (states_in above) words
same_kind above [] some = absurd (omega arith)
same_kind above (first ∷ words) some = λ i.
    if is_unknown above (kiss_directive_of first) (first ∷ words) then Some kinds.UnknownDirective
    else (if is_miscounted (kiss_directive_of first) (kiss_shape_of (first ∷ words)) || same_repeated above (kiss_directive_of first) i then Some kinds.BadCount
    else same_shape above (kiss_directive_of first) (kiss_shape_of (first ∷ words)) i)

pub some_words : (words : List TextWord) → 0 < length words → 0 < length (map (λ word. word.bytes) words)
some_words [] some = absurd (omega arith)
some_words (word ∷ words) some = omega arith

-- all lines

pub same_fault : (above : List KissForm) (lines : List LogicalLine) → HaveWords lines → form_fault above lines ≡ fault_from (place_of above) (column_names_in above) (states_in above) lines
same_fault above [] h = refl
same_fault above (line ∷ lines) h =
    let kind = same_kind above (words_of line) (some_words line.words h.0) in
    let rest : (form : KissForm) → form_fault (above ++ form ∷ []) lines
    ≡ fault_from (place_behind (place_of above) form) (columns_behind (column_names_in above) form) (states_behind (states_in above) form) lines
    = λ form. same_fault (above ++ form ∷ []) lines h.1
    ∙ (λ i. fault_from (place_with above form i) (columns_with above form i) (states_with above form i) lines) in
    let later : fault_behind (λ above'. form_fault above' lines) above (kiss_said_by line)
    ≡ fault_past (λ form. fault_from (place_behind (place_of above) form) (columns_behind (column_names_in above) form) (states_behind (states_in above) form) lines) (kiss_said_by line)
    = elim (kiss_said_by line) as (λ shape. fault_behind (λ above'. form_fault above' lines) above shape
    ≡ fault_past (λ form. fault_from (place_behind (place_of above) form) (columns_behind (column_names_in above) form) (states_behind (states_in above) form) lines) shape) [
      | None ↦ refl
      | Some form ↦ rest form
    ] in
    λ i. fault_or (kind i) line.number (later i)

-- a fault that was found by a call is that of the whole
pub finds_more : {T U : Type 0} (call : Result T TextFault) (result : Result U TextFault) (fault : TextFault) (kind : Option TextKind) (line : ℕ) (later whole : Option TextFault) → Finds {T = T} (Err fault) (fault_or kind line None) → fault_or kind line later ≡ whole → Finds {T = U} (Err fault) whole
finds_more call result Memory kind line later whole h is = tt
finds_more call result (At n k) None line later whole h is = cc
finds_more call result (At n k) (Some kind) line later whole h is = sym is ∙ h

pub finds_same : {T U : Type 0} (call : Result T TextFault) (result : Result U TextFault) (fault : TextFault) (found whole : Option TextFault) → Finds {T = T} (Err fault) found → ((n : ℕ) (kind : TextKind) → found ≡ Some (At n kind) → whole ≡ Some (At n kind)) → Finds {T = U} (Err fault) whole
finds_same call result Memory found whole h is = tt
finds_same call result (At n kind) found whole h is = is n kind h

-- a line that is taken

pub no_kind : (kind : Option TextKind) (line : ℕ) → fault_or kind line None ≡ None → kind ≡ None
no_kind None line h = refl
no_kind (Some kind) line h = cc

pub step_fault : (place : Place) (columns columns' states states' : List Name) (line : LogicalLine) (lines : List LogicalLine) (words : List Name) (form : KissForm) → words ≡ words_of line → kind_at place columns states words ≡ None → kiss_shape_of words ≡ Some form → columns' ≡ columns_behind columns form → states' ≡ states_behind states form → fault_from (place_behind place form) columns' states' lines ≡ fault_from place columns states (line ∷ lines)
step_fault place columns columns' states states' line lines words form are none says columns_are states_are =
    let kind : kind_at place columns states (words_of line) ≡ None = ap (kind_at place columns states) (sym are) ∙ none in
    let said : kiss_said_by line ≡ Some form = ap kiss_shape_of (sym are) ∙ says in
    (λ i. fault_from (place_behind place form) (columns_are i) (states_are i) lines)
    ∙ sym ((λ i. fault_or (kind i) line.number (fault_past (λ f. fault_from (place_behind place f) (columns_behind columns f) (states_behind states f) lines) (said i))))

pub said_more : (line : LogicalLine) (lines : List LogicalLine) (words : List Name) (form : KissForm) → words ≡ words_of line → kiss_shape_of words ≡ Some form → filter_map kiss_said_by (line ∷ lines) ≡ form ∷ filter_map kiss_said_by lines
said_more line lines words form are says =
    ap (λ said. cons_option said (filter_map kiss_said_by lines)) (ap kiss_shape_of (sym are) ∙ says)

-- what is kept behind a line that is taken

pub next_place : (place place' whole : Place) (line : LogicalLine) (lines : List LogicalLine) (words : List Name) (form : KissForm) → words ≡ words_of line → kiss_shape_of words ≡ Some form → place' ≡ place_behind place form → places_from place (filter_map kiss_said_by (line ∷ lines)) ≡ whole → places_from place' (filter_map kiss_said_by lines) ≡ whole
next_place place place' whole line lines words form are says is h =
    ap (λ p. places_from p (filter_map kiss_said_by lines)) is
    ∙ (sym (ap (places_from place) (said_more line lines words form are says)) ∙ h)

pub next_header : (given given' whole : Given) (line : LogicalLine) (lines : List LogicalLine) (words : List Name) (form : KissForm) → words ≡ words_of line → kiss_shape_of words ≡ Some form → given' ≡ header_behind given form → headers_from given (filter_map kiss_said_by (line ∷ lines)) ≡ whole → headers_from given' (filter_map kiss_said_by lines) ≡ whole
next_header given given' whole line lines words form are says is h =
    ap (λ g. headers_from g (filter_map kiss_said_by lines)) is
    ∙ (sym (ap (headers_from given) (said_more line lines words form are says)) ∙ h)

pub next_states : (states states' whole : List Name) (line : LogicalLine) (lines : List LogicalLine) (words : List Name) (form : KissForm) → words ≡ words_of line → kiss_shape_of words ≡ Some form → states' ≡ states_behind states form → distinct states (flat_map states_on (filter_map kiss_said_by (line ∷ lines))) ≡ whole → distinct states' (flat_map states_on (filter_map kiss_said_by lines)) ≡ whole
next_states states states' whole line lines words form are says is h =
    ap (λ s. distinct s (flat_map states_on (filter_map kiss_said_by lines))) is
    ∙ (sym (distinct_append states (states_on form) (flat_map states_on (filter_map kiss_said_by lines)))
    ∙ (sym (ap (λ text. distinct states (flat_map states_on text)) (said_more line lines words form are says)) ∙ h))

-- the fault of a line in the second pass

pub row_found : {T U : Type 0} (call : Result T TextFault) (result : Result U TextFault) (fault : TextFault) (repeats : Bool) (states : List Name) (last last' : ℕ) (whole : Option TextFault) (line : LogicalLine) (lines : List LogicalLine) (words : List Name) (form : KissForm) → words ≡ words_of line → Some form ≡ kiss_shape_of words → last' ≡ line.number → rows_fault repeats states last (line ∷ lines) ≡ whole → Finds {T = T} (Err fault) (fault_or (kind_of_form repeats states form) last' None) → Finds {T = U} (Err fault) whole
row_found call result fault repeats states last last' whole line lines words form are says number h found =
    let said : kiss_said_by line ≡ Some form = ap kiss_shape_of (sym are) ∙ sym says in
    finds_more call result fault (kind_of_form repeats states form) last' (rows_fault repeats states line.number lines) whole found
    ((λ i. fault_or (kind_of_said repeats states (sym said i)) (number i) (rows_fault repeats states line.number lines)) ∙ h)
