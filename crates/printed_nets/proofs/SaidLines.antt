use Rattle.std.proofs.Common.{◌≡◌, ◌+◌, ◌<◌, ◌≤◌, ◌^◌, ◌==◌, ◌&&◌, ℕ, zero, suc, Bool, true, false, not, if◌then◌else◌, List, [], ◌∷◌, ◌++◌, length, map, Some, refl, sym, ap, ◌∙◌, arith, append_assoc, codes, decimal}
use Rattle.std.specs.Prelude.{slice_index_or}
use Rattle.std.specs.List.{flat_map, list_any, AllByRecursion, join_with_byte, range_with_len}
use Rattle.std.specs.Str.{bytes_eq}
use Rattle.std.proofs.lemmas.Bool.{and_parts}
use Rattle.std.proofs.lemmas.List.FromFn.{length-map-range_with_len}
use Rattle.std.proofs.lemmas.List.Concat.{flat_map-append}
use Rattle.name_table.specs.Variables.{names_of}
use Rattle.lex_core.specs.LogicalLines.{LogicalLine, logical_lines}
use Rattle.net_model.specs.Words.{Variable, Scope}
use Rattle.net_model.specs.Listings.{Row, Listing}
use Rattle.net_model.specs.Forms.{Name, Form, DomainsLine, TableLine, ResetLine, LatchLine, EndLine, RowLine, is_mark, begins_with, begins_with_arrow, is_name, is_value_name, directive_of, parted, apart, before_arrow, behind_arrow, shape_of, words_of, said_by}
use Rattle.net_model.specs.declared.directive.Directive.TheVariants as directives
use Rattle.net_model.specs.Written.{is_word, IsTextName, IsTextValue, IsTextVariable}
use Rattle.net_model.specs.Printed.{state_name, value_name, values_field, entry_field, entry_fields, domain_line, states_line, mark_field, mark_lines, row_line, line_bytes, printed_lines, RisesBelow, IsEntry, AreEntries, IsPrintedVariable, IsPrintedRow, IsPrintable}
use Rattle.printed_nets.specs.Lines.{words_in, IsPlainLine}
use Rattle.printed_nets.specs.PrintedNets.{state_names, values_words, entry_words, entries_words, domain_form, mark_form, mark_forms, row_form, step_forms, table_forms, state_forms, printed_forms}
use Rattle.printed_nets.proofs.Lexed.{joined, plain_lines}
use Rattle.printed_nets.proofs.Worded.{IsField, word_words, decimal_word, decimal_field, state_word, state_ends, state_field, list_is_field, list_words}
use Rattle.printed_nets.proofs.Said.{Says, AllSay, say_append, says_by, says_words, IsWordField, are_fields, words_are, all_append, plain_name, value_field, arrow_begins, names_unmarked, are_unmarked, name_fields, names_of_vars, const_field, model_says, inputs_say, outputs_say, counts, word_no_comma, domains_say, not_false}

-- The lines of a printed text, one after another.

-- the domain of the states

state_is_word : (k : ℕ) → k < 2 ^ 64 → IsWordField (state_name k)
state_is_word k few = record { field_is = state_field k few; words = word_words (state_name k) (state_word k few) }

-- which is the name of a value
pub state_value : (k : ℕ) → k < 2 ^ 64 → is_value_name (state_name k) ≡ true
state_value k few = rw (state_ends k few) refl

states_are_words : (low n : ℕ) → low + n ≤ 2 ^ 64 → AllByRecursion IsWordField (map state_name (range_with_len low n))
states_are_words low zero few = tt
states_are_words low (suc n) few = (state_is_word low (omega arith), states_are_words (low + 1) n (omega arith))

states_unmarked : (low n : ℕ) → list_any is_mark (map state_name (range_with_len low n)) ≡ false
states_unmarked low zero = refl
states_unmarked low (suc n) = states_unmarked (low + 1) n

states_say : (n : ℕ) → 0 < n → n < 2 ^ 64 → Says (states_line n) (DomainsLine (codes "CS" ∷ codes "NS" ∷ []) (decimal n) (state_names n))
states_say n some few =
    let states = state_names n in
    let names = codes "CS" ∷ codes "NS" ∷ [] in
    let fields = states_are_words 0 n (omega arith) in
    let rest : IsWordField (decimal n) = record { field_is = decimal_field n few; words = word_words (decimal n) (decimal_word n few) } in
    let words : flat_map words_in (codes ".mv" ∷ codes "CS,NS" ∷ decimal n ∷ states) ≡ codes ".mv" ∷ codes "CS" ∷ codes "," ∷ codes "NS" ∷ decimal n ∷ states =
    ap (λ ws. codes ".mv" ∷ codes "CS" ∷ codes "," ∷ codes "NS" ∷ ws) (words_are (decimal n ∷ states) (rest, fields)) in
    let size : length states ≡ n = length-map-range_with_len state_name 0 n in
    says_by (codes ".mv") (codes "CS,NS" ∷ decimal n ∷ states) (codes ".mv" ∷ codes "CS" ∷ codes "," ∷ codes "NS" ∷ decimal n ∷ states) (DomainsLine names (decimal n) states)
    (record { plain = refl; ends = refl }, (record { plain = refl; ends = refl }, are_fields (decimal n ∷ states) (rest, fields)))
    words
    (rw (word_no_comma (decimal n) (decimal_word n few))
    (rw (counts n states some few size)
    (are_unmarked states (DomainsLine names (decimal n) states) (states_unmarked 0 n))))

-- the fixed lines

latch_says : Says (codes ".latch" ∷ codes "NS" ∷ codes "CS" ∷ []) (LatchLine (codes "NS") (codes "CS"))
latch_says = record { plain = record { plain = refl; ends = refl }; says = refl }

reset_says : Says (codes ".reset" ∷ codes "CS" ∷ []) (ResetLine [] (codes "CS" ∷ []))
reset_says = record { plain = record { plain = refl; ends = refl }; says = refl }

first_says : Says (codes "s0" ∷ []) (RowLine (codes "s0" ∷ []))
first_says = record { plain = record { plain = refl; ends = refl }; says = refl }

acc_says : Says (codes ".table" ∷ codes "CS" ∷ codes "->" ∷ codes "Acc" ∷ []) (TableLine (codes "CS" ∷ []) (codes "Acc" ∷ []))
acc_says = record { plain = record { plain = refl; ends = refl }; says = refl }

end_says : Says (codes ".end" ∷ []) EndLine
end_says = record { plain = record { plain = refl; ends = refl }; says = refl }

-- which states accept

mark_is_word : (mark : Bool) → IsWordField (mark_field mark)
mark_is_word true = record { field_is = record { plain = refl; ends = refl }; words = refl }
mark_is_word false = record { field_is = record { plain = refl; ends = refl }; words = refl }

marks_say : (k : ℕ) (marks : List Bool) → k + length marks ≤ 2 ^ 64 → AllSay (mark_lines k marks) (mark_forms k marks)
marks_say k [] few = tt
marks_say k (mark ∷ marks) few = (
  says_words (state_name k) (mark_field mark ∷ []) (mark_form k mark) (state_is_word k (omega arith), (mark_is_word mark, tt)) refl,
  marks_say (k + 1) marks (omega arith),
)

-- the table of steps

parted_name : (name : Name) → begins_with_arrow name ≡ false → parted name ≡ name ∷ []
parted_name name none = rw none refl

parted_names : (names : List Name) → AllByRecursion IsTextName names → flat_map parted names ≡ names
parted_names [] all = refl
parted_names (name ∷ names) all =
    ap (λ ws. ws ++ flat_map parted names) (parted_name name (plain_name name all.0.name_is).no_arrow)
    ∙ ap (λ ws. name ∷ ws) (parted_names names all.1)

abbrev table_end : List Name
table_end = codes "CS" ∷ codes "->" ∷ codes "NS" ∷ []

arrow_behind : (names : List Name) → AllByRecursion IsTextName names → behind_arrow (names ++ table_end) ≡ Some (codes "NS" ∷ [])
arrow_behind [] all = refl
arrow_behind (name ∷ names) all = rw (arrow_begins name (plain_name name all.0.name_is).no_arrow) (arrow_behind names all.1)

arrow_before : (names : List Name) → AllByRecursion IsTextName names → before_arrow (names ++ table_end) ≡ names ++ codes "CS" ∷ []
arrow_before [] all = refl
arrow_before (name ∷ names) all = rw (arrow_begins name (plain_name name all.0.name_is).no_arrow) (ap (λ ws. name ∷ ws) (arrow_before names all.1))

names_append : (names more : List Name) → AllByRecursion IsTextName names → AllByRecursion IsTextName more → AllByRecursion IsTextName (names ++ more)
names_append [] more h k = k
names_append (name ∷ names) more h k = (h.0, names_append names more h.1 k)

table_says : (names : List Name) → AllByRecursion IsTextName names → Says (codes ".table" ∷ (names ++ table_end)) (TableLine (names ++ codes "CS" ∷ []) (codes "NS" ∷ []))
table_says names all =
    let ins = names ++ codes "CS" ∷ [] in
    let form = TableLine ins (codes "NS" ∷ []) in
    let fixed : AllByRecursion IsWordField table_end =
    (const_field (codes "CS") refl refl, (const_field (codes "->") refl refl, (const_field (codes "NS") refl refl, tt))) in
    let columns : AllByRecursion IsTextName (ins ++ codes "NS" ∷ []) =
    names_append ins (codes "NS" ∷ []) (names_append names (codes "CS" ∷ []) all (record { word = refl; name_is = refl }, tt)) (record { word = refl; name_is = refl }, tt) in
    let cut : flat_map parted (names ++ table_end) ≡ names ++ table_end =
    flat_map-append parted names table_end ∙ ap (λ ws. ws ++ table_end) (parted_names names all) in
    says_words (codes ".table") (names ++ table_end) form (const_field (codes ".table") refl refl, all_append names table_end (name_fields names all) fixed)
    (rw cut (rw (arrow_behind names all) (rw (arrow_before names all) (are_unmarked (ins ++ codes "NS" ∷ []) form (names_unmarked (ins ++ codes "NS" ∷ []) columns)))))

-- rows

-- a line that begins with no dot is a row
row_directive : (first : Name) → begins_with 46 first ≡ false → directive_of first ≡ directives.Row
row_directive [] none = refl
row_directive (b ∷ bytes) none = rw none refl

row_shape : (first : Name) (words : List Name) → begins_with 46 first ≡ false → shape_of (apart (first ∷ words)) ≡ Some (RowLine (first ∷ words))
row_shape first words none = rw (row_directive first none) refl

-- words of which the first begins with no dot
abbrev pub BeginsRow : List Name → Type 0
BeginsRow [] = ⊥
BeginsRow (first ∷ words) = begins_with 46 first ≡ false

begins_shape : (words : List Name) → BeginsRow words → shape_of (apart words) ≡ Some (RowLine words)
begins_shape [] begins = absurd begins
begins_shape (first ∷ words) begins = row_shape first words begins

begins_append : (words more : List Name) → BeginsRow words → BeginsRow (words ++ more)
begins_append [] more begins = absurd begins
begins_append (first ∷ words) more begins = begins

-- values of a domain

value_here : (values : List Name) (value : ℕ) → value < length values → AllByRecursion IsTextValue values → IsTextValue (slice_index_or values value [])
value_here [] value below all = absurd (omega arith)
value_here (name ∷ names) zero below all = all.0
value_here (name ∷ names) (suc value) below all = value_here names value (omega arith) all.1

pub values_here : (v : Variable) (low : ℕ) (entry : List ℕ) → IsTextVariable v → RisesBelow low (length v.values) entry → AllByRecursion IsTextValue (map (value_name v) entry)
values_here v low [] text rises = tt
values_here v low (value ∷ entry) text rises =
    (value_here v.values value rises.1 text.values, values_here v (value + 1) entry text rises.2)

words_of_values : (names : List Name) → AllByRecursion IsTextValue names → AllByRecursion (λ name. is_word name ≡ true) names
words_of_values [] all = tt
words_of_values (name ∷ names) all = (all.0.word, words_of_values names all.1)

-- a field of an entry: its words, the first of which begins with no dot
record IsEntryField (field : List ℕ) (words : List Name) : Type 0 where
  field_is : IsField field
  words_are : words_in field ≡ words
  begins : BeginsRow words

value_begins : (name : Name) → IsTextValue name → begins_with 46 name ≡ false
value_begins name text =
    let two = and_parts (is_name name) _ text.name_is in
    let three = and_parts (not (bytes_eq name (codes "-"))) (not (begins_with 46 name) && (not (begins_with 33 name) && not (begins_with 61 name))) two.1 in
    not_false (begins_with 46 name) (and_parts (not (begins_with 46 name)) (not (begins_with 33 name) && not (begins_with 61 name)) three.1).0

values_field_is : (v : Variable) (entry : List ℕ) → IsTextVariable v → IsEntry v entry → IsEntryField (values_field v entry) (values_words v entry)
values_field_is v [] text is = absurd (omega (arith, is.0))
values_field_is v (value ∷ []) text is =
    let name = (values_here v 0 (value ∷ []) text is.1).0 in
    let field = value_field (value_name v value) name in
    record { field_is = field.field_is; words_are = field.words; begins = value_begins (value_name v value) name }
values_field_is v (value ∷ more ∷ values) text is =
    let names = map (value_name v) (value ∷ more ∷ values) in
    let all = words_of_values names (values_here v 0 (value ∷ more ∷ values) text is.1) in
    record { field_is = list_is_field names all; words_are = list_words names all; begins = refl }

entry_field_is : (v : Variable) (entry : List ℕ) → IsTextVariable v → IsEntry v entry → IsEntryField (entry_field v entry) (entry_words v entry)
entry_field_is v entry text is =
    elim (length entry == length v.values) as (λ b. IsEntryField (if b then codes "-" else values_field v entry) (if b then codes "-" ∷ [] else values_words v entry)) [
      | true ↦ record { field_is = record { plain = refl; ends = refl }; words_are = refl; begins = refl }
      | false ↦ values_field_is v entry text is
    ]

entry_fields_are : (vars : Scope) (entries : List (List ℕ)) (more : List (List ℕ)) → AllByRecursion IsPrintedVariable vars → AreEntries vars entries → AllByRecursion IsWordField more → AllByRecursion IsField (entry_fields vars entries ++ more)
entry_fields_are [] [] more all are rest = are_fields more rest
entry_fields_are [] (entry ∷ entries) more all are rest = absurd are
entry_fields_are (v ∷ vars) [] more all are rest = absurd are
entry_fields_are (v ∷ vars) (entry ∷ entries) more all are rest =
    ((entry_field_is v entry all.0.text are.0).field_is, entry_fields_are vars entries more all.1 are.1 rest)

entries_words_are : (vars : Scope) (entries : List (List ℕ)) (more : List (List ℕ)) → AllByRecursion IsPrintedVariable vars → AreEntries vars entries → AllByRecursion IsWordField more → flat_map words_in (entry_fields vars entries ++ more) ≡ entries_words vars entries ++ more
entries_words_are [] [] more all are rest = words_are more rest
entries_words_are [] (entry ∷ entries) more all are rest = absurd are
entries_words_are (v ∷ vars) [] more all are rest = absurd are
entries_words_are (v ∷ vars) (entry ∷ entries) more all are rest =
    ap (λ ws. ws ++ flat_map words_in (entry_fields vars entries ++ more)) (entry_field_is v entry all.0.text are.0).words_are
    ∙ (ap (λ ws. entry_words v entry ++ ws) (entries_words_are vars entries more all.1 are.1 rest)
    ∙ sym (append_assoc (entry_words v entry) (entries_words vars entries) more))

entries_begin : (vars : Scope) (entries : List (List ℕ)) (more : List Name) → AllByRecursion IsPrintedVariable vars → AreEntries vars entries → BeginsRow more → BeginsRow (entries_words vars entries ++ more)
entries_begin [] [] more all are begins = begins
entries_begin [] (entry ∷ entries) more all are begins = absurd are
entries_begin (v ∷ vars) [] more all are begins = absurd are
entries_begin (v ∷ vars) (entry ∷ entries) more all are begins =
    begins_append (entry_words v entry ++ entries_words vars entries) more
    (begins_append (entry_words v entry) (entries_words vars entries) (entry_field_is v entry all.0.text are.0).begins)

-- fields that make a line, one at least
says_fields : (fields words : List (List ℕ)) (form : Form) → 0 < length fields → AllByRecursion IsField fields → flat_map words_in fields ≡ words → shape_of (apart words) ≡ Some form → Says fields form
says_fields [] words form some all are said = absurd (omega arith)
says_fields (field ∷ fields) words form some all are said = says_by field fields words form all are said

more_fields : (fields : List (List ℕ)) (a b : List ℕ) → 0 < length (fields ++ (a ∷ b ∷ []))
more_fields [] a b = omega arith
more_fields (field ∷ fields) a b = omega arith

row_says : (vars : Scope) (n : ℕ) (row : Row) → AllByRecursion IsPrintedVariable vars → n < 2 ^ 64 → IsPrintedRow vars n row → Says (row_line vars row) (row_form vars row)
row_says vars n row all few printed =
    let present = printed.present in
    let next = printed.next in
    let states = state_name row.present ∷ state_name row.next ∷ [] in
    let are : AllByRecursion IsWordField states = (state_is_word row.present (omega arith), (state_is_word row.next (omega arith), tt)) in
    says_fields (row_line vars row) (entries_words vars row.entries ++ states) (row_form vars row) (more_fields (entry_fields vars row.entries) (state_name row.present) (state_name row.next))
    (entry_fields_are vars row.entries states all printed.entries are)
    (entries_words_are vars row.entries states all printed.entries are)
    (begins_shape (entries_words vars row.entries ++ states) (entries_begin vars row.entries states all printed.entries refl))

rows_say : (vars : Scope) (n : ℕ) (rows : List Row) → AllByRecursion IsPrintedVariable vars → n < 2 ^ 64 → AllByRecursion (IsPrintedRow vars n) rows → AllSay (map (row_line vars) rows) (map (row_form vars) rows)
rows_say vars n [] all few printed = tt
rows_say vars n (row ∷ rows) all few printed = (row_says vars n row all few printed.0, rows_say vars n rows all few printed.1)

-- the whole text

-- the lines from the table of steps on, from that of accepting states on, from the domain of the states on
abbrev step_lines : Listing → List (List (List ℕ))
step_lines auto = (codes ".table" ∷ (names_of auto.vars ++ table_end)) ∷ (map (row_line auto.vars) auto.rows ++ ((codes ".end" ∷ []) ∷ []))

abbrev table_lines : Listing → List (List (List ℕ))
table_lines auto = (codes ".table" ∷ codes "CS" ∷ codes "->" ∷ codes "Acc" ∷ []) ∷ (mark_lines 0 auto.accepting ++ step_lines auto)

abbrev state_lines : Listing → List (List (List ℕ))
state_lines auto =
    states_line (length auto.accepting)
    ∷ (codes ".latch" ∷ codes "NS" ∷ codes "CS" ∷ [])
    ∷ (codes ".reset" ∷ codes "CS" ∷ [])
    ∷ (codes "s0" ∷ [])
    ∷ table_lines auto

steps_say : (auto : Listing) → IsPrintable auto → AllSay (step_lines auto) (step_forms auto)
steps_say auto printable = (
  table_says (names_of auto.vars) (names_of_vars auto.vars printable.vars),
  say_append (map (row_line auto.vars) auto.rows) (map (row_form auto.vars) auto.rows) ((codes ".end" ∷ []) ∷ []) (EndLine ∷ [])
      (rows_say auto.vars (length auto.accepting) auto.rows printable.vars printable.few printable.rows) (end_says, tt),
)

tables_say : (auto : Listing) → IsPrintable auto → AllSay (table_lines auto) (table_forms auto)
tables_say auto printable =
    let few = printable.few in
    (acc_says, say_append (mark_lines 0 auto.accepting) (mark_forms 0 auto.accepting) (step_lines auto) (step_forms auto) (marks_say 0 auto.accepting (omega arith)) (steps_say auto printable))

all_states_say : (auto : Listing) → IsPrintable auto → AllSay (state_lines auto) (state_forms auto)
all_states_say auto printable =
    (states_say (length auto.accepting) printable.states printable.few, (latch_says, (reset_says, (first_says, tables_say auto printable))))

pub printed_says : (name : Name) (auto : Listing) → IsTextName name → IsPrintable auto → AllSay (printed_lines name auto) (printed_forms name auto)
printed_says name auto text printable = (
  model_says name text,
  (
    inputs_say (names_of auto.vars) (names_of_vars auto.vars printable.vars),
    (
      outputs_say,
      say_append (map domain_line auto.vars) (map domain_form auto.vars) (state_lines auto) (state_forms auto) (domains_say auto.vars printable.vars) (all_states_say auto printable),
    ),
  ),
)

-- its logical lines

all_plain : (lines : List (List (List ℕ))) (forms : List Form) → AllSay lines forms → AllByRecursion IsPlainLine (map (join_with_byte 32) lines)
all_plain [] [] say = tt
all_plain [] (form ∷ forms) say = absurd say
all_plain (line ∷ lines) [] say = absurd say
all_plain (line ∷ lines) (form ∷ forms) say = (say.0.plain, all_plain lines forms say.1)

all_said : (lines : List (List (List ℕ))) (forms : List Form) → AllSay lines forms → map (λ ws. shape_of (apart ws)) (map words_in (map (join_with_byte 32) lines)) ≡ map Some forms
all_said [] [] say = refl
all_said [] (form ∷ forms) say = absurd say
all_said (line ∷ lines) [] say = absurd say
all_said (line ∷ lines) (form ∷ forms) say =
    ap (λ f. f ∷ map (λ ws. shape_of (apart ws)) (map words_in (map (join_with_byte 32) lines))) say.0.says
    ∙ ap (λ fs. Some form ∷ fs) (all_said lines forms say.1)

text_joined : (lines : List (List (List ℕ))) → flat_map line_bytes lines ≡ joined (map (join_with_byte 32) lines)
text_joined [] = refl
text_joined (line ∷ lines) = ap (λ t. line_bytes line ++ t) (text_joined lines)

said_words : (lines : List LogicalLine) → map said_by lines ≡ map (λ ws. shape_of (apart ws)) (map words_of lines)
said_words [] = refl
said_words (line ∷ lines) = ap (λ fs. said_by line ∷ fs) (said_words lines)

pub text_says : (lines : List (List (List ℕ))) (forms : List Form) → AllSay lines forms → map said_by (logical_lines (flat_map line_bytes lines)) ≡ map Some forms
text_says lines forms say =
    said_words (logical_lines (flat_map line_bytes lines))
    ∙ (ap (λ t. map (λ ws. shape_of (apart ws)) (map words_of (logical_lines t))) (text_joined lines)
    ∙ (ap (map (λ ws. shape_of (apart ws))) (plain_lines (map (join_with_byte 32) lines) (all_plain lines forms say))
    ∙ all_said lines forms say))
