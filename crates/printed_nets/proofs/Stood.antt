use Rattle.std.proofs.Common.{◌≡◌, ◌+◌, ◌<◌, ◌≤◌, ◌^◌, ℕ, zero, suc, Bool, true, false, not, List, [], ◌∷◌, ◌++◌, length, map, Option, Some, None, refl, sym, ap, ◌∙◌, arith, append_assoc, codes, decimal}
use Rattle.std.specs.Option.{option_map}
use Rattle.std.specs.List.{list_all, AllByRecursion, range_with_len, flat_map}
use Rattle.std.proofs.lemmas.Bool.{and_parts}
use Rattle.std.proofs.lemmas.List.{append-nil}
use Rattle.name_table.specs.Variables.{names_of}
use Rattle.net_model.specs.Words.{Variable, Scope}
use Rattle.net_model.specs.Listings as listings
use Rattle.net_model.specs.Listings.{Listing}
use Rattle.net_model.specs.Nets.{Row, Table, Latch, Net}
use Rattle.net_model.specs.Conditions.{MeetsConditions}
use Rattle.net_model.specs.Forms.{Name, Form, ModelLine, InputsLine, OutputsLine, DomainsLine, TableLine, ResetLine, LatchLine, EndLine, RowLine, is_name, is_value_name, has_names}
use Rattle.net_model.specs.NetTexts.{place_in, places_in, inputs_on, outputs_on, latches_on, distinct, OpenTable, opened, rows_stand, rows_under, default_under, default_said, row_said, table_said, tables_on, resets_on, tables_in, resets_in, net_with, net_said, is_model, is_end, opens_model, ends_once, LinesSay, StandsForNet}
use Rattle.net_model.specs.Written.{IsTextName, IsTextValue}
use Rattle.net_model.specs.Printed.{state_name, mark_field, IsPrintedVariable, IsPrintedRow, IsPrintable, printed_text, printed_lines}
use Rattle.printed_nets.specs.PrintedNets.{state_names, printed_names, letter_places, acc_place, present_place, next_place, net_row, mark_row, mark_rows, acc_table, step_table, reset_table, printed_net, entries_words, domain_form, mark_forms, row_form, step_forms, table_forms, state_forms, printed_forms}
use Rattle.printed_nets.proofs.SaidLines.{printed_says, text_says, state_value}
use Rattle.printed_nets.proofs.Named.{variables_are, all_domains_right}
use Rattle.printed_nets.proofs.NetSaid.{acc_place_is, present_place_is, next_place_is, letter_places_are, step_ins, step_row_spelled, mark_row_spelled, reset_row_spelled}

-- The printed text of an automaton stands for its network, where that meets the conditions.

-- the tables that stand open

abbrev acc_open : Listing → OpenTable
acc_open auto = record { ins = present_place auto ∷ []; outs = acc_place auto ∷ []; has_default = false }

abbrev step_open : Listing → OpenTable
step_open auto = record { ins = step_ins auto; outs = next_place auto ∷ []; has_default = false }

abbrev reset_open : Listing → OpenTable
reset_open auto = record { ins = []; outs = present_place auto ∷ []; has_default = false }

abbrev open_at : List ℕ → List ℕ → Option OpenTable
open_at ins outs = Some (record { ins = ins; outs = outs; has_default = false })

places_append : (vars : Scope) (names more : List Name) → places_in vars (names ++ more) ≡ places_in vars names ++ places_in vars more
places_append vars [] more = refl
places_append vars (name ∷ names) more = ap (λ ps. place_in vars name ∷ ps) (places_append vars names more)

abbrev step_names : Listing → List Name
step_names auto = names_of auto.vars ++ codes "CS" ∷ []

module _ (auto : Listing) (printable : IsPrintable auto) where
  cs_place : places_in (printed_names auto) (codes "CS" ∷ []) ≡ present_place auto ∷ []
  cs_place = ap (λ p. p ∷ []) (present_place_is auto printable)

  ns_place : places_in (printed_names auto) (codes "NS" ∷ []) ≡ next_place auto ∷ []
  ns_place = ap (λ p. p ∷ []) (next_place_is auto printable)

  out_place : places_in (printed_names auto) (codes "Acc" ∷ []) ≡ acc_place auto ∷ []
  out_place = ap (λ p. p ∷ []) (acc_place_is auto printable)

  step_places : places_in (printed_names auto) (step_names auto) ≡ step_ins auto
  step_places =
      places_append (printed_names auto) (names_of auto.vars) (codes "CS" ∷ [])
      ∙ (ap (λ ps. ps ++ places_in (printed_names auto) (codes "CS" ∷ [])) (letter_places_are auto printable)
      ∙ ap (λ ps. letter_places auto ++ ps) cs_place)

  acc_opened : opened (printed_names auto) (codes "CS" ∷ []) (codes "Acc" ∷ []) ≡ Some (acc_open auto)
  acc_opened = ap (λ ins. open_at ins (places_in (printed_names auto) (codes "Acc" ∷ []))) cs_place ∙ ap (open_at (present_place auto ∷ [])) out_place

  step_opened : opened (printed_names auto) (step_names auto) (codes "NS" ∷ []) ≡ Some (step_open auto)
  step_opened = ap (λ ins. open_at ins (places_in (printed_names auto) (codes "NS" ∷ []))) step_places ∙ ap (open_at (step_ins auto)) ns_place

  reset_opened : opened (printed_names auto) [] (codes "CS" ∷ []) ≡ Some (reset_open auto)
  reset_opened = ap (open_at []) cs_place

  -- rows stand

  marks_stand : (k : ℕ) (marks : List Bool) (rest : List Form) → k + length marks ≤ length auto.accepting
      → rows_stand (printed_names auto) (Some (acc_open auto)) (mark_forms k marks ++ rest) ≡ rows_stand (printed_names auto) (Some (acc_open auto)) rest
  marks_stand k [] rest few = refl
  marks_stand k (mark ∷ marks) rest few =
      rw (mark_row_spelled auto k mark (omega arith) printable.few) (marks_stand (k + 1) marks rest (omega arith))

  steps_stand : (rows : List listings.Row) (rest : List Form) → AllByRecursion (IsPrintedRow auto.vars (length auto.accepting)) rows
      → rows_stand (printed_names auto) (Some (step_open auto)) (map (row_form auto.vars) rows ++ rest) ≡ rows_stand (printed_names auto) (Some (step_open auto)) rest
  steps_stand [] rest all = refl
  steps_stand (row ∷ rows) rest all = rw (step_row_spelled auto row printable all.0) (steps_stand rows rest all.1)

  domains_stand : (vars : Scope) (rest : List Form) → rows_stand (printed_names auto) None (map domain_form vars ++ rest) ≡ rows_stand (printed_names auto) None rest
  domains_stand [] rest = refl
  domains_stand (v ∷ vars) rest = domains_stand vars rest

  step_forms_stand : (table : Option OpenTable) → rows_stand (printed_names auto) table (step_forms auto) ≡ true
  step_forms_stand table =
      ap (λ o. rows_stand (printed_names auto) o (map (row_form auto.vars) auto.rows ++ EndLine ∷ [])) step_opened
      ∙ steps_stand auto.rows (EndLine ∷ []) printable.rows

  table_forms_stand : (table : Option OpenTable) → rows_stand (printed_names auto) table (table_forms auto) ≡ true
  table_forms_stand table =
      ap (λ o. rows_stand (printed_names auto) o (mark_forms 0 auto.accepting ++ step_forms auto)) acc_opened
      ∙ (marks_stand 0 auto.accepting (step_forms auto) (omega arith) ∙ step_forms_stand (Some (acc_open auto)))

  first_stands : rows_stand (printed_names auto) (Some (reset_open auto)) (RowLine (codes "s0" ∷ []) ∷ table_forms auto) ≡ true
  first_stands = rw (reset_row_spelled auto printable.states printable.few) (table_forms_stand (Some (reset_open auto)))

  state_forms_stand : rows_stand (printed_names auto) None (state_forms auto) ≡ true
  state_forms_stand = ap (λ o. rows_stand (printed_names auto) o (RowLine (codes "s0" ∷ []) ∷ table_forms auto)) reset_opened ∙ first_stands

  pub all_stand : (name : Name) → rows_stand (printed_names auto) None (printed_forms name auto) ≡ true
  all_stand name = domains_stand auto.vars (state_forms auto) ∙ state_forms_stand

  -- the tables

  marks_said : (k : ℕ) (marks : List Bool) → k + length marks ≤ length auto.accepting
      → map (row_said (printed_names auto) (present_place auto ∷ []) (acc_place auto ∷ [])) (rows_under (mark_forms k marks ++ step_forms auto)) ≡ mark_rows k marks
  marks_said k [] few = refl
  marks_said k (mark ∷ marks) few =
      rw (mark_row_spelled auto k mark (omega arith) printable.few) (ap (λ rows. mark_row k mark ∷ rows) (marks_said (k + 1) marks (omega arith)))

  no_default_marks : (k : ℕ) (marks : List Bool) → default_under (mark_forms k marks ++ step_forms auto) ≡ None
  no_default_marks k [] = refl
  no_default_marks k (mark ∷ marks) = no_default_marks (k + 1) marks

  steps_said : (rows : List listings.Row) → AllByRecursion (IsPrintedRow auto.vars (length auto.accepting)) rows
      → map (row_said (printed_names auto) (step_ins auto) (next_place auto ∷ [])) (rows_under (map (row_form auto.vars) rows ++ EndLine ∷ [])) ≡ map (net_row auto.vars) rows
  steps_said [] all = refl
  steps_said (row ∷ rows) all =
      rw (step_row_spelled auto row printable all.0) (ap (λ more. net_row auto.vars row ∷ more) (steps_said rows all.1))

  no_default_steps : (rows : List listings.Row) → default_under (map (row_form auto.vars) rows ++ EndLine ∷ []) ≡ None
  no_default_steps [] = refl
  no_default_steps (row ∷ rows) = no_default_steps rows

  -- the table with these columns
  abbrev table_at : List ℕ → List ℕ → List Form → Table
  table_at ins outs under = table_said (printed_names auto) ins outs under

  acc_table_said : tables_on (printed_names auto) (TableLine (codes "CS" ∷ []) (codes "Acc" ∷ [])) (mark_forms 0 auto.accepting ++ step_forms auto) ≡ acc_table auto ∷ []
  acc_table_said =
      let under = mark_forms 0 auto.accepting ++ step_forms auto in
      let made = λ (rows : List Row) (default : Option (List Name)). let t : Table = record {
        ins = present_place auto ∷ [];
        outs = acc_place auto ∷ [];
        rows = rows;
        otherwise = option_map (default_said (printed_names auto) (present_place auto ∷ []) (acc_place auto ∷ [])) default;
      } in t ∷ [] in
      ap (λ ins. table_at ins (places_in (printed_names auto) (codes "Acc" ∷ [])) under ∷ []) cs_place
      ∙ (ap (λ outs. table_at (present_place auto ∷ []) outs under ∷ []) out_place
      ∙ (ap (λ rows. made rows (default_under under)) (marks_said 0 auto.accepting (omega arith))
      ∙ ap (made (mark_rows 0 auto.accepting)) (no_default_marks 0 auto.accepting)))

  step_table_said : tables_on (printed_names auto) (TableLine (step_names auto) (codes "NS" ∷ [])) (map (row_form auto.vars) auto.rows ++ EndLine ∷ []) ≡ step_table auto ∷ []
  step_table_said =
      let under = map (row_form auto.vars) auto.rows ++ EndLine ∷ [] in
      let made = λ (rows : List Row) (default : Option (List Name)). let t : Table = record {
        ins = step_ins auto;
        outs = next_place auto ∷ [];
        rows = rows;
        otherwise = option_map (default_said (printed_names auto) (step_ins auto) (next_place auto ∷ [])) default;
      } in t ∷ [] in
      ap (λ ins. table_at ins (places_in (printed_names auto) (codes "NS" ∷ [])) under ∷ []) step_places
      ∙ (ap (λ outs. table_at (step_ins auto) outs under ∷ []) ns_place
      ∙ (ap (λ rows. made rows (default_under under)) (steps_said auto.rows printable.rows)
      ∙ ap (made (map (net_row auto.vars) auto.rows)) (no_default_steps auto.rows)))

  reset_table_said : resets_on (printed_names auto) (ResetLine [] (codes "CS" ∷ [])) (RowLine (codes "s0" ∷ []) ∷ table_forms auto) ≡ reset_table auto ∷ []
  reset_table_said =
      let under = RowLine (codes "s0" ∷ []) ∷ table_forms auto in
      ap (λ outs. table_at [] outs under ∷ []) cs_place ∙ rw (reset_row_spelled auto printable.states printable.few) refl

  domains_tables : (vars : Scope) (rest : List Form) → tables_in (printed_names auto) (map domain_form vars ++ rest) ≡ tables_in (printed_names auto) rest
  domains_tables [] rest = refl
  domains_tables (v ∷ vars) rest = domains_tables vars rest

  marks_tables : (k : ℕ) (marks : List Bool) (rest : List Form) → tables_in (printed_names auto) (mark_forms k marks ++ rest) ≡ tables_in (printed_names auto) rest
  marks_tables k [] rest = refl
  marks_tables k (mark ∷ marks) rest = marks_tables (k + 1) marks rest

  rows_tables : (rows : List listings.Row) (rest : List Form) → tables_in (printed_names auto) (map (row_form auto.vars) rows ++ rest) ≡ tables_in (printed_names auto) rest
  rows_tables [] rest = refl
  rows_tables (row ∷ rows) rest = rows_tables rows rest

  tables_said : (name : Name) → tables_in (printed_names auto) (printed_forms name auto) ≡ acc_table auto ∷ step_table auto ∷ []
  tables_said name =
      let last : tables_in (printed_names auto) (step_forms auto) ≡ step_table auto ∷ [] =
      ap (λ ts. tables_on (printed_names auto) (TableLine (step_names auto) (codes "NS" ∷ [])) (map (row_form auto.vars) auto.rows ++ EndLine ∷ []) ++ ts) (rows_tables auto.rows (EndLine ∷ []))
      ∙ (append-nil _ ∙ step_table_said) in
      domains_tables auto.vars (state_forms auto)
      ∙ (ap (λ ts. tables_on (printed_names auto) (TableLine (codes "CS" ∷ []) (codes "Acc" ∷ [])) (mark_forms 0 auto.accepting ++ step_forms auto) ++ ts) (marks_tables 0 auto.accepting (step_forms auto) ∙ last)
      ∙ ap (λ ts. ts ++ (step_table auto ∷ [])) acc_table_said)

  domains_resets : (vars : Scope) (rest : List Form) → resets_in (printed_names auto) (map domain_form vars ++ rest) ≡ resets_in (printed_names auto) rest
  domains_resets [] rest = refl
  domains_resets (v ∷ vars) rest = domains_resets vars rest

  marks_resets : (k : ℕ) (marks : List Bool) (rest : List Form) → resets_in (printed_names auto) (mark_forms k marks ++ rest) ≡ resets_in (printed_names auto) rest
  marks_resets k [] rest = refl
  marks_resets k (mark ∷ marks) rest = marks_resets (k + 1) marks rest

  rows_resets : (rows : List listings.Row) (rest : List Form) → resets_in (printed_names auto) (map (row_form auto.vars) rows ++ rest) ≡ resets_in (printed_names auto) rest
  rows_resets [] rest = refl
  rows_resets (row ∷ rows) rest = rows_resets rows rest

  resets_said : (name : Name) → resets_in (printed_names auto) (printed_forms name auto) ≡ reset_table auto ∷ []
  resets_said name =
      domains_resets auto.vars (state_forms auto)
      ∙ (ap (λ ts. resets_on (printed_names auto) (ResetLine [] (codes "CS" ∷ [])) (RowLine (codes "s0" ∷ []) ∷ table_forms auto) ++ ts)
      (marks_resets 0 auto.accepting (step_forms auto) ∙ rows_resets auto.rows (EndLine ∷ []))
      ∙ (append-nil _ ∙ reset_table_said))

-- what only lines of one kind say
module _ {X : Type 0} (f : Form → List X) (no_domains : (v : Variable) → f (domain_form v) ≡ []) (no_rows : (words : List Name) → f (RowLine words) ≡ []) where
  pub domains_none : (vars : Scope) (rest : List Form) → flat_map f (map domain_form vars ++ rest) ≡ flat_map f rest
  domains_none [] rest = refl
  domains_none (v ∷ vars) rest = ap (λ xs. xs ++ flat_map f (map domain_form vars ++ rest)) (no_domains v) ∙ domains_none vars rest

  pub marks_none : (k : ℕ) (marks : List Bool) (rest : List Form) → flat_map f (mark_forms k marks ++ rest) ≡ flat_map f rest
  marks_none k [] rest = refl
  marks_none k (mark ∷ marks) rest = ap (λ xs. xs ++ flat_map f (mark_forms (k + 1) marks ++ rest)) (no_rows (state_name k ∷ mark_field mark ∷ [])) ∙ marks_none (k + 1) marks rest

  pub rows_none : (vars : Scope) (rows : List listings.Row) (rest : List Form) → flat_map f (map (row_form vars) rows ++ rest) ≡ flat_map f rest
  rows_none vars [] rest = refl
  rows_none vars (row ∷ rows) rest =
      ap (λ xs. xs ++ flat_map f (map (row_form vars) rows ++ rest)) (no_rows (entries_words vars row.entries ++ (state_name row.present ∷ state_name row.next ∷ []))) ∙ rows_none vars rows rest

inputs_said : (name : Name) (auto : Listing) → flat_map inputs_on (printed_forms name auto) ≡ names_of auto.vars
inputs_said name auto =
    let none : flat_map inputs_on (map domain_form auto.vars ++ state_forms auto) ≡ [] =
    domains_none inputs_on (λ v. refl) (λ words. refl) auto.vars (state_forms auto)
    ∙ (marks_none inputs_on (λ v. refl) (λ words. refl) 0 auto.accepting (step_forms auto) ∙ rows_none inputs_on (λ v. refl) (λ words. refl) auto.vars auto.rows (EndLine ∷ [])) in
    ap (λ ns. names_of auto.vars ++ ns) none ∙ append-nil (names_of auto.vars)

outputs_said : (name : Name) (auto : Listing) → flat_map outputs_on (printed_forms name auto) ≡ codes "Acc" ∷ []
outputs_said name auto =
    ap (λ ns. codes "Acc" ∷ ns)
    (domains_none outputs_on (λ v. refl) (λ words. refl) auto.vars (state_forms auto)
    ∙ (marks_none outputs_on (λ v. refl) (λ words. refl) 0 auto.accepting (step_forms auto) ∙ rows_none outputs_on (λ v. refl) (λ words. refl) auto.vars auto.rows (EndLine ∷ [])))

latches_said : (name : Name) (auto : Listing) → IsPrintable auto → flat_map (latches_on (printed_names auto)) (printed_forms name auto) ≡ record { input = next_place auto; output = present_place auto } ∷ []
latches_said name auto printable =
    let on = latches_on (printed_names auto) in
    let latch = λ (input output : ℕ). let l : Latch = record { input = input; output = output } in l ∷ [] in
    domains_none on (λ v. refl) (λ words. refl) auto.vars (state_forms auto)
    ∙ (ap (λ ls. latch (place_in (printed_names auto) (codes "NS")) (place_in (printed_names auto) (codes "CS")) ++ ls)
    (marks_none on (λ v. refl) (λ words. refl) 0 auto.accepting (step_forms auto) ∙ rows_none on (λ v. refl) (λ words. refl) auto.vars auto.rows (EndLine ∷ []))
    ∙ (ap (λ p. latch p (place_in (printed_names auto) (codes "CS"))) (next_place_is auto printable)
    ∙ ap (latch (next_place auto)) (present_place_is auto printable)))

-- the whole network
pub net_is : (name : Name) (auto : Listing) → IsPrintable auto → net_said (printed_forms name auto) ≡ printed_net auto
net_is name auto printable =
    let N = printed_names auto in
    let text = printed_forms name auto in
    let made = λ (inputs outputs : List ℕ) (tables : List Table) (latches : List Latch) (resets : List Table). let n : Net = record {
      names = N;
      inputs = inputs;
      outputs = outputs;
      tables = tables;
      latches = latches;
      resets = resets;
    } in n in
    ap (λ vars. net_with vars text) (variables_are name auto printable)
    ∙ (ap (λ ps. made ps (places_in N (distinct [] (flat_map outputs_on text))) (tables_in N text) (flat_map (latches_on N) text) (resets_in N text)) (ap (places_in N) (inputs_said name auto) ∙ letter_places_are auto printable)
    ∙ (ap (λ ps. made (letter_places auto) ps (tables_in N text) (flat_map (latches_on N) text) (resets_in N text)) (ap (λ ns. places_in N (distinct [] ns)) (outputs_said name auto) ∙ out_place auto printable)
    ∙ (ap (λ ts. made (letter_places auto) (acc_place auto ∷ []) ts (flat_map (latches_on N) text) (resets_in N text)) (tables_said auto printable name)
    ∙ (ap (λ ls. made (letter_places auto) (acc_place auto ∷ []) (acc_table auto ∷ step_table auto ∷ []) ls (resets_in N text)) (latches_said name auto printable)
    ∙ ap (made (letter_places auto) (acc_place auto ∷ []) (acc_table auto ∷ step_table auto ∷ []) (record { input = next_place auto; output = present_place auto } ∷ [])) (resets_said auto printable name)))))

-- the lines

all_names_are : (names : List Name) → AllByRecursion IsTextName names → list_all is_name names ≡ true
all_names_are [] all = refl
all_names_are (name ∷ names) all = rw all.0.name_is (all_names_are names all.1)

all_values_are : (names : List Name) → AllByRecursion IsTextValue names → list_all is_value_name names ≡ true
all_values_are [] all = refl
all_values_are (name ∷ names) all = rw all.0.name_is (all_values_are names all.1)

names_text : (vars : Scope) → AllByRecursion IsPrintedVariable vars → AllByRecursion IsTextName (names_of vars)
names_text [] all = tt
names_text (v ∷ vars) all = (all.0.text.name, names_text vars all.1)

-- each name can be one

domains_named : (vars : Scope) (rest : List Form) → AllByRecursion IsPrintedVariable vars → list_all has_names rest ≡ true → list_all has_names (map domain_form vars ++ rest) ≡ true
domains_named [] rest all more = more
domains_named (v ∷ vars) rest all more =
    rw all.0.text.name.name_is (rw (all_values_are v.values all.0.text.values) (domains_named vars rest all.1 more))

marks_named : (k : ℕ) (marks : List Bool) (rest : List Form) → list_all has_names (mark_forms k marks ++ rest) ≡ list_all has_names rest
marks_named k [] rest = refl
marks_named k (mark ∷ marks) rest = marks_named (k + 1) marks rest

rows_named : (vars : Scope) (rows : List listings.Row) (rest : List Form) → list_all has_names (map (row_form vars) rows ++ rest) ≡ list_all has_names rest
rows_named vars [] rest = refl
rows_named vars (row ∷ rows) rest = rows_named vars rows rest

push_name : (names : List Name) (name : Name) → list_all is_name names ≡ true → is_name name ≡ true → list_all is_name (names ++ name ∷ []) ≡ true
push_name [] name all is = rw is refl
push_name (first ∷ names) name all is =
    let parts = and_parts (is_name first) (list_all is_name names) all in
    rw parts.0 (push_name names name parts.1 is)

-- a byte that no name ends with or begins with tells that the word is none of the signs
state_is_value : (k : ℕ) → k < 2 ^ 64 → is_value_name (state_name k) ≡ true
state_is_value k few = state_value k few

states_named : (low n : ℕ) → low + n ≤ 2 ^ 64 → list_all is_value_name (map state_name (range_with_len low n)) ≡ true
states_named low zero few = refl
states_named low (suc n) few = rw (state_is_value low (omega arith)) (states_named (low + 1) n (omega arith))

all_named : (name : Name) (auto : Listing) → IsTextName name → IsPrintable auto → list_all has_names (printed_forms name auto) ≡ true
all_named name auto text printable =
    let names = all_names_are (names_of auto.vars) (names_text auto.vars printable.vars) in
    let few = printable.few in
    let steps : list_all has_names (step_forms auto) ≡ true =
    rw (push_name (names_of auto.vars) (codes "CS") names refl) (rows_named auto.vars auto.rows (EndLine ∷ [])) in
    let tables : list_all has_names (table_forms auto) ≡ true = marks_named 0 auto.accepting (step_forms auto) ∙ steps in
    let states : list_all has_names (state_forms auto) ≡ true = rw (states_named 0 (length auto.accepting) (omega arith)) tables in
    rw text.name_is (rw names (domains_named auto.vars (state_forms auto) printable.vars states))

-- the model is opened once, and nothing stands behind the end

module _ (p : Form → Bool) (no_domains : (v : Variable) → p (domain_form v) ≡ true) (no_rows : (words : List Name) → p (RowLine words) ≡ true) where
  domains_pass : (vars : Scope) (rest : List Form) → list_all p (map domain_form vars ++ rest) ≡ list_all p rest
  domains_pass [] rest = refl
  domains_pass (v ∷ vars) rest = rw (no_domains v) (domains_pass vars rest)

  marks_pass : (k : ℕ) (marks : List Bool) (rest : List Form) → list_all p (mark_forms k marks ++ rest) ≡ list_all p rest
  marks_pass k [] rest = refl
  marks_pass k (mark ∷ marks) rest = rw (no_rows (state_name k ∷ mark_field mark ∷ [])) (marks_pass (k + 1) marks rest)

  rows_pass : (vars : Scope) (rows : List listings.Row) (rest : List Form) → list_all p (map (row_form vars) rows ++ rest) ≡ list_all p rest
  rows_pass vars [] rest = refl
  rows_pass vars (row ∷ rows) rest =
      rw (no_rows (entries_words vars row.entries ++ (state_name row.present ∷ state_name row.next ∷ []))) (rows_pass vars rows rest)

opened_once : (name : Name) (auto : Listing) → opens_model (printed_forms name auto) ≡ true
opened_once name auto =
    let p = λ (form : Form). not (is_model form) in
    domains_pass p (λ v. refl) (λ words. refl) auto.vars (state_forms auto)
    ∙ (marks_pass p (λ v. refl) (λ words. refl) 0 auto.accepting (step_forms auto) ∙ rows_pass p (λ v. refl) (λ words. refl) auto.vars auto.rows (EndLine ∷ []))

-- no line but the last is the end
ends_behind : (front : List Form) (last : Form) → list_all (λ form. not (is_end form)) front ≡ true → ends_once (front ++ last ∷ []) ≡ true
ends_behind [] last all = refl
ends_behind (form ∷ []) last all = rw (and_parts (not (is_end form)) true all).0 refl
ends_behind (form ∷ next ∷ front) last all =
    let parts = and_parts (not (is_end form)) (list_all (λ f. not (is_end f)) (next ∷ front)) all in
    rw parts.0 (ends_behind (next ∷ front) last parts.1)

-- the lines but the last
abbrev front_forms : Name → Listing → List Form
front_forms name auto =
    ModelLine (name ∷ [])
    ∷ InputsLine (names_of auto.vars)
    ∷ OutputsLine (codes "Acc" ∷ [])
    ∷ (map domain_form auto.vars
    ++ (DomainsLine (codes "CS" ∷ codes "NS" ∷ []) (decimal (length auto.accepting)) (state_names (length auto.accepting))
    ∷ LatchLine (codes "NS") (codes "CS")
    ∷ ResetLine [] (codes "CS" ∷ [])
    ∷ RowLine (codes "s0" ∷ [])
    ∷ TableLine (codes "CS" ∷ []) (codes "Acc" ∷ [])
    ∷ (mark_forms 0 auto.accepting ++ (TableLine (step_names auto) (codes "NS" ∷ []) ∷ map (row_form auto.vars) auto.rows))))

front_and_end : (name : Name) (auto : Listing) → front_forms name auto ++ EndLine ∷ [] ≡ printed_forms name auto
front_and_end name auto = simp append_assoc

ended_once : (name : Name) (auto : Listing) → ends_once (printed_forms name auto) ≡ true
ended_once name auto =
    let p = λ (form : Form). not (is_end form) in
    let rows : list_all p (map (row_form auto.vars) auto.rows) ≡ true =
    ap (list_all p) (sym (append-nil (map (row_form auto.vars) auto.rows))) ∙ rows_pass p (λ v. refl) (λ words. refl) auto.vars auto.rows [] in
    let none : list_all p (front_forms name auto) ≡ true =
    domains_pass p (λ v. refl) (λ words. refl) auto.vars _
    ∙ (marks_pass p (λ v. refl) (λ words. refl) 0 auto.accepting (TableLine (step_names auto) (codes "NS" ∷ []) ∷ map (row_form auto.vars) auto.rows) ∙ rows) in
    ap ends_once (sym (front_and_end name auto)) ∙ ends_behind (front_forms name auto) EndLine none

-- the lines of a printed text say its forms
pub lines_say : (name : Name) (auto : Listing) → IsTextName name → IsPrintable auto → LinesSay (printed_text name auto) (printed_forms name auto)
lines_say name auto text printable = record {
  lines = text_says (printed_lines name auto) (printed_forms name auto) (printed_says name auto text printable);
  spelled = all_named name auto text printable;
  begins = opened_once name auto;
  ends = ended_once name auto;
  domains = all_domains_right name auto printable;
}

-- so the text stands for the network
pub text_stands : (name : Name) (auto : Listing) → IsTextName name → IsPrintable auto → MeetsConditions (printed_net auto) → StandsForNet (printed_text name auto) (printed_net auto)
text_stands name auto text printable conditions = record {
  text = printed_forms name auto;
  lines = lines_say name auto text printable;
  rows = ap (λ vars. rows_stand vars None (printed_forms name auto)) (variables_are name auto printable) ∙ all_stand auto printable name;
  says = sym (net_is name auto printable);
  conditions = conditions;
}
