-- Rows that stand under a table spell as many entries as it has columns.
use Rattle.std.proofs.Common.{◌≡◌, ◌+◌, ◌==◌, ◌||◌, ℕ, suc, Bool, true, false, not, List, [], ◌∷◌, length, Option, Some, None, is_some, if◌then◌else◌, refl, sym, ◌∙◌, ap, arith}
use Rattle.std.specs.Option.{option_map}
use Rattle.std.proofs.lemmas.Bool.{and_parts, false≢true}
use Rattle.std.proofs.lemmas.List.{length-map}
use Rattle.net_model.specs.Words.{Scope}
use Rattle.net_model.specs.Forms.{Name, Form, ModelLine, InputsLine, OutputsLine, DomainsLine, TableLine, ResetLine, LatchLine, DefaultLine, EndLine, RowLine}
use Rattle.net_model.specs.Nets.{Entry}
use Rattle.net_model.specs.Spellings.{Spelled, Taken, spells, spells_rest, entry_at, as_taken, with_entry, column_then, entries_at, inputs_at, outputs_at, whole, row_behind, row_spelled, default_spelled}
use Rattle.net_model.specs.NetTexts.{place_in, OpenTable, open_behind, line_stands, rows_stand}
use Rattle.blifmv_names.specs.declared.place.Width.{Width}
use Rattle.blifmv_names.specs.LineFaults.{is_misfit, is_second_default, width_behind}
use Rattle.blifmv_names.specs.Limits.{rows_fit}

-- entries and further ones

rest_of_entries : (resolve : ℕ → Spelled → Option Entry) (columns : List ℕ) (words : List Name) (n : ℕ) (had : Taken (List Entry)) → entries_at resolve columns words ≡ Some had → spells (length columns + n) words ≡ spells n had.rest
rest_of_entries resolve [] words n had h =
    let is : record { taken = []; rest = words } ≡ had = cc in
    let none : 0 + n ≡ n = omega arith in
    ap (λ m. spells m words) none ∙ ap (λ (t : Taken (List Entry)). spells n t.rest) is
rest_of_entries resolve (column ∷ columns) words n had h =
    let next : length (column ∷ columns) + n ≡ suc (length columns + n) = omega arith in
    ap (λ m. spells m words) next
    ∙ elim (entry_at words) as (λ o. column_then (resolve column) (entries_at resolve columns) o ≡ Some had → spells_rest (spells (length columns + n)) o ≡ spells n had.rest) [
      | None ↦ λ f. cc
      | Some first ↦ λ f.
          elim (resolve column first.taken) as (λ o. with_entry o (entries_at resolve columns first.rest) ≡ Some had → spells (length columns + n) first.rest ≡ spells n had.rest) [
            | None ↦ λ g. cc
            | Some entry ↦ λ g.
                elim (entries_at resolve columns first.rest) as (λ o. entries_at resolve columns first.rest ≡ o → as_taken (λ entries. entry ∷ entries) o ≡ Some had → spells (length columns + n) first.rest ≡ spells n had.rest) [
                  | None ↦ λ at k. cc
                  | Some more ↦ λ at k.
                      let is : record { taken = entry ∷ more.taken; rest = more.rest } ≡ had = cc in
                      rest_of_entries resolve columns first.rest n more at ∙ ap (λ (t : Taken (List Entry)). spells n t.rest) is
                ] refl g
          ] f
    ] h

whole_spells : {T : Type 0} (o : Option (Taken T)) (had : Taken T) → o ≡ Some had → is_some (whole o) ≡ true → (length had.rest == 0) ≡ true
whole_spells o had is h =
    elim (length had.rest == 0) as (λ b. is_some (if b then Some had.taken else None) ≡ true → b ≡ true) [
      | true ↦ λ e. refl
      | false ↦ λ e. absurd (false≢true e)
    ] (ap (λ p. is_some (whole p)) (sym is) ∙ h)

outputs_spell : (vars : Scope) (ins outs : List ℕ) (words : List Name) → is_some (whole (outputs_at vars ins outs words)) ≡ true → spells (length outs) words ≡ true
outputs_spell vars ins outs words h =
    elim (outputs_at vars ins outs words) as (λ o. outputs_at vars ins outs words ≡ o → is_some (whole o) ≡ true → spells (length outs) words ≡ true) [
      | None ↦ λ at k. absurd (false≢true k)
      | Some had ↦ λ at k.
          let n : length outs ≡ length outs + 0 = omega arith in
          ap (λ m. spells m words) n
          ∙ (rest_of_entries _ outs words 0 had at
          ∙ whole_spells (Some had) had refl k)
    ] refl h

some_mapped : {T U : Type 0} (f : T → U) (o : Option T) → is_some (option_map f o) ≡ is_some o
some_mapped f None = refl
some_mapped f (Some x) = refl

row_spells : (vars : Scope) (ins outs : List ℕ) (words : List Name) → is_some (row_spelled vars ins outs words) ≡ true → spells (length ins + length outs) words ≡ true
row_spells vars ins outs words h =
    elim (inputs_at vars ins words) as (λ o. inputs_at vars ins words ≡ o → is_some (row_behind vars ins outs o) ≡ true → spells (length ins + length outs) words ≡ true) [
      | None ↦ λ at k. absurd (false≢true k)
      | Some had ↦ λ at k.
          rest_of_entries _ ins words (length outs) had at
          ∙ outputs_spell vars ins outs had.rest (sym (some_mapped _ (whole (outputs_at vars ins outs had.rest))) ∙ k)
    ] refl h

-- the width of the table that stands open
abbrev width_of_open : Option OpenTable → Option Width
width_of_open table =
    option_map (λ t. record { columns = length t.ins + length t.outs; outs = length t.outs; has_default = t.has_default }) table

width_opened : (vars : Scope) (ins outs : List Name) → width_behind None (TableLine ins outs) ≡ width_of_open (open_behind vars None (TableLine ins outs))
width_opened vars ins outs =
    let i = sym (length-map ins (place_in vars)) in
    let o = sym (length-map outs (place_in vars)) in
    λ k. Some (record { columns = i k + o k; outs = o k; has_default = false })

width_passed : (vars : Scope) (table : Option OpenTable) (form : Form) → width_behind (width_of_open table) form ≡ width_of_open (open_behind vars table form)
width_passed vars table (ModelLine names) = refl
width_passed vars table (InputsLine names) = refl
width_passed vars table (OutputsLine names) = refl
width_passed vars table (DomainsLine names count values) = refl
width_passed vars table (TableLine ins outs) = width_opened vars ins outs
width_passed vars table (ResetLine ins outs) = width_opened vars ins outs
width_passed vars table (LatchLine input output) = refl
width_passed vars None (DefaultLine words) = refl
width_passed vars (Some table) (DefaultLine words) = refl
width_passed vars table EndLine = refl
width_passed vars table (RowLine words) = refl

line_fits : (vars : Scope) (table : Option OpenTable) (form : Form) → line_stands vars table form ≡ true → (is_misfit (width_of_open table) form || is_second_default (width_of_open table) form) ≡ false
line_fits vars table (ModelLine names) h = of_none table
  where
    of_none : (table : Option OpenTable) → (is_misfit (width_of_open table) (ModelLine names) || is_second_default (width_of_open table) (ModelLine names)) ≡ false
    of_none None = refl
    of_none (Some t) = refl
line_fits vars None (InputsLine names) h = refl
line_fits vars (Some table) (InputsLine names) h = refl
line_fits vars None (OutputsLine names) h = refl
line_fits vars (Some table) (OutputsLine names) h = refl
line_fits vars None (DomainsLine names count values) h = refl
line_fits vars (Some table) (DomainsLine names count values) h = refl
line_fits vars None (TableLine ins outs) h = refl
line_fits vars (Some table) (TableLine ins outs) h = refl
line_fits vars None (ResetLine ins outs) h = refl
line_fits vars (Some table) (ResetLine ins outs) h = refl
line_fits vars None (LatchLine input output) h = refl
line_fits vars (Some table) (LatchLine input output) h = refl
line_fits vars None (DefaultLine words) h = absurd (false≢true h)
line_fits vars (Some table) (DefaultLine words) h =
    let parts = and_parts (not table.has_default) (is_some (default_spelled vars table.ins table.outs words)) h in
    first_default table.has_default (spells (length table.outs) words) parts.0 (outputs_spell vars table.ins table.outs words parts.1)
  where
    first_default : (had spelled : Bool) → not had ≡ true → spelled ≡ true → (not spelled || had) ≡ false
    first_default true spelled h k = absurd (false≢true h)
    first_default false spelled h k = ap (λ b. not b || false) k
line_fits vars None EndLine h = refl
line_fits vars (Some table) EndLine h = refl
line_fits vars None (RowLine words) h = absurd (false≢true h)
line_fits vars (Some table) (RowLine words) h = ap (λ b. not b || false) (row_spells vars table.ins table.outs words h)

-- rows that stand fit their tables
pub stand_fits : (vars : Scope) (table : Option OpenTable) (text : List Form) → rows_stand vars table text ≡ true → rows_fit (width_of_open table) text ≡ true
stand_fits vars table [] h = refl
stand_fits vars table (form ∷ text) h =
    let parts = and_parts (line_stands vars table form) _ h in
    let here = line_fits vars table form parts.0 in
    let more = stand_fits vars (open_behind vars table form) text parts.1 in
    let rest : rows_fit (width_behind (width_of_open table) form) text ≡ true = ap (λ w. rows_fit w text) (width_passed vars table form) ∙ more in
    rw (here, rest) refl
