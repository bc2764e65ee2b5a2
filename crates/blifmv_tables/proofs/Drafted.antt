-- The draft of a whole text is the network that it says.
use Rattle.std.proofs.Common.{◌≡◌, ◌++◌, Bool, true, false, not, List, [], ◌∷◌, map, Option, Some, None, is_some, refl, sym, ◌∙◌, ap, append_assoc}
use Rattle.std.specs.Option.{option_map, option_or}
use Rattle.std.specs.List.{flat_map}
use Rattle.std.proofs.lemmas.List.{append-nil, map-append}
use Rattle.name_table.specs.Variables.{with_name}
use Rattle.net_model.specs.Words.{Scope}
use Rattle.net_model.specs.Forms.{Name, Form, ModelLine, InputsLine, OutputsLine, DomainsLine, TableLine, ResetLine, LatchLine, DefaultLine, EndLine, RowLine}
use Rattle.net_model.specs.Nets.{Table}
use Rattle.net_model.specs.NetTexts as net_texts
use Rattle.net_model.specs.NetTexts.{distinct, place_in, places_in, inputs_on, outputs_on, latches_on, row_said, default_said, rows_under, default_under, table_said, tables_on, resets_on, tables_in, resets_in, net_with, open_behind, rows_stand, line_stands, OpenTable}
use Rattle.blifmv_tables.specs.Drafts.{Standing, Draft, nothing_said, kept, is_reset_table, opens, row_under, default_at, draft_behind, draft_from, open_of, net_of_draft}

-- inputs, outputs and latches

flat_append : {A B : Type 0} (f : A → List B) (x : A) (xs : List A) (had : List B) → had ++ flat_map f (x ∷ xs) ≡ (had ++ f x) ++ flat_map f xs
flat_append f x xs had = sym (append_assoc had (f x) (flat_map f xs))

inputs_behind : (vars : Scope) (draft : Draft) (form : Form) → (draft_behind vars draft form).inputs ≡ draft.inputs ++ places_in vars (inputs_on form)
inputs_behind vars draft (ModelLine names) = sym (append-nil draft.inputs)
inputs_behind vars draft (InputsLine names) = refl
inputs_behind vars draft (OutputsLine names) = sym (append-nil draft.inputs)
inputs_behind vars draft (DomainsLine names count values) = sym (append-nil draft.inputs)
inputs_behind vars draft (TableLine ins outs) = sym (append-nil draft.inputs)
inputs_behind vars draft (ResetLine ins outs) = sym (append-nil draft.inputs)
inputs_behind vars draft (LatchLine input output) = sym (append-nil draft.inputs)
inputs_behind vars draft (DefaultLine words) = sym (append-nil draft.inputs)
inputs_behind vars draft EndLine = sym (append-nil draft.inputs)
inputs_behind vars draft (RowLine words) = sym (append-nil draft.inputs)

outputs_behind : (vars : Scope) (draft : Draft) (form : Form) → (draft_behind vars draft form).outputs ≡ distinct draft.outputs (outputs_on form)
outputs_behind vars draft (ModelLine names) = refl
outputs_behind vars draft (InputsLine names) = refl
outputs_behind vars draft (OutputsLine names) = refl
outputs_behind vars draft (DomainsLine names count values) = refl
outputs_behind vars draft (TableLine ins outs) = refl
outputs_behind vars draft (ResetLine ins outs) = refl
outputs_behind vars draft (LatchLine input output) = refl
outputs_behind vars draft (DefaultLine words) = refl
outputs_behind vars draft EndLine = refl
outputs_behind vars draft (RowLine words) = refl

latches_behind : (vars : Scope) (draft : Draft) (form : Form) → (draft_behind vars draft form).latches ≡ draft.latches ++ latches_on vars form
latches_behind vars draft (ModelLine names) = sym (append-nil draft.latches)
latches_behind vars draft (InputsLine names) = sym (append-nil draft.latches)
latches_behind vars draft (OutputsLine names) = sym (append-nil draft.latches)
latches_behind vars draft (DomainsLine names count values) = sym (append-nil draft.latches)
latches_behind vars draft (TableLine ins outs) = sym (append-nil draft.latches)
latches_behind vars draft (ResetLine ins outs) = sym (append-nil draft.latches)
latches_behind vars draft (LatchLine input output) = refl
latches_behind vars draft (DefaultLine words) = sym (append-nil draft.latches)
latches_behind vars draft EndLine = sym (append-nil draft.latches)
latches_behind vars draft (RowLine words) = sym (append-nil draft.latches)

distinct_more : (had names more : List Name) → distinct had (names ++ more) ≡ distinct (distinct had names) more
distinct_more had [] more = refl
distinct_more had (name ∷ names) more = distinct_more (with_name had name) names more

inputs_from : (vars : Scope) (draft : Draft) (text : List Form) → (draft_from vars draft text).inputs ≡ draft.inputs ++ places_in vars (flat_map inputs_on text)
inputs_from vars draft [] = sym (append-nil draft.inputs)
inputs_from vars draft (form ∷ text) =
    inputs_from vars (draft_behind vars draft form) text
    ∙ (ap (λ had. had ++ places_in vars (flat_map inputs_on text)) (inputs_behind vars draft form)
    ∙ (append_assoc draft.inputs (places_in vars (inputs_on form)) (places_in vars (flat_map inputs_on text))
    ∙ ap (λ more. draft.inputs ++ more) (sym (map-append (place_in vars) (inputs_on form) (flat_map inputs_on text)))))

outputs_from : (vars : Scope) (draft : Draft) (text : List Form) → (draft_from vars draft text).outputs ≡ distinct draft.outputs (flat_map outputs_on text)
outputs_from vars draft [] = refl
outputs_from vars draft (form ∷ text) =
    outputs_from vars (draft_behind vars draft form) text
    ∙ (ap (λ had. distinct had (flat_map outputs_on text)) (outputs_behind vars draft form)
    ∙ sym (distinct_more draft.outputs (outputs_on form) (flat_map outputs_on text)))

latches_from : (vars : Scope) (draft : Draft) (text : List Form) → (draft_from vars draft text).latches ≡ draft.latches ++ flat_map (latches_on vars) text
latches_from vars draft [] = sym (append-nil draft.latches)
latches_from vars draft (form ∷ text) =
    latches_from vars (draft_behind vars draft form) text
    ∙ (ap (λ had. had ++ flat_map (latches_on vars) text) (latches_behind vars draft form)
    ∙ append_assoc draft.latches (latches_on vars form) (flat_map (latches_on vars) text))

-- tables

-- the table that stands open, with what stands under it from here on
abbrev filled : Scope → List Form → Standing → Standing
filled vars under had = record had {
  table = record had.table {
    rows = had.table.rows ++ map (row_said vars had.table.ins had.table.outs) (rows_under under);
    otherwise = option_or had.table.otherwise (option_map (default_said vars had.table.ins had.table.outs) (default_under under));
  };
}

abbrev fill : Scope → List Form → Option Standing → Option Standing
fill vars under standing = option_map (filled vars under) standing

or_none : {T : Type 0} (o : Option T) → option_or o None ≡ o
or_none None = refl
or_none (Some x) = refl

-- where nothing stands under it any more it is as it was
fill_nothing : (vars : Scope) (under : List Form) (standing : Option Standing) → rows_under under ≡ [] → default_under under ≡ None → fill vars under standing ≡ standing
fill_nothing vars under None rows default = refl
fill_nothing vars under (Some had) rows default =
    let f = row_said vars had.table.ins had.table.outs in
    let g = default_said vars had.table.ins had.table.outs in
    λ i. Some (record had {
      table = record had.table {
        rows = (ap (λ r. had.table.rows ++ map f r) rows ∙ append-nil had.table.rows) i;
        otherwise = (ap (λ d. option_or had.table.otherwise (option_map g d)) default ∙ or_none had.table.otherwise) i;
      };
    })

fill_row : (vars : Scope) (words : List Name) (under : List Form) (standing : Option Standing) → fill vars under (option_map (row_under vars words) standing) ≡ fill vars (RowLine words ∷ under) standing
fill_row vars words under None = refl
fill_row vars words under (Some had) =
    let f = row_said vars had.table.ins had.table.outs in
    λ i. Some (record had {
      table = record had.table {
        rows = append_assoc had.table.rows (f words ∷ []) (map f (rows_under under)) i;
        otherwise = option_or had.table.otherwise (option_map (default_said vars had.table.ins had.table.outs) (default_under under));
      };
    })

or_first : {T : Type 0} (o : Option T) (x : T) (later : Option T) → option_or (option_or o (Some x)) later ≡ option_or o (Some x)
or_first None x later = refl
or_first (Some y) x later = refl

fill_default : (vars : Scope) (words : List Name) (under : List Form) (standing : Option Standing) → fill vars under (option_map (default_at vars words) standing) ≡ fill vars (DefaultLine words ∷ under) standing
fill_default vars words under None = refl
fill_default vars words under (Some had) =
    let g = default_said vars had.table.ins had.table.outs in
    λ i. Some (record had {
      table = record had.table {
        rows = had.table.rows ++ map (row_said vars had.table.ins had.table.outs) (rows_under under);
        otherwise = or_first had.table.otherwise (g words) (option_map g (default_under under)) i;
      };
    })

-- a line that is no row closes the table that stood open, and may open one
closing : (test : Bool → Bool) (vars : Scope) (had : List Table) (standing opened : Option Standing) (form : Form) (under : List Form) (on more : List Table) → rows_under (form ∷ under) ≡ [] → default_under (form ∷ under) ≡ None → kept test (fill vars under opened) ≡ on → (had ++ kept test standing) ++ (kept test (fill vars under opened) ++ more) ≡ had ++ (kept test (fill vars (form ∷ under) standing) ++ (on ++ more))
closing test vars had standing opened form under on more rows default is =
    let same = fill_nothing vars (form ∷ under) standing rows default in
    append_assoc had (kept test standing) (kept test (fill vars under opened) ++ more)
    ∙ (λ i. had ++ (kept test (sym same i) ++ (is i ++ more)))

tables_behind : (vars : Scope) (draft : Draft) (form : Form) (text : List Form) (more : List Table) → (draft_behind vars draft form).tables ++ (kept not (fill vars text (draft_behind vars draft form).standing) ++ more) ≡ draft.tables ++ (kept not (fill vars (form ∷ text) draft.standing) ++ (tables_on vars form text ++ more))
tables_behind vars draft (ModelLine names) text more = closing not vars draft.tables draft.standing None (ModelLine names) text [] more refl refl refl
tables_behind vars draft (InputsLine names) text more = closing not vars draft.tables draft.standing None (InputsLine names) text [] more refl refl refl
tables_behind vars draft (OutputsLine names) text more = closing not vars draft.tables draft.standing None (OutputsLine names) text [] more refl refl refl
tables_behind vars draft (DomainsLine names count values) text more = closing not vars draft.tables draft.standing None (DomainsLine names count values) text [] more refl refl refl
tables_behind vars draft (TableLine ins outs) text more = closing not vars draft.tables draft.standing (opens false vars ins outs) (TableLine ins outs) text (tables_on vars (TableLine ins outs) text) more refl refl refl
tables_behind vars draft (ResetLine ins outs) text more = closing not vars draft.tables draft.standing (opens true vars ins outs) (ResetLine ins outs) text [] more refl refl refl
tables_behind vars draft (LatchLine input output) text more = closing not vars draft.tables draft.standing None (LatchLine input output) text [] more refl refl refl
tables_behind vars draft (DefaultLine words) text more = λ i. draft.tables ++ (kept not (fill_default vars words text draft.standing i) ++ more)
tables_behind vars draft EndLine text more = closing not vars draft.tables draft.standing None EndLine text [] more refl refl refl
tables_behind vars draft (RowLine words) text more = λ i. draft.tables ++ (kept not (fill_row vars words text draft.standing i) ++ more)

resets_behind : (vars : Scope) (draft : Draft) (form : Form) (text : List Form) (more : List Table) → (draft_behind vars draft form).resets ++ (kept is_reset_table (fill vars text (draft_behind vars draft form).standing) ++ more) ≡ draft.resets ++ (kept is_reset_table (fill vars (form ∷ text) draft.standing) ++ (resets_on vars form text ++ more))
resets_behind vars draft (ModelLine names) text more = closing is_reset_table vars draft.resets draft.standing None (ModelLine names) text [] more refl refl refl
resets_behind vars draft (InputsLine names) text more = closing is_reset_table vars draft.resets draft.standing None (InputsLine names) text [] more refl refl refl
resets_behind vars draft (OutputsLine names) text more = closing is_reset_table vars draft.resets draft.standing None (OutputsLine names) text [] more refl refl refl
resets_behind vars draft (DomainsLine names count values) text more = closing is_reset_table vars draft.resets draft.standing None (DomainsLine names count values) text [] more refl refl refl
resets_behind vars draft (TableLine ins outs) text more = closing is_reset_table vars draft.resets draft.standing (opens false vars ins outs) (TableLine ins outs) text [] more refl refl refl
resets_behind vars draft (ResetLine ins outs) text more = closing is_reset_table vars draft.resets draft.standing (opens true vars ins outs) (ResetLine ins outs) text (resets_on vars (ResetLine ins outs) text) more refl refl refl
resets_behind vars draft (LatchLine input output) text more = closing is_reset_table vars draft.resets draft.standing None (LatchLine input output) text [] more refl refl refl
resets_behind vars draft (DefaultLine words) text more = λ i. draft.resets ++ (kept is_reset_table (fill_default vars words text draft.standing i) ++ more)
resets_behind vars draft EndLine text more = closing is_reset_table vars draft.resets draft.standing None EndLine text [] more refl refl refl
resets_behind vars draft (RowLine words) text more = λ i. draft.resets ++ (kept is_reset_table (fill_row vars words text draft.standing i) ++ more)

tables_from : (vars : Scope) (draft : Draft) (text : List Form) → (draft_from vars draft text).tables ++ kept not (draft_from vars draft text).standing ≡ draft.tables ++ (kept not (fill vars text draft.standing) ++ tables_in vars text)
tables_from vars draft [] = λ i. draft.tables ++ (ap (kept not) (sym (fill_nothing vars [] draft.standing refl refl)) ∙ sym (append-nil (kept not (fill vars [] draft.standing)))) i
tables_from vars draft (form ∷ text) = tables_from vars (draft_behind vars draft form) text ∙ tables_behind vars draft form text (tables_in vars text)

resets_from : (vars : Scope) (draft : Draft) (text : List Form) → (draft_from vars draft text).resets ++ kept is_reset_table (draft_from vars draft text).standing ≡ draft.resets ++ (kept is_reset_table (fill vars text draft.standing) ++ resets_in vars text)
resets_from vars draft [] = λ i. draft.resets ++ (ap (kept is_reset_table) (sym (fill_nothing vars [] draft.standing refl refl)) ∙ sym (append-nil (kept is_reset_table (fill vars [] draft.standing)))) i
resets_from vars draft (form ∷ text) = resets_from vars (draft_behind vars draft form) text ∙ resets_behind vars draft form text (resets_in vars text)

-- the draft of a whole text is the network that its lines say
pub net_drafted : (vars : Scope) (text : List Form) → net_of_draft vars (draft_from vars nothing_said text) ≡ net_with vars text
net_drafted vars text = λ i. record {
  names = vars;
  inputs = inputs_from vars nothing_said text i;
  outputs = places_in vars (outputs_from vars nothing_said text i);
  tables = tables_from vars nothing_said text i;
  latches = latches_from vars nothing_said text i;
  resets = resets_from vars nothing_said text i;
}

-- which table stands open

is_some_or : {T : Type 0} (o : Option T) (x : T) → is_some (option_or o (Some x)) ≡ true
is_some_or None x = refl
is_some_or (Some y) x = refl

pub open_drafted : (vars : Scope) (draft : Draft) (form : Form) → open_of (draft_behind vars draft form).standing ≡ open_behind vars (open_of draft.standing) form
open_drafted vars draft (ModelLine names) = refl
open_drafted vars draft (InputsLine names) = refl
open_drafted vars draft (OutputsLine names) = refl
open_drafted vars draft (DomainsLine names count values) = refl
open_drafted vars draft (TableLine ins outs) = refl
open_drafted vars draft (ResetLine ins outs) = refl
open_drafted vars draft (LatchLine input output) = refl
open_drafted vars draft EndLine = refl
open_drafted vars draft (DefaultLine words) = of_default draft.standing
  where
    of_default : (standing : Option Standing) → open_of (option_map (default_at vars words) standing) ≡ option_map net_texts.with_default (open_of standing)
    of_default None = refl
    of_default (Some had) = λ i. Some (record { ins = had.table.ins; outs = had.table.outs; has_default = is_some_or had.table.otherwise (default_said vars had.table.ins had.table.outs words) i })
open_drafted vars draft (RowLine words) = of_row draft.standing
  where
    of_row : (standing : Option Standing) → open_of (option_map (row_under vars words) standing) ≡ open_of standing
    of_row None = refl
    of_row (Some had) = refl
