-- The network that a text says is sound.
use Rattle.std.proofs.Common.{◌≡◌, ℕ, Bool, true, false, List, [], ◌∷◌, map, Option, Some, None, is_some, unwrap_or, MatchOption, refl, sym, ◌∙◌, ap, subst}
use Rattle.std.specs.Option.{option_map}
use Rattle.std.specs.List.{All, AllByRecursion, AllZip}
use Rattle.std.proofs.lemmas.Bool.{false≢true, and_parts}
use Rattle.std.proofs.lemmas.List.Elements.{All-nil, All-cons, All-append}
use Rattle.name_table.specs.Variables.{IsTable}
use Rattle.net_model.specs.Words.{Scope}
use Rattle.net_model.specs.Forms.{Name, Form, ModelLine, InputsLine, OutputsLine, DomainsLine, TableLine, ResetLine, LatchLine, DefaultLine, EndLine, RowLine}
use Rattle.net_model.specs.Nets.{Entry, Table, Net}
use Rattle.net_model.specs.Spellings.{row_spelled, default_spelled}
use Rattle.net_model.specs.Conditions.{MeetsConditions}
use Rattle.net_model.specs.NetTexts.{variables_in, places_in, row_said, default_said, rows_under, default_under, table_said, tables_on, resets_on, tables_in, resets_in, net_with, open_behind, rows_stand, OpenTable}
use Rattle.net_model.specs.SoundNets.{IsRowOf, IsOutputEntry, IsTableOf, IsSound}
use Rattle.blifmv_reader.proofs.Entries.{sizes_in, row_within, default_within}
use Rattle.net_model.specs.Written.{IsTextVariable}
use Rattle.blifmv_reader.proofs.Signals.{known_signals, outputs_once}

-- rows and the default under a table

said_row : (vars : Scope) (ins outs : List ℕ) (words : List Name) → is_some (row_spelled vars ins outs words) ≡ true → IsRowOf (sizes_in vars ins) (sizes_in vars outs) (row_said vars ins outs words)
said_row vars ins outs words h =
    elim (row_spelled vars ins outs words) as (λ o. row_spelled vars ins outs words ≡ o → is_some o ≡ true → IsRowOf (sizes_in vars ins) (sizes_in vars outs) (unwrap_or o (record { ins = []; outs = [] }))) [
      | None ↦ λ is e. absurd (false≢true e)
      | Some row ↦ λ is e. row_within vars ins outs words row is
    ] refl h

said_default : (vars : Scope) (ins outs : List ℕ) (words : List Name) → is_some (default_spelled vars ins outs words) ≡ true → AllZip (IsOutputEntry (sizes_in vars ins)) (sizes_in vars outs) (default_said vars ins outs words)
said_default vars ins outs words h =
    elim (default_spelled vars ins outs words) as (λ o. default_spelled vars ins outs words ≡ o → is_some o ≡ true → AllZip (IsOutputEntry (sizes_in vars ins)) (sizes_in vars outs) (unwrap_or o [])) [
      | None ↦ λ is e. absurd (false≢true e)
      | Some entries ↦ λ is e. default_within vars ins outs words entries is
    ] refl h

rows_sound : (vars : Scope) (ins outs : List ℕ) (had : Bool) (under : List Form) → rows_stand vars (Some (record { ins = ins; outs = outs; has_default = had })) under ≡ true → All (IsRowOf (sizes_in vars ins) (sizes_in vars outs)) (map (row_said vars ins outs) (rows_under under))
rows_sound vars ins outs had [] h = All-nil (IsRowOf (sizes_in vars ins) (sizes_in vars outs))
rows_sound vars ins outs had (ModelLine names ∷ under) h = All-nil (IsRowOf (sizes_in vars ins) (sizes_in vars outs))
rows_sound vars ins outs had (InputsLine names ∷ under) h = All-nil (IsRowOf (sizes_in vars ins) (sizes_in vars outs))
rows_sound vars ins outs had (OutputsLine names ∷ under) h = All-nil (IsRowOf (sizes_in vars ins) (sizes_in vars outs))
rows_sound vars ins outs had (DomainsLine names count values ∷ under) h = All-nil (IsRowOf (sizes_in vars ins) (sizes_in vars outs))
rows_sound vars ins outs had (TableLine i o ∷ under) h = All-nil (IsRowOf (sizes_in vars ins) (sizes_in vars outs))
rows_sound vars ins outs had (ResetLine i o ∷ under) h = All-nil (IsRowOf (sizes_in vars ins) (sizes_in vars outs))
rows_sound vars ins outs had (LatchLine input output ∷ under) h = All-nil (IsRowOf (sizes_in vars ins) (sizes_in vars outs))
rows_sound vars ins outs had (EndLine ∷ under) h = All-nil (IsRowOf (sizes_in vars ins) (sizes_in vars outs))
rows_sound vars ins outs had (DefaultLine words ∷ under) h = rows_sound vars ins outs true under (and_parts _ _ h).1
rows_sound vars ins outs had (RowLine words ∷ under) h =
    let parts = and_parts _ _ h in
    All-cons (IsRowOf (sizes_in vars ins) (sizes_in vars outs)) (row_said vars ins outs words) (map (row_said vars ins outs) (rows_under under)) (said_row vars ins outs words parts.0) (rows_sound vars ins outs had under parts.1)

abbrev DefaultFits : Scope → List ℕ → List ℕ → Option (List Entry) → Type 0
DefaultFits vars ins outs default = MatchOption default (Unit {0}) (AllZip (IsOutputEntry (sizes_in vars ins)) (sizes_in vars outs))

default_sound : (vars : Scope) (ins outs : List ℕ) (had : Bool) (under : List Form) → rows_stand vars (Some (record { ins = ins; outs = outs; has_default = had })) under ≡ true → DefaultFits vars ins outs (option_map (default_said vars ins outs) (default_under under))
default_sound vars ins outs had [] h = tt
default_sound vars ins outs had (ModelLine names ∷ under) h = tt
default_sound vars ins outs had (InputsLine names ∷ under) h = tt
default_sound vars ins outs had (OutputsLine names ∷ under) h = tt
default_sound vars ins outs had (DomainsLine names count values ∷ under) h = tt
default_sound vars ins outs had (TableLine i o ∷ under) h = tt
default_sound vars ins outs had (ResetLine i o ∷ under) h = tt
default_sound vars ins outs had (LatchLine input output ∷ under) h = tt
default_sound vars ins outs had (EndLine ∷ under) h = tt
default_sound vars ins outs had (RowLine words ∷ under) h = default_sound vars ins outs had under (and_parts _ _ h).1
default_sound vars ins outs had (DefaultLine words ∷ under) h = said_default vars ins outs words (and_parts _ _ (and_parts _ _ h).0).1

-- tables

table_sound : (net : Net) (ins outs : List ℕ) (under : List Form) → rows_stand net.names (Some (record { ins = ins; outs = outs; has_default = false })) under ≡ true → IsTableOf net (table_said net.names ins outs under)
table_sound net ins outs under h = record {
  rows = rows_sound net.names ins outs false under h;
  otherwise = default_sound net.names ins outs false under h;
}

one : (net : Net) (table : Table) → IsTableOf net table → All (IsTableOf net) (table ∷ [])
one net table h = All-cons (IsTableOf net) table [] h (All-nil (IsTableOf net))

tables_sound : (net : Net) (form : Form) (open_table : Option OpenTable) (under : List Form) → rows_stand net.names (open_behind net.names open_table form) under ≡ true → All (IsTableOf net) (tables_on net.names form under)
tables_sound net (ModelLine names) open_table under h = All-nil (IsTableOf net)
tables_sound net (InputsLine names) open_table under h = All-nil (IsTableOf net)
tables_sound net (OutputsLine names) open_table under h = All-nil (IsTableOf net)
tables_sound net (DomainsLine names count values) open_table under h = All-nil (IsTableOf net)
tables_sound net (TableLine ins outs) open_table under h = one net _ (table_sound net (places_in net.names ins) (places_in net.names outs) under h)
tables_sound net (ResetLine ins outs) open_table under h = All-nil (IsTableOf net)
tables_sound net (LatchLine input output) open_table under h = All-nil (IsTableOf net)
tables_sound net (DefaultLine words) open_table under h = All-nil (IsTableOf net)
tables_sound net EndLine open_table under h = All-nil (IsTableOf net)
tables_sound net (RowLine words) open_table under h = All-nil (IsTableOf net)

resets_sound : (net : Net) (form : Form) (open_table : Option OpenTable) (under : List Form) → rows_stand net.names (open_behind net.names open_table form) under ≡ true → All (IsTableOf net) (resets_on net.names form under)
resets_sound net (ModelLine names) open_table under h = All-nil (IsTableOf net)
resets_sound net (InputsLine names) open_table under h = All-nil (IsTableOf net)
resets_sound net (OutputsLine names) open_table under h = All-nil (IsTableOf net)
resets_sound net (DomainsLine names count values) open_table under h = All-nil (IsTableOf net)
resets_sound net (TableLine ins outs) open_table under h = All-nil (IsTableOf net)
resets_sound net (ResetLine ins outs) open_table under h = one net _ (table_sound net (places_in net.names ins) (places_in net.names outs) under h)
resets_sound net (LatchLine input output) open_table under h = All-nil (IsTableOf net)
resets_sound net (DefaultLine words) open_table under h = All-nil (IsTableOf net)
resets_sound net EndLine open_table under h = All-nil (IsTableOf net)
resets_sound net (RowLine words) open_table under h = All-nil (IsTableOf net)

all_tables_sound : (net : Net) (open_table : Option OpenTable) (text : List Form) → rows_stand net.names open_table text ≡ true → All (IsTableOf net) (tables_in net.names text)
all_tables_sound net open_table [] h = All-nil (IsTableOf net)
all_tables_sound net open_table (form ∷ text) h =
    let rest = (and_parts _ _ h).1 in
    All-append (IsTableOf net) (tables_on net.names form text) (tables_in net.names text) (tables_sound net form open_table text rest)
    (all_tables_sound net (open_behind net.names open_table form) text rest)

all_resets_sound : (net : Net) (open_table : Option OpenTable) (text : List Form) → rows_stand net.names open_table text ≡ true → All (IsTableOf net) (resets_in net.names text)
all_resets_sound net open_table [] h = All-nil (IsTableOf net)
all_resets_sound net open_table (form ∷ text) h =
    let rest = (and_parts _ _ h).1 in
    All-append (IsTableOf net) (resets_on net.names form text) (resets_in net.names text) (resets_sound net form open_table text rest)
    (all_resets_sound net (open_behind net.names open_table form) text rest)

sound_said : (text : List Form) → IsTable (variables_in text) → AllByRecursion IsTextVariable (variables_in text) → rows_stand (variables_in text) None text ≡ true → MeetsConditions (net_with (variables_in text) text) → IsSound (net_with (variables_in text) text)
sound_said text table names rows conditions =
    let net = net_with (variables_in text) text in
    record {
      known = known_signals text table;
      names = names;
      outputs_once = outputs_once text;
      tables = all_tables_sound net None text rows;
      resets = all_resets_sound net None text rows;
      conditions = conditions;
    }

-- a network that was read is sound
pub sound_net : (text : List Form) (vars : Scope) (net : Net) → IsTable vars → AllByRecursion IsTextVariable (variables_in text) → vars ≡ variables_in text → rows_stand vars None text ≡ true → net ≡ net_with vars text → MeetsConditions net → IsSound net
sound_net text vars net table names is rows says conditions =
    let same : net ≡ net_with (variables_in text) text = says ∙ ap (λ v. net_with v text) is in
    subst IsSound (sym same)
    (sound_said text (subst IsTable is table) names (ap (λ v. rows_stand v None text) (sym is) ∙ rows) (subst MeetsConditions same conditions))
