use Rattle.std.specs.Prelude.{ℕ, Bool, true, false, not, List, [], ◌∷◌, ◌++◌, ◌==◌, length, Option, Some, None, if◌then◌else◌, is_some}
use Rattle.std.specs.Option.{option_map, option_or}
use Rattle.std.specs.List.{list_all}
use Rattle.net_model.specs.Spellings.{domain_at}
use Rattle.net_model.specs.Words.{Scope}
use Rattle.net_model.specs.Forms.{Name, Form, ModelLine, InputsLine, OutputsLine, DomainsLine, TableLine, ResetLine, LatchLine, DefaultLine, EndLine, RowLine}
use Rattle.net_model.specs.Nets.{Entry, Row, Table, Latch, Net}
use Rattle.net_model.specs.NetTexts.{distinct, place_in, places_in, row_said, default_said, OpenTable}

-- A network as far as the lines above say it.

-- the table that stands open, and whether it is a reset table
pub record Standing : Type 0 where
  pub is_reset : Bool
  pub table : Table

pub record Draft : Type 0 where
  pub inputs : List ℕ
  pub outputs : List Name
  pub tables : List Table
  pub latches : List Latch
  pub resets : List Table
  pub standing : Option Standing

abbrev pub nothing_said : Draft
nothing_said = record { inputs = []; outputs = []; tables = []; latches = []; resets = []; standing = None }

-- the table that stood open, where this test takes it: a table, and not a reset table, or the other way round
abbrev pub kept : (Bool → Bool) → Option Standing → List Table
kept test None = []
kept test (Some had) = if test had.is_reset then had.table ∷ [] else []

abbrev pub is_reset_table : Bool → Bool
is_reset_table is_reset = is_reset

-- no table stands open any more
abbrev pub closed : Draft → Draft
closed draft = record draft {
  tables = draft.tables ++ kept not draft.standing;
  resets = draft.resets ++ kept is_reset_table draft.standing;
  standing = None;
}

abbrev pub with_row : Row → Standing → Standing
with_row row had = record had { table = record had.table { rows = had.table.rows ++ row ∷ [] } }

abbrev pub with_default : List Entry → Standing → Standing
with_default entries had = record had { table = record had.table { otherwise = option_or had.table.otherwise (Some entries) } }

abbrev pub opens : Bool → Scope → List Name → List Name → Option Standing
opens is_reset vars ins outs =
    Some (record { is_reset = is_reset; table = record { ins = places_in vars ins; outs = places_in vars outs; rows = []; otherwise = None } })

-- the row and the default that words say under the table that stands open
abbrev pub row_under : Scope → List Name → Standing → Standing
row_under vars words had = with_row (row_said vars had.table.ins had.table.outs words) had

abbrev pub default_at : Scope → List Name → Standing → Standing
default_at vars words had = with_default (default_said vars had.table.ins had.table.outs words) had

abbrev pub draft_behind : Scope → Draft → Form → Draft
draft_behind vars draft (ModelLine names) = closed draft
draft_behind vars draft (InputsLine names) = record (closed draft) { inputs = draft.inputs ++ places_in vars names }
draft_behind vars draft (OutputsLine names) = record (closed draft) { outputs = distinct draft.outputs names }
draft_behind vars draft (DomainsLine names count values) = closed draft
draft_behind vars draft (TableLine ins outs) = record (closed draft) { standing = opens false vars ins outs }
draft_behind vars draft (ResetLine ins outs) = record (closed draft) { standing = opens true vars ins outs }
draft_behind vars draft (LatchLine input output) =
    record (closed draft) { latches = draft.latches ++ record { input = place_in vars input; output = place_in vars output } ∷ [] }
draft_behind vars draft (DefaultLine words) = record draft { standing = option_map (default_at vars words) draft.standing }
draft_behind vars draft EndLine = closed draft
draft_behind vars draft (RowLine words) = record draft { standing = option_map (row_under vars words) draft.standing }

abbrev pub draft_from : Scope → Draft → List Form → Draft
draft_from vars draft [] = draft
draft_from vars draft (form ∷ text) = draft_from vars (draft_behind vars draft form) text

-- the columns of the table that stands open, and whether it has had its default
abbrev pub open_of : Option Standing → Option OpenTable
open_of standing = option_map (λ had. record { ins = had.table.ins; outs = had.table.outs; has_default = is_some had.table.otherwise }) standing

-- the network of a whole text's draft
abbrev pub net_of_draft : Scope → Draft → Net
net_of_draft vars draft = record {
  names = vars;
  inputs = draft.inputs;
  outputs = places_in vars draft.outputs;
  tables = draft.tables ++ kept not draft.standing;
  latches = draft.latches;
  resets = draft.resets ++ kept is_reset_table draft.standing;
}

-- the two signals of a latch have as many values
abbrev pub latch_fits : Scope → Form → Bool
latch_fits vars (LatchLine input output) = length (domain_at vars (place_in vars input)) == length (domain_at vars (place_in vars output))
latch_fits vars _ = true

-- so have those of each latch of the text
abbrev pub latches_fit : Scope → List Form → Bool
latches_fit vars text = list_all (latch_fits vars) text
