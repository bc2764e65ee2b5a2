use Rattle.std.specs.Prelude.{Bool, true, map, Option, Some, None}
use Rattle.std.specs.Option.{option_map}
use Rattle.net_model.specs.Words.{Scope}
use Rattle.net_model.specs.Forms.{Form}
use Rattle.net_model.specs.Nets.{table_of, latch_of}
use Rattle.net_model.specs.NetTexts.{line_stands}
use Rattle.blifmv_tables.specs.declared.draft.Standing as declared_standing
use Rattle.blifmv_tables.specs.declared.draft.Draft as declared_draft
use Rattle.blifmv_tables.specs.Drafts.{Standing, Draft, draft_behind, open_of, latch_fits}

-- What a draft of the code says.

abbrev pub standing_of : declared_standing.Standing → Standing
standing_of had = record { is_reset = had.is_reset; table = table_of had.table }

abbrev pub draft_of : declared_draft.Draft → Draft
draft_of draft = record {
  inputs = map (λ v. v.0) draft.inputs.items;
  outputs = draft.outputs;
  tables = map table_of draft.tables.items;
  latches = map latch_of draft.latches.items;
  resets = map table_of draft.resets.items;
  standing = option_map standing_of draft.standing;
}

-- the draft behind a line, which has the form of its directive or says nothing
abbrev pub draft_by : Scope → Draft → Option Form → Draft
draft_by vars draft None = draft
draft_by vars draft (Some form) = draft_behind vars draft form

abbrev pub stands_by : Scope → Draft → Option Form → Bool
stands_by vars draft None = true
stands_by vars draft (Some form) = line_stands vars (open_of draft.standing) form

abbrev pub fits_by : Scope → Option Form → Bool
fits_by vars None = true
fits_by vars (Some form) = latch_fits vars form
