use Rattle.std.proofs.Common.{◌≡◌, None, length}
use Rattle.std.specs.List.{filter_map}
use Rattle.net_model.specs.Forms.{said_by}
use Rattle.net_model.specs.NetTexts.{text_in, rows_stand}
use Rattle.blifmv_tables.specs.Drafts.{nothing_said, draft_from, open_of, latches_fit}
use Rattle.blifmv_tables.specs.RowFaults.{first_fault, row_fault}
use Rattle.blifmv_tables.specs.Saying.{draft_of}
use Rattle.blifmv_tables.proofs.second_pass.read_draft.Given as goal

abbrev pub invariant-loop-line : goal.invariant-loop-line
invariant-loop-line l = record {
  draft : draft_from l.names (draft_of l.draft) (filter_map said_by l.lines) ≡ draft_from l.names nothing_said (text_in l.bytes);
  fault : first_fault l.names (open_of (draft_of l.draft).standing) l.lines ≡ row_fault l.names l.bytes;
  rows : rows_stand l.names (open_of (draft_of l.draft).standing) (filter_map said_by l.lines) ≡ rows_stand l.names None (text_in l.bytes);
  latches : latches_fit l.names (filter_map said_by l.lines) ≡ latches_fit l.names (text_in l.bytes);
}

abbrev pub decreases-loop-line : goal.decreases-loop-line
decreases-loop-line l = length l.lines
