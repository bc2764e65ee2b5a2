use Rattle.std.proofs.Common.{◌≡◌, ◌≤◌, [], length}
use Rattle.std.specs.List.{filter_map}
use Rattle.lex_core.specs.LogicalLines.{logical_lines}
use Rattle.net_model.specs.Forms.{said_by}
use Rattle.net_model.specs.NetTexts.{text_in}
use Rattle.blifmv_names.specs.Signals.{signals_from}
use Rattle.blifmv_names.specs.LineFaults.{first_fault, nothing_above}
use Rattle.blifmv_names.proofs.first_pass.read_signals.Given as goal

abbrev pub invariant-loop-line : goal.invariant-loop-line
invariant-loop-line l = record {
  fault : first_fault l.place l.signals l.lines ≡ first_fault nothing_above [] (logical_lines l.bytes);
  signals : signals_from l.signals (filter_map said_by l.lines) ≡ signals_from [] (text_in l.bytes);
  rows : l.place.rows ≤ 1000000;
  few : length l.signals ≤ 4096;
}

abbrev pub decreases-loop-line : goal.decreases-loop-line
decreases-loop-line l = length l.lines
