use Rattle.std.proofs.Common.{◌≡◌, ◌++◌, length, map}
use Rattle.std.specs.List.{filter_map, flat_map}
use Rattle.lex_core.specs.LogicalLines.{logical_lines}
use Rattle.net_model.specs.KissForms.{kiss_said_by}
use Rattle.net_model.specs.KissTexts.{kiss_text_in, kiss_rows_on}
use Rattle.net_model.specs.Machines.{kiss_row_of}
use Rattle.kiss_reader.specs.SecondPass.{rows_fault}
use Rattle.kiss_reader.proofs.second_pass.read_rows.Given as goal

abbrev pub invariant-loop-line : goal.invariant-loop-line
invariant-loop-line l = record {
  fault : rows_fault l.repeats l.states l.last l.lines ≡ rows_fault l.repeats l.states 0 (logical_lines l.bytes);
  rows : map kiss_row_of l.rows.items ++ flat_map (kiss_rows_on l.states) (filter_map kiss_said_by l.lines)
      ≡ flat_map (kiss_rows_on l.states) (kiss_text_in l.bytes);
}

abbrev pub decreases-loop-line : goal.decreases-loop-line
decreases-loop-line l = length l.lines
