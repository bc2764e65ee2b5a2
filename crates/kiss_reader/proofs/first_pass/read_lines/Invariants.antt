use Rattle.std.proofs.Common.{◌≡◌, ◌≤◌, [], length}
use Rattle.std.specs.List.{filter_map, flat_map}
use Rattle.lex_core.specs.LogicalLines.{logical_lines}
use Rattle.net_model.specs.NetTexts.{distinct}
use Rattle.net_model.specs.KissForms.{kiss_said_by}
use Rattle.net_model.specs.KissTexts.{kiss_text_in, states_on, states_in}
use Rattle.kiss_reader.specs.Above.{nothing_above, places_from, fault_from}
use Rattle.kiss_reader.specs.Header.{header_said, nothing_given, headers_from}
use Rattle.kiss_reader.proofs.first_pass.read_lines.Given as goal

abbrev pub invariant-loop-line : goal.invariant-loop-line
invariant-loop-line l = record {
  fault : fault_from l.place l.columns l.states l.lines ≡ fault_from nothing_above [] [] (logical_lines l.bytes);
  place : places_from l.place (filter_map kiss_said_by l.lines) ≡ places_from nothing_above (kiss_text_in l.bytes);
  header : headers_from (header_said l.header) (filter_map kiss_said_by l.lines) ≡ headers_from nothing_given (kiss_text_in l.bytes);
  states : distinct l.states (flat_map states_on (filter_map kiss_said_by l.lines)) ≡ states_in (kiss_text_in l.bytes);
  rows : l.place.rows ≤ 1000000;
  few_columns : length l.columns ≤ 4096;
  few_states : length l.states ≤ 65536;
}

abbrev pub decreases-loop-line : goal.decreases-loop-line
decreases-loop-line l = length l.lines
