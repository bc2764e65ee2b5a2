use Rattle.std.proofs.Common.{◌≡◌, ◌+◌, ◌≤◌, ◌-◌, ◌^◌, length, drop}
use Rattle.aut_format.specs.Rows.{rows_from}
use Rattle.aut_format.specs.Counts.{at_most_64_bits}
use Rattle.aut_format.specs.Memos.{AreRight}
use Rattle.aut_format.proofs.counts.rows_of.Given as goal

abbrev pub invariant-loop-state : goal.invariant-loop-state
invariant-loop-state l = record {
  right : AreRight l.space l.counts;
  few : l.rows ≤ 2 ^ 64 - 1;
  counted : at_most_64_bits (l.rows + length (rows_from l.space l.coding l.state (drop l.state l.det))) ≡ at_most_64_bits (length (rows_from l.space l.coding 0 l.det));
}
