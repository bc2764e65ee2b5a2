use Rattle.std.proofs.Common.{◌≡◌}
use Rattle.node_table.specs.Table.{Grows}
use Rattle.det_core.proofs.Digits.{IsChain}
use Rattle.det_core.proofs.codes.code.Given as goal

abbrev pub invariant-loop-k : goal.invariant-loop-k
invariant-loop-k l = record {
  chain : IsChain l.space l.levels l.number l.k l.rest l.code;
  grows : Grows l.initial.space l.space;
  levels : l.space.levels ≡ l.initial.space.levels;
}
