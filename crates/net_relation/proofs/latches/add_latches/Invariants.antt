use Rattle.std.proofs.Common.{◌≡◌, ◌++◌, Bool, List, map, take}
use Rattle.node_table.specs.Table.{Bits, Grows}
use Rattle.net_model.specs.Nets.{latch_of}
use Rattle.net_relation.specs.Relations.{AreFor, latch_values}
use Rattle.net_relation.proofs.latches.add_latches.Given as goal

abbrev pub invariant-loop-place : goal.invariant-loop-place
invariant-loop-place l = record {
  are : (before : List (Bits → Bool)) → AreFor l.initial.space l.initial.parts before → AreFor l.space l.parts (before ++ latch_values l.signals (take l.place (map latch_of l.latches)) (take l.place l.present) (take l.place l.next));
  grows : Grows l.initial.space l.space;
  levels : l.space.levels ≡ l.initial.space.levels;
}
