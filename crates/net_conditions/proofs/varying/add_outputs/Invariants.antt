use Rattle.std.proofs.Common.{◌≡◌, false, map, take}
use Rattle.net_model.specs.Nets.{table_of, net_of}
use Rattle.net_conditions.specs.Marks.{GrowsIf}
use Rattle.net_conditions.specs.Rounds.{AreVarying, IsClosed}
use Rattle.net_conditions.proofs.varying.add_outputs.Given as goal

abbrev pub invariant-loop-table : goal.invariant-loop-table
invariant-loop-table l = record {
  varying : AreVarying (net_of l.net) l.varying;
  grown : GrowsIf l.grown l.fn.varying l.varying;
  closed : l.grown ≡ false → IsClosed (map table_of (take l.table-index l.net.tables.items)) l.varying;
}
