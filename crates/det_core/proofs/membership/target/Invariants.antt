use Rattle.std.proofs.Common.{◌≡◌, drop}
use Rattle.node_table.specs.Table.{Bits}
use Rattle.bdd_ops.specs.Words.{bit_of}
use Rattle.mv_encoding.specs.Sets.{HasCode}
use Rattle.det_core.specs.Automata.{target_of}
use Rattle.det_core.proofs.membership.target.Given as goal

abbrev pub invariant-loop-m : goal.invariant-loop-m
invariant-loop-m l = (bits : Bits) → HasCode l.coding (bit_of l.code) bits → target_of l.space l.moves bits ≡ target_of l.space (drop l.m-index l.moves) bits
