use Rattle.std.proofs.Common.{◌≡◌, ◌*◌, ◌≤◌}
use Rattle.mv_encoding.specs.Layouts.{bits_before}
use Rattle.mv_encoding.proofs.planning.bits_of_letter.Given as goal

abbrev pub invariant-loop-var : goal.invariant-loop-var
invariant-loop-var l = record { before : l.bits ≡ bits_before l.scope l.var; few : l.bits ≤ 32 * l.var }
