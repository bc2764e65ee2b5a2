use Rattle.std.proofs.Common.{arith}
use Rattle.blifmv_lines.proofs.Listed.{count_place-short}
use Rattle.blifmv_lines.proofs.shapes.count_place.Goals as goal

-- where fewer than two words are left there is no such place
pub returns-clause-place : goal.returns-clause-place
returns-clause-place c = rw (count_place-short c.loop-left.left.now (omega arith)) at c.loop-left.invariant.place
