use Rattle.std.proofs.Common.{refl}
use Rattle.std.specs.List.{IsDistinct}
use Rattle.model_tests.proofs.variables.chooses_variables.Goals as goal

-- 1 and 0 differ
pub of-requires-clause-different : goal.of-requires-clause-different
unfolding IsDistinct
of-requires-clause-different g c = ((refl, tt), (tt, tt))
