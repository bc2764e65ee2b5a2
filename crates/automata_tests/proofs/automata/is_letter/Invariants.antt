use Rattle.std.proofs.Common.{◌<◌, ℕ, length, get_or}
use Rattle.name_table.specs.ScopeVars.{variable_at}
use Rattle.automata_tests.proofs.automata.is_letter.Given as goal

abbrev pub invariant-loop-var : goal.invariant-loop-var
invariant-loop-var l = (k : ℕ) → k < l.var → get_or l.letter.values.items k 0 < length (variable_at l.scope k).values
