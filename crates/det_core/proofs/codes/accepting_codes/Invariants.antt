use Rattle.std.proofs.Common.{◌≡◌, ◌&&◌, nat_lt}
use Rattle.node_table.specs.Table.{Grows}
use Rattle.bdd_ops.specs.Meaning.{StandsFor}
use Rattle.det_core.specs.Automata.{state_at}
use Rattle.det_core.specs.Codes.{code_number}
use Rattle.det_core.proofs.codes.accepting_codes.Given as goal

abbrev pub invariant-loop-state : goal.invariant-loop-state
invariant-loop-state l = record {
  codes : StandsFor l.space l.codes (λ bits. nat_lt (code_number l.levels bits) l.state && (state_at l.det (code_number l.levels bits)).accepting);
  grows : Grows l.initial.space l.space;
  levels : l.space.levels ≡ l.initial.space.levels;
}
