use Rattle.std.proofs.Common.{◌≡◌, All, length}
use Rattle.node_table.specs.Table.{Grows}
use Rattle.bdd_ops.specs.Meaning.{StandsFor}
use Rattle.det_core.specs.Automata.{states_of, TargetsBelow, MeetsRule}
use Rattle.det_core.specs.Languages.{letters_of}
use Rattle.automata_tests.proofs.automata.det_of.Given as goal

abbrev pub invariant-loop-single : goal.invariant-loop-single
invariant-loop-single l = record {
  letters : StandsFor l.space l.valid (letters_of l.letters);
  rule : MeetsRule l.space (letters_of l.letters) (states_of l.states.items);
  targets : All (λ s. TargetsBelow (length l.singles) s.moves) (states_of l.states.items);
  count : length l.states.items ≡ l.single-index;
  grows : Grows l.initial.space l.space;
}
