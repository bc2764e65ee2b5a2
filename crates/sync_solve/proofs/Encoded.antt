-- The diagrams of an automaton, with what they read.
use Rattle.std.proofs.Common.{◌≡◌, ◌==◌, ℕ, List, ◌∙◌, subst}
use Rattle.node_table.specs.Table.{Bits, Table, Grows}
use Rattle.bdd_ops.specs.Meaning.{StandsFor}
use Rattle.part_relation.specs.Plans.{all_hold, AreValid}
use Rattle.det_core.specs.Automata.{State, state_at}
use Rattle.det_core.specs.Codes.{code_number, steps_by}
use Rattle.subset_build.proofs.Making.{holds-grow}
use Rattle.sync_solve.specs.Codes.{code_levels, next_levels, AreCoded}
use Rattle.sync_solve.proofs.Files.{valid-grow}

pub coded-are : (base s t : Table) (det : List State) (first digits : ℕ) (parts : List ℕ) (init acc : ℕ) (present next : List ℕ) → present ≡ code_levels first digits → next ≡ next_levels first digits → Grows s t → AreValid s parts
    → ((bits : Bits) → all_hold s parts bits ≡ steps_by base det (code_number present bits) bits (code_number next bits))
    → StandsFor t init (λ bits. code_number present bits == 0) → StandsFor t acc (λ bits. (state_at det (code_number present bits)).accepting)
    → AreCoded base t det first digits parts init acc
coded-are base s t det first digits parts init acc present next present_is next_is grow valid steps initial accepting = record {
  valid = valid-grow s t grow parts valid;
  steps = λ u. holds-grow s t grow parts valid u ∙ steps u ∙ (λ i. steps_by base det (code_number (present_is i) u) u (code_number (next_is i) u));
  initial = subst (λ levels. StandsFor t init (λ bits. code_number levels bits == 0)) present_is initial;
  accepting = subst (λ levels. StandsFor t acc (λ bits. (state_at det (code_number levels bits)).accepting)) present_is accepting;
}
