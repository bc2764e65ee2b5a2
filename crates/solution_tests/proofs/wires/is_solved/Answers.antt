use Rattle.std.proofs.Common.{◌≡◌, sym, subst}
use Rattle.mv_encoding.specs.Layouts.{Layout}
use Rattle.det_core.specs.Automata.{MeetsRule}
use Rattle.det_core.specs.Languages.{letters_of}
use Rattle.solution_tests.proofs.wires.is_solved.Goals as goal

pub is_counted-requires-clause-rule : goal.is_counted-requires-clause-rule
is_counted-requires-clause-rule c =
    subst (λ (x : Layout). MeetsRule c.solved.new.space (letters_of x) c.in_ok-det.det) (sym c.x-letters.ensures) c.in_ok-det.ensures.rule

pub is_printed-requires-clause-rule : goal.is_printed-requires-clause-rule
is_printed-requires-clause-rule c =
    subst (λ (x : Layout). MeetsRule c.solved.new.space (letters_of x) c.in_ok-det.det) (sym c.x-letters.ensures) c.in_ok-det.ensures.rule

pub has_words-requires-clause-rule : goal.has_words-requires-clause-rule
has_words-requires-clause-rule c =
    subst (λ (x : Layout). MeetsRule c.solved.new.space (letters_of x) c.in_ok-det.det) (sym c.x-letters.ensures) c.in_ok-det.ensures.rule
