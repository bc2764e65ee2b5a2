use Rattle.std.proofs.Common.{◌≡◌, ◌↔◌, Bool, true, false, ℕ, List, Option, inl, inr, if◌then◌else◌, MatchBool, refl, sym, subst}
use Rattle.io_core.specs.Files.{Files}
use Rattle.io_core.specs.Gained.{gained}
use Rattle.net_model.specs.Words.{Word}
use Rattle.net_model.specs.Files.{file_letters}
use Rattle.net_model.proofs.Largest.{safe_words_are_largest}
use Rattle.solution_text.specs.declared.solution.Solution.{Solution}
use Rattle.solution_text.specs.Solutions.{MeansText}
use Rattle.balm_top.specs.Refusals.{topology_of, problem_for}
use Rattle.balm_top.specs.Answers.{IsAnswer, IsVerdict, SolveIsExact, UsageRightly, WriteFaultRightly, MemoryRightly, GainsFrontOfAnswer}
use Rattle.fault_lines.specs.Statuses.{IsFinished}
use Rattle.balm_top.specs.Stops.{Solves, SolvesRightly, AnswersRightly, text_of}
use Rattle.fault_lines.specs.declared.status.Status.{Status}
use Rattle.fault_lines.specs.declared.status.Status.TheVariants.{Done, Negative, Usage, Refused, Limit, NodeLimit, ReadFault, WriteFault, Memory}

-- the status of a finished job
verdict_of : Bool → Status
verdict_of true = Done
verdict_of false = Negative

finished : (has : Bool) → IsFinished (verdict_of has)
unfolding verdict_of
finished true = tt
finished false = tt

-- the verdict on the words of a text
module _ (words : List (List ℕ)) (files : Files) (solution : Solution) (solves : Solves words files solution) where
  verdict_is : (has : Bool) → MatchBool has ((x : Word) × MeansText (problem_for solves.job solves.f solves.s) solution x) ((x : Word) → MeansText (problem_for solves.job solves.f solves.s) solution x → ⊥)
      → IsVerdict (verdict_of has) (MeansText (problem_for solves.job solves.f solves.s) solution)
  unfolding verdict_of
  verdict_is true h = h
  verdict_is false h = h

  -- the text of a solution is the answer
  is_answer : IsAnswer words files (verdict_of solution.has_word) (text_of solution)
  is_answer = record {
    job = solves.job;
    f = solves.f;
    s = solves.s;
    problem = solves.problem;
    automaton = solves.solved.automaton;
    exact = solves.solved.exact;
    solution = safe_words_are_largest (topology_of solves.job (file_letters solves.f) (file_letters solves.s)) _ _ _ solves.solved.exact;
    verdict = verdict_is solution.has_word solves.solved.verdict;
  }

-- statuses that differ
done_is_no_write_fault : Done ≡ WriteFault → ⊥
done_is_no_write_fault is = cc

negative_is_no_write_fault : Negative ≡ WriteFault → ⊥
negative_is_no_write_fault is = cc

memory_is_no_write_fault : Memory ≡ WriteFault → ⊥
memory_is_no_write_fault is = cc

done_is_no_memory : Done ≡ Memory → ⊥
done_is_no_memory is = cc

negative_is_no_memory : Negative ≡ Memory → ⊥
negative_is_no_memory is = cc

-- What the printing of a solution leaves.
module _ (words : List (List ℕ)) (holds : Option Files) (old new : Option (List ℕ)) (faults faults' wants wants' : ℕ) (Told : List ℕ → Type 0) (Quiet : Type 0) (solution : Solution) (solves : SolvesRightly words holds solution) where
  pub answer_is_exact : (status : Status) → AnswersRightly solution old new faults faults' wants wants' Told Quiet status → SolveIsExact words holds old new status
  unfolding verdict_of
  answer_is_exact Done a = λ _ files held.
      (text_of solution, a.0, subst (λ has. IsAnswer words files (verdict_of has) (text_of solution)) a.1 (is_answer words files solution (solves.solves files held)))
  answer_is_exact Negative a = λ _ files held.
      (text_of solution, a.0, subst (λ has. IsAnswer words files (verdict_of has) (text_of solution)) a.1 (is_answer words files solution (solves.solves files held)))
  answer_is_exact Usage a = absurd a
  answer_is_exact Refused a = absurd a
  answer_is_exact Limit a = absurd a
  answer_is_exact NodeLimit a = absurd a
  answer_is_exact ReadFault a = absurd a
  answer_is_exact WriteFault a = λ finished. absurd finished
  answer_is_exact Memory a = λ finished. absurd finished

  pub answer_front : (status : Status) → AnswersRightly solution old new faults faults' wants wants' Told Quiet status → GainsFrontOfAnswer words holds old new status
  answer_front Done a = λ cut. absurd (elim cut [ inl e ↦ cc | inr e ↦ cc ])
  answer_front Negative a = λ cut. absurd (elim cut [ inl e ↦ cc | inr e ↦ cc ])
  answer_front Usage a = absurd a
  answer_front Refused a = absurd a
  answer_front Limit a = absurd a
  answer_front NodeLimit a = absurd a
  answer_front ReadFault a = absurd a
  answer_front WriteFault a = λ _. inr (λ files held. (text_of solution, verdict_of solution.has_word, finished solution.has_word, a.0, is_answer words files solution (solves.solves files held)))
  answer_front Memory a = λ _. inr (λ files held. (text_of solution, verdict_of solution.has_word, finished solution.has_word, a.0, is_answer words files solution (solves.solves files held)))

  pub answer_write_fault : (status : Status) → AnswersRightly solution old new faults faults' wants wants' Told Quiet status → WriteFaultRightly words holds faults faults' Told status
  answer_write_fault Done a = λ is. absurd (done_is_no_write_fault is)
  answer_write_fault Negative a = λ is. absurd (negative_is_no_write_fault is)
  answer_write_fault Usage a = absurd a
  answer_write_fault Refused a = absurd a
  answer_write_fault Limit a = absurd a
  answer_write_fault NodeLimit a = absurd a
  answer_write_fault ReadFault a = absurd a
  answer_write_fault WriteFault a = λ is. (solves.reached, a.1, a.2)
  answer_write_fault Memory a = λ is. absurd (memory_is_no_write_fault is)

  pub answer_memory : (status : Status) → AnswersRightly solution old new faults faults' wants wants' Told Quiet status → MemoryRightly words holds old new wants wants' Told status
  answer_memory Done a = λ is. absurd (done_is_no_memory is)
  answer_memory Negative a = λ is. absurd (negative_is_no_memory is)
  answer_memory Usage a = absurd a
  answer_memory Refused a = absurd a
  answer_memory Limit a = absurd a
  answer_memory NodeLimit a = absurd a
  answer_memory ReadFault a = absurd a
  answer_memory WriteFault a = λ is. absurd (memory_is_no_write_fault (sym is))
  answer_memory Memory a = λ is. (a.1, elim a.2 [ inl kept ↦ inl kept | inr rose ↦ inr (solves.reached, rose) ])

  -- where the words name no job there is no solution
  pub answer_has_job : (status : Status) → UsageRightly words status
  answer_has_job status = λ none. absurd (none solves.reached.job solves.reached.job_is)
