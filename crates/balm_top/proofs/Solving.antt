-- The solution of the problem is that of the job.
use Rattle.std.proofs.Common.{◌≡◌, ◌≤◌, ◌<◌, ◌⊎◌, inl, inr, refl, sym, subst}
use Rattle.std.specs.Prelude.{Result, Ok, Err, None, IfOk, IfErr, OnOk, OnErr}
use Rattle.net_model.specs.Files.{File}
use Rattle.net_model.specs.Problems.{Problem}
use Rattle.net_problem.specs.ProblemBits.{problem_bits}
use Rattle.job_words.specs.Jobs.{Job}
use Rattle.fault_lines.specs.declared.stop.Stop.{Stop}
use Rattle.fault_lines.specs.declared.stop.Stop.TheVariants.{TooManyBits, Memory}
use Rattle.solution_text.specs.declared.solution.Solution.{Solution}
use Rattle.solution_text.specs.declared.solution.Halt.{Halt}
use Rattle.solution_text.specs.declared.solution.Halt.TheVariants as halts
use Rattle.solution_text.specs.Solutions.{IsSolutionOf}
use Rattle.balm_top.specs.Refusals.{AcceptsNames, problem_for}
use Rattle.balm_top.specs.Stops.{IsWorkable, IsSolved, StopsWork}

module _ (job : Job) (f s : File) (problem : Problem) (is : problem ≡ problem_for job f s) (names : AcceptsNames job f s) where
  pub solved_for : (found : Result Solution Halt) (result : Result Solution Stop) → IfOk result (λ solution. found ≡ Ok solution) → IfOk found (IsSolutionOf problem) → OnOk found (problem_bits problem None ≤ 2000)
      → IfOk result (λ solution. IsWorkable job f s × IsSolved job f s solution)
  solved_for found (Err stop) same solved few = tt
  solved_for found (Ok solution) same solved few =
      let Few : Result Solution Halt → Type 0 = λ r. OnOk r (problem_bits problem None ≤ 2000) in
      let Solved : Result Solution Halt → Type 0 = λ r. IfOk r (IsSolutionOf problem) in
      ((names, subst (λ p. problem_bits p None ≤ 2000) is (subst Few same few)), subst (λ p. IsSolutionOf p solution) is (subst Solved same solved))

  pub stopped_for : (found : Result Solution Halt) (result : Result Solution Stop) → OnErr result (((result ≡ Err TooManyBits) × (found ≡ Err halts.Bits)) ⊎ (result ≡ Err Memory)) → (found ≡ Err halts.Bits → 2000 < problem_bits problem None)
      → IfErr result (StopsWork job f s)
  stopped_for found (Ok solution) cause many = tt
  stopped_for found (Err stop) (inl (is_bits, halted)) many = subst (λ (r : Result Solution Stop). IfErr r (StopsWork job f s)) (sym is_bits) (names, subst (λ p. 2000 < problem_bits p None) is (many halted))
  stopped_for found (Err stop) (inr is_memory) many = subst (λ (r : Result Solution Stop). IfErr r (StopsWork job f s)) (sym is_memory) tt
