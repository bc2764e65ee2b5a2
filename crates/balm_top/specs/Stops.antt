use Rattle.std.specs.Prelude.{◌≡◌, ◌≤◌, ◌<◌, ◌⊎◌, ℕ, true, false, List, Option, Some, None}
use Rattle.io_core.specs.Files.{Files}
use Rattle.io_core.specs.Causes.{Rose}
use Rattle.io_core.specs.Gained.{gained, GainsFrontOf}
use Rattle.net_model.specs.Files.{File}
use Rattle.net_model.specs.Problems as problems
use Rattle.solution_text.specs.declared.solution.Solution.{Solution}
use Rattle.solution_text.specs.Solutions.{IsSolutionOf}
use Rattle.job_words.specs.Jobs.{Job, IsJob, HasNoJob}
use Rattle.fault_lines.specs.Lines.{write_line, memory_line}
use Rattle.fault_lines.specs.Stops.{told_refusal}
use Rattle.fault_lines.specs.declared.status.Status.{Status}
use Rattle.fault_lines.specs.declared.status.Status.TheVariants as status
use Rattle.fault_lines.specs.declared.stop.Stop.{Stop}
use Rattle.fault_lines.specs.declared.stop.Stop.TheVariants.{NoJob, Unreadable, TooLong, Faulty, BadNames, TooManyBits, Memory}
use Rattle.balm_top.specs.Answers.{ReachesOutput}
use Rattle.balm_top.specs.Refusals as refusals
use Rattle.balm_top.specs.Refusals.{Refuses, IsReached, RefusesNames, AcceptsNames, problem_for, bits_of_job, IsProblem}

-- What the steps inside promise each other.

-- the words name a job, and where the shelf tells its files, the words and these files are refused so
pub record RefusesHeld (words : List (List ℕ)) (holds : Option Files) (refusal : refusals.Refusal) : Type 0 where
  pub job : Job
  pub job_is : IsJob words job
  pub refuses : (files : Files) → holds ≡ Some files → Refuses words files refusal

abbrev pub RefusesNamesHeld : List (List ℕ) → Option Files → Option problems.NameRefusal → Type 0
RefusesNamesHeld words holds None = Unit {0}
RefusesNamesHeld words holds (Some refusal) = RefusesHeld words holds (refusals.BadNames refusal)

-- the cause of a stop
abbrev pub StopsRightly : List (List ℕ) → Option Files → (List ℕ → ℕ) → (List ℕ → ℕ) → Stop → Type 0
StopsRightly words holds faults faults' NoJob = HasNoJob words
StopsRightly words holds faults faults' (Unreadable name) =
    (job : Job)
    × IsJob words job
    × ((name.now ≡ job.f) ⊎ (name.now ≡ job.s))
    × Rose (faults name.now) (faults' name.now)
    × ((files : Files) → holds ≡ Some files → IsReached files job name.now)
StopsRightly words holds faults faults' (TooLong name) = RefusesHeld words holds (refusals.TooLong name.now)
StopsRightly words holds faults faults' (Faulty name line kind) = RefusesHeld words holds (refusals.Faulty name.now line kind)
StopsRightly words holds faults faults' (BadNames refusal) = RefusesNamesHeld words holds (told_refusal refusal)
StopsRightly words holds faults faults' TooManyBits = RefusesHeld words holds refusals.TooManyBits
StopsRightly words holds faults faults' Memory = Unit {0}

-- the names make a problem that has few enough bits
abbrev pub IsWorkable : Job → File → File → Type 0
IsWorkable job f s = AcceptsNames job f s × (bits_of_job job f s ≤ 2000)

abbrev pub RefusesNamesOf : Job → File → File → Option problems.NameRefusal → Type 0
RefusesNamesOf job f s None = Unit {0}
RefusesNamesOf job f s (Some refusal) = RefusesNames job f s refusal

-- the cause of a stop once both files are read
abbrev pub StopsWork : Job → File → File → Stop → Type 0
StopsWork job f s NoJob = ⊥
StopsWork job f s (Unreadable name) = ⊥
StopsWork job f s (TooLong name) = ⊥
StopsWork job f s (Faulty name line kind) = ⊥
StopsWork job f s (BadNames refusal) = RefusesNamesOf job f s (told_refusal refusal)
StopsWork job f s TooManyBits = AcceptsNames job f s × (2000 < bits_of_job job f s)
StopsWork job f s Memory = Unit {0}

-- the solution of a job whose files are these
abbrev pub IsSolved : Job → File → File → Solution → Type 0
IsSolved job f s solution = IsSolutionOf (problem_for job f s) solution

-- the words name a job of which nothing is refused, and this is its solution
pub record Solves (words : List (List ℕ)) (files : Files) (solution : Solution) : Type 0 where
  pub job : Job
  pub f : File
  pub s : File
  pub problem : IsProblem words files job f s
  pub solved : IsSolved job f s solution

pub record SolvesRightly (words : List (List ℕ)) (holds : Option Files) (solution : Solution) : Type 0 where
  pub reached : ReachesOutput words holds
  pub solves : (files : Files) → holds ≡ Some files → Solves words files solution

-- the text of a solution
abbrev pub text_of : Solution → List ℕ
text_of solution = solution.text.items

-- how the printing of a solution ends; `Quiet` says that err is as before
abbrev pub AnswersRightly : Solution → Option (List ℕ) → Option (List ℕ) → ℕ → ℕ → ℕ → ℕ → (List ℕ → Type 0) → Type 0 → Status → Type 0
AnswersRightly solution old new faults faults' wants wants' Told Quiet status.Done =
    (new ≡ gained old (text_of solution)) × (solution.has_word ≡ true) × Quiet
AnswersRightly solution old new faults faults' wants wants' Told Quiet status.Negative =
    (new ≡ gained old (text_of solution)) × (solution.has_word ≡ false) × Quiet
AnswersRightly solution old new faults faults' wants wants' Told Quiet status.Usage = ⊥
AnswersRightly solution old new faults faults' wants wants' Told Quiet status.Refused = ⊥
AnswersRightly solution old new faults faults' wants wants' Told Quiet status.Limit = ⊥
AnswersRightly solution old new faults faults' wants wants' Told Quiet status.NodeLimit = ⊥
AnswersRightly solution old new faults faults' wants wants' Told Quiet status.ReadFault = ⊥
AnswersRightly solution old new faults faults' wants wants' Told Quiet status.WriteFault =
    GainsFrontOf old new (text_of solution) × Rose faults faults' × Told write_line
AnswersRightly solution old new faults faults' wants wants' Told Quiet status.Memory =
    GainsFrontOf old new (text_of solution) × Told memory_line × ((new ≡ old) ⊎ Rose wants wants')
