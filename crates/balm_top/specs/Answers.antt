use Rattle.std.specs.Prelude.{◌≡◌, ◌↔◌, ◌⊎◌, ℕ, List, Option, Some}
use Rattle.io_core.specs.Files.{Files}
use Rattle.io_core.specs.Causes.{Rose}
use Rattle.io_core.specs.Gained.{gained, GainsFrontOf}
use Rattle.net_model.specs.Words.{Word, Language}
use Rattle.net_model.specs.Equation.{Topology, IsSafe, InLargest, IsLargestSolution}
use Rattle.net_model.specs.Files.{File}
use Rattle.net_model.specs.Files.{file_letters, FileWords, Means}
use Rattle.net_model.specs.NetLanguages.{StandsForAutomaton}
use Rattle.net_model.specs.declared.class.Class.{Class}
use Rattle.net_model.specs.declared.class.Class.TheVariants.{All}
use Rattle.job_words.specs.Jobs.{Job, IsJob, HasNoJob}
use Rattle.fault_lines.specs.Lines.{unreadable_line, write_line, memory_line}
use Rattle.fault_lines.specs.Statuses.{IsFinished}
use Rattle.fault_lines.specs.declared.status.Status.{Status}
use Rattle.fault_lines.specs.declared.status.Status.TheVariants.{Done, Negative, Usage, Refused, Limit, NodeLimit, ReadFault, WriteFault, Memory}
use Rattle.balm_top.specs.Refusals.{Refusal, topology_of, status_of, line_of, Refuses, IsReached, IsProblem}

-- the text, read by its format, has exactly the words of the largest solution of the class
abbrev pub IsLargestText : Class → Topology → Language → Language → List ℕ → Type 0
IsLargestText class topology F S text =
    (x : Word) → Means text topology.x x ↔ InLargest class topology (IsSafe topology F S) x

-- positive exactly where the language has a word
abbrev pub IsVerdict : Status → Language → Type 0
IsVerdict Done L = (x : Word) × L x
IsVerdict Negative L = (x : Word) → L x → ⊥
IsVerdict Usage L = ⊥
IsVerdict Refused L = ⊥
IsVerdict Limit L = ⊥
IsVerdict NodeLimit L = ⊥
IsVerdict ReadFault L = ⊥
IsVerdict WriteFault L = ⊥
IsVerdict Memory L = ⊥

-- The answer to a job of `solve`: nothing is refused; the text stands for an automaton over X's scope, which means exactly
-- the largest solution; composed with F it stays inside S, and each word of each automaton that is a solution is a word of
-- it; and the status is the verdict.
pub record IsAnswer (words : List (List ℕ)) (files : Files) (status : Status) (text : List ℕ) : Type 0 where
  pub job : Job
  pub f : File
  pub s : File
  pub problem : IsProblem words files job f s
  pub automaton : StandsForAutomaton text (topology_of job (file_letters f) (file_letters s)).x
  pub exact : IsLargestText All (topology_of job (file_letters f) (file_letters s)) (FileWords f) (FileWords s) text
  pub solution : IsLargestSolution All (topology_of job (file_letters f) (file_letters s)) (FileWords f) (FileWords s) (Means text (topology_of job (file_letters f) (file_letters s)).x)
  pub verdict : IsVerdict status (Means text (topology_of job (file_letters f) (file_letters s)).x)

-- Where the job was done, the shelf tells what it holds and out what it took, out has gained one text, the answer.
abbrev pub SolveIsExact : List (List ℕ) → Option Files → Option (List ℕ) → Option (List ℕ) → Status → Type 0
SolveIsExact words holds old new status =
    IsFinished status
    → (files : Files)
    → holds ≡ Some files
    → (text : List ℕ) × (new ≡ gained old text) × IsAnswer words files status text

-- No step before the output refuses: the words name a job, and where the shelf tells what it holds, its files make a
-- problem.
pub record ReachesOutput (words : List (List ℕ)) (holds : Option Files) : Type 0 where
  pub job : Job
  pub job_is : IsJob words job
  pub problem : (files : Files) → holds ≡ Some files → (f : File) × (s : File) × IsProblem words files job f s

-- Words without a job are told as such, or memory ran out over them, whatever the shelf tells.
abbrev pub UsageRightly : List (List ℕ) → Status → Type 0
UsageRightly words status = HasNoJob words → (status ≡ Usage) ⊎ (status ≡ Memory)

-- a status of a refusal
abbrev pub IsRefused : Status → Type 0
IsRefused status = (refusal : Refusal) × (status_of refusal ≡ status)

-- Where the status is that of a refusal, one has come, its line was told, and the words and the files are refused so.
abbrev pub RefusedRightly : List (List ℕ) → Option Files → (List ℕ → Type 0) → Status → Type 0
RefusedRightly words holds Told status =
    IsRefused status
    → (refusal : Refusal)
    × (status_of refusal ≡ status)
    × Told (line_of refusal)
    × ((files : Files) → holds ≡ Some files → Refuses words files refusal)

-- Where a file cannot be read, it is one of the job's whose step is reached, its line was told, and the shelf's count of
-- faults of its name rose.
abbrev pub ReadFaultRightly : List (List ℕ) → Option Files → (List ℕ → ℕ) → (List ℕ → ℕ) → (List ℕ → Type 0) → Status → Type 0
ReadFaultRightly words holds faults faults' Told status =
    status ≡ ReadFault
    → (job : Job)
    × (name : List ℕ)
    × IsJob words job
    × ((name ≡ job.f) ⊎ (name ≡ job.s))
    × Rose (faults name) (faults' name)
    × Told (unreadable_line name)
    × ((files : Files) → holds ≡ Some files → IsReached files job name)

-- Where the answer cannot be written, no step before refuses, out's count of faults rose, and the line was told.
abbrev pub WriteFaultRightly : List (List ℕ) → Option Files → ℕ → ℕ → (List ℕ → Type 0) → Status → Type 0
WriteFaultRightly words holds faults faults' Told status =
    status ≡ WriteFault → ReachesOutput words holds × Rose faults faults' × Told write_line

-- Where memory ran out, the line was told, and out is as before, or no step before the output refuses and out's count of
-- wants rose.
abbrev pub MemoryRightly : List (List ℕ) → Option Files → Option (List ℕ) → Option (List ℕ) → ℕ → ℕ → (List ℕ → Type 0) → Status → Type 0
MemoryRightly words holds old new wants wants' Told status =
    status ≡ Memory → Told memory_line × ((new ≡ old) ⊎ (ReachesOutput words holds × Rose wants wants'))

-- out is as before, but where an answer was begun
abbrev pub KeepsOut : Option (List ℕ) → Option (List ℕ) → Status → Type 0
KeepsOut old new Done = Unit {0}
KeepsOut old new Negative = Unit {0}
KeepsOut old new Usage = new ≡ old
KeepsOut old new Refused = new ≡ old
KeepsOut old new Limit = new ≡ old
KeepsOut old new NodeLimit = new ≡ old
KeepsOut old new ReadFault = new ≡ old
KeepsOut old new WriteFault = Unit {0}
KeepsOut old new Memory = Unit {0}

-- a status that ends the job while its answer is written
abbrev pub IsCutShort : Status → Type 0
IsCutShort status = (status ≡ WriteFault) ⊎ (status ≡ Memory)

-- Where the writing was cut short, out has gained nothing, or a front of the answer's text.
abbrev pub GainsFrontOfAnswer : List (List ℕ) → Option Files → Option (List ℕ) → Option (List ℕ) → Status → Type 0
GainsFrontOfAnswer words holds old new status =
    IsCutShort status
    → (new ≡ old)
    ⊎ ((files : Files)
    → holds ≡ Some files
    → (text : List ℕ)
    × (verdict : Status)
    × IsFinished verdict
    × GainsFrontOf old new text
    × IsAnswer words files verdict text)
