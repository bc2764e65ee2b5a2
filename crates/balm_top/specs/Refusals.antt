use Rattle.std.specs.Prelude.{◌≡◌, ◌≤◌, ◌<◌, ◌⊎◌, ℕ, List, Some, None}
use Rattle.io_core.specs.Files.{Files, bytes_under}
use Rattle.net_model.specs.Words.{Scope}
use Rattle.net_model.specs.Equation.{Topology}
use Rattle.net_model.specs.Files.{File}
use Rattle.net_model.specs.Files.{file_letters}
use Rattle.net_model.specs.Topologies.{sync_topology}
use Rattle.net_model.specs.Problems.{NameRefusal, Problem, problem_of, first_refusal}
use Rattle.net_problem.specs.ProblemBits.{problem_bits}
use Rattle.net_model.specs.declared.class.Mode.TheVariants.{Sync}
use Rattle.net_model.specs.declared.text_fault.TextKind.{TextKind}
use Rattle.job_words.specs.Jobs.{Job, IsJob, HasNoJob}
use Rattle.fault_lines.specs.Lines.{usage_line, long_line, fault_line, names_line, bits_line}
use Rattle.fault_lines.specs.Stops.{fault_status}
use Rattle.fault_lines.specs.declared.status.Status.{Status}
use Rattle.fault_lines.specs.declared.status.Status.TheVariants as status
use Rattle.job_files.specs.Reads.{IsWithin, IsReadAs, HasFault}

-- The files and the names of a job are refused step by step: F's file, S's file, the names, the bits. Each refusal says
-- that no step before it refuses, so one refusal at most is possible.

-- the equation of a job, for files with these letters
abbrev pub topology_of : Job → Scope → Scope → Topology
topology_of job f s = sync_topology f s job.ins job.outs

-- the step of this file is reached: it is F's, or it is S's and F's is read
abbrev pub IsReached : Files → Job → List ℕ → Type 0
IsReached files job name = (name ≡ job.f) ⊎ ((f : File) × IsReadAs files job.f f × (name ≡ job.s))

-- both files are read, as these networks or machines
pub record AreRead (words : List (List ℕ)) (files : Files) (job : Job) (f s : File) : Type 0 where
  pub job_is : IsJob words job
  pub f_read : IsReadAs files job.f f
  pub s_read : IsReadAs files job.s s

-- the first refusal of the names of a job, for files that stand for these
abbrev pub RefusesNames : Job → File → File → NameRefusal → Type 0
RefusesNames job f s refusal = first_refusal Sync f s job.ins job.outs ≡ Some refusal

abbrev pub AcceptsNames : Job → File → File → Type 0
AcceptsNames job f s = first_refusal Sync f s job.ins job.outs ≡ None

-- the problem of a job whose files are these
abbrev pub problem_for : Job → File → File → Problem
problem_for job f s = problem_of Sync f s job.ins job.outs

-- how many bits it has
abbrev pub bits_of_job : Job → File → File → ℕ
bits_of_job job f s = problem_bits (problem_for job f s) None

-- nothing is refused before the work
pub record IsProblem (words : List (List ℕ)) (files : Files) (job : Job) (f s : File) : Type 0 where
  pub read : AreRead words files job f s
  pub names : AcceptsNames job f s
  pub few : bits_of_job job f s ≤ 2000

-- what the program refuses, with the name of the file that the line tells
pub data Refusal : Type 0 where
  NoJob : Refusal
  TooLong : (name : List ℕ) → Refusal
  Faulty : (name : List ℕ) → (line : ℕ) → (kind : TextKind) → Refusal
  BadNames : (refusal : NameRefusal) → Refusal
  TooManyBits : Refusal

abbrev pub status_of : Refusal → Status
status_of NoJob = status.Usage
status_of (TooLong name) = status.Limit
status_of (Faulty name line kind) = fault_status kind
status_of (BadNames refusal) = status.Refused
status_of TooManyBits = status.Limit

-- the line that the program tells
abbrev pub line_of : Refusal → List ℕ
line_of NoJob = usage_line
line_of (TooLong name) = long_line name
line_of (Faulty name line kind) = fault_line name line kind
line_of (BadNames refusal) = names_line refusal
line_of TooManyBits = bits_line

-- the words and the files are refused so
abbrev pub Refuses : List (List ℕ) → Files → Refusal → Type 0
Refuses words files NoJob = HasNoJob words
Refuses words files (TooLong name) =
    (job : Job) × IsJob words job × IsReached files job name × (IsWithin (bytes_under files name) → ⊥)
Refuses words files (Faulty name line kind) =
    (job : Job)
    × IsJob words job
    × IsReached files job name
    × IsWithin (bytes_under files name)
    × HasFault (bytes_under files name) line kind
Refuses words files (BadNames refusal) =
    (job : Job) × (f : File) × (s : File) × AreRead words files job f s × RefusesNames job f s refusal
Refuses words files TooManyBits =
    (job : Job) × (f : File) × (s : File) × AreRead words files job f s × AcceptsNames job f s × (2000 < bits_of_job job f s)
