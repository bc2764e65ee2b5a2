use Rattle.std.proofs.Common.{◌≡◌, ◌≤◌, ◌⊎◌, inl, inr, ℕ, List, Option, Some, None, refl, sym, subst, arith}
use Rattle.io_core.specs.Files.{Files, bytes_under}
use Rattle.io_core.specs.Causes.{Rose}
use Rattle.net_model.specs.Files.{File}
use Rattle.net_model.specs.Problems as problems
use Rattle.net_model.specs.declared.text_fault.TextKind.{TextKind}
use Rattle.net_model.specs.declared.text_fault.TextKind.TheVariants as kinds
use Rattle.job_words.specs.Jobs.{Job, IsJob, HasNoJob}
use Rattle.fault_lines.specs.Lines.{memory_line}
use Rattle.fault_lines.specs.Stops.{fault_status, told_refusal, names_status, told_line, stop_status, stop_line}
use Rattle.fault_lines.specs.declared.status.Status.{Status}
use Rattle.fault_lines.specs.declared.status.Status.TheVariants as status
use Rattle.fault_lines.specs.declared.stop.Stop.{Stop}
use Rattle.fault_lines.specs.declared.stop.Stop.TheVariants.{NoJob, Unreadable, TooLong, Faulty, BadNames, TooManyBits, Memory}
use Rattle.job_files.specs.Reads.{IsWithin, HasFault, StopsAtFile}
use Rattle.balm_top.specs.Answers.{UsageRightly, RefusedRightly}
use Rattle.balm_top.specs.Refusals as refusals
use Rattle.balm_top.specs.Refusals.{IsReached, AreRead}
use Rattle.balm_top.specs.Stops.{StopsRightly, StopsWork, RefusesNamesOf, RefusesNamesHeld}

-- a count that rose from a later moment on rose from the earlier one on
rose_since : (before between now : ℕ) → before ≤ between → Rose between now → Rose before now
rose_since before between now later rose = omega arith

-- A stop at a file of the job whose step is reached is a stop of the whole.
module _ (words : List (List ℕ)) (holds : Option Files) (faults between faults' : List ℕ → ℕ) (later : (other : List ℕ) → faults other ≤ between other) (job : Job) (job_is : IsJob words job) (name : List ℕ) (of_job : (name ≡ job.f) ⊎ (name ≡ job.s)) (reached : (files : Files) → holds ≡ Some files → IsReached files job name) where
  pub stops_at_file : (stop : Stop) → StopsAtFile name holds between faults' stop → StopsRightly words holds faults faults' stop
  stops_at_file NoJob h = absurd h
  stops_at_file (Unreadable asked) h =
      let P : List ℕ → Type 0 = λ n. ((n ≡ job.f) ⊎ (n ≡ job.s)) × Rose (faults n) (faults' n) × ((files : Files) → holds ≡ Some files → IsReached files job n) in
      let all = subst P (sym h.0) (of_job, rose_since (faults name) (between name) (faults' name) (later name) h.1, reached) in
      (job, job_is, all.0, all.1, all.2)
  stops_at_file (TooLong asked) h = record {
    job = job;
    job_is = job_is;
    refuses = λ files held.
        let P : List ℕ → Type 0 = λ n. IsReached files job n × (IsWithin (bytes_under files n) → ⊥) in
        let all = subst P (sym h.0) (reached files held, h.1 files held) in
        (job, job_is, all.0, all.1);
  }
  stops_at_file (Faulty asked line kind) h = record {
    job = job;
    job_is = job_is;
    refuses = λ files held.
        let P : List ℕ → Type 0 = λ n. IsReached files job n × IsWithin (bytes_under files n) × HasFault (bytes_under files n) line kind in
        let all = subst P (sym h.0) (reached files held, (h.1 files held).0, (h.1 files held).1) in
        (job, job_is, all.0, all.1, all.2);
  }
  stops_at_file (BadNames refusal) h = absurd h
  stops_at_file TooManyBits h = absurd h
  stops_at_file Memory h = tt

-- A stop once both files are read is a stop of the whole.
module _ (words : List (List ℕ)) (holds : Option Files) (faults faults' : List ℕ → ℕ) (job : Job) (job_is : IsJob words job) (f s : File) (read : (files : Files) → holds ≡ Some files → AreRead words files job f s) where
  -- a refusal of the names, where it isn't want of memory
  names_stop : (refusal : Option problems.NameRefusal) → RefusesNamesOf job f s refusal → RefusesNamesHeld words holds refusal
  names_stop None h = tt
  names_stop (Some refusal) h = record { job = job; job_is = job_is; refuses = λ files held. (job, f, s, read files held, h) }

  pub stops_work : (stop : Stop) → StopsWork job f s stop → StopsRightly words holds faults faults' stop
  stops_work NoJob h = absurd h
  stops_work (Unreadable name) h = absurd h
  stops_work (TooLong name) h = absurd h
  stops_work (Faulty name line kind) h = absurd h
  stops_work (BadNames refusal) h = names_stop (told_refusal refusal) h
  stops_work TooManyBits h = record { job = job; job_is = job_is; refuses = λ files held. (job, f, s, read files held, h.0, h.1) }
  stops_work Memory h = tt

-- a fault of a text has one of two statuses
data IsFaultStatus : Status → Type 0 where
  is_limit : IsFaultStatus status.Limit
  is_refused : IsFaultStatus status.Refused

fault_has_status : (kind : TextKind) → IsFaultStatus (fault_status kind)
fault_has_status kinds.UnknownDirective = is_refused
fault_has_status kinds.BadCount = is_refused
fault_has_status kinds.UnknownValue = is_refused
fault_has_status kinds.RowWidth = is_refused
fault_has_status kinds.EqDomain = is_refused
fault_has_status kinds.DrivenTwice = is_refused
fault_has_status kinds.Undriven = is_refused
fault_has_status kinds.ResetNotConstant = is_refused
fault_has_status kinds.AccShape = is_refused
fault_has_status kinds.NoModel = is_refused
fault_has_status kinds.TwiceDefault = is_refused
fault_has_status (kinds.Limit which) = is_limit
fault_has_status kinds.Hierarchy = is_refused
fault_has_status kinds.BadName = is_refused
fault_has_status kinds.BadDomain = is_refused
fault_has_status kinds.BadWidth = is_refused
fault_has_status kinds.BadBit = is_refused
fault_has_status kinds.UnknownReset = is_refused
fault_has_status kinds.MissingWidths = is_refused
fault_has_status kinds.NoRows = is_refused
fault_has_status kinds.BadHeader = is_refused
fault_has_status kinds.BadLetter = is_refused

no_fault_is : (s : Status) → IsFaultStatus s → (s ≡ status.Usage → ⊥) × (s ≡ status.ReadFault → ⊥) × (s ≡ status.WriteFault → ⊥) × (s ≡ status.Memory → ⊥) × (s ≡ status.NodeLimit → ⊥)
no_fault_is s is_limit = (λ e. cc, λ e. cc, λ e. cc, λ e. cc, λ e. cc)
no_fault_is s is_refused = (λ e. cc, λ e. cc, λ e. cc, λ e. cc, λ e. cc)

pub fault_is_none : (kind : TextKind) → (fault_status kind ≡ status.Usage → ⊥) × (fault_status kind ≡ status.ReadFault → ⊥) × (fault_status kind ≡ status.WriteFault → ⊥) × (fault_status kind ≡ status.Memory → ⊥) × (fault_status kind ≡ status.NodeLimit → ⊥)
fault_is_none kind = no_fault_is (fault_status kind) (fault_has_status kind)

-- no refusal is a read fault, and none is want of memory
no_read_fault : (refusal : refusals.Refusal) → refusals.status_of refusal ≡ status.ReadFault → ⊥
no_read_fault refusals.NoJob is = cc
no_read_fault (refusals.TooLong name) is = cc
no_read_fault (refusals.Faulty name line kind) is = (fault_is_none kind).1 is
no_read_fault (refusals.BadNames refusal) is = cc
no_read_fault refusals.TooManyBits is = cc

no_memory : (refusal : refusals.Refusal) → refusals.status_of refusal ≡ status.Memory → ⊥
no_memory refusals.NoJob is = cc
no_memory (refusals.TooLong name) is = cc
no_memory (refusals.Faulty name line kind) is = (fault_is_none kind).3 is
no_memory (refusals.BadNames refusal) is = cc
no_memory refusals.TooManyBits is = cc

-- nor is a refusal of names a fault of use
names_no_usage : (refusal : Option problems.NameRefusal) → names_status refusal ≡ status.Usage → ⊥
names_no_usage None is = cc
names_no_usage (Some refusal) is = cc

-- no stop is a fault of the output

names_no_write_fault : (refusal : Option problems.NameRefusal) → names_status refusal ≡ status.WriteFault → ⊥
names_no_write_fault None is = cc
names_no_write_fault (Some refusal) is = cc

pub no_write_fault : (stop : Stop) → stop_status stop ≡ status.WriteFault → ⊥
no_write_fault NoJob is = cc
no_write_fault (Unreadable name) is = cc
no_write_fault (TooLong name) is = cc
no_write_fault (Faulty name line kind) is = (fault_is_none kind).2 is
no_write_fault (BadNames refusal) is = names_no_write_fault (told_refusal refusal) is
no_write_fault TooManyBits is = cc
no_write_fault Memory is = cc

names_memory : (Told : List ℕ → Type 0) (refusal : Option problems.NameRefusal) → Told (told_line refusal) → names_status refusal ≡ status.Memory → Told memory_line
names_memory Told None told is = told
names_memory Told (Some refusal) told is = cc

-- where memory ran out, that was told
pub memory_told : (Told : List ℕ → Type 0) (stop : Stop) → Told (stop_line stop) → stop_status stop ≡ status.Memory → Told memory_line
memory_told Told NoJob told is = cc
memory_told Told (Unreadable name) told is = cc
memory_told Told (TooLong name) told is = cc
memory_told Told (Faulty name line kind) told is = absurd ((fault_is_none kind).3 is)
memory_told Told (BadNames refusal) told is = names_memory Told (told_refusal refusal) told is
memory_told Told TooManyBits told is = cc
memory_told Told Memory told is = told

-- What a stop says of the words, the line and the counts.
module _ (words : List (List ℕ)) (holds : Option Files) (faults faults' : List ℕ → ℕ) where
  pub usage_is_no_job : (stop : Stop) → StopsRightly words holds faults faults' stop → stop_status stop ≡ status.Usage → HasNoJob words
  usage_is_no_job NoJob h is = h
  usage_is_no_job (Unreadable name) h is = cc
  usage_is_no_job (TooLong name) h is = cc
  usage_is_no_job (Faulty name line kind) h is = absurd ((fault_is_none kind).0 is)
  usage_is_no_job (BadNames refusal) h is = absurd (names_no_usage (told_refusal refusal) is)
  usage_is_no_job TooManyBits h is = cc
  usage_is_no_job Memory h is = cc

  names_no_job : (refusal : Option problems.NameRefusal) → RefusesNamesHeld words holds refusal → UsageRightly words (names_status refusal)
  names_no_job None h = λ none. inr refl
  names_no_job (Some refusal) h = λ none. absurd (none h.job h.job_is)

  pub no_job_is_usage : (stop : Stop) → StopsRightly words holds faults faults' stop → UsageRightly words (stop_status stop)
  no_job_is_usage NoJob h = λ none. inl refl
  no_job_is_usage (Unreadable name) h = λ none. absurd (none h.0 h.1)
  no_job_is_usage (TooLong name) h = λ none. absurd (none h.job h.job_is)
  no_job_is_usage (Faulty name line kind) h = λ none. absurd (none h.job h.job_is)
  no_job_is_usage (BadNames refusal) h = names_no_job (told_refusal refusal) h
  no_job_is_usage TooManyBits h = λ none. absurd (none h.job h.job_is)
  no_job_is_usage Memory h = λ none. inr refl

  refused_names : (Told : List ℕ → Type 0) (refusal : Option problems.NameRefusal) → RefusesNamesHeld words holds refusal → Told (told_line refusal) → RefusedRightly words holds Told (names_status refusal)
  refused_names Told None h told = λ refused. absurd (no_memory refused.0 refused.1)
  refused_names Told (Some refusal) h told = λ _. (refusals.BadNames refusal, refl, told, h.refuses)

  pub refused_rightly : (Told : List ℕ → Type 0) (stop : Stop) → StopsRightly words holds faults faults' stop → Told (stop_line stop) → RefusedRightly words holds Told (stop_status stop)
  refused_rightly Told NoJob h told = λ _. (refusals.NoJob, refl, told, λ files held. h)
  refused_rightly Told (Unreadable name) h told = λ refused. absurd (no_read_fault refused.0 refused.1)
  refused_rightly Told (TooLong name) h told = λ _. (refusals.TooLong name.now, refl, told, h.refuses)
  refused_rightly Told (Faulty name line kind) h told = λ _. (refusals.Faulty name.now line kind, refl, told, h.refuses)
  refused_rightly Told (BadNames refusal) h told = refused_names Told (told_refusal refusal) h told
  refused_rightly Told TooManyBits h told = λ _. (refusals.TooManyBits, refl, told, h.refuses)
  refused_rightly Told Memory h told = λ refused. absurd (no_memory refused.0 refused.1)
