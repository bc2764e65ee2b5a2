use Rattle.std.proofs.Common.{◌≡◌, ℕ, List, Option, Some, Result, Ok, Err, IfOk, IfErr}
use Rattle.io_core.specs.Files.{Files}
use Rattle.net_model.specs.Files.{File}
use Rattle.solution_text.specs.declared.solution.Solution.{Solution}
use Rattle.job_words.specs.Jobs.{Job, IsJob}
use Rattle.fault_lines.specs.declared.stop.Stop.{Stop}
use Rattle.balm_top.specs.Refusals.{AreRead}
use Rattle.balm_top.specs.Stops.{StopsRightly, StopsWork, IsWorkable, IsSolved, SolvesRightly}
use Rattle.balm_top.proofs.Stopped.{stops_work}

-- What the work on two files that are read says of the words and the files.
module _ (words : List (List ℕ)) (holds : Option Files) (job : Job) (job_is : IsJob words job) (f s : File) (read : (files : Files) → holds ≡ Some files → AreRead words files job f s) where
  pub solves_rightly : (result : Result Solution Stop) → IfOk result (λ solution. IsWorkable job f s × IsSolved job f s solution) → IfOk result (SolvesRightly words holds)
  solves_rightly (Ok solution) solved = record {
    reached = record {
      job = job;
      job_is = job_is;
      problem = λ files held. (f, s, record { read = read files held; names = solved.0.0; few = solved.0.1 });
    };
    solves = λ files held. record {
      job = job;
      f = f;
      s = s;
      problem = record { read = read files held; names = solved.0.0; few = solved.0.1 };
      solved = solved.1;
    };
  }
  solves_rightly (Err stop) solved = tt

  pub stops_rightly : (faults faults' : List ℕ → ℕ) (result : Result Solution Stop) → IfErr result (StopsWork job f s) → IfErr result (StopsRightly words holds faults faults')
  stops_rightly faults faults' (Ok solution) stopped = tt
  stops_rightly faults faults' (Err stop) stopped = stops_work words holds faults faults' job job_is f s read stop stopped
