use Rattle.std.proofs.Common.{◌≡◌, ◌≤◌, ℕ, List, Some, inl, inr, refl, ◌∙◌, subst, arith, rules}
use Rattle.io_core.specs.Files.{Files}
use Rattle.net_model.specs.Files.{file_of}
use Rattle.job_words.specs.Jobs.{IsJob, job_of}
use Rattle.job_files.specs.Reads.{StopsAtFile}
use Rattle.balm_top.specs.Refusals.{AreRead}
use Rattle.balm_top.proofs.Stopped.{stops_at_file}
use Rattle.balm_top.proofs.Reading.{solves_rightly, stops_rightly}
use Rattle.balm_top.proofs.problem.solution_of.Goals as goal

pub returns-in-Err-read_file-clause-stopped : goal.returns-in-Err-read_file-clause-stopped
returns-in-Err-read_file-clause-stopped g c =
    let shelf = g.H.Shelf in
    let job = job_of c.in-Ok-Some.request in
    let job_is : IsJob c.args.words.now job = search rules in
    let same : (other : List ℕ) → shelf.faults c.args.shelf.now other ≤ shelf.faults c.args.shelf.now other = λ other. omega arith in
    stops_at_file c.args.words.now (shelf.holds c.args.shelf.now) (shelf.faults c.args.shelf.now) (shelf.faults c.args.shelf.now) (shelf.faults c.read_file.new.shelf) same job job_is job.f (inl refl) (λ files held. inl refl) c.in-Err-read_file.stop c.in-Err-read_file.ensures.stopped

pub returns-in-Err-read_file-2-clause-stopped : goal.returns-in-Err-read_file-2-clause-stopped
returns-in-Err-read_file-2-clause-stopped g c =
    let shelf = g.H.Shelf in
    let job = job_of c.in-Ok-Some.request in
    let job_is : IsJob c.args.words.now job = search rules in
    let between = shelf.faults c.read_file.new.shelf in
    let after = shelf.faults c.read_file-2.new.shelf in
    let stop = c.in-Err-read_file-2.stop in
    let stopped = subst (λ held. StopsAtFile job.s held between after stop) c.read_file.ensures.kept c.in-Err-read_file-2.ensures.stopped in
    stops_at_file c.args.words.now (shelf.holds c.args.shelf.now) (shelf.faults c.args.shelf.now) between after c.read_file.ensures.later job job_is job.s (inr refl) (λ files held. inr (file_of c.in-Ok.net, c.in-Ok.ensures.ok files held, refl)) stop stopped

pub returns-clause-solved : goal.returns-clause-solved
returns-clause-solved g c =
    let shelf = g.H.Shelf in
    let job = job_of c.in-Ok-Some.request in
    let f = file_of c.in-Ok.net in
    let s = file_of c.in-Ok-read_file.net in
    let job_is : IsJob c.args.words.now job = search rules in
    let read : (files : Files) → shelf.holds c.args.shelf.now ≡ Some files → AreRead c.args.words.now files job f s =
    λ files held. record { job_is = job_is; f_read = c.in-Ok.ensures.ok files held; s_read = c.in-Ok-read_file.ensures.ok files (c.read_file.ensures.kept ∙ held) } in
    solves_rightly c.args.words.now (shelf.holds c.args.shelf.now) job job_is f s read c.solve.result c.solve.ensures.solved

pub returns-clause-stopped : goal.returns-clause-stopped
returns-clause-stopped g c =
    let shelf = g.H.Shelf in
    let job = job_of c.in-Ok-Some.request in
    let f = file_of c.in-Ok.net in
    let s = file_of c.in-Ok-read_file.net in
    let job_is : IsJob c.args.words.now job = search rules in
    let read : (files : Files) → shelf.holds c.args.shelf.now ≡ Some files → AreRead c.args.words.now files job f s =
    λ files held. record { job_is = job_is; f_read = c.in-Ok.ensures.ok files held; s_read = c.in-Ok-read_file.ensures.ok files (c.read_file.ensures.kept ∙ held) } in
    stops_rightly c.args.words.now (shelf.holds c.args.shelf.now) job job_is f s read (shelf.faults c.args.shelf.now) (shelf.faults c.read_file-2.new.shelf) c.solve.result c.solve.ensures.stopped
