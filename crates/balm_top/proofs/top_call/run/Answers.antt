use Rattle.std.proofs.Common.{◌≡◌, ℕ, List, inl, refl, sym, ◌∙◌, subst}
use Rattle.fault_lines.specs.Told.{IsTold}
use Rattle.balm_top.specs.Answers.{UsageRightly, RefusedRightly}
use Rattle.balm_top.proofs.Answered.{answer_is_exact, answer_front, answer_write_fault, answer_memory, answer_has_job}
use Rattle.balm_top.proofs.Stopped.{usage_is_no_job, no_job_is_usage, refused_rightly, no_write_fault, memory_told}
use Rattle.balm_top.proofs.top_call.run.Goals as goal

pub returns-in-Ok-clause-exact : goal.returns-in-Ok-clause-exact
returns-in-Ok-clause-exact g c =
    let out = g.O.Sink in
    let err = g.E.Sink in
    answer_is_exact c.args.words.now (g.H.Shelf.holds c.args.shelf.now) (out.contents c.args.out.now) (out.contents c.answer.new.out) (out.faults c.args.out.now) (out.faults c.answer.new.out) (out.wants c.args.out.now) (out.wants c.answer.new.out)
    (IsTold (err.contents c.args.err.now) (err.contents c.answer.new.err) (err.faults c.args.err.now) (err.faults c.answer.new.err) (err.wants c.args.err.now) (err.wants c.answer.new.err))
    (err.contents c.answer.new.err ≡ err.contents c.args.err.now)
    c.in-Ok.solution c.in-Ok.ensures.solved c.answer.result c.answer.ensures.answers

pub returns-in-Ok-clause-no_job : goal.returns-in-Ok-clause-no_job
returns-in-Ok-clause-no_job g c =
    let out = g.O.Sink in
    let err = g.E.Sink in
    answer_has_job c.args.words.now (g.H.Shelf.holds c.args.shelf.now) (out.contents c.args.out.now) (out.contents c.answer.new.out) (out.faults c.args.out.now) (out.faults c.answer.new.out) (out.wants c.args.out.now) (out.wants c.answer.new.out)
    (IsTold (err.contents c.args.err.now) (err.contents c.answer.new.err) (err.faults c.args.err.now) (err.faults c.answer.new.err) (err.wants c.args.err.now) (err.wants c.answer.new.err))
    (err.contents c.answer.new.err ≡ err.contents c.args.err.now)
    c.in-Ok.solution c.in-Ok.ensures.solved c.answer.result

pub returns-in-Ok-clause-write_fault : goal.returns-in-Ok-clause-write_fault
returns-in-Ok-clause-write_fault g c =
    let out = g.O.Sink in
    let err = g.E.Sink in
    answer_write_fault c.args.words.now (g.H.Shelf.holds c.args.shelf.now) (out.contents c.args.out.now) (out.contents c.answer.new.out) (out.faults c.args.out.now) (out.faults c.answer.new.out) (out.wants c.args.out.now) (out.wants c.answer.new.out)
    (IsTold (err.contents c.args.err.now) (err.contents c.answer.new.err) (err.faults c.args.err.now) (err.faults c.answer.new.err) (err.wants c.args.err.now) (err.wants c.answer.new.err))
    (err.contents c.answer.new.err ≡ err.contents c.args.err.now)
    c.in-Ok.solution c.in-Ok.ensures.solved c.answer.result c.answer.ensures.answers

pub returns-in-Ok-clause-memory : goal.returns-in-Ok-clause-memory
returns-in-Ok-clause-memory g c =
    let out = g.O.Sink in
    let err = g.E.Sink in
    answer_memory c.args.words.now (g.H.Shelf.holds c.args.shelf.now) (out.contents c.args.out.now) (out.contents c.answer.new.out) (out.faults c.args.out.now) (out.faults c.answer.new.out) (out.wants c.args.out.now) (out.wants c.answer.new.out)
    (IsTold (err.contents c.args.err.now) (err.contents c.answer.new.err) (err.faults c.args.err.now) (err.faults c.answer.new.err) (err.wants c.args.err.now) (err.wants c.answer.new.err))
    (err.contents c.answer.new.err ≡ err.contents c.args.err.now)
    c.in-Ok.solution c.in-Ok.ensures.solved c.answer.result c.answer.ensures.answers

pub returns-in-Ok-clause-out_front : goal.returns-in-Ok-clause-out_front
returns-in-Ok-clause-out_front g c =
    let out = g.O.Sink in
    let err = g.E.Sink in
    answer_front c.args.words.now (g.H.Shelf.holds c.args.shelf.now) (out.contents c.args.out.now) (out.contents c.answer.new.out) (out.faults c.args.out.now) (out.faults c.answer.new.out) (out.wants c.args.out.now) (out.wants c.answer.new.out)
    (IsTold (err.contents c.args.err.now) (err.contents c.answer.new.err) (err.faults c.args.err.now) (err.faults c.answer.new.err) (err.wants c.args.err.now) (err.wants c.answer.new.err))
    (err.contents c.answer.new.err ≡ err.contents c.args.err.now)
    c.in-Ok.solution c.in-Ok.ensures.solved c.answer.result c.answer.ensures.answers

pub returns-in-Err-clause-usage : goal.returns-in-Err-clause-usage
returns-in-Err-clause-usage g c = λ is.
    let shelf = g.H.Shelf in
    usage_is_no_job c.args.words.now (shelf.holds c.args.shelf.now) (shelf.faults c.args.shelf.now) (shelf.faults c.solution_of.new.shelf) c.in-Err.stop c.in-Err.ensures.stopped (sym c.refuse.ensures.status ∙ is)

pub returns-in-Err-clause-no_job : goal.returns-in-Err-clause-no_job
returns-in-Err-clause-no_job g c =
    let shelf = g.H.Shelf in
    subst (λ status. UsageRightly c.args.words.now status) (sym c.refuse.ensures.status)
    (no_job_is_usage c.args.words.now (shelf.holds c.args.shelf.now) (shelf.faults c.args.shelf.now) (shelf.faults c.solution_of.new.shelf) c.in-Err.stop c.in-Err.ensures.stopped)

pub returns-in-Err-clause-refused : goal.returns-in-Err-clause-refused
returns-in-Err-clause-refused g c =
    let shelf = g.H.Shelf in
    let err = g.E.Sink in
    let Told : List ℕ → Type 0 = IsTold (err.contents c.args.err.now) (err.contents c.refuse.new.err) (err.faults c.args.err.now) (err.faults c.refuse.new.err) (err.wants c.args.err.now) (err.wants c.refuse.new.err) in
    subst (λ status. RefusedRightly c.args.words.now (shelf.holds c.args.shelf.now) Told status) (sym c.refuse.ensures.status) (refused_rightly c.args.words.now (shelf.holds c.args.shelf.now) (shelf.faults c.args.shelf.now) (shelf.faults c.solution_of.new.shelf) Told c.in-Err.stop c.in-Err.ensures.stopped c.refuse.ensures.told)

pub returns-in-Err-clause-write_fault : goal.returns-in-Err-clause-write_fault
returns-in-Err-clause-write_fault g c = λ is. absurd (no_write_fault c.in-Err.stop (sym c.refuse.ensures.status ∙ is))

pub returns-in-Err-clause-memory : goal.returns-in-Err-clause-memory
returns-in-Err-clause-memory g c = λ is.
    let err = g.E.Sink in
    let Told : List ℕ → Type 0 = IsTold (err.contents c.args.err.now) (err.contents c.refuse.new.err) (err.faults c.args.err.now) (err.faults c.refuse.new.err) (err.wants c.args.err.now) (err.wants c.refuse.new.err) in
    (memory_told Told c.in-Err.stop c.refuse.ensures.told (sym c.refuse.ensures.status ∙ is), inl refl)
