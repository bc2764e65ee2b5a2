use Rattle.net_model.specs.Files.{file_of}
use Rattle.job_words.specs.Jobs.{job_of}
use Rattle.balm_top.proofs.Solving.{solved_for, stopped_for}
use Rattle.balm_top.proofs.problem.solve.Goals as goal

pub returns-clause-solved : goal.returns-clause-solved
returns-clause-solved c =
    solved_for (job_of c.args.request.now) (file_of c.args.f) (file_of c.args.s) c.in-Ok.problem c.in-Ok.ensures.ok c.in-Ok.ensures.names c.solution_of.result c.solution_or_stop.result
    c.solution_or_stop.ensures.ok c.solution_of.ensures.solved c.solution_of.ensures.few

pub returns-clause-stopped : goal.returns-clause-stopped
returns-clause-stopped c =
    stopped_for (job_of c.args.request.now) (file_of c.args.f) (file_of c.args.s) c.in-Ok.problem c.in-Ok.ensures.ok c.in-Ok.ensures.names c.solution_of.result c.solution_or_stop.result
    c.solution_or_stop.ensures.err c.solution_of.ensures.bits
