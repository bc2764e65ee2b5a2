use Rattle.job_files.proofs.Limited.{limits_met}
use Rattle.job_files.proofs.files.read_text.Goals as goal

pub returns-in-Ok-clause-limits : goal.returns-in-Ok-clause-limits
returns-in-Ok-clause-limits c = limits_met c.args.bytes.now c.in-Ok.net c.in-Ok.ensures.fault
