use Rattle.std.proofs.Common.{sym, ap, ◌∙◌, subst, refl, ℕ, List}
use Rattle.net_model.specs.Files.{file_of, StandsForFile}
use Rattle.job_files.specs.Reads.{HasFault, KeepsLimits, IsFaultIn}
use Rattle.job_files.proofs.files.read_file.Goals as goal

pub returns-in-Ok-read_text-clause-ok : goal.returns-in-Ok-read_text-clause-ok
returns-in-Ok-read_text-clause-ok g c = λ files holds.
    let read = c.in-Ok.ensures.ok files holds in
    let bytes = c.deref.ensures.value ∙ read.1 in
    record {
      within = read.0;
      stands = subst (λ (b : List ℕ). StandsForFile b (file_of c.in-Ok-read_text.file)) bytes c.in-Ok-read_text.ensures.stands;
      limits = subst (λ (b : List ℕ). KeepsLimits b (file_of c.in-Ok-read_text.file)) bytes c.in-Ok-read_text.ensures.limits;
    }

pub returns-clause-stopped : goal.returns-clause-stopped
returns-clause-stopped g c = (
  refl,
  λ files holds.
      let read = c.in-Ok.ensures.ok files holds in
      let bytes = c.deref.ensures.value ∙ read.1 in
      let told = subst (IsFaultIn c.deref.result.now) c.in-Err-At.field-0-is c.in-Err-At.ensures.fault in
      (read.0, subst (λ (b : List ℕ). HasFault b c.in-Err-At.line c.in-Err-At.kind) bytes told),
)
