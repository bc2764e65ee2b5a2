use Rattle.std.proofs.Common.{◌≡◌, map, sym, ap, ◌∙◌}
use Rattle.net_model.specs.Files.{file_of}
use Rattle.net_model.specs.Problems.{first_refusal, problem_of}
use Rattle.net_model.specs.declared.class.Mode.TheVariants.{Sync}
use Rattle.job_words.specs.Jobs.{job_of}
use Rattle.balm_top.proofs.problem.named_problem.Goals as goal

pub returns-in-Ok-build-clause-ok : goal.returns-in-Ok-build-clause-ok
returns-in-Ok-build-clause-ok c =
    let job = job_of c.args.request.now in
    let ins_are : c.in-Ok.ins ≡ job.ins = c.in-Ok.ensures ∙ ap (map (λ name. name.now)) c.deref.ensures.value in
    let outs_are : c.in-Ok-list_of.outs ≡ job.outs = c.in-Ok-list_of.ensures ∙ ap (map (λ name. name.now)) c.deref-2.ensures.value in
    c.in-Ok-build.ensures.ok ∙ (λ i. problem_of Sync (file_of c.args.f) (file_of c.args.s) (ins_are i) (outs_are i))

pub returns-in-Ok-build-clause-names : goal.returns-in-Ok-build-clause-names
returns-in-Ok-build-clause-names c =
    let job = job_of c.args.request.now in
    let ins_are : c.in-Ok.ins ≡ job.ins = c.in-Ok.ensures ∙ ap (map (λ name. name.now)) c.deref.ensures.value in
    let outs_are : c.in-Ok-list_of.outs ≡ job.outs = c.in-Ok-list_of.ensures ∙ ap (map (λ name. name.now)) c.deref-2.ensures.value in
    (λ i. first_refusal Sync (file_of c.args.f) (file_of c.args.s) (sym ins_are i) (sym outs_are i)) ∙ c.in-Ok-build.ensures.none
