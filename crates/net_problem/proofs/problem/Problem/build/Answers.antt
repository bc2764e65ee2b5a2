use Rattle.std.proofs.Common.{◌∙◌, ap, sym, subst, Result, Err, IfErr}
use Rattle.std.proofs.lemmas.Result.{err_from_is_err_and}
use Rattle.name_table.specs.ScopeVars.{variables_of}
use Rattle.net_model.specs.Problems.{Problem, file_of, first_refusal, IsRefusal}
use Rattle.net_model.specs.declared.refusal.NameRefusal as declared_refusal
use Rattle.net_problem.proofs.ScopesGood.{names_refused}
use Rattle.net_problem.proofs.problem.Problem.build.Goals as goal

pub returns-in_err-x-clause-refused : goal.returns-in_err-x-clause-refused
returns-in_err-x-clause-refused c =
    let back = err_from_is_err_and c.from_residual-in_err-x.result c.from_residual-in_err-x.ensures.1 in
    let joint = ap variables_of c.deref.ensures.value ∙ c.in_ok-joint.ensures.joint in
    let told =
    names_refused c.in_err-x.field-0.0 c.args.mode (file_of c.args.f) (file_of c.args.s) (variables_of c.deref.result.now) c.args.ins.now c.args.outs.now joint
    c.in_ok-joint.ensures.none c.in_err-x.ensures.refused in
    subst (λ (r : Result Problem declared_refusal.NameRefusal). IfErr r (λ refusal. IsRefusal refusal (first_refusal c.args.mode (file_of c.args.f) (file_of c.args.s) c.args.ins.now c.args.outs.now)))
    (sym (back.1 ∙ ap Err back.2)) told
