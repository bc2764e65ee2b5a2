use Rattle.std.proofs.Common.{◌≡◌, ◌≤◌, ◌++◌, [], ◌∷◌, ◌∙◌, List, length, ap, subst, sym, arith}
use Rattle.name_table.specs.CodeBits.{bits_in}
use Rattle.name_table.specs.ScopeVars.{variables_of}
use Rattle.name_table.specs.declared.scope_var.ScopeVar.{ScopeVar}
use Rattle.name_table.proofs.Powers.{code_few}
use Rattle.net_frame.proofs.codes.code_from.Goals as goal

short : (had vars : List ScopeVar) (v : ScopeVar) → had ≡ [] → vars ≡ had ++ v ∷ [] → length v.domain ≤ 131072 → bits_in (variables_of vars) ≤ 2000
short had vars v none pushed few =
    let bits = code_few (length v.domain) (omega (arith, few)) in
    let is = ap (λ all. bits_in (variables_of all)) (pushed ∙ ap (λ all. all ++ v ∷ []) none) in
    omega (arith, bits, is)

pub planned-requires-clause-few : goal.planned-requires-clause-few
planned-requires-clause-few c =
    let same : c.in_ok-domain.domain ≡ c.args.domain.now = c.in_ok-domain.ensures.cases in
    let size = ap length same in
    let few = short c.new-vars.result.items c.push.new.self.items (record { name = c.in_ok-name.name; domain = c.in_ok-domain.domain }) c.new-vars.ensures.items c.in_ok-push.ensures.items (omega (arith, size, c.len.ensures.good.few)) in
    subst (λ vars. bits_in vars ≤ 2000) (sym c.of_vars.ensures) few
