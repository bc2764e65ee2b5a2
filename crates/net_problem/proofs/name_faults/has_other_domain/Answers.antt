use Rattle.std.proofs.Common.{◌≡◌, true, not, refl, sym, ◌∙◌, ap}
use Rattle.std.specs.Str.{bytes_eq}
use Rattle.std.proofs.lemmas.Bool.Decides.{same_from_decides}
use Rattle.name_table.specs.Variables.{are_same}
use Rattle.name_table.proofs.Shown.{are_same-Decides}
use Rattle.net_problem.proofs.Domains.{domain_at}
use Rattle.net_problem.proofs.name_faults.has_other_domain.Goals as goal

pub returns-then-eq : goal.returns-then-eq
returns-then-eq c =
    let other = c.other-item.result in
    let values = c.args.var.now.domain in
    let test = are_same-Decides values other.domain (are_same values other.domain) refl in
    let same : bytes_eq other.name.items c.args.var.now.name.items ≡ true =
    sym (λ i. bytes_eq (c.as_slice.ensures.value i) (c.as_slice-in-loop-other.ensures.value i)) ∙ (sym c.eq.ensures ∙ c.if-eq.true) in
    ap not (same_from_decides c.is_same.result (are_same values other.domain) c.is_same.ensures test)
    ∙ (sym (domain_at c.args.s.now c.loop-other.other-index other c.args.var.now.name.items values c.loop-other-test.true c.other-item.is same)
    ∙ c.loop-other.invariant)
