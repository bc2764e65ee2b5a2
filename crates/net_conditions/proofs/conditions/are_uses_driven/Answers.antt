use Rattle.std.proofs.Common.{◌<◌, ℕ, Decides, All, ap, subst, ◌∙◌}
use Rattle.std.specs.List.{list_all}
use Rattle.net_model.specs.Conditions.{times_driven}
use Rattle.net_model.specs.Nets.{net_of}
use Rattle.net_conditions.specs.Marks.{is_marked}
use Rattle.net_conditions.proofs.Listed.{Decides-images}
use Rattle.net_conditions.proofs.conditions.are_uses_driven.Goals as goal

pub returns : goal.returns
returns c =
    let driven : ℕ → Type 0 = λ signal. 0 < times_driven (net_of c.args.net.now) signal in
    let answer = c.has_all.ensures ∙ ap (list_all (λ v. is_marked c.in_ok-driven.driven v.0)) c.deref.ensures.value in
    subst (λ signals. Decides c.has_all.result (All driven signals)) c.in_ok-uses.ensures
    (Decides-images (λ v. v.0) driven (λ v. is_marked c.in_ok-driven.driven v.0) c.has_all.result c.in_ok-uses.uses.items (λ v. c.in_ok-driven.ensures v.0) answer)
