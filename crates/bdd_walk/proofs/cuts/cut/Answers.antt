use Rattle.std.proofs.Common.{◌≡◌, [], List, ℕ, sym, ap, ◌∙◌, subst}
use Rattle.std.proofs.lemmas.Result.{IfOk-weaker}
use Rattle.bdd_walk.specs.Cuts.{IsCut}
use Rattle.bdd_walk.specs.Walk.{ends_of, put_all}
use Rattle.bdd_walk.proofs.Fixings.{is-cut}
use Rattle.bdd_walk.proofs.cuts.cut.Goals as goal

pub returns : goal.returns
returns c =
    let t = c.args.space.now in
    let level : ℕ = c.args.level in
    let f : ℕ = c.args.f in
    let left : List ℕ = c.as_slice.result.now in
    let IsCutHere : List ℕ → Type 0 = IsCut t level f in
    let same : left ≡ put_all [] (ends_of level t.nodes f) =
    c.as_slice.ensures.keys
    ∙ c.in_ok-gather.ensures.left
    ∙ ap (λ keys. put_all keys (ends_of level t.nodes f)) c.new-left.ensures.empty in
    IfOk-weaker c.from_slice.result (λ refs. refs.items ≡ left) (λ refs. IsCut t level f refs.items)
    (λ refs is. subst IsCutHere (sym (is ∙ same)) (is-cut t level f c.requires))
    c.from_slice.ensures.items
