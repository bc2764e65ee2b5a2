use Rattle.std.proofs.Common.{map, ◌∙◌, ap}
use Rattle.name_table.proofs.Shown.{shown_same}
use Rattle.name_table.proofs.name_set.NameSet.is_same.Goals as goal

pub returns : goal.returns
returns c =
    c.eq.ensures
    ∙ shown_same c.as_slice.result.now c.as_slice-2.result.now (λ n. n.items) _ _
    (ap (λ names. map (λ n. n.items) names) c.as_slice.ensures.value ∙ c.self.view_is)
    (ap (λ names. map (λ n. n.items) names) c.as_slice-2.ensures.value ∙ c.other.view_is)
