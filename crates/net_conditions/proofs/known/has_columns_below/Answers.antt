use Rattle.std.proofs.Common.{◌<◌, ℕ, Decides, All, map, subst}
use Rattle.name_table.specs.declared.names.VarId.{VarId}
use Rattle.net_conditions.proofs.Named.{Decides-both, Decides-not_both}
use Rattle.net_conditions.proofs.known.has_columns_below.Goals as goal

pub returns-then-are_below : goal.returns-then-are_below
returns-then-are_below c =
    let below : ℕ → Type 0 = λ signal. signal < c.args.count in
    let number : VarId → ℕ = λ v. v.0 in
    Decides-both below (map number c.args.table.now.ins.items) (map number c.args.table.now.outs.items) c.are_below.result
    (subst (λ signals. Decides c.are_below.result (All below (map number signals))) c.deref.ensures.value c.are_below.ensures)
    c.are_below-then-are_below.result
    (subst (λ signals. Decides c.are_below-then-are_below.result (All below (map number signals))) c.deref-then-are_below.ensures.value c.are_below-then-are_below.ensures)
    c.if-are_below.true

pub returns-else-are_below : goal.returns-else-are_below
returns-else-are_below c =
    let below : ℕ → Type 0 = λ signal. signal < c.args.count in
    let number : VarId → ℕ = λ v. v.0 in
    Decides-not_both below (map number c.args.table.now.ins.items) (map number c.args.table.now.outs.items) c.are_below.result
    (subst (λ signals. Decides c.are_below.result (All below (map number signals))) c.deref.ensures.value c.are_below.ensures)
    c.if-are_below.false
