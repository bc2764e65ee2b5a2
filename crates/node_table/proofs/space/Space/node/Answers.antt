use Rattle.std.proofs.Common.{◌≡◌, ◌+◌, ◌-◌, ℕ, Some, reverse, sym, ap, ◌∙◌, subst, arith}
use Rattle.node_table.specs.Table.{Table, node_of}
use Rattle.node_table.proofs.Keys.{node_of-key}
use Rattle.node_table.proofs.space.Space.node.Goals as goal

pub returns-clause-node : goal.returns-clause-node
returns-clause-node c =
    let P : Table → Type 0 = λ t. node_of t.nodes c.args.r ≡ Some c.in-Some.node.now in
    let place : ℕ = c.number.result - 2 in
    let number : place + 2 ≡ c.args.r = omega arith in
    subst P c.self.view_is
    (sym (ap (λ r. node_of (reverse c.self.inside.held.keys) r) number) ∙ node_of-key c.self.inside.held.keys place ∙ sym c.in-Some.ensures.key)
