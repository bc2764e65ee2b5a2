use Rattle.std.proofs.Common.{◌≡◌, Some, reverse, sym, ap, ◌∙◌, subst}
use Rattle.node_table.specs.Table.{Table, node_of, IsNew}
use Rattle.node_table.proofs.Keys.{node_of-position, IsNew-absent}
use Rattle.node_table.proofs.Nodes.{held-node}
use Rattle.node_table.proofs.space.Space.find.Goals as goal

pub returns-in-Some-clause-found : goal.returns-in-Some-clause-found
returns-in-Some-clause-found c =
    let P : Table → Type 0 = λ t. node_of t.nodes c.numbered.result ≡ Some c.args.node.now in
    let at : P c.args.self.now = subst P c.self.view_is
    (ap (λ r. node_of (reverse c.self.inside.held.keys) r) c.numbered.ensures
    ∙ node_of-position c.self.inside.held.keys c.args.node.now c.in-Some.place (sym c.in-Some.ensures.index)) in
    (at, (held-node c.args.self.now.nodes c.numbered.result c.args.node.now at).1)

pub returns-in-None-clause-new : goal.returns-in-None-clause-new
returns-in-None-clause-new c =
    let P : Table → Type 0 = λ t. IsNew t.nodes c.args.node.now in
    subst P c.self.view_is (IsNew-absent c.self.inside.held.keys c.args.node.now (sym c.in-None.ensures.found))
