use Rattle.std.proofs.Common.{Some, sym, ◌∙◌, ap}
use Rattle.name_table.proofs.Shown.{item_at, mapped_at, name_at}
use Rattle.name_table.proofs.scope.Scope.name.Goals as goal

pub returns : goal.returns
returns c =
    let found = item_at c.deref.result.now c.self.inside.vars.items c.args.k c.in_ok-var.var.now c.deref.ensures.value
    c.in_ok-var.ensures.lookup.1 c.in_ok-var.ensures.lookup.3.0 in
    ap Some c.as_slice.ensures.value
    ∙ sym (name_at c.args.self.now c.args.k _
    (mapped_at c.self.inside.vars.items (λ v. record { name = v.name.items; values = v.domain }) c.args.self.now c.args.k c.in_ok-var.var.now
    c.self.view_is found))
