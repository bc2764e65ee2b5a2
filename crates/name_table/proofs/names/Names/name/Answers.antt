use Rattle.std.proofs.Common.{Some, sym, ◌∙◌, ap}
use Rattle.name_table.proofs.Shown.{seen_at, name_at}
use Rattle.name_table.proofs.names.Names.name.Goals as goal

pub returns : goal.returns
returns c =
    ap Some c.as_slice.ensures.value
    ∙ sym (name_at c.args.self.now c.args.var.0 _
    (seen_at c.self.inside.table.entries c.args.var.0 (c.in_ok-name.name.now, c.in_ok-name.field-0-1.now) (λ n. n.items) c.args.self.now
    c.self.view_is c.in_ok-name.ensures.entry))
