use Rattle.std.proofs.Common.{sym}
use Rattle.name_table.proofs.Shown.{seen_at, values_at}
use Rattle.name_table.proofs.names.Names.domain.Goals as goal

pub returns : goal.returns
returns c =
    sym (values_at c.args.self.now c.args.var.0 _
    (seen_at c.self.inside.table.entries c.args.var.0 (c.in_ok-domain.field-0-0.now, c.in_ok-domain.domain.now) (λ n. n.items) c.args.self.now
    c.self.view_is c.in_ok-domain.ensures.entry))
