use Rattle.std.proofs.Common.{sym, subst}
use Rattle.name_table.specs.Variables.{IsTable}
use Rattle.name_table.proofs.Shown.{shown_after, IsTable-push}
use Rattle.name_table.proofs.names.Names.push_new.Goals as goal

pub invariant_of-self-2 : goal.invariant_of-self-2
invariant_of-self-2 c =
    let after = shown_after c.self.inside.table.entries c.insert.new.self.entries c.args.name c.args.domain (λ n. n.items) c.args.self.now
    c.in_ok-insert.ensures.entries c.self.view_is c.requires.fresh in
    subst IsTable (sym after)
    (IsTable-push c.args.self.now (record { name = c.args.name.items; values = c.args.domain })
    (subst IsTable c.self.view_is c.self.invariant) c.requires.room c.requires.fresh c.requires.few)

pub returns-clause-ok : goal.returns-clause-ok
returns-clause-ok c =
    shown_after c.self.inside.table.entries c.insert.new.self.entries c.args.name c.args.domain (λ n. n.items) c.args.self.now
    c.in_ok-insert.ensures.entries c.self.view_is c.requires.fresh
