use Rattle.std.proofs.Common.{sym, subst}
use Rattle.blifmv_names.specs.Signals.{AreSignals}
use Rattle.blifmv_names.proofs.Keyed.{shown_after, signals_put}
use Rattle.blifmv_names.proofs.signal_table.SignalTable.put.Goals as goal

pub invariant_of-self-2 : goal.invariant_of-self-2
invariant_of-self-2 c =
    let after = shown_after c.self.inside.table.entries c.insert.new.self.entries c.args.name c.args.given (λ n. n.items) c.args.self.now
    c.in_ok-insert.ensures.entries c.self.view_is in
    subst AreSignals (sym after)
    (signals_put c.args.self.now (record { name = c.args.name.items; given = c.args.given }) (subst AreSignals c.self.view_is c.self.invariant) c.requires)

pub returns-clause-ok : goal.returns-clause-ok
returns-clause-ok c =
    shown_after c.self.inside.table.entries c.insert.new.self.entries c.args.name c.args.given (λ n. n.items) c.args.self.now
    c.in_ok-insert.ensures.entries c.self.view_is
