use Rattle.std.proofs.Common.{not, if◌then◌else◌}
use Rattle.node_table.specs.Table.{Table, value_at}
use Rattle.bdd_ops.proofs.Choices.{not-ite}
use Rattle.bdd_ops.proofs.Missing.{missing-same}
use Rattle.bdd_ops.proofs.connectives.not.Goals as goal

pub returns-clause-needed : goal.returns-clause-needed
returns-clause-needed c full =
    let old : Table = c.args.space.now in
    missing-same c.ite.new.space (λ bits. if value_at old c.args.f bits then value_at old c.zero-zero.result bits else value_at old c.one-one.result bits) (λ bits. not (value_at old c.args.f bits))
    (λ bits. not-ite (value_at old c.args.f bits) (value_at old c.zero-zero.result bits) (value_at old c.one-one.result bits) (c.zero-zero.ensures.value bits) (c.one-one.ensures.value bits))
    (c.ite.ensures.needed full)
