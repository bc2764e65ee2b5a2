use Rattle.std.proofs.Common.{◌&&◌, if◌then◌else◌}
use Rattle.node_table.specs.Table.{Table, value_at}
use Rattle.bdd_ops.proofs.Choices.{and-ite}
use Rattle.bdd_ops.proofs.Missing.{missing-same}
use Rattle.bdd_ops.proofs.connectives.and.Goals as goal

pub returns-clause-needed : goal.returns-clause-needed
returns-clause-needed c full =
    let old : Table = c.args.space.now in
    missing-same c.ite.new.space (λ bits. if value_at old c.args.f bits then value_at old c.args.g bits else value_at old c.zero-zero.result bits) (λ bits. value_at old c.args.f bits && value_at old c.args.g bits)
    (λ bits. and-ite (value_at old c.args.f bits) (value_at old c.args.g bits) (value_at old c.zero-zero.result bits) (c.zero-zero.ensures.value bits))
    (c.ite.ensures.needed full)
