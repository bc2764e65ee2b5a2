use Rattle.std.proofs.Common.{◌≡◌, ◌&&◌, Bool, true, false, refl}
use Rattle.node_table.specs.Table.{Table, value_at}
use Rattle.bdd_ops.proofs.Short.{short-same}
use Rattle.bdd_ops.proofs.quantifiers.exists.Goals as goal

and-true : (a b : Bool) → b ≡ true → (a && b) ≡ a
and-true true b is = is
and-true false b is = refl

pub returns-clause-needed : goal.returns-clause-needed
returns-clause-needed c full =
    let old : Table = c.args.space.now in
    short-same c.and_exists.new.space c.args.levels.now (λ bits. value_at old c.args.f bits && value_at old c.one-one.result bits) (λ bits. value_at old c.args.f bits)
    (λ bits. and-true (value_at old c.args.f bits) (value_at old c.one-one.result bits) (c.one-one.ensures.value bits))
    (c.and_exists.ensures.needed full)
