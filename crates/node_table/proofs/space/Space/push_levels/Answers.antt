use Rattle.std.proofs.Common.{◌+◌, ◌≤◌, sym, subst, arith}
use Rattle.node_table.specs.declared.node.TheConstants.{MAX_LEVELS}
use Rattle.node_table.specs.Table.{Table, table_of, Grows}
use Rattle.node_table.proofs.Growth.{table-with_levels, grows-with_levels}
use Rattle.node_table.proofs.space.Space.push_levels.Goals as goal

pub invariant_of-self : goal.invariant_of-self
invariant_of-self c =
    let old : Table = table_of c.self.inside.held.keys c.self.inside.levels c.self.inside.limit c.self.inside.peak in
    let Fits : Table → Type 0 = λ t. t.levels + c.args.n ≤ MAX_LEVELS in
    table-with_levels old (c.self.inside.levels + c.args.n) (omega arith) (subst Fits (sym c.self.view_is) c.requires) c.self.invariant

pub returns-clause-grows : goal.returns-clause-grows
returns-clause-grows c =
    let old : Table = table_of c.self.inside.held.keys c.self.inside.levels c.self.inside.limit c.self.inside.peak in
    let Fits : Table → Type 0 = λ t. t.levels + c.args.n ≤ MAX_LEVELS in
    let P : Table → Type 0 = λ t. Grows t (record old { levels = c.self.inside.levels + c.args.n }) in
    subst P c.self.view_is (grows-with_levels old (c.self.inside.levels + c.args.n) (omega arith) (subst Fits (sym c.self.view_is) c.requires) c.self.invariant)
