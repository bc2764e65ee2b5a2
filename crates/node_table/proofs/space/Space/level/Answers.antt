use Rattle.std.proofs.Common.{◌<◌, sym, ap, arith}
use Rattle.std.specs.Option.{option_map}
use Rattle.node_table.proofs.Ends.{tells}
use Rattle.node_table.proofs.Nodes.{node-constant, level-constant}
use Rattle.node_table.proofs.space.Space.level.Goals as goal

pub returns-then-number-lt2-clause-node : goal.returns-then-number-lt2-clause-node
returns-then-number-lt2-clause-node c =
    let constant : c.args.r < 2 = omega arith in
    sym (ap (option_map (λ n. n.level)) (node-constant c.args.self.now.nodes c.args.r constant))

pub returns-then-number-lt2-clause-none : goal.returns-then-number-lt2-clause-none
returns-then-number-lt2-clause-none c =
    let constant : c.args.r < 2 = omega arith in
    level-constant c.args.self.now.levels c.args.self.now.nodes c.args.r constant

pub returns-else-number-lt2-clause-level : goal.returns-else-number-lt2-clause-level
returns-else-number-lt2-clause-level c =
    let told = tells c.args.self.now c.requires.table c.args.r c.node.result c.node.ensures.node in
    (omega arith, told.top, told.level_exists)
