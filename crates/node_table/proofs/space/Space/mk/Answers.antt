use Rattle.std.proofs.Common.{arith}
use Rattle.node_table.proofs.Ends.{makes-held}
use Rattle.node_table.proofs.Nodes.{level-within}
use Rattle.node_table.proofs.space.Space.mk.Goals as goal

pub returns-in-Some-clause-ok : goal.returns-in-Some-clause-ok
returns-in-Some-clause-ok c =
    makes-held c.args.self.now c.requires.lo.table c.args.level c.args.lo c.args.hi c.in-Some.r (λ same. omega arith) c.in-Some.ensures.found.0

pub add-requires-clause-fits : goal.add-requires-clause-fits
add-requires-clause-fits c = record {
  lo_held = c.requires.lo.held;
  hi_held = c.requires.hi.held;
  lo_below = c.requires.lo_below;
  hi_below = c.requires.hi_below;
  ends_differ = λ same. omega arith;
  level_exists = let within = level-within c.args.self.now.levels c.args.self.now.nodes c.requires.lo.table.nodes c.args.lo in omega (arith, within, c.requires.lo_below);
  is_new = c.in_default.ensures.new;
}
