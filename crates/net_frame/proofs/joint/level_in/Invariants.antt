use Rattle.std.proofs.Common.{◌≡◌, ◌+◌, drop}
use Rattle.name_table.specs.CodeBits.{bits_in}
use Rattle.net_model.specs.Topologies.{is_named}
use Rattle.net_frame.specs.Frames.{level_in}
use Rattle.net_frame.proofs.joint.level_in.Given as goal

abbrev pub invariant-loop-var : goal.invariant-loop-var
invariant-loop-var l = record {
  left : l.level + bits_in (drop l.var l.x.scope) ≡ l.x.first + bits_in l.x.scope;
  named : is_named (drop l.var l.x.scope) l.name ≡ is_named l.x.scope l.name;
  level : level_in (drop l.var l.x.scope) l.level l.name ≡ level_in l.x.scope l.x.first l.name;
}
