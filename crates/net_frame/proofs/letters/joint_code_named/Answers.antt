use Rattle.std.proofs.Common.{sym, subst}
use Rattle.mv_encoding.specs.Spots.{IsSpot}
use Rattle.net_frame.proofs.letters.joint_code_named.Goals as goal

pub has_name-requires : goal.has_name-requires
has_name-requires c = subst (λ spot. IsSpot spot) (sym c.code-item.is) (c.requires.joint.spots_are c.loop-code.code-index c.code-item.result c.loop-code-test.true)
