use Rattle.std.proofs.Common.{◌<◌, ℕ, subst}
use Rattle.kiss_reader.proofs.Names.{over_limit}
use Rattle.kiss_reader.proofs.limits.put_all.Goals as goal

pub returns-then-len-most : goal.returns-then-len-most
returns-then-len-most c =
    over_limit c.args.most c.loop-left.set c.put.new.set _ c.loop-left.left.now _ c.in-len1-up.len_at_least c.in_ok-put.ensures
    (subst (λ (n : ℕ). c.args.most < n) c.len.ensures.len c.if-len-most.true) c.loop-left.invariant.wanted
