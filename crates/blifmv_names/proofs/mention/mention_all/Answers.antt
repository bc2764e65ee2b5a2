use Rattle.std.proofs.Common.{◌<◌, ℕ, subst}
use Rattle.blifmv_names.proofs.Mentions.{over_limit}
use Rattle.blifmv_names.proofs.mention.mention_all.Goals as goal

pub returns-then-len-gt-MOST_SIGNALS : goal.returns-then-len-gt-MOST_SIGNALS
returns-then-len-gt-MOST_SIGNALS c =
    over_limit c.loop-left.signals c.mention.new.self _ c.loop-left.left.now _ c.in-len1-up.len_at_least c.in_ok-mention.ensures.ok
    (subst (λ (n : ℕ). 4096 < n) c.len.ensures.len c.if-len-gt-MOST_SIGNALS.true) c.loop-left.invariant.wanted
