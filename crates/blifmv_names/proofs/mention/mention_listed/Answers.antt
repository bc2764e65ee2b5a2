use Rattle.std.proofs.Common.{◌<◌, ◌∙◌, ap, ℕ, sym, subst}
use Rattle.blifmv_names.specs.Signals.{all_mentioned}
use Rattle.blifmv_names.proofs.Mentions.{too_many}
use Rattle.blifmv_names.proofs.mention.mention_listed.Goals as goal

pub returns-then-len-gt-MOST_SIGNALS : goal.returns-then-len-gt-MOST_SIGNALS
returns-then-len-gt-MOST_SIGNALS c =
    let many = subst (λ (n : ℕ). 4096 < n) c.len.ensures.len c.if-len-gt-MOST_SIGNALS.true in
    too_many c.mention.new.self _ c.next_name.new.self many
    (ap (λ signals. all_mentioned signals c.next_name.new.self) c.in_ok-mention.ensures.ok
    ∙ (ap (all_mentioned c.loop-name.signals) (sym c.in-Some.ensures.name) ∙ c.loop-name.invariant.wanted))
