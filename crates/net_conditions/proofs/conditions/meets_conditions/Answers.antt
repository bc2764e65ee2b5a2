use Rattle.std.proofs.Common.{Decides}
use Rattle.std.proofs.lemmas.Result.{IfOk-weaker}
use Rattle.net_model.specs.Conditions.{MeetsConditions}
use Rattle.net_model.specs.Nets.{net_of}
use Rattle.net_conditions.proofs.conditions.meets_conditions.Goals as goal

-- where all other conditions hold, the last one decides
pub returns : goal.returns
returns c =
    IfOk-weaker c.is_acceptance_met.result _ (λ good. Decides good (MeetsConditions (net_of c.args.net.now)))
    (λ good decides. (
      λ holds. record {
        once = c.in_ok-is_driven_once.ensures.0 c.if-not-branch.false;
        driven = c.in_ok-are_uses_driven.ensures.0 c.if-not-branch-2.false;
        latches = c.have_equal_sizes.ensures.0 c.if-not-have_equal_sizes.false;
        reset_once = c.in_ok-is_reset_once.ensures.0 c.if-not-branch-3.false;
        resets = c.in_ok-are_resets.ensures.0 c.if-not-branch-4.false;
        acceptance = decides.0 holds;
      },
      λ meets. decides.1 meets.acceptance,
    ))
    c.is_acceptance_met.ensures
