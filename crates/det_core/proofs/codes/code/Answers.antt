use Rattle.std.proofs.Common.{◌≡◌, ◌==◌, ◌-◌, ◌/◌, ◌%◌, ℕ, slice_get, Some, sym, ◌∙◌, subst, arith}
use Rattle.std.proofs.lemmas.Option.{slice_get_within, get_or_from_slice_get}
use Rattle.node_table.proofs.Growth.{grows-trans}
use Rattle.det_core.proofs.Digits.{IsChain, chain-next, chain-long, halves}
use Rattle.det_core.proofs.codes.code.Goals as goal

pub with_digit-requires-clause-below : goal.with_digit-requires-clause-below
with_digit-requires-clause-below c =
    let levels = c.args.levels.now in
    let at : slice_get levels (c.loop-k.k - 1) ≡ Some c.in-Some.level = sym c.at.ensures ∙ c.in-Some.is in
    let here = get_or_from_slice_get levels (c.loop-k.k - 1) c.in-Some.level 0 at in
    let low = c.loop-k.invariant.chain.below (c.loop-k.k - 1) (omega (arith, c.loop-k-test.true)) in
    omega (arith, here, low)

pub loop-k-preserved : goal.loop-k-preserved
loop-k-preserved c =
    let levels = c.args.levels.now in
    let at : slice_get levels (c.loop-k.k - 1) ≡ Some c.in-Some.level = sym c.at.ensures ∙ c.in-Some.is in
    let here = get_or_from_slice_get levels (c.loop-k.k - 1) c.in-Some.level 0 at in
    let within = slice_get_within levels (c.loop-k.k - 1) c.in-Some.level at in
    record {
      chain = chain-next c.loop-k.space c.with_digit.new.space levels c.args.number (c.loop-k.k - 1) c.loop-k.k c.loop-k.rest (c.loop-k.rest / 2) c.in-Some.level c.loop-k.code c.in_ok-code.code (c.loop-k.rest % 2 == 1) (omega (arith, c.loop-k-test.true)) within c.len-k.ensures.rises here (halves c.loop-k.rest) c.loop-k.invariant.chain c.in_ok-code.ensures.ok;
      grows = grows-trans _ _ _ c.loop-k.invariant.grows c.in_ok-code.ensures.grows;
      levels = c.in_ok-code.ensures.levels ∙ c.loop-k.invariant.levels;
    }

pub returns-else-rest-eq0-clause-ok : goal.returns-else-rest-eq0-clause-ok
returns-else-rest-eq0-clause-ok c =
    let place : c.loop-k.k ≡ 0 = omega (arith, c.loop-k-test.false) in
    let At : ℕ → Type 0 = λ k. IsChain c.loop-k.space c.args.levels.now c.args.number k c.loop-k.rest c.loop-k.code in
    record {
      valid = c.zero.ensures.valid;
      value = λ bits. c.zero.ensures.value bits ∙ sym (chain-long c.loop-k.space c.args.levels.now c.args.number c.loop-k.rest c.loop-k.code c.if-rest-eq0.false (subst At place c.loop-k.invariant.chain) bits);
    }
