use Rattle.std.proofs.Common.{◌≡◌, ◌+◌, ◌*◌, ◌∙◌, ◌++◌, ◌∷◌, [], length, sym, ap, arith}
use Rattle.bench_automata.proofs.Latches.{latch-len, latches-more}
use Rattle.bench_automata.proofs.registers.state_map.Goals as goal

pub loop-latch-preserved : goal.loop-latch-preserved
loop-latch-preserved c =
    let present = c.args.letters + 2 * c.loop-latch.latch in
    c.in_ok-push.ensures.items ∙ ap (λ pairs. pairs ++ (present + 1, present) ∷ []) c.loop-latch.invariant ∙ sym (latches-more c.args.letters c.loop-latch.latch)

pub of-requires : goal.of-requires
of-requires c =
    let end : c.loop-latch.latch ≡ c.args.latches = omega (arith, c.loop-latch-test.false, c.loop-latch.auto.latch-end) in
    let size = ap length c.deref.ensures.value ∙ ap length c.loop-latch.invariant ∙ latch-len c.args.letters c.loop-latch.latch in
    omega (arith, size, end, c.requires)
