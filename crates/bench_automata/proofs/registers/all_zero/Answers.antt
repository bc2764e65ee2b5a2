use Rattle.std.proofs.Common.{◌-◌, ◌<◌, ◌∙◌, sym, arith}
use Rattle.node_table.proofs.Growth.{grows-trans}
use Rattle.bench_automata.proofs.Latches.{is-present, reads-node}
use Rattle.bench_automata.proofs.registers.all_zero.Goals as goal

pub loop-latch-preserved : goal.loop-latch-preserved
loop-latch-preserved c =
    let before = c.loop-latch.invariant in
    let here : c.loop-latch.latch - 1 < c.args.latches = omega (arith, c.loop-latch-test.true, before.within) in
    let made = c.in_ok-all.ensures.ok in
    record {
      within = omega (arith, before.within);
      reads = reads-node made (is-present c.args.letters c.args.latches (c.loop-latch.latch - 1) here) before.reads.depends (λ u v same. c.zero-zero.ensures.value u ∙ sym (c.zero-zero.ensures.value v));
      below = made.top;
      grows = grows-trans c.args.space.now c.loop-latch.space c.mk.new.self before.grows c.mk.ensures.grows;
      levels = c.mk.ensures.levels ∙ before.levels;
    }
