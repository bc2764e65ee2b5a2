use Rattle.std.proofs.Common.{◌+◌, List, length, drop, ap, sym, subst, ◌∙◌, arith}
use Rattle.det_core.specs.declared.det.Move.{Move}
use Rattle.det_core.specs.Automata.{AreGuardsValid}
use Rattle.det_core.proofs.Encodings.{guards-at}
use Rattle.aut_format.specs.Rows.{rows_from}
use Rattle.aut_format.specs.Counts.{at_most_64_bits}
use Rattle.aut_format.proofs.Counting.{state-count}
use Rattle.aut_format.proofs.Printing.{guards-valid}
use Rattle.aut_format.proofs.counts.rows_of.Goals as goal

pub of_moves-requires-clause-valid : goal.of_moves-requires-clause-valid
of_moves-requires-clause-valid c =
    subst (λ (moves : List Move). AreGuardsValid c.args.space.now moves) (sym c.moves.ensures.moves)
    (guards-at c.args.space.now c.args.det.now (guards-valid c.args.space.now c.args.coding.now c.args.det.now c.requires.rule) c.loop-state.state)

pub loop-state-preserved : goal.loop-state-preserved
loop-state-preserved c =
    let k = c.loop-state.state in
    record {
      right = c.in_ok-more.ensures.right;
      few = omega (arith, c.saturating_add-rows.type_inv);
      counted =
          ap (λ n. at_most_64_bits (n + length (rows_from c.args.space.now c.args.coding.now (k + 1) (drop (k + 1) c.args.det.now)))) c.saturating_add-rows.ensures
          ∙ state-count c.args.space.now c.args.coding.now c.args.det.now k _ c.loop-state.rows c.in_ok-more.more c.moves.result.now (omega (arith, c.loop-state-test.true, c.states-state-end.ensures.states)) c.moves.ensures.moves c.in_ok-more.ensures.count c.loop-state.invariant.counted;
    }
