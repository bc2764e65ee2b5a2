use Rattle.std.proofs.Common.{ℕ, ◌≡◌, ◌<◌, ◌+◌, ◌∙◌, ◌||◌, [], List, Bool, false, length, sym, subst, arith}
use Rattle.node_table.specs.Table.{Bits, value_at}
use Rattle.node_table.proofs.Growth.{grows-trans}
use Rattle.det_core.specs.declared.det.Move.{Move}
use Rattle.det_core.specs.Automata.{State, state_at, states_of, AreGuards}
use Rattle.det_core.specs.Filling.{IsFilled, AreFilled}
use Rattle.det_core.proofs.Moves.{guards-grow}
use Rattle.det_core.proofs.Completions.{filled-before, filled-next}
use Rattle.det_core.proofs.completing.fill_all.Goals as goal

pub fill-requires-clause-rule : goal.fill-requires-clause-rule
fill-requires-clause-rule c =
    let a = c.args.space.now in
    let s = c.loop-state.space in
    let grow = c.loop-state.invariant.grows in
    let within : c.loop-state.state < length c.args.det.now = omega (arith, c.loop-state-test.true, c.states-count.ensures.states) in
    let rule = c.requires.rule c.loop-state.state (record { accepting = false; moves = [] }) within in
    let same : value_at a c.args.valid ≡ value_at s c.args.valid = (λ i bits. sym (grow.value c.args.valid c.requires.valid.held bits) i) in
    let Rule : (Bits → Bool) → Type 0 = λ letters. AreGuards s letters (state_at c.args.det.now c.loop-state.state).moves in
    let Guards : List Move → Type 0 = λ moves. AreGuards s (value_at s c.args.valid) moves in
    subst Guards (sym (c.in_ok-moves.ensures.ok ∙ c.moves.ensures.moves)) (subst Rule same (guards-grow a s grow (value_at a c.args.valid) (state_at c.args.det.now c.loop-state.state).moves rule))

pub loop-state-preserved : goal.loop-state-preserved
loop-state-preserved c =
    let a = c.args.space.now in
    let s = c.loop-state.space in
    let b = c.fill.new.space in
    let det = c.args.det.now in
    let k = c.loop-state.state in
    let grow = c.loop-state.invariant.grows in
    let within : k < length det = omega (arith, c.loop-state-test.true, c.states-count.ensures.states) in
    let rule = c.requires.rule k (record { accepting = false; moves = [] }) within in
    let same : value_at s c.args.valid ≡ value_at a c.args.valid = (λ i bits. grow.value c.args.valid c.requires.valid.held bits i) in
    let filled = c.fill.new.moves.items in
    let lacks = c.in_ok-lacking.field-0 in
    let count : c.states-count.result ≡ length det = c.states-count.ensures.states in
    let Whole : List Move → Type 0 = λ moves. IsFilled s b (value_at s c.args.valid) c.states-count.result moves filled lacks in
    let By : (Bits → Bool) → Type 0 = λ letters. IsFilled s b letters c.states-count.result (state_at det k).moves filled lacks in
    let To : ℕ → Type 0 = λ n. IsFilled s b (value_at a c.args.valid) n (state_at det k).moves filled lacks in
    let one = subst To count (subst By same (subst Whole (c.in_ok-moves.ensures.ok ∙ c.moves.ensures.moves) c.in_ok-lacking.ensures.ok)) in
    let Done : List State → Type 0 = λ done. AreFilled a b (value_at a c.args.valid) det (k + 1) done (c.loop-state.lacking || lacks) in
    record {
      filled = subst Done (sym c.in_ok-put.ensures.ok)
          (filled-next a s b (value_at a c.args.valid) det k (states_of c.loop-state.done.items) c.loop-state.lacking lacks (record { accepting = c.accepting-accepting.result; moves = filled }) c.in_ok-lacking.ensures.grows c.loop-state.invariant.filled c.accepting-accepting.ensures
          (filled-before a s b (value_at a c.args.valid) (length det) (state_at det k).moves filled lacks grow rule.valid one));
      grows = grows-trans a s b grow c.in_ok-lacking.ensures.grows;
      levels = c.in_ok-lacking.ensures.levels ∙ c.loop-state.invariant.levels;
    }
