use Rattle.std.proofs.Common.{◌≡◌, ◌<◌, ◌++◌, true, false, length, sym, ap, ◌∙◌, arith}
use Rattle.std.proofs.lemmas.Bool.{eqb-true, eq-eqb, true≢false}
use Rattle.node_table.specs.Table.{top_of}
use Rattle.bdd_walk.specs.Paths.{behind, paths_of}
use Rattle.bdd_walk.specs.declared.trail.Trail.{Trail}
use Rattle.bdd_walk.proofs.Nodes.{has-ends}
use Rattle.bdd_walk.proofs.Ways.{paths-zero}
use Rattle.bdd_walk.proofs.Trails.{beside-zero, paths-ends, trail-push, left-push}
use Rattle.bdd_walk.proofs.trail.Trail.descend.Goals as goal

pub loop-level-preserved-then-eq : goal.loop-level-preserved-then-eq
loop-level-preserved-then-eq c =
    let t = c.args.space.now in
    let a = c.loop-level.self in
    let b : Trail = record { lits = c.push.new.self.lits; others = c.push.new.self.others; below = c.hi-hi.result } in
    let valid = c.loop-level.invariant.trail.way.below_valid in
    let level = c.in-Some.ensures.level in
    let ends = has-ends t a.below c.lo-lo.result c.hi-hi.result valid level.0 c.lo-lo.ensures.node c.hi-hi.ensures.node in
    let zero = c.zero-zero.ensures in
    let none : c.lo-lo.result ≡ 0 = eqb-true c.lo-lo.result c.zero-zero.result (sym c.eq.ensures ∙ c.if-eq.true) ∙ zero.number in
    let deep : length a.lits.items < top_of t c.hi-hi.result = omega (arith, c.loop-level.invariant.trail.way.deep, c.hi-hi.ensures.end.below) in
    let room : length a.lits.items < top_of t c.zero-zero.result = omega (arith, c.loop-level.invariant.trail.way.deep, level.1, level.2, zero.top) in
    let paths : paths_of t.nodes a.below ≡ behind c.in-Some.level true (paths_of t.nodes c.hi-hi.result) ++ behind c.in-Some.level true (paths_of t.nodes c.zero-zero.result) =
    paths-ends t a.below c.in-Some.level c.lo-lo.result c.hi-hi.result valid ends level.1
    ∙ ap (λ r. behind c.in-Some.level false (paths_of t.nodes r) ++ behind c.in-Some.level true (paths_of t.nodes c.hi-hi.result)) none
    ∙ ap (λ ps. behind c.in-Some.level false ps ++ behind c.in-Some.level true (paths_of t.nodes c.hi-hi.result)) (paths-zero t.nodes)
    ∙ sym (beside-zero t.nodes c.in-Some.level true (paths_of t.nodes c.hi-hi.result))
    ∙ ap (λ r. behind c.in-Some.level true (paths_of t.nodes c.hi-hi.result) ++ behind c.in-Some.level true (paths_of t.nodes r)) (sym zero.number) in
    record {
      trail = trail-push t a b (record { level = c.in-Some.level; value = true }) c.zero-zero.result c.loop-level.invariant.trail c.push.ensures.lits c.push.ensures.others c.push.ensures.lits_room c.push.ensures.others_room zero.valid c.hi-hi.ensures.end.valid room deep;
      left = left-push t a b (record { level = c.in-Some.level; value = true }) c.zero-zero.result c.loop-level.invariant.trail c.push.ensures.lits c.push.ensures.others paths ∙ c.loop-level.invariant.left;
      some = λ also. ends.differ (none ∙ sym also);
    }

pub loop-level-preserved : goal.loop-level-preserved
loop-level-preserved c =
    let t = c.args.space.now in
    let a = c.loop-level.self in
    let b : Trail = record { lits = c.push-else-eq.new.self.lits; others = c.push-else-eq.new.self.others; below = c.lo-lo.result } in
    let valid = c.loop-level.invariant.trail.way.below_valid in
    let level = c.in-Some.ensures.level in
    let ends = has-ends t a.below c.lo-lo.result c.hi-hi.result valid level.0 c.lo-lo.ensures.node c.hi-hi.ensures.node in
    let deep : length a.lits.items < top_of t c.lo-lo.result = omega (arith, c.loop-level.invariant.trail.way.deep, c.lo-lo.ensures.end.below) in
    let room : length a.lits.items < top_of t c.hi-hi.result = omega (arith, c.loop-level.invariant.trail.way.deep, c.hi-hi.ensures.end.below) in
    record {
      trail = trail-push t a b (record { level = c.in-Some.level; value = false }) c.hi-hi.result c.loop-level.invariant.trail c.push-else-eq.ensures.lits c.push-else-eq.ensures.others c.push-else-eq.ensures.lits_room c.push-else-eq.ensures.others_room c.hi-hi.ensures.end.valid c.lo-lo.ensures.end.valid room deep;
      left =
          left-push t a b (record { level = c.in-Some.level; value = false }) c.hi-hi.result c.loop-level.invariant.trail c.push-else-eq.ensures.lits c.push-else-eq.ensures.others (paths-ends t a.below c.in-Some.level c.lo-lo.result c.hi-hi.result valid ends level.1)
          ∙ c.loop-level.invariant.left;
      some = λ none. true≢false (sym (c.eq.ensures ∙ eq-eqb c.lo-lo.result c.zero-zero.result (none ∙ sym c.zero-zero.ensures.number)) ∙ c.if-eq.false);
    }
