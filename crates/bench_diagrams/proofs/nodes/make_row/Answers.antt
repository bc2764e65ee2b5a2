use Rattle.std.proofs.Common.{rules, ◌+◌, ◌≤◌, arith, vec_len}
use Rattle.bench_diagrams.specs.Rows.{StandsAt}
use Rattle.node_table.specs.Table.{Makes}
use Rattle.bench_diagrams.proofs.Rows.{row_more}
use Rattle.bench_diagrams.proofs.nodes.make_row.Goals as goal
use Rattle.bench_diagrams.proofs.nodes.make_row.Goals.{then-len-size+in_ok-node+in_ok-push+in_ok-push-2, else-len-size}

pub loop-lo-preserved : goal.loop-lo-preserved
loop-lo-preserved c =
    elim c.if-len-size.branch [
      | then-len-size+in_ok-node+in_ok-push+in_ok-push-2 w ↦
          let made : Makes c.loop-lo.space w.mk.new.self c.args.level c.lo-item.result c.loop-lo.hi w.in_ok-node.node = search rules in
          let node : StandsAt w.mk.new.self c.args.level w.in_ok-node.node = record { valid = made.valid; top = made.top } in
          let lo : StandsAt c.loop-lo.space (c.args.level + 1) c.lo-item.result = search rules in
          let more = row_more c.loop-lo.invariant.0 w.mk.ensures.grows w.mk.ensures.levels w.in_ok-node.node c.lo-item.result node lo in
          let few : vec_len c.if-len-size.made ≤ c.args.size = rw w.made-is (omega (arith, w.in_ok-push-2.ensures.len)) in
          (rw (w.space-is, w.row-is, w.in_ok-push.ensures.items, w.hi-is) more, few)
      | else-len-size w ↦ (rw (w.space-is, w.row-is, w.hi-is) c.loop-lo.invariant.0, rw w.made-is c.loop-lo.invariant.1)
    ]
