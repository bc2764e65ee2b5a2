use Rattle.std.proofs.Common.{◌≡◌, ◌<◌, ◌∙◌, length, map, ap, arith}
use Rattle.std.specs.List.{range_with_len}
use Rattle.std.proofs.lemmas.List.FromFn.{length-map-range_with_len}
use Rattle.name_table.specs.CodeBits.{bits_in}
use Rattle.name_table.specs.ScopeVars.{variable_at}
use Rattle.mv_encoding.specs.Layouts.{Layout}
use Rattle.mv_encoding.specs.Sets.{layout_of}
use Rattle.mv_encoding.specs.Spots.{spot_of}
use Rattle.mv_encoding.proofs.Places.{before-next, before-within}
use Rattle.net_frame.proofs.Gathered.{mapped-more}
use Rattle.net_frame.proofs.joint.codes_of_x.Goals as goal

pub code_of_variable-requires-clause-low : goal.code_of_variable-requires-clause-low
code_of_variable-requires-clause-low c =
    let known : c.loop-var.var < length c.args.x.now.scope = let size = ap length c.scope-scope.ensures in omega (arith, c.loop-var-test.true, c.len-var-end.ensures.len, size) in
    let within = before-within c.args.x.now.scope c.loop-var.var known in
    omega (arith, within, c.loop-var.invariant.level, c.requires)

pub loop-var-preserved : goal.loop-var-preserved
loop-var-preserved c =
    let x = c.args.x.now in
    let known : c.loop-var.var < length c.args.x.now.scope = let size = ap length c.scope-scope.ensures in omega (arith, c.loop-var-test.true, c.len-var-end.ensures.len, size) in
    let next = before-next x.scope c.loop-var.var known in
    let is : c.in_ok-code.code ≡ layout_of c.args.x.now c.loop-var.var = c.in_ok-code.ensures ∙ (λ i. spot_of (variable_at (c.scope-scope.ensures i) c.loop-var.var) (c.loop-var.invariant.level i)) in
    let bits = ap (λ (code : Layout). bits_in code.scope) is in
    record {
      level = omega (arith, next, bits, c.bits-level.ensures.bits, c.loop-var.invariant.level);
      made = mapped-more (layout_of x) c.loop-var.codes.items c.push.new.self.items c.in_ok-code.code c.loop-var.var c.loop-var.invariant.made is c.in_ok-push.ensures.items;
    }

pub returns-clause-few : goal.returns-clause-few
returns-clause-few c =
    let size = ap length c.loop-var.invariant.made ∙ length-map-range_with_len (layout_of c.args.x.now) 0 c.loop-var.var in
    omega (arith, size, c.loop-var.auto.var-end, c.len-var-end.ensures.len, c.len-var-end.ensures.good.few)

pub returns-clause-codes : goal.returns-clause-codes
returns-clause-codes c =
    let end : c.loop-var.var ≡ length c.args.x.now.scope = let size = ap length c.scope-scope.ensures in omega (arith, size, c.loop-var-test.false, c.loop-var.auto.var-end, c.len-var-end.ensures.len) in
    c.loop-var.invariant.made ∙ ap (λ n. map (layout_of c.args.x.now) (range_with_len 0 n)) end
