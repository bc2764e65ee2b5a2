use Rattle.std.proofs.Common.{◌≡◌, ◌<◌, ◌+◌, ◌++◌, ◌∷◌, [], ◌∙◌, ℕ, List, length, drop, sym, ap, arith}
use Rattle.std.proofs.lemmas.List.{append_assoc, append-nil, drop_all}
use Rattle.name_table.specs.ScopeVars.{variable_at}
use Rattle.net_model.specs.Words.{Scope}
use Rattle.mv_encoding.specs.Layouts.{Layout}
use Rattle.mv_encoding.proofs.Places.{drop-next}
use Rattle.net_frame.specs.Frames.{shared_by, joint_spot, joint_spots, added}
use Rattle.net_frame.specs.Making.{added_bits}
use Rattle.net_frame.proofs.joint.joint_codes.Goals as goal

more-codes : (x joint : Scope) (first level behind var : ℕ) (had now all : List Layout) (code : Layout) → var < length joint → code ≡ joint_spot x first level (variable_at joint var) → behind ≡ level + added x (variable_at joint var) → now ≡ had ++ code ∷ [] → had ++ joint_spots x first level (drop var joint) ≡ all → now ++ joint_spots x first behind (drop (var + 1) joint) ≡ all
more-codes x joint first level behind var had now all code known is next more whole =
    (λ i. more i ++ joint_spots x first (next i) (drop (var + 1) joint))
    ∙ append_assoc had (code ∷ []) (joint_spots x first (level + added x (variable_at joint var)) (drop (var + 1) joint))
    ∙ (λ i. had ++ is i ∷ joint_spots x first (level + added x (variable_at joint var)) (drop (var + 1) joint))
    ∙ ap (λ vars. had ++ joint_spots x first level vars) (sym (drop-next joint var known))
    ∙ whole

pub loop-var-preserved : goal.loop-var-preserved
loop-var-preserved c =
    let x = shared_by c.args.mode c.args.x.now.scope in
    let joint = c.args.joint.now in
    let known : c.loop-var.var < length c.args.joint.now = omega (arith, c.loop-var-test.true, c.len-var-end.ensures.len) in
    let rest = ap (added_bits x) (drop-next joint c.loop-var.var known) in
    record {
      left = omega (arith, rest, c.in_ok-code.ensures.next, c.loop-var.invariant.left);
      whole = more-codes x joint c.args.x.now.first c.loop-var.level c.in_ok-code.behind c.loop-var.var c.loop-var.codes.items c.push.new.self.items _ c.in_ok-code.code known c.in_ok-code.ensures.code c.in_ok-code.ensures.next c.in_ok-push.ensures.items c.loop-var.invariant.whole;
    }

pub joint_code-requires-clause-next : goal.joint_code-requires-clause-next
joint_code-requires-clause-next c = omega (arith, c.loop-var.invariant.left, c.requires.room)

pub returns-clause-codes : goal.returns-clause-codes
returns-clause-codes c =
    let x = shared_by c.args.mode c.args.x.now.scope in
    let none = drop_all c.loop-var.var c.args.joint.now (omega (arith, c.loop-var-test.false, c.len-var-end.ensures.len)) in
    sym (append-nil c.loop-var.codes.items)
    ∙ ap (λ vars. c.loop-var.codes.items ++ joint_spots x c.args.x.now.first c.loop-var.level vars) (sym none)
    ∙ c.loop-var.invariant.whole

pub returns-clause-next : goal.returns-clause-next
returns-clause-next c =
    let x = shared_by c.args.mode c.args.x.now.scope in
    let none = ap (added_bits x) (drop_all c.loop-var.var c.args.joint.now (omega (arith, c.loop-var-test.false, c.len-var-end.ensures.len))) in
    omega (arith, none, c.loop-var.invariant.left)
