use Rattle.std.proofs.Common.{◌≡◌, ◌≤◌, ℕ, List, true, refl, sym, ap, ◌∙◌, ◌⊎◌, inl, inr, arith}
use Rattle.node_table.specs.Table.{top_of}
use Rattle.bdd_walk.specs.Walk.{ends_of, is_among, put_all}
use Rattle.bdd_walk.proofs.Nodes.{has-ends}
use Rattle.bdd_walk.proofs.Puts.{put-either, put_all-known, put_all-append, put_all-in}
use Rattle.bdd_walk.proofs.Fixings.{ends-node, ends-itself}
use Rattle.bdd_walk.proofs.cuts.+gather.Goals as goal
use Rattle.bdd_walk.proofs.cuts.+gather.Goals.{in_default-via-in-Some+else-own-level, in_default-via-in_default}

pub returns-then-contains-clause-left : goal.returns-then-contains-clause-left
returns-then-contains-clause-left t c =
    sym (put_all-known c.args.left.now.keys (ends_of c.args.level c.args.space.now.nodes c.args.r) (λ s is. c.requires.met c.args.r s (sym c.contains.ensures ∙ c.if-contains.true) is))

pub returns-in_ok-insert-in-Some-clause-left : goal.returns-in_ok-insert-in-Some-clause-left
returns-in_ok-insert-in-Some-clause-left t c =
    let level : ℕ = c.args.level in
    let nodes = c.args.space.now.nodes in
    let left : List ℕ = c.args.left.now.keys in
    let own = c.in-Some.ensures.level in
    let ends = has-ends c.args.space.now c.args.r c.lo.result c.hi.result c.requires.valid own.0 c.lo.ensures.node c.hi.ensures.node in
    c.in_ok-gather-in-Some-2.ensures.left
    ∙ ap (λ l. put_all l (ends_of level nodes c.hi.result)) c.in_ok-gather-in-Some.ensures.left
    ∙ sym (put_all-append left (ends_of level nodes c.lo.result) (ends_of level nodes c.hi.result))
    ∙ ap (put_all left) (sym (ends-node level c.args.space.now c.args.r c.in-Some.own c.lo.result c.hi.result c.requires.valid ends own.1 c.if-own-level.true))

pub returns-in_ok-insert-in-Some-clause-met : goal.returns-in_ok-insert-in-Some-clause-met
returns-in_ok-insert-in-Some-clause-met t c r s met end = by (put-either c.gather-in-Some.new.met.keys c.args.r r (sym (ap (λ keys. is_among keys r) c.in_ok-insert-in-Some.ensures.keys) ∙ met))
  where
    by : (r ≡ c.args.r) ⊎ (is_among c.gather-in-Some.new.met.keys r ≡ true) → is_among c.gather-in-Some.new.left.keys s ≡ true
    by (inl same) =
        ap (λ keys. is_among keys s) (returns-in_ok-insert-in-Some-clause-left t c)
        ∙ put_all-in c.args.left.now.keys (ends_of c.args.level c.args.space.now.nodes c.args.r) s (sym (ap (λ q. is_among (ends_of c.args.level c.args.space.now.nodes q) s) same) ∙ end)
    by (inr before) = c.in_ok-gather-in-Some-2.ensures.met r s before end

pub returns-in_ok-insert-in_default-clause-left : goal.returns-in_ok-insert-in_default-clause-left
returns-in_ok-insert-in_default-clause-left t c =
    let low : 2 ≤ c.args.r → c.args.level ≤ top_of c.args.space.now c.args.r = λ node.
    elim c.in_default.branch [
      | in_default-via-in-Some+else-own-level w ↦ let own = w.in-Some.ensures.level in let under = w.if-own-level.false in omega (arith, own.1, under)
      | in_default-via-in_default w ↦ let small = w.in_default.ensures.constant.0 refl in absurd (omega (arith, small))
    ] in
    c.in_ok-insert-in_default.ensures.keys
    ∙ ap (put_all c.args.left.now.keys) (sym (ends-itself c.args.level c.args.space.now c.args.r c.requires.valid low))
