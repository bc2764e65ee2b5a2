use Rattle.std.proofs.Common.{◌≡◌, ◌+◌, ap, List, ℕ, OnOk, sym, subst, arith}
use Rattle.bdd_walk.specs.Paths.{path_of}
use Rattle.aut_format.proofs.Numbers.{halves, both-halves}
use Rattle.aut_format.proofs.rows.+push_numbers.Goals as goal

pub overflow_add-raised : goal.overflow_add-raised
overflow_add-raised t c = omega (arith, c.requires.fits, c.weight.ensures, halves c.args.bits c.if-bits-eq0.false)

pub push_numbers-requires : goal.push_numbers-requires
push_numbers-requires t c =
    let some = c.if-bits-eq0.false in
    let half = halves c.args.bits some in
    (omega arith, (omega (arith, c.requires.level, some), (omega (arith, c.requires.few), omega (arith, c.requires.fits, half))))

pub push_numbers-requires-in-true-false : goal.push_numbers-requires-in-true-false
push_numbers-requires-in-true-false t c =
    let some = c.if-bits-eq0.false in
    let half = halves c.args.bits some in
    (omega arith, (omega (arith, c.requires.level, some), (omega (arith, c.requires.few), omega (arith, c.requires.fits, half))))

pub push_numbers-requires-in-true-true : goal.push_numbers-requires-in-true-true
push_numbers-requires-in-true-true t c =
    let some = c.if-bits-eq0.false in
    let half = halves c.args.bits some in
    (omega arith, (omega (arith, c.requires.level, some), (omega (arith, c.requires.few), omega (arith, c.requires.fits, half, c.weight.ensures))))

pub push_numbers-requires-in-false-true : goal.push_numbers-requires-in-false-true
push_numbers-requires-in-false-true t c =
    let some = c.if-bits-eq0.false in
    let half = halves c.args.bits some in
    (omega arith, (omega (arith, c.requires.level, some), (omega (arith, c.requires.few), omega (arith, c.requires.fits, half, c.weight.ensures))))

pub returns-in_ok-push_numbers-in-true-true : goal.returns-in_ok-push_numbers-in-true-true
returns-in_ok-push_numbers-in-true-true t c =
    let raised = c.args.base + c.weight.result in
    let P : List ℕ → Type 0 = λ values. OnOk c.push_numbers-in-true-true.result (c.push_numbers-in-true-true.new.values.items ≡ values) in
    subst P
    (both-halves (path_of c.args.path.now) c.args.level c.args.bits c.args.base raised c.args.count c.args.values.now.items c.push_numbers.new.values.items c.if-bits-eq0.false (ap (λ w. c.args.base + w) c.weight.ensures) (sym c.in-true-true.ensures) (sym c.in-true-true.ensures') c.in_ok-push_numbers-in-true-true.ensures)
    c.push_numbers-in-true-true.ensures
