use Rattle.std.proofs.Common.{◌≡◌, decimal, arith, sym, ◌∙◌, ap}
use Rattle.std.proofs.lemmas.Bool.{false≢true}
use Rattle.std.proofs.lemmas.Option.{none-some}
use Rattle.name_table.proofs.Numbered.{named, unnamed, is_number}
use Rattle.name_table.proofs.number.number_named.Goals as goal

pub returns-in_default : goal.returns-in_default
returns-in_default c = unnamed c.args.count c.args.name.now (λ k lt is. none-some k (c.in_default.ensures k (omega (arith, lt)) is))

pub returns-then-number-count : goal.returns-then-number-count
returns-then-number-count c =
    unnamed c.args.count c.args.name.now
    (λ k lt is.
    let same : c.in-Some.number ≡ k = is_number (c.in-Some.ensures k (omega (arith, lt)) is) in
    absurd (omega (arith, lt, same, c.if-number-count.true)))

pub returns-then-is_written : goal.returns-then-is_written
returns-then-is_written c =
    named c.args.count c.args.name.now c.in-Some.number (omega arith) (omega (arith, c.if-number-count.false)) (c.is_written.ensures.0 c.if-is_written.true)

pub returns-else-is_written : goal.returns-else-is_written
returns-else-is_written c =
    unnamed c.args.count c.args.name.now
    (λ k lt is.
    let same : c.in-Some.number ≡ k = is_number (c.in-Some.ensures k (omega (arith, lt)) is) in
    false≢true (sym c.if-is_written.false ∙ c.is_written.ensures.1 (is ∙ ap decimal (sym same))))
