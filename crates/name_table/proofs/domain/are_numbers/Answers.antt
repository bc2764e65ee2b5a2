use Rattle.std.proofs.Common.{length, slice_get, sym, ◌∙◌, ap}
use Rattle.std.proofs.lemmas.Bool.{false≢true}
use Rattle.name_table.proofs.Numbered.{length_numbers, next_number, number_at}
use Rattle.name_table.proofs.domain.are_numbers.Goals as goal

pub returns-then-len-count : goal.returns-then-len-count
returns-then-len-count c = (
  λ h. absurd (false≢true h),
  λ h. absurd (c.if-len-count.true (c.len.ensures.len ∙ (ap length h ∙ length_numbers c.args.count))),
)

pub returns-then-not-is_number : goal.returns-then-not-is_number
returns-then-not-is_number c = (
  λ h. absurd (false≢true h),
  λ h.
      absurd (false≢true (sym c.if-not-is_number.true
      ∙ c.is_number.ensures.1 (ap (λ names. slice_get names c.loop-value.value) h ∙ number_at c.args.count c.loop-value.value c.loop-value-test.true))),
)

pub loop-value-preserved : goal.loop-value-preserved
loop-value-preserved c = next_number c.args.names.now c.loop-value.value c.loop-value.invariant (c.is_number.ensures.0 c.if-not-is_number.false)
