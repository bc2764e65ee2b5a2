use Rattle.std.proofs.Common.{◌+◌, ◌++◌, ◌∷◌, drop, ap, sym, ◌∙◌}
use Rattle.aut_format.specs.Fields.{blank_before}
use Rattle.aut_format.proofs.Places.{drop-here, more}
use Rattle.aut_format.proofs.letters.push_values.Goals as goal

pub loop-value-preserved : goal.loop-value-preserved
loop-value-preserved c =
    let names = c.args.domain.now in
    let here = drop-here names c.loop-value.value c.unwrap-name.result (sym c.name.ensures ∙ c.unwrap-name.ensures) in
    more c.loop-value.text.items _ (32 ∷ c.unwrap-name.result) (blank_before (drop (c.loop-value.value + 1) names)) (blank_before (drop c.loop-value.value names)) _ (ap blank_before here) (c.in_ok-push_field.ensures ∙ ap (λ name. c.loop-value.text.items ++ 32 ∷ name) c.as_slice.ensures) c.loop-value.invariant
