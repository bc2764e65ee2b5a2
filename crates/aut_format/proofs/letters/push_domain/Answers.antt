use Rattle.std.proofs.Common.{◌∷◌, ◌++◌, codes, decimal, ap, ◌∙◌}
use Rattle.net_model.specs.Printed.{line_bytes}
use Rattle.aut_format.proofs.Written.{domain_written}
use Rattle.aut_format.proofs.letters.push_domain.Goals as goal

pub returns : goal.returns
returns c =
    let text = c.args.text.now.items in
    domain_written text _ _ _ _ _ _ _ _ c.args.domain.now c.in_ok-extend_from_slice.ensures.items c.in_ok-push_field.ensures c.in_ok-push.ensures.items c.in_ok-push_number.ensures c.in_ok-push_values.ensures c.in_ok-push-2.ensures.items
    ∙ ap (λ n. text ++ line_bytes (codes ".mv" ∷ c.args.name.now ∷ decimal n ∷ c.args.domain.now)) c.len.ensures.len
