use Rattle.std.proofs.Common.{◌+◌, drop, map, ap, sym, ◌∙◌}
use Rattle.std.specs.List.{flat_map}
use Rattle.std.specs.Option.{option_copied}
use Rattle.net_model.specs.Printed.{line_bytes, domain_line}
use Rattle.aut_format.proofs.Places.{variable-here, more}
use Rattle.aut_format.proofs.letters.push_domains.Goals as goal

pub loop-var-preserved : goal.loop-var-preserved
loop-var-preserved c =
    let scope = c.args.scope.now in
    let k = c.loop-var.var in
    let here = variable-here scope k c.unwrap.result.now c.unwrap-in-loop-var.result.now (sym c.name.ensures ∙ ap option_copied c.unwrap.ensures) (sym c.domain.ensures ∙ ap option_copied c.unwrap-in-loop-var.ensures) in
    more c.loop-var.text.items _ (line_bytes (domain_line (record { name = c.unwrap.result.now; values = c.unwrap-in-loop-var.result.now }))) (flat_map line_bytes (map domain_line (drop (k + 1) scope))) (flat_map line_bytes (map domain_line (drop k scope))) _ (ap (λ vs. flat_map line_bytes (map domain_line vs)) here) c.in_ok-push_domain.ensures c.loop-var.invariant
