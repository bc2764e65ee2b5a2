use Rattle.std.proofs.Common.{◌≡◌, ◌++◌, drop, map}
use Rattle.std.specs.List.{flat_map}
use Rattle.net_model.specs.Printed.{line_bytes, domain_line}
use Rattle.aut_format.proofs.letters.push_domains.Given as goal

abbrev pub invariant-loop-var : goal.invariant-loop-var
invariant-loop-var l =
    l.text.items ++ flat_map line_bytes (map domain_line (drop l.var l.scope)) ≡ l.initial.text.items ++ flat_map line_bytes (map domain_line l.scope)
