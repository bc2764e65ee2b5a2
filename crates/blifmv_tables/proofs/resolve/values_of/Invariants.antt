use Rattle.std.proofs.Common.{◌≡◌, ◌++◌, length}
use Rattle.std.specs.Option.{option_map}
use Rattle.net_model.specs.Spellings.{domain_at, values_of}
use Rattle.blifmv_lines.specs.Said.{texts, listed_names}
use Rattle.blifmv_tables.proofs.resolve.values_of.Given as goal

abbrev pub invariant-loop-name : goal.invariant-loop-name
invariant-loop-name l =
    option_map (λ more. l.values.items ++ more) (values_of (domain_at l.names l.column.0) l.left)
    ≡ values_of (domain_at l.names l.column.0) (listed_names (texts l.list))

abbrev pub decreases-loop-name : goal.decreases-loop-name
decreases-loop-name l = length l.left
