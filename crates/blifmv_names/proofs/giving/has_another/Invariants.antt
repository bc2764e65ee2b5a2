use Rattle.std.proofs.Common.{◌≡◌, not, length}
use Rattle.std.specs.List.{list_any}
use Rattle.blifmv_lines.specs.Said.{texts, listed_names}
use Rattle.blifmv_names.specs.Signals.{given_in, agrees, AreAgreeing}
use Rattle.blifmv_names.proofs.giving.has_another.Given as goal

abbrev pub invariant-loop-name : goal.invariant-loop-name
invariant-loop-name l = record {
  same : list_any (λ name. not (agrees l.domain (given_in l.signals name))) l.left
      ≡ list_any (λ name. not (agrees l.domain (given_in l.signals name))) (listed_names (texts l.names));
  agreeing : AreAgreeing l.domain l.signals l.agreeing;
}

abbrev pub decreases-loop-name : goal.decreases-loop-name
decreases-loop-name l = length l.left
