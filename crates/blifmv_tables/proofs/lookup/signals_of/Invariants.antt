use Rattle.std.proofs.Common.{◌≡◌, map, take}
use Rattle.net_model.specs.NetTexts.{places_in}
use Rattle.blifmv_lines.specs.Said.{texts}
use Rattle.blifmv_tables.proofs.lookup.signals_of.Given as goal

abbrev pub invariant-loop-word : goal.invariant-loop-word
invariant-loop-word l = map (λ v. v.0) l.vars.items ≡ places_in l.names (texts (take l.word-index l.words))
