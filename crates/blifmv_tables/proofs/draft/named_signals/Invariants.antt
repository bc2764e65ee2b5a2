use Rattle.std.proofs.Common.{◌≡◌, map, take}
use Rattle.net_model.specs.NetTexts.{places_in}
use Rattle.blifmv_tables.proofs.draft.named_signals.Given as goal

abbrev pub invariant-loop-place : goal.invariant-loop-place
invariant-loop-place l = map (λ v. v.0) l.vars.items ≡ places_in l.names (take l.place l.set)
