use Rattle.std.proofs.Common.{◌∙◌, ap, ◌++◌, ◌∷◌, [], map, sym}
use Rattle.std.specs.Option.{option_copied}
use Rattle.std.proofs.lemmas.List.{map-append}
use Rattle.blifmv_tables.proofs.Columns.{place_more}
use Rattle.blifmv_tables.proofs.draft.named_signals.Goals as goal

pub loop-place-preserved : goal.loop-place-preserved
loop-place-preserved c =
    ap (map (λ v. v.0)) c.in_ok-push.ensures.items
    ∙ (map-append (λ v. v.0) c.loop-place.vars.items (c.signal_of.result ∷ [])
    ∙ ((λ i. c.loop-place.invariant i ++ c.signal_of.ensures i ∷ [])
    ∙ sym (place_more c.args.names.now c.args.set.now c.loop-place.place _ (sym (ap option_copied c.unwrap-name.ensures) ∙ c.get.ensures))))
