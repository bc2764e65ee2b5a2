use Rattle.std.proofs.Common.{◌∙◌, ap, ◌++◌, ◌∷◌, [], map, sym}
use Rattle.std.proofs.lemmas.List.{map-append}
use Rattle.blifmv_tables.proofs.Columns.{places_more}
use Rattle.blifmv_tables.proofs.lookup.signals_of.Goals as goal

pub loop-word-preserved : goal.loop-word-preserved
loop-word-preserved c =
    ap (map (λ v. v.0)) c.in_ok-push.ensures.items
    ∙ (map-append (λ v. v.0) c.loop-word.vars.items (c.signal_of.result ∷ [])
    ∙ ((λ i. c.loop-word.invariant i ++ c.signal_of.ensures i ∷ [])
    ∙ sym (places_more c.args.names.now c.args.words.now c.loop-word.word-index _ c.loop-word-test.true)))
