use Rattle.std.proofs.Common.{◌≡◌, ◌<◌, ◌∙◌, Some, length, slice_get, slice_index, sym, subst}
use Rattle.std.proofs.lemmas.Option.{slice_get_within, get_or_from_slice_get}
use Rattle.subset_build.proofs.Exploring.{all-made}
use Rattle.det_words.specs.Reaching.{IsReached}
use Rattle.det_words.proofs.Words.{word-found, no-word, next-gone, next-reached}
use Rattle.det_words.proofs.reaching.has_some_word.Goals as goal

pub returns-then-accepting : goal.returns-then-accepting
returns-then-accepting c letters rule =
    let at : slice_get c.loop-state.reached c.loop-state.place ≡ Some c.in-Some.state = sym c.at.ensures.at ∙ c.in-Some.is in
    let reached = c.loop-state.invariant.reached letters rule c.loop-state.place (slice_get_within c.loop-state.reached c.loop-state.place c.in-Some.state at) in
    word-found c.args.space.now letters c.args.det.now rule c.in-Some.state
    (subst (IsReached c.args.space.now letters c.args.det.now) (get_or_from_slice_get c.loop-state.reached c.loop-state.place c.in-Some.state 0 at) reached)
    (sym c.accepting.ensures ∙ c.if-accepting.true)

pub moves-requires : goal.moves-requires
moves-requires c =
    let at : slice_get c.loop-state.reached c.loop-state.place ≡ Some c.in-Some.state = sym c.at.ensures.at ∙ c.in-Some.is in
    let here : slice_index c.loop-state.reached c.loop-state.place ≡ c.in-Some.state = get_or_from_slice_get c.loop-state.reached c.loop-state.place c.in-Some.state 0 at in
    subst (λ s. s < length c.args.det.now) here (c.loop-state.invariant.gone.states c.loop-state.place (slice_get_within c.loop-state.reached c.loop-state.place c.in-Some.state at))

pub loop-state-preserved : goal.loop-state-preserved
loop-state-preserved c =
    let at : slice_get c.loop-state.reached c.loop-state.place ≡ Some c.in-Some.state = sym c.at.ensures.at ∙ c.in-Some.is in
    let here : slice_index c.loop-state.reached c.loop-state.place ≡ c.in-Some.state = get_or_from_slice_get c.loop-state.reached c.loop-state.place c.in-Some.state 0 at in
    let less = slice_get_within c.loop-state.reached c.loop-state.place c.in-Some.state at in
    let inv = c.loop-state.invariant in
    record {
      gone =
          next-gone c.args.det.now c.loop-state.reached c.put_targets.new.reached c.loop-state.place c.in-Some.state c.moves.result.now here less c.moves.ensures.moves c.in_ok-put_targets.ensures inv.gone
          (sym c.accepting.ensures ∙ c.if-accepting.false) c.moves.ensures.targets;
      reached = next-reached c.args.det.now c.loop-state.reached c.put_targets.new.reached c.loop-state.place c.in-Some.state c.moves.result.now here less c.moves.ensures.moves c.in_ok-put_targets.ensures inv.gone c.args.space.now inv.reached;
    }

pub returns : goal.returns
returns c letters rule =
    no-word c.args.space.now c.args.det.now c.loop-state.reached c.loop-state.place c.loop-state.invariant.gone
    (all-made c.loop-state.reached c.loop-state.place c.loop-state.invariant.gone.within (sym c.at.ensures.at ∙ c.in_default.is)) letters rule
