use Rattle.std.proofs.Common.{◌∙◌, not, get_or, sym, ap}
use Rattle.std.proofs.lemmas.List.{get_or_default}
use Rattle.bdd_ops.proofs.Members.{at-place}
use Rattle.subset_build.proofs.Stepping.{kept-low}
use Rattle.subset_build.proofs.prepared.Prepared.of.Goals as goal

pub schedule-requires-clause-keep : goal.schedule-requires-clause-keep
schedule-requires-clause-keep c k d within =
    kept-low c.args.space.now.levels c.args.keep.now c.args.state.now c.requires.order (get_or c.in_ok-kept.kept k d)
    (sym (c.in_ok-kept.ensures (get_or c.in_ok-kept.kept k d)) ∙ at-place c.in_ok-kept.kept k (get_or c.in_ok-kept.kept k d) within (get_or_default c.in_ok-kept.kept k 0 d within))

pub returns : goal.returns
returns c = record {
  fits = c.in_ok-plan.ensures.fits;
  hides = λ k low. c.in_ok-plan.ensures.keep k low ∙ ap not (c.in_ok-kept.ensures k);
  keep_rises = c.level_below.ensures.rises;
  map_is = c.in_ok-map.ensures;
  level_is = c.level_below.ensures.level;
}
