use Rattle.std.proofs.Common.{◌≡◌, ◌-◌, ◌∙◌, slice_get, Some, inr, refl, sym, arith}
use Rattle.std.proofs.lemmas.Option.{slice_get_within, get_or_from_slice_get}
use Rattle.bdd_ops.proofs.Members.{place, at-place, rising}
use Rattle.subset_build.proofs.prepared.level_below.Goals as goal

pub returns-clause-level : goal.returns-clause-level
returns-clause-level c =
    let levels = c.args.levels.now in
    let last = c.len-len.result - 1 in
    let at : slice_get levels last ≡ Some c.in-Some.last = sym c.at.ensures ∙ c.in-Some.is in
    let here = get_or_from_slice_get levels last c.in-Some.last 0 at in
    let within = slice_get_within levels last c.in-Some.last at in
    record {
      all = λ k member.
          let (i, inside, is) = place levels k member in
          let low = rising levels c.len-len.ensures.rises i last (omega (arith, inside, c.len-len.ensures.len)) within in
          omega (arith, low, is, here);
      least = inr (c.in-Some.last, at-place levels last c.in-Some.last within here, refl);
    }
