use Rattle.std.proofs.Common.{rules, ◌≡◌, ◌<◌, ◌∙◌, ℕ, List, length, slice_index_or, false, Ok, Err, subst, sym}
use Rattle.std.proofs.lemmas.List.Sorted.{answers_always}
use Rattle.bdd_ops.specs.Levels.{is_in, sources, target_or, IsRisingMap}
use Rattle.bdd_ops.proofs.Maps.{at-place, searched-place}
use Rattle.bdd_ops.proofs.level_map.LevelMap.place.Goals as goal

pub returns-in-Ok-clause-found : goal.returns-in-Ok-clause-found
returns-in-Ok-clause-found c =
    let pairs : List (ℕ × ℕ) = c.deref.result.now in
    let same : pairs ≡ c.args.self.now = c.deref.ensures.value ∙ c.self.view_is in
    let R : List (ℕ × ℕ) → Type 0 = IsRisingMap in
    let rising : R pairs = subst R (sym same) c.requires in
    let position = c.in-Ok.ensures.position (λ pair. pair.0) (answers_always _ _ _ (λ f a r g called. search rules)) in
    let found = (searched-place pairs rising c.args.level (Ok c.in-Ok.place) c.in-Ok.ensures.bound position).0 in
    let P : List (ℕ × ℕ) → Type 0 = λ l. (c.in-Ok.place < length l) × ((other : ℕ) → target_or other l c.args.level ≡ (slice_index_or l c.in-Ok.place (0, 0)).1) in
    subst P same (found.0, at-place pairs rising c.in-Ok.place c.args.level found.0 found.1)

pub returns-in-Err-clause-none : goal.returns-in-Err-clause-none
returns-in-Err-clause-none c =
    let pairs : List (ℕ × ℕ) = c.deref.result.now in
    let same : pairs ≡ c.args.self.now = c.deref.ensures.value ∙ c.self.view_is in
    let R : List (ℕ × ℕ) → Type 0 = IsRisingMap in
    let rising : R pairs = subst R (sym same) c.requires in
    let position = c.in-Err.ensures.position (λ pair. pair.0) (answers_always _ _ _ (λ f a r g called. search rules)) in
    let P : List (ℕ × ℕ) → Type 0 = λ l. is_in (sources l) c.args.level ≡ false in
    subst P same (searched-place pairs rising c.args.level (Err c.in-Err.field-0) c.in-Err.ensures.bound position).1
