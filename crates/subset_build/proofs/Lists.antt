-- Lists that are gone through one by one.
use Rattle.std.proofs.Common.{◌≡◌, ◌==◌, ◌+◌, ◌<◌, ◌++◌, ◌||◌, ℕ, zero, suc, List, [], ◌∷◌, length, map, take, get_or, slice_get, Some, refl, sym, ap, ◌∙◌, arith}
use Rattle.std.proofs.lemmas.Option.{slice_get_within, get_or_from_slice_get}
use Rattle.std.proofs.lemmas.List.{take_more}
use Rattle.std.proofs.lemmas.List.Folds.{list_any-append}
use Rattle.bdd_ops.specs.Levels.{is_in, sources}
use Rattle.subset_build.specs.Preparing.{at_itself}

pub take-next : {X : Type 0} (xs : List X) (k : ℕ) (x : X) → slice_get xs k ≡ Some x → take (k + 1) xs ≡ take k xs ++ x ∷ []
take-next xs k x at = take_more xs k x (slice_get_within xs k x at) ∙ ap (λ y. take k xs ++ y ∷ []) (get_or_from_slice_get xs k x x at)

pub found-at : {X : Type 0} (xs : List X) (k : ℕ) (d : X) → k < length xs → slice_get xs k ≡ Some (get_or xs k d)
found-at [] k d within = absurd (omega (arith, within))
found-at (x ∷ xs) zero d within = refl
found-at (x ∷ xs) (suc k) d within = found-at xs k d (omega (arith, within))

pub map-end : {X Y : Type 0} (f : X → Y) (xs : List X) (x : X) → map f (xs ++ x ∷ []) ≡ map f xs ++ f x ∷ []
map-end f [] x = refl
map-end f (y ∷ xs) x = ap (λ l. f y ∷ l) (map-end f xs x)

pub append-end : {X : Type 0} (xs ys : List X) (y : X) → (xs ++ ys) ++ y ∷ [] ≡ xs ++ (ys ++ y ∷ [])
append-end [] ys y = refl
append-end (x ∷ xs) ys y = ap (λ l. x ∷ l) (append-end xs ys y)

pub sources-next : (keep : List ℕ) (state : List (ℕ × ℕ)) (k : ℕ) (pair : ℕ × ℕ) → slice_get state k ≡ Some pair → (keep ++ sources (take k state)) ++ pair.0 ∷ [] ≡ keep ++ sources (take (k + 1) state)
sources-next keep state k pair at =
    append-end keep (sources (take k state)) pair.0
    ∙ ap (λ l. keep ++ l) (sym (map-end (λ (p : ℕ × ℕ). p.0) (take k state) pair) ∙ ap sources (sym (take-next state k pair at)))

pub itself-next : (keep : List ℕ) (k level : ℕ) → slice_get keep k ≡ Some level → at_itself (take k keep) ++ (level, level) ∷ [] ≡ at_itself (take (k + 1) keep)
itself-next keep k level at = sym (map-end (λ (x : ℕ). (x, x)) (take k keep) level) ∙ ap at_itself (sym (take-next keep k level at))

pub pairs-next : (keep : List ℕ) (state : List (ℕ × ℕ)) (k : ℕ) (pair : ℕ × ℕ) → slice_get state k ≡ Some pair → (at_itself keep ++ take k state) ++ pair ∷ [] ≡ at_itself keep ++ take (k + 1) state
pairs-next keep state k pair at = append-end (at_itself keep) (take k state) pair ∙ ap (λ l. at_itself keep ++ l) (sym (take-next state k pair at))

pub is_in-append : (xs ys : List ℕ) (k : ℕ) → is_in (xs ++ ys) k ≡ (is_in xs k || is_in ys k)
is_in-append xs ys k = list_any-append (λ l. l == k) xs ys
