-- Lists that are gathered from the front of another.
use Rattle.std.proofs.Common.{◌≡◌, ◌+◌, ℕ, Bool, List, [], ◌∷◌, ◌++◌, take, slice_get, Some, sym, ◌∙◌, ap}
use Rattle.std.specs.Prelude.{filter}
use Rattle.std.proofs.lemmas.List.{append_assoc, take_more}
use Rattle.std.proofs.lemmas.List.Elements.{filter-append}
use Rattle.std.proofs.lemmas.Option.{slice_get_within, get_or_from_slice_get}

module _ {X : Type 0} where
  -- one element more of a front
  pub take_found : (xs : List X) (k : ℕ) (x : X) → slice_get xs k ≡ Some x → take (k + 1) xs ≡ take k xs ++ x ∷ []
  take_found xs k x at =
      take_more xs k x (slice_get_within xs k x at) ∙ ap (λ y. take k xs ++ y ∷ []) (get_or_from_slice_get xs k x x at)

  -- what a test keeps of it
  pub keep_found : (p : X → Bool) (had before more xs : List X) (k : ℕ) (x : X) → slice_get xs k ≡ Some x → before ≡ had ++ filter p (take k xs) → more ≡ before ++ filter p (x ∷ []) → more ≡ had ++ filter p (take (k + 1) xs)
  keep_found p had before more xs k x at so_far now =
      now
      ∙ (ap (λ ys. ys ++ filter p (x ∷ [])) so_far
      ∙ (append_assoc had (filter p (take k xs)) (filter p (x ∷ []))
      ∙ ap (λ ys. had ++ ys) (sym (filter-append p (take k xs) (x ∷ [])) ∙ ap (filter p) (sym (take_found xs k x at)))))
