-- What holds of the elements of mapped and joined lists, one by one and two by two.
use Rattle.std.proofs.Common.{◌≡◌, ◌-◌, ◌<◌, inl, inr, ℕ, zero, suc, false, nat_eq, List, [], ◌∷◌, ◌++◌, map, length, get_or, refl, sym, subst, arith}
use Rattle.std.specs.Prelude.{All}
use Rattle.std.specs.List.{range_with_len, AllByRecursion, AllPairs, IsDistinct}
use Rattle.std.proofs.lemmas.Bool.{cases_lt}
use Rattle.std.proofs.lemmas.List.{length-append, get_or_append_left, get_or-append_right}
use Rattle.std.proofs.lemmas.List.Elements.{All-map, All-from_recursion}
use Rattle.std.proofs.lemmas.List.FromFn.{get_or-map-range_with_len, length-map-range_with_len}

all-differ : (P : ℕ → Type 0) (n : ℕ) (numbers : List ℕ) (R : ℕ → Type 0) → ((m : ℕ) → nat_eq n m ≡ false → P m → R m) → AllByRecursion (λ m. nat_eq n m ≡ false) numbers → AllByRecursion P numbers → AllByRecursion R numbers
all-differ P n [] R each differ all = tt
all-differ P n (m ∷ numbers) R each differ all = (each m differ.0 all.0, all-differ P n numbers R each differ.1 all.1)

module _ {X : Type 0} where
  pub all-range : (P : X → Type 0) (f : ℕ → X) (n : ℕ) → ((i : ℕ) → i < n → P (f i)) → All P (map f (range_with_len 0 n))
  all-range P f n each i d within =
      let below : i < n = let size = length-map-range_with_len f 0 n in omega (arith, within, size) in
      subst P (sym (get_or-map-range_with_len f 0 n i i d below (omega arith))) (each i below)

  pub pairs-range : (R : X → X → Type 0) (f : ℕ → X) (n : ℕ) → ((i j : ℕ) → i < j → j < n → R (f i) (f j)) → AllPairs R (map f (range_with_len 0 n))
  pairs-range R f n each i j d less within =
      let below : j < n = let size = length-map-range_with_len f 0 n in omega (arith, within, size) in
      let one = get_or-map-range_with_len f 0 n i i d (omega (arith, less, below)) (omega arith) in
      let other = get_or-map-range_with_len f 0 n j j d below (omega arith) in
      subst (λ (x : X). R x (get_or (map f (range_with_len 0 n)) j d)) (sym one) (subst (λ (y : X). R (f i) y) (sym other) (each i j less below))

  pub pairs-nil : (R : X → X → Type 0) → AllPairs R []
  pairs-nil R i j d less within = absurd (omega (arith, within))

  pub pairs-cons : (R : X → X → Type 0) (x : X) (xs : List X) → All (R x) xs → AllPairs R xs → AllPairs R (x ∷ xs)
  pairs-cons R x xs first rest zero zero d less within = absurd (omega (arith, less))
  pairs-cons R x xs first rest zero (suc j) d less within = first j d (omega (arith, within))
  pairs-cons R x xs first rest (suc i) zero d less within = absurd (omega (arith, less))
  pairs-cons R x xs first rest (suc i) (suc j) d less within = rest i j d (omega (arith, less)) (omega (arith, within))

  pub pairs-append : (R : X → X → Type 0) (xs ys : List X) → AllPairs R xs → AllPairs R ys → All (λ x. All (R x) ys) xs → AllPairs R (xs ++ ys)
  pairs-append R xs ys first second cross i j d less within =
      let size = length-append xs ys in
      elim (cases_lt j (length xs)) [
        | inl below ↦
            let one = get_or_append_left xs ys d i (omega (arith, less, below)) in
            let other = get_or_append_left xs ys d j below in
            subst (λ (x : X). R x (get_or (xs ++ ys) j d)) (sym one) (subst (λ (y : X). R (get_or xs i d) y) (sym other) (first i j d less below))
        | inr above ↦
            let other = get_or-append_right xs ys (length xs) j d refl above in
            elim (cases_lt i (length xs)) [
              | inl below ↦
                  let one = get_or_append_left xs ys d i below in
                  subst (λ (x : X). R x (get_or (xs ++ ys) j d)) (sym one) (subst (λ (y : X). R (get_or xs i d) y) (sym other) (cross i d below (j - length xs) d (omega (arith, within, size, above))))
              | inr over ↦
                  let one = get_or-append_right xs ys (length xs) i d refl over in
                  subst (λ (x : X). R x (get_or (xs ++ ys) j d)) (sym one) (subst (λ (y : X). R (get_or ys (i - length xs) d) y) (sym other) (second (i - length xs) (j - length xs) d (omega (arith, less, over)) (omega (arith, within, size, above))))
            ]
      ]

  -- of the images of different numbers
  pub pairs-distinct : (R : X → X → Type 0) (f : ℕ → X) (P : ℕ → Type 0) → ((a b : ℕ) → nat_eq a b ≡ false → P a → P b → R (f a) (f b)) → (numbers : List ℕ) → IsDistinct nat_eq numbers → AllByRecursion P numbers → AllPairs R (map f numbers)
  unfolding IsDistinct
  pairs-distinct R f P both [] distinct all = pairs-nil R
  pairs-distinct R f P both (n ∷ numbers) distinct all =
      pairs-cons R (f n) (map f numbers)
      (All-map (R (f n)) f numbers (All-from_recursion (λ m. R (f n) (f m)) numbers (all-differ P n numbers (λ m. R (f n) (f m)) (λ m differ good. both n m differ all.0 good) distinct.0 all.1)))
      (pairs-distinct R f P both numbers distinct.1 all.1)
