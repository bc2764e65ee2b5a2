-- Pairs and members of lists, for proofs by induction on the list.
use Rattle.std.proofs.Common.{◌≡◌, ◌+◌, ◌<◌, ℕ, zero, suc, List, [], ◌∷◌, ◌++◌, length, map, slice_index, ap, ◌∙◌, length-append, arith}
use Rattle.std.specs.List.{All, AllPairs, Any}
use Rattle.std.specs.List.Sorted.{IsStrictlyIncreasing}
use Rattle.std.proofs.lemmas.List.{get_or_append_left, get_or-append-add, get_or-map, length-map}
use Rattle.std.proofs.lemmas.List.Elements.{All-append, All-head, All-tail, All-map}
use Rattle.std.proofs.lemmas.List.Kept.{AllPairs-cons}

module _ {X : Type 0} (R : X → X → Type 0) where
  pub AllPairs-head : (x : X) (xs : List X) → AllPairs R (x ∷ xs) → All (R x) xs
  AllPairs-head x xs pairs k d within = pairs 0 (suc k) d (omega arith) (omega arith)

  pub AllPairs-tail : (x : X) (xs : List X) → AllPairs R (x ∷ xs) → AllPairs R xs
  AllPairs-tail x xs pairs i j d less within = pairs (suc i) (suc j) d (omega arith) (omega arith)

  pub AllPairs-append : (xs ys : List X) → AllPairs R xs → AllPairs R ys → All (λ x. All (R x) ys) xs → AllPairs R (xs ++ ys)
  AllPairs-append [] ys first second across = second
  AllPairs-append (x ∷ xs) ys first second across =
      AllPairs-cons R x (xs ++ ys)
      (All-append (R x) xs ys (AllPairs-head x xs first) (All-head (λ x. All (R x) ys) x xs across))
      (AllPairs-append xs ys (AllPairs-tail x xs first) second (All-tail (λ x. All (R x) ys) x xs across))

pub AllPairs-map : {X Y : Type 0} (R : X → X → Type 0) (f : Y → X) (ys : List Y) → AllPairs (λ a b. R (f a) (f b)) ys → AllPairs R (map f ys)
AllPairs-map R f [] pairs i j d less within = absurd (omega arith)
AllPairs-map R f (y ∷ ys) pairs i j d less within =
    AllPairs-cons R (f y) (map f ys)
    (All-map (R (f y)) f ys (AllPairs-head (λ a b. R (f a) (f b)) y ys pairs))
    (AllPairs-map R f ys (AllPairs-tail (λ a b. R (f a) (f b)) y ys pairs))
    i j d less within

pub Any-left : {X : Type 0} (P : X → Type 0) (xs ys : List X) → Any P xs → Any P (xs ++ ys)
Any-left P xs ys any = (any.0, any.1, omega (arith, length-append xs ys, any.2), get_or_append_left xs ys any.1 any.0 any.2 ∙ any.3, any.4)

pub Any-right : {X : Type 0} (P : X → Type 0) (xs ys : List X) → Any P ys → Any P (xs ++ ys)
Any-right P xs ys any = (length xs + any.0, any.1, omega (arith, length-append xs ys, any.2), get_or-append-add xs ys any.0 any.1 ∙ any.3, any.4)

pub Any-map : {X Y : Type 0} (P : X → Type 0) (f : Y → X) (ys : List Y) → Any (λ y. P (f y)) ys → Any P (map f ys)
Any-map P f ys any = (any.0, f any.1, omega (arith, length-map ys f, any.2), get_or-map f ys any.0 any.1 (f any.1) any.2 ∙ ap f any.3, any.4)

pub increasing-cons : (k : ℕ) (ks : List ℕ) → All (λ m. k < m) ks → IsStrictlyIncreasing ks → IsStrictlyIncreasing (k ∷ ks)
increasing-cons k ks above rises zero within = above 0 0 (omega arith)
increasing-cons k ks above rises (suc j) within =
    let next : suc j + 1 ≡ suc (j + 1) = omega arith in
    let less : slice_index ks j < slice_index ks (j + 1) = rises j (omega arith) in
    let at = ap (slice_index (k ∷ ks)) next in
    omega (arith, at, less)
