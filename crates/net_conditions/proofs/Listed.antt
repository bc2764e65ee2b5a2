use Rattle.std.proofs.Common.{◌≡◌, ◌≤◌, ◌<◌, ◌+◌, ◌⊎◌, inl, inr, ℕ, zero, suc, Bool, true, false, ◌||◌, ◌&&◌, not, cond, List, [], ◌∷◌, ◌++◌, length, map, take, get_or, count_by, nat_eq, All, Contains, Decides, refl, ap, sym, subst, ◌∙◌, arith}
use Rattle.std.specs.List.{Any, list_any, list_all}
use Rattle.std.proofs.lemmas.Bool.{eq-eqb, false≢true}
use Rattle.std.proofs.lemmas.Bool.Decides.{eqb_tells, Decides-at, Decides-like, Decides-not, Decides-by_and}
use Rattle.std.proofs.lemmas.List.{get_or-map, length-map, map_push, take_all, take_more}
use Rattle.std.proofs.lemmas.List.Elements.{All-map, All-push, All-contains}
use Rattle.std.proofs.lemmas.List.Sums.{sum_by-cons, sum_by_push, sum_by-take-le}

-- Lists of signals, by their tests and by how often a signal stands there.

-- a test of each element
pub Decides-each : {X : Type 0} (p : X → Bool) (P : X → Type 0) → ((x : X) → Decides (p x) (P x)) → (xs : List X) → Decides (list_all p xs) (All P xs)
Decides-each p P each xs = Decides-by_and p P (list_all p) each refl (λ _ _. refl) xs

-- what a search says of a count
abbrev pub Counts : Bool → ℕ → Type 0
Counts found n = ((found ≡ true) × (0 < n)) ⊎ ((found ≡ false) × (n ≡ 0))

counts_more : (here found : Bool) (n m : ℕ) → m ≡ cond here 1 0 + n → Counts found n → Counts (here || found) m
counts_more true found n m is so_far = inl (refl, omega (arith, is))
counts_more false found n m is (inl some) = inl (some.0, omega (arith, is, some.1))
counts_more false found n m is (inr none) = inr (none.0, omega (arith, is, none.1))

module _ {X : Type 0} (p : X → Bool) where
  pub counts_found : (xs : List X) → Counts (list_any p xs) (count_by p xs)
  counts_found [] = inr (refl, refl)
  counts_found (x ∷ xs) = counts_more (p x) (list_any p xs) (count_by p xs) (count_by p (x ∷ xs)) (sum_by-cons (λ y. cond (p y) 1 0) x xs) (counts_found xs)

  -- a search finds what has a count
  pub Decides-counted : (xs : List X) → Decides (list_any p xs) (0 < count_by p xs)
  Decides-counted xs = elim (counts_found xs) [
    | inl some ↦ (λ _. some.1, λ _. some.0)
    | inr none ↦ (λ found. absurd (false≢true (sym none.0 ∙ found)), λ lt. let zero_is = none.1 in absurd (omega arith))
  ]

module _ {X Y : Type 0} (f : X → Y) (xs : List X) (i : ℕ) where
  -- the images of the first elements: one more
  pub images_more : (d : X) → i < length xs → map f (take (i + 1) xs) ≡ map f (take i xs) ++ f (get_or xs i d) ∷ []
  images_more d lt = ap (map f) (take_more xs i d lt) ∙ map_push f (take i xs) (get_or xs i d)

  -- an element at a place has its image among all images
  pub image_member : (x : X) → i < length xs → x ≡ get_or xs i x → Contains (map f xs) (f x)
  image_member x lt here = (i, rw length-map lt, get_or-map f xs i x (f x) lt ∙ ap f (sym here))

-- a bound on all images
pub image_below : {X : Type 0} (f : X → ℕ) (xs : List X) (i : ℕ) (d : X) (n : ℕ) → All (λ y. y < n) (map f xs) → i < length xs → f (get_or xs i d) < n
image_below f xs i d n below lt = let P : ℕ → Type 0 = λ y. y < n in subst P (get_or-map f xs i d (f d) lt) (below i (f d) (rw length-map lt))

-- no number stands twice
abbrev pub IsOnce : List ℕ → Type 0
IsOnce xs = (x : ℕ) → count_by (nat_eq x) xs ≤ 1

count_push : (xs : List ℕ) (x y : ℕ) → count_by (nat_eq x) (xs ++ y ∷ []) ≡ count_by (nat_eq x) xs + cond (nat_eq x y) 1 0
count_push xs x y = sum_by_push (λ z. cond (nat_eq x z) 1 0) xs y

-- one more that isn't there
pub once_more : (xs : List ℕ) (y : ℕ) → IsOnce xs → list_any (nat_eq y) xs ≡ false → IsOnce (xs ++ y ∷ [])
once_more xs y once new x = elim (eqb_tells x y) [
  | inl same ↦
      let P : ℕ → Type 0 = λ z. count_by (nat_eq z) (xs ++ y ∷ []) ≤ 1 in
      let grown : count_by (nat_eq y) (xs ++ y ∷ []) ≡ count_by (nat_eq y) xs + 1 = count_push xs y y ∙ ap (λ b. count_by (nat_eq y) xs + cond b 1 0) (eq-eqb y y refl) in
      elim (counts_found (nat_eq y) xs) [
        | inl some ↦ absurd (false≢true (sym new ∙ some.0))
        | inr none ↦ let none_yet = none.1 in subst P (sym same.1) (omega arith)
      ]
  | inr apart ↦
      let kept : count_by (nat_eq x) (xs ++ y ∷ []) ≡ count_by (nat_eq x) xs + 0 = count_push xs x y ∙ ap (λ b. count_by (nat_eq x) xs + cond b 1 0) apart.0 in
      omega (arith, kept, once x)
]

-- one more that is there stands twice in any list that goes on so
pub not_once : (xs : List ℕ) (i y : ℕ) → i < length xs → get_or xs i y ≡ y → list_any (nat_eq y) (take i xs) ≡ true → ¬ IsOnce xs
not_once xs i y lt here there once =
    let grown : count_by (nat_eq y) (take (i + 1) xs) ≡ count_by (nat_eq y) (take i xs) + 1 =
    ap (count_by (nat_eq y)) (take_more xs i y lt ∙ ap (λ z. take i xs ++ z ∷ []) here)
    ∙ count_push (take i xs) y y ∙ ap (λ b. count_by (nat_eq y) (take i xs) + cond b 1 0) (eq-eqb y y refl) in
    let within : count_by (nat_eq y) (take (i + 1) xs) ≤ count_by (nat_eq y) xs = sum_by-take-le (λ z. cond (nat_eq y z) 1 0) xs (i + 1) in
    let some = (Decides-counted (nat_eq y) (take i xs)).0 there in
    omega (arith, grown, within, some, once y)

module _ {X Y : Type 0} (f : X → Y) (P : Y → Type 0) where
  -- a fact of all images
  pub All-unmap : (xs : List X) → All P (map f xs) → All (λ x. P (f x)) xs
  All-unmap xs all k d lt = subst P (get_or-map f xs k d (f d) lt) (all k (f d) (rw length-map lt))

  pub Decides-mapped : (found : Bool) (xs : List X) → Decides found (All (λ x. P (f x)) xs) → Decides found (All P (map f xs))
  Decides-mapped found xs decides = Decides-like found (All-map P f xs) (All-unmap xs) decides

  -- a test of all elements whose images have a fact
  pub Decides-images : (p : X → Bool) (found : Bool) (xs : List X) → ((x : X) → Decides (p x) (P (f x))) → found ≡ list_all p xs → Decides found (All P (map f xs))
  Decides-images p found xs each is = Decides-at found (list_all p xs) is (Decides-mapped (list_all p xs) xs (Decides-each p (λ x. P (f x)) each xs))

not_or : (a b : Bool) → not (a || b) ≡ (not a && not b)
not_or true b = refl
not_or false b = refl

-- no element has the fact
pub Decides-none : {X : Type 0} (p : X → Bool) (P : X → Type 0) → ((x : X) → Decides (p x) (P x)) → (xs : List X) → Decides (not (list_any p xs)) (All (λ x. ¬ P x) xs)
Decides-none p P each xs =
    Decides-by_and (λ x. not (p x)) (λ x. ¬ P x) (λ ys. not (list_any p ys)) (λ x. Decides-not (p x) (each x)) refl (λ x ys. not_or (p x) (list_any p ys)) xs

-- where the first of two tests holds, the second decides what both mean
pub Decides-second : {P Q R : Type 0} (first second : Bool) → Decides first P → (R → P) → Decides second Q → (R → Q) → (P → Q → R) → first ≡ true → Decides second R
Decides-second first second of_first first_needed of_second second_needed both is =
    (λ holds. both (of_first.0 is) (of_second.0 holds), λ r. of_second.1 (second_needed r))

-- where it fails, so does what both mean
pub Decides-failed : {P R : Type 0} (first answer : Bool) → Decides first P → (R → P) → first ≡ false → answer ≡ false → Decides answer R
Decides-failed first answer of_first first_needed is is_answer =
    (λ holds. absurd (false≢true (sym is_answer ∙ holds)), λ r. absurd (false≢true (sym is ∙ of_first.1 (first_needed r))))

-- an image among the images is that of an element
pub image_of : {X Y : Type 0} (f : X → Y) (xs : List X) (y : Y) → Contains (map f xs) y → (k : ℕ) × (x : X) × (k < length xs) × (get_or xs k x ≡ x) × (f x ≡ y)
image_of {X = X} {Y = Y} f xs y member = along xs member.0 member.1 member.2
  where
    along : (zs : List X) (k : ℕ) → k < length (map f zs) → get_or (map f zs) k y ≡ y → (k : ℕ) × (x : X) × (k < length zs) × (get_or zs k x ≡ x) × (f x ≡ y)
    along [] k lt is = absurd (omega arith)
    along (x ∷ zs) zero lt is = (0, x, omega arith, refl, is)
    along (x ∷ zs) (suc k) lt is = let r = along zs k (omega arith) is in let below = r.2 in (suc r.0, r.1, omega arith, r.3, r.4)

-- a loop over a list that tests each element
module _ {X Y : Type 0} (f : X → Y) (P : Y → Type 0) (xs : List X) (i : ℕ) (x : X) (good : Bool) (lt : i < length xs) (here : x ≡ get_or xs i x) (decides : Decides good (P (f x))) where
  pub All-images_more : good ≡ true → All P (map f (take i xs)) → All P (map f (take (i + 1) xs))
  All-images_more is all =
      subst (All P) (sym (images_more f xs i x lt ∙ ap (λ y. map f (take i xs) ++ f y ∷ []) (sym here))) (All-push P (map f (take i xs)) (f x) all (decides.0 is))

  pub not_all_images : good ≡ false → Decides false (All P (map f xs))
  not_all_images is = (
    λ holds. absurd (false≢true holds),
    λ all. absurd (false≢true (sym is ∙ decides.1 (All-contains P (map f xs) (f x) all (image_member f xs i x lt here)))),
  )

-- a loop over a list that looks for an element
module _ {X : Type 0} (P : X → Type 0) (xs : List X) (i : ℕ) where
  pub None-more : (x : X) (found : Bool) → i < length xs → x ≡ get_or xs i x → Decides found (P x) → found ≡ false → All (λ y. ¬ P y) (take i xs) → All (λ y. ¬ P y) (take (i + 1) xs)
  None-more x found lt here decides is none_yet =
      let Q : X → Type 0 = λ y. ¬ P y in
      subst (All Q) (sym (take_more xs i x lt ∙ ap (λ y. take i xs ++ y ∷ []) (sym here)))
      (All-push Q (take i xs) x none_yet (λ holds. false≢true (sym is ∙ decides.1 holds)))

  pub Decides-found : (x : X) (found : Bool) → i < length xs → x ≡ get_or xs i x → Decides found (P x) → found ≡ true → Decides true (Any P xs)
  Decides-found x found lt here decides is = (λ _. (i, x, lt, sym here, decides.0 is), λ _. refl)

  pub Decides-missed : length xs ≤ i → All (λ y. ¬ P y) (take i xs) → Decides false (Any P xs)
  Decides-missed past none =
      let Q : X → Type 0 = λ y. ¬ P y in
      (λ t. absurd (false≢true t), λ any. absurd (All-contains Q xs any.1 (subst (All Q) (take_all i xs past) none) (any.0, any.2, any.3) any.4))
