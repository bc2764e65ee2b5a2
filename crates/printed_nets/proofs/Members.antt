use Rattle.std.proofs.Common.{◌≡◌, ℕ, zero, suc, ◌+◌, ◌<◌, ◌≤◌, ◌⊎◌, inl, inr, Bool, true, false, cond, List, [], ◌∷◌, ◌++◌, map, refl, ap, subst, sym, ◌∙◌, arith}
use Rattle.std.specs.Prelude.{Contains, filter}
use Rattle.std.specs.List.{AllByRecursion, list_any, list_all, flat_map, range_with_len}
use Rattle.std.proofs.lemmas.Bool.{both_ways, cases_eq, or_cases, or_left, or_right, and_parts, and_from}

-- Members of a list by recursion, for proofs by induction on the list.

-- x is one of the list's elements
abbrev pub IsOneOf : {X : Type 0} → List X → X → Type 0
IsOneOf [] x = ⊥
IsOneOf (y ∷ ys) x = (y ≡ x) ⊎ IsOneOf ys x

module _ {X : Type 0} where
  -- from the library's membership, which goes by index
  pub one_from_contains : (xs : List X) (x : X) → Contains xs x → IsOneOf xs x
  one_from_contains [] x (k, inside, is) = absurd (omega arith)
  one_from_contains (y ∷ xs) x (zero, inside, is) = inl is
  one_from_contains (y ∷ xs) x (suc k, inside, is) = inr (one_from_contains xs x (k, omega arith, is))

  -- and to it
  pub contains_from_one : (xs : List X) (x : X) → IsOneOf xs x → Contains xs x
  contains_from_one [] x one = absurd one
  contains_from_one (y ∷ xs) x (inl is) = (zero, omega arith, is)
  contains_from_one (y ∷ xs) x (inr one) =
      let (k, inside, is) = contains_from_one xs x one in
      (suc k, omega arith, is)

  -- a member of a list is one of it with more behind it
  pub one_before : (xs ys : List X) (x : X) → IsOneOf xs x → IsOneOf (xs ++ ys) x
  one_before [] ys x one = absurd one
  one_before (y ∷ xs) ys x (inl is) = inl is
  one_before (y ∷ xs) ys x (inr one) = inr (one_before xs ys x one)

  -- and of it with more before it
  pub one_behind : (xs ys : List X) (x : X) → IsOneOf ys x → IsOneOf (xs ++ ys) x
  one_behind [] ys x one = one
  one_behind (y ∷ xs) ys x one = inr (one_behind xs ys x one)

  -- a member of two joined lists is one of either
  pub one_of_either : (xs ys : List X) (x : X) → IsOneOf (xs ++ ys) x → IsOneOf xs x ⊎ IsOneOf ys x
  one_of_either [] ys x one = inr one
  one_of_either (y ∷ xs) ys x (inl is) = inl (inl is)
  one_of_either (y ∷ xs) ys x (inr one) = elim (one_of_either xs ys x one) [ inl left ↦ inl (inr left) | inr right ↦ inr right ]

  -- what holds of each element holds of a member
  pub holds_of_one : (P : X → Type 0) (xs : List X) (x : X) → AllByRecursion P xs → IsOneOf xs x → P x
  holds_of_one P [] x all one = absurd one
  holds_of_one P (y ∷ xs) x all (inl is) = subst P is all.0
  holds_of_one P (y ∷ xs) x all (inr one) = holds_of_one P xs x all.1 one

  -- a member that passes the test stays in a filter
  pub one_kept : (p : X → Bool) (xs : List X) (x : X) → IsOneOf xs x → p x ≡ true → IsOneOf (filter p xs) x
  one_kept p [] x one pass = absurd one
  one_kept p (y ∷ xs) x (inl is) pass =
      elim (p y) as (λ b. p y ≡ b → IsOneOf (cond b (y ∷ filter p xs) (filter p xs)) x)
      [ true ↦ λ e. inl is | false ↦ λ e. absurd (both_ways (p y) e (ap p is ∙ pass)) ] refl
  one_kept p (y ∷ xs) x (inr one) pass =
      elim (p y) as (λ b. IsOneOf (cond b (y ∷ filter p xs) (filter p xs)) x)
      [ true ↦ inr (one_kept p xs x one pass) | false ↦ one_kept p xs x one pass ]

  -- what a filter has is a member that passes the test
  pub one_of_kept : (p : X → Bool) (xs : List X) (x : X) → IsOneOf (filter p xs) x → IsOneOf xs x × (p x ≡ true)
  one_of_kept p [] x one = absurd one
  one_of_kept p (y ∷ xs) x one =
      let later = λ (rest : IsOneOf (filter p xs) x).
      let found : IsOneOf xs x × (p x ≡ true) = one_of_kept p xs x rest in
      let more : IsOneOf (y ∷ xs) x × (p x ≡ true) = (inr found.0, found.1) in more in
      elim (p y) as (λ b. p y ≡ b → IsOneOf (cond b (y ∷ filter p xs) (filter p xs)) x → IsOneOf (y ∷ xs) x × (p x ≡ true)) [
        | true ↦ λ e kept. elim kept [ inl is ↦ (inl is, ap p (sym is) ∙ e) | inr rest ↦ later rest ]
        | false ↦ λ e rest. later rest
      ] refl one

  -- some element passes where a member does
  pub any_from_one : (p : X → Bool) (xs : List X) (x : X) → IsOneOf xs x → p x ≡ true → list_any p xs ≡ true
  any_from_one p [] x one pass = absurd one
  any_from_one p (y ∷ xs) x (inl is) pass = or_left (p y) (list_any p xs) (ap p is ∙ pass)
  any_from_one p (y ∷ xs) x (inr one) pass = or_right (p y) (list_any p xs) (any_from_one p xs x one pass)

  -- where some element passes, it is a member that does
  pub one_from_any : (p : X → Bool) (xs : List X) → list_any p xs ≡ true → (x : X) × IsOneOf xs x × (p x ≡ true)
  one_from_any p [] any = cc
  one_from_any p (y ∷ xs) any =
      elim (or_cases (p y) (list_any p xs) any) [
        | inl pass ↦ (y, inl refl, pass)
        | inr later ↦ let (x, one, pass) = one_from_any p xs later in (x, inr one, pass)
      ]

  -- all elements pass where each member does
  pub all_from_each : (p : X → Bool) (xs : List X) → ((x : X) → IsOneOf xs x → p x ≡ true) → list_all p xs ≡ true
  all_from_each p [] each = refl
  all_from_each p (y ∷ xs) each =
      and_from (p y) (list_all p xs) (each y (inl refl)) (all_from_each p xs (λ x one. each x (inr one)))

  -- and so does each member, where all do
  pub each_from_all : (p : X → Bool) (xs : List X) (x : X) → list_all p xs ≡ true → IsOneOf xs x → p x ≡ true
  each_from_all p [] x all one = absurd one
  each_from_all p (y ∷ xs) x all (inl is) = ap p (sym is) ∙ (and_parts (p y) (list_all p xs) all).0
  each_from_all p (y ∷ xs) x all (inr one) = each_from_all p xs x (and_parts (p y) (list_all p xs) all).1 one

-- a number of a range
pub one_in_range : (low n k : ℕ) → low ≤ k → k < low + n → IsOneOf (range_with_len low n) k
one_in_range low zero k above below = absurd (omega arith)
one_in_range low (suc n) k above below =
    elim (cases_eq low k) [
      | inl is ↦ inl is
      | inr differ ↦ inr (one_in_range (low + 1) n k (omega arith) (omega arith))
    ]

-- is within its bounds
pub range_of_one : (low n k : ℕ) → IsOneOf (range_with_len low n) k → (low ≤ k) × (k < low + n)
range_of_one low zero k one = absurd one
range_of_one low (suc n) k (inl is) = (omega arith, omega arith)
range_of_one low (suc n) k (inr one) = let found = range_of_one (low + 1) n k one in (omega arith, omega arith)

module _ {X Y : Type 0} where
  -- the image of a member is one of the images
  pub one_mapped : (f : X → Y) (xs : List X) (x : X) → IsOneOf xs x → IsOneOf (map f xs) (f x)
  one_mapped f [] x one = absurd one
  one_mapped f (y ∷ xs) x (inl is) = inl (ap f is)
  one_mapped f (y ∷ xs) x (inr one) = inr (one_mapped f xs x one)

  -- one of the images is that of a member
  pub one_of_mapped : (f : X → Y) (xs : List X) (y : Y) → IsOneOf (map f xs) y → (x : X) × IsOneOf xs x × (f x ≡ y)
  one_of_mapped f [] y one = absurd one
  one_of_mapped f (x ∷ xs) y (inl is) = (x, inl refl, is)
  one_of_mapped f (x ∷ xs) y (inr one) = let (z, found, is) = one_of_mapped f xs y one in (z, inr found, is)

  -- a member of the list that a member gives is one of all these lists joined
  pub one_of_joined : (f : X → List Y) (xs : List X) (x : X) (y : Y) → IsOneOf xs x → IsOneOf (f x) y → IsOneOf (flat_map f xs) y
  one_of_joined f [] x y one inner = absurd one
  one_of_joined f (z ∷ xs) x y (inl is) inner =
      let P : X → Type 0 = λ v. IsOneOf (f v) y in
      one_before (f z) (flat_map f xs) y (subst P (sym is) inner)
  one_of_joined f (z ∷ xs) x y (inr one) inner = one_behind (f z) (flat_map f xs) y (one_of_joined f xs x y one inner)

  -- one of the joined lists' elements is in the list that some member gives
  pub joined_of_one : (f : X → List Y) (xs : List X) (y : Y) → IsOneOf (flat_map f xs) y → (x : X) × IsOneOf xs x × IsOneOf (f x) y
  joined_of_one f [] y one = absurd one
  joined_of_one f (z ∷ xs) y one =
      elim (one_of_either (f z) (flat_map f xs) y one) [
        | inl here ↦ (z, inl refl, here)
        | inr there ↦ let (x, found, inner) = joined_of_one f xs y there in (x, inr found, inner)
      ]
