-- Names that are numbers in decimal, in their order.
use Rattle.std.proofs.Common.{◌≡◌, ◌<◌, ◌≤◌, ◌+◌, ◌^◌, ◌⊎◌, inl, inr, ℕ, Bool, true, cond, List, [], ◌∷◌, ◌++◌, length, take, slice_get, Some, None, decimal, Result, Ok, Err, zero-add, sym, ◌∙◌, ap, subst, arith}
use Rattle.std.specs.List.{position_or_len}
use Rattle.std.specs.Str.{bytes_eq}
use Rattle.std.specs.Str.Parse.{ParsesUnsigned}
use Rattle.std.proofs.lemmas.Bool.{false≢true}
use Rattle.std.proofs.lemmas.Fmt.{decimal_injective, parse-decimal}
use Rattle.std.proofs.lemmas.List.{take_more}
use Rattle.std.proofs.lemmas.List.FromFn.{length-map-range_with_len, get_or-map-range_with_len, map-range_with_len_more}
use Rattle.std.proofs.lemmas.Option.{slice_get-get_or, slice_get_past, slice_get_within, get_or_from_slice_get}
use Rattle.std.proofs.lemmas.Slice.Eq.{bytes_eq-Decides}
use Rattle.name_table.specs.Variables.{place_of, numbers}
use Rattle.name_table.proofs.Found.{first_at, any_from_get, lt_is, lt_is_not}

pub length_numbers : (n : ℕ) → length (numbers n) ≡ n
length_numbers n = length-map-range_with_len decimal 0 n

-- the number k stands at k
pub number_at : (n k : ℕ) → k < n → slice_get (numbers n) k ≡ Some (decimal k)
number_at n k lt =
    slice_get-get_or (numbers n) k [] (rw (length_numbers n) lt)
    ∙ ap Some (get_or-map-range_with_len decimal 0 n k k [] lt (zero-add k))

pub number_past : (n k : ℕ) → n ≤ k → slice_get (numbers n) k ≡ None
number_past n k le = slice_get_past (numbers n) k (rw (length_numbers n) le)

some_is : (x y : List ℕ) → Some x ≡ Some y → x ≡ y
some_is x y h = cc

-- a name is none of the numbers, or stands at the one that it is
split : (n : ℕ) (q : List ℕ) → ((place_of (numbers n) q ≡ None) × ((k : ℕ) → k < n → q ≡ decimal k → ⊥)) ⊎ ((k : ℕ) × (place_of (numbers n) q ≡ Some k) × (k < n) × (q ≡ decimal k))
split n q =
    elim (first_at (bytes_eq q) (numbers n)) [
      | inl h ↦ inl (
        ap (λ b. cond b (Some (position_or_len (bytes_eq q) (numbers n))) None) (lt_is_not _ _ h.0),
        λ k lt e. false≢true (sym h.1 ∙ any_from_get (bytes_eq q) (numbers n) k (decimal k) (number_at n k lt) ((bytes_eq-Decides q (decimal k)).1 e)),
      )
      | inr h ↦
          let below : position_or_len (bytes_eq q) (numbers n) < n = subst (λ m. position_or_len (bytes_eq q) (numbers n) < m) (length_numbers n) h.3 in
          inr (
            position_or_len (bytes_eq q) (numbers n),
            ap (λ b. cond b (Some (position_or_len (bytes_eq q) (numbers n))) None) (lt_is _ _ h.3),
            below,
            (bytes_eq-Decides q h.0).0 h.2 ∙ some_is h.0 (decimal (position_or_len (bytes_eq q) (numbers n))) (sym h.1 ∙ number_at n (position_or_len (bytes_eq q) (numbers n)) below),
          )
    ]

pub named : (n : ℕ) (q : List ℕ) (k : ℕ) → n < 2 ^ 32 → k < n → q ≡ decimal k → Some k ≡ place_of (numbers n) q
named n q k small lt is =
    elim (split n q) [
      | inl h ↦ absurd (h.1 k lt is)
      | inr h ↦
          let same : k ≡ h.0 = decimal_injective k h.0 (omega (arith, lt, small)) (omega (arith, h.2, small)) (sym is ∙ h.3) in
          ap Some same ∙ sym h.1
    ]

pub unnamed : (n : ℕ) (q : List ℕ) → ((k : ℕ) → k < n → q ≡ decimal k → ⊥) → None ≡ place_of (numbers n) q
unnamed n q not_one =
    elim (split n q) [
      | inl h ↦ sym h.0
      | inr h ↦ absurd (not_one h.0 h.2 h.3)
    ]

-- what a number in decimal is read as
ok_is : {E : Type 0} (k m : ℕ) (is : Result ℕ E) → is ≡ Ok m → is ≡ Ok k → m ≡ k
ok_is k m is h g = cc

err_is_not : {E : Type 0} (k : ℕ) (e : E) (is : Result ℕ E) → is ≡ Err e → is ≡ Ok k → ⊥
err_is_not k e is h g = cc

pub read_ok : {E K : Type 0} (kind : E → K) (k m : ℕ) (name : List ℕ) → k < 2 ^ 32 → name ≡ decimal k → (is : Result ℕ E) → is ≡ Ok m → ParsesUnsigned 32 10 name is → m ≡ k
read_ok kind k m name lt digits is read parsed = ok_is k m is read (parse-decimal 32 k name is lt (omega (arith, lt)) digits parsed)

pub read_err : {E K : Type 0} (kind : E → K) (k : ℕ) (e : E) (name : List ℕ) → k < 2 ^ 32 → name ≡ decimal k → (is : Result ℕ E) → is ≡ Err e → ParsesUnsigned 32 10 name is → ⊥
read_err kind k e name lt digits is read parsed = err_is_not k e is read (parse-decimal 32 k name is lt (omega (arith, lt)) digits parsed)

pub is_number : {j k : ℕ} → Some j ≡ Some k → j ≡ k
is_number h = cc

-- as many numbers are the same numbers
pub same_count : (m n : ℕ) (names others : List (List ℕ)) (same : Bool) → numbers m ≡ names → numbers n ≡ others → (same ≡ true → m ≡ n) → (m ≡ n → same ≡ true) → (same ≡ true → names ≡ others) × (names ≡ others → same ≡ true)
same_count m n names others same a b there back = (
  λ h. sym a ∙ (ap numbers (there h) ∙ b),
  λ h. back (sym (length_numbers m) ∙ (ap length (a ∙ (h ∙ sym b)) ∙ length_numbers n)),
)

-- the names up to a place, with the next number
pub next_number : (names : List (List ℕ)) (k : ℕ) → take k names ≡ numbers k → slice_get names k ≡ Some (decimal k) → take (k + 1) names ≡ numbers (k + 1)
next_number names k so_far next =
    let within : k < length names = slice_get_within names k (decimal k) next in
    let got = get_or_from_slice_get names k (decimal k) (decimal k) next in
    take_more names k (decimal k) within
    ∙ ((λ j. so_far j ++ got j ∷ []) ∙ sym (map-range_with_len_more decimal 0 k k (zero-add k)))
