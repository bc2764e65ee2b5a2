-- Names of which none stands twice.
use Rattle.std.proofs.Common.{◌≡◌, ◌<◌, ◌≤◌, ◌+◌, ◌^◌, ◌||◌, ◌&&◌, ℕ, zero, suc, Bool, true, false, not, if◌then◌else◌, List, [], ◌∷◌, ◌++◌, map, length, decimal, refl, sym, ◌∙◌, ap, zero-add, arith}
use Rattle.std.specs.List.{list_any, range_with_len}
use Rattle.std.specs.Str.{bytes_eq}
use Rattle.std.proofs.lemmas.Bool.{false≢true, and_parts}
use Rattle.std.proofs.lemmas.Bool.Decides.{same_from_decides}
use Rattle.std.proofs.lemmas.Fmt.{decimal_injective}
use Rattle.std.proofs.lemmas.List.FromFn.{length-map-range_with_len, map-range_with_len_more}
use Rattle.std.proofs.lemmas.Slice.Eq.{bytes_eq-Decides}
use Rattle.name_table.specs.Variables.{IsDomain, are_different, is_in, with_name, numbers}

pub bytes_eq_flip : (x y : List ℕ) → bytes_eq x y ≡ bytes_eq y x
bytes_eq_flip x y =
    let there = bytes_eq-Decides x y in
    let back = bytes_eq-Decides y x in
    same_from_decides _ _ there (λ h. sym (back.0 h), λ e. back.1 (sym e))

-- two names that differ fail the test
pub not_equal : (x y : List ℕ) → (x ≡ y → ⊥) → bytes_eq x y ≡ false
not_equal x y differ =
    elim (bytes_eq x y) as (λ b. bytes_eq x y ≡ b → b ≡ false) [
      | true ↦ λ e. absurd (differ ((bytes_eq-Decides x y).0 e))
      | false ↦ λ e. refl
    ] refl

pub not_true : (b : Bool) → not b ≡ true → b ≡ false
not_true true h = absurd (false≢true h)
not_true false h = refl

and_false : (b : Bool) → (b && false) ≡ false
and_false true = refl
and_false false = refl

any_push : (p : List ℕ → Bool) (xs : List (List ℕ)) (y : List ℕ) → list_any p xs ≡ false → p y ≡ false → list_any p (xs ++ y ∷ []) ≡ false
any_push p [] y h q = rw q refl
any_push p (x ∷ xs) y h q =
    let more = any_push p xs y in
    elim (p x) as (λ b. (b || list_any p xs) ≡ false → (b || list_any p (xs ++ y ∷ [])) ≡ false) [
      | true ↦ λ e. e
      | false ↦ λ e. more e q
    ] h

any_at : (p : List ℕ → Bool) (xs : List (List ℕ)) (y : List ℕ) (ys : List (List ℕ)) → p y ≡ true → list_any p (xs ++ y ∷ ys) ≡ true
any_at p [] y ys q = rw q refl
any_at p (x ∷ xs) y ys q =
    let more = any_at p xs y ys q in
    elim (p x) as (λ b. (b || list_any p (xs ++ y ∷ ys)) ≡ true) [ true ↦ refl | false ↦ more ]

-- a new name at the end leaves them different
pub different_push : (xs : List (List ℕ)) (y : List ℕ) → are_different xs ≡ true → is_in xs y ≡ false → are_different (xs ++ y ∷ []) ≡ true
different_push [] y h q = refl
different_push (x ∷ xs) y h q =
    let parts = and_parts _ _ h in
    let more = different_push xs y parts.1 in
    elim (bytes_eq y x) as (λ b. bytes_eq y x ≡ b → (b || list_any (bytes_eq y) xs) ≡ false → are_different (x ∷ (xs ++ y ∷ [])) ≡ true) [
      | true ↦ λ is e. absurd (false≢true (sym e))
      | false ↦ λ is e.
          let rest = more e in
          let none : list_any (bytes_eq x) xs ≡ false = not_true _ parts.0 in
          rw (any_push (bytes_eq x) xs y none (bytes_eq_flip x y ∙ is)) rest
    ] refl q

pub different_with : (names : List (List ℕ)) (name : List ℕ) → are_different names ≡ true → are_different (with_name names name) ≡ true
different_with names name h =
    elim (is_in names name) as (λ b. is_in names name ≡ b → are_different (if b then names else names ++ name ∷ []) ≡ true) [
      | true ↦ λ e. h
      | false ↦ λ e. different_push names name h e
    ] refl

-- a name that stands earlier in the list stands twice
pub not_different : (xs : List (List ℕ)) (y : List ℕ) (ys : List (List ℕ)) → is_in xs y ≡ true → are_different (xs ++ y ∷ ys) ≡ false
not_different [] y ys h = absurd (false≢true h)
not_different (x ∷ xs) y ys h =
    elim (bytes_eq y x) as (λ b. bytes_eq y x ≡ b → (b || list_any (bytes_eq y) xs) ≡ true → are_different (x ∷ (xs ++ y ∷ ys)) ≡ false) [
      | true ↦ λ is e. rw (any_at (bytes_eq x) xs y ys (bytes_eq_flip x y ∙ is)) refl
      | false ↦ λ is e. rw (not_different xs y ys e) (and_false _)
    ] refl h

-- no number below k is written as k
not_in_range : (a n k : ℕ) → a + n ≤ k → k < 2 ^ 64 → list_any (bytes_eq (decimal k)) (map decimal (range_with_len a n)) ≡ false
not_in_range a zero k h f = refl
not_in_range a (suc n) k h f =
    let differs : bytes_eq (decimal k) (decimal a) ≡ false =
    not_equal (decimal k) (decimal a) (λ e. let is : k ≡ a = decimal_injective k a f (omega arith) e in absurd (omega arith)) in
    let rest : list_any (bytes_eq (decimal k)) (map decimal (range_with_len (a + 1) n)) ≡ false = not_in_range (a + 1) n k (omega arith) f in
    rw (differs, rest) refl

-- after the numbers below k comes k
pub with_number : (k : ℕ) → k < 2 ^ 64 → with_name (numbers k) (decimal k) ≡ numbers (k + 1)
with_number k f =
    ap (λ b. if b then numbers k else numbers k ++ decimal k ∷ []) (not_in_range 0 k k (omega arith) f)
    ∙ sym (map-range_with_len_more decimal 0 k k (zero-add k))

different_numbers : (n : ℕ) → n < 2 ^ 64 → are_different (numbers n) ≡ true
different_numbers zero f = refl
different_numbers (suc n) f =
    let below : n < 2 ^ 64 = omega arith in
    let next : suc n ≡ n + 1 = omega arith in
    ap (λ k. are_different (numbers k)) next
    ∙ (ap are_different (sym (with_number n below)) ∙ different_with (numbers n) (decimal n) (different_numbers n below))

pub IsDomain-numbers : (n : ℕ) → 0 < n → n ≤ 131072 → IsDomain (numbers n)
IsDomain-numbers n some few =
    let size : length (numbers n) ≡ n = length-map-range_with_len decimal 0 n in
    record {
      some = rw size some;
      few = rw size few;
      different = different_numbers n (omega arith);
    }

pub not_false : (b : Bool) → not b ≡ false → b ≡ true
not_false true h = refl
not_false false h = absurd (false≢true (sym h))
