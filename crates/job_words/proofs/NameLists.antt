use Rattle.std.proofs.Common.{◌≡◌, ◌<◌, ◌==◌, ◌||◌, ℕ, Bool, true, false, List, [], ◌∷◌, length, refl, sym, ◌∙◌, subst, arith}
use Rattle.std.specs.List.{AllByRecursion, list_any, slice_split}
use Rattle.std.proofs.lemmas.Bool.{false≢true}
use Rattle.std.proofs.lemmas.Bool.Decides.{nat_tests}
use Rattle.std.proofs.lemmas.List.Splits.{length-slice_split}
use Rattle.job_words.specs.Jobs.{IsNameList}

abbrev is_empty : List ℕ → Bool
is_empty name = length name == 0

empty_test : (n : ℕ) → (n == 0) ≡ false → 0 < n
empty_test n e = grind (arith, nat_tests)

full_test : (n : ℕ) → 0 < n → (n == 0) ≡ false
full_test n h = grind (arith, nat_tests)

none_of : (b rest : Bool) → (b || rest) ≡ false → (b ≡ false) × (rest ≡ false)
none_of true rest e = absurd (false≢true (sym e))
none_of false rest e = (refl, e)

-- where no name passes the test of being empty, none is
pub none_empty : (names : List (List ℕ)) → list_any is_empty names ≡ false → AllByRecursion (λ name. 0 < length name) names
none_empty [] e = tt
none_empty (name ∷ names) e =
    let parts = none_of (is_empty name) (list_any is_empty names) e in
    (empty_test (length name) parts.0, none_empty names parts.1)

-- and the other way
pub all_full : (names : List (List ℕ)) → AllByRecursion (λ name. 0 < length name) names → list_any is_empty names ≡ false
all_full [] all = refl
all_full (name ∷ names) all = rw (full_test (length name) all.0) (all_full names all.1)

-- a word with an empty part is no list of names
pub no_name_list : (word : List ℕ) (parts : List (List ℕ)) → parts ≡ slice_split (λ b. b == 44) word → list_any is_empty parts ≡ true → (names : List (List ℕ)) → IsNameList word names → ⊥
no_name_list word parts cut some names list =
    let none : list_any is_empty names ≡ false = all_full names list.1 in
    let same : parts ≡ names = cut ∙ sym list.0 in
    false≢true (sym none ∙ subst (λ ns. list_any is_empty ns ≡ true) same some)

-- a list of names has one at least
pub name_list_has_one : (word : List ℕ) (names : List (List ℕ)) → IsNameList word names → 0 < length names
name_list_has_one word names list =
    subst (λ ns. 0 < length ns) (sym list.0) (split_has_one word)
  where
    split_has_one : (w : List ℕ) → 0 < length (slice_split (λ b. b == 44) w)
    split_has_one w = omega (arith, length-slice_split (λ b. b == 44) w)
