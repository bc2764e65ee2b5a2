-- Names that are found by their order.
use Rattle.std.proofs.Common.{◌≡◌, ◌+◌, ◌||◌, ℕ, Bool, true, false, cond, List, [], ◌∷◌, ◌++◌, length, Some, None, Option, Ordering, Less, Equal, Greater, zero-add, refl, sym, ◌∙◌, ap, arith}
use Rattle.std.specs.BTreeMap.{insert_entry}
use Rattle.std.specs.Cmp.Lexicographic.{slice_cmp}
use Rattle.std.specs.List.{list_any}
use Rattle.std.specs.Map.{lookup}
use Rattle.std.specs.Ordering.{nat_cmp, is_eq, match_ordering}
use Rattle.std.specs.Str.{bytes_eq}
use Rattle.name_table.specs.Variables.{is_in, place_of}
use Rattle.std.proofs.lemmas.Bool.{false≢true}
use Rattle.std.proofs.lemmas.Iterator.Adapters.{position_from-zero}
use Rattle.std.proofs.lemmas.Map.Lookups.{exact_bytes}
use Rattle.std.proofs.lemmas.Map.Text.{is_eq-slice_cmp}
use Rattle.std.proofs.lemmas.Slice.Eq.{bytes_eq-Decides}
use Rattle.std.specs.List.{position_from}

module _ {K : Type 0} (f : K → List ℕ) where
  -- the value at the key that shows the name
  abbrev pub found : List (K × ℕ) → List ℕ → Option ℕ
  found es q = lookup (λ k. is_eq (slice_cmp nat_cmp q (f k))) es

  -- keys go by what they show
  abbrev pub by_order : K → K → Ordering
  by_order x y = slice_cmp nat_cmp (f x) (f y)

  both_tests : (b : Bool) (v w : ℕ) (o : Option ℕ) → cond b (Some v) o ≡ cond b (Some v) (cond b (Some w) o)
  both_tests true v w o = refl
  both_tests false v w o = refl

  -- after a key was put in, it is found, and each other one as before
  pub found_insert : (es : List (K × ℕ)) (k : K) (v : ℕ) (q : List ℕ) → found (insert_entry by_order es k v) q ≡ cond (bytes_eq q (f k)) (Some v) (found es q)
  found_insert [] k v q = ap (λ b. cond b (Some v) None) (is_eq-slice_cmp q (f k))
  found_insert (e ∷ es) k v q =
      let more = found_insert es k v q in
      let at_e : Bool → Option ℕ = λ b. cond b (Some e.1) (found es q) in
      elim (by_order k e.0) as (λ o. by_order k e.0 ≡ o → found (match_ordering o ((k, v) ∷ e ∷ es) ((e.0, v) ∷ es) (e ∷ insert_entry by_order es k v)) q ≡ cond (bytes_eq q (f k)) (Some v) (found (e ∷ es) q)) [
        | Less ↦ λ is. ap (λ b. cond b (Some v) (found (e ∷ es) q)) (is_eq-slice_cmp q (f k))
        | Equal ↦ λ is.
            let same : f k ≡ f e.0 = exact_bytes (f k) (f e.0) is in
            let test : is_eq (slice_cmp nat_cmp q (f e.0)) ≡ bytes_eq q (f k) = is_eq-slice_cmp q (f e.0) ∙ ap (bytes_eq q) (sym same) in
            ap (λ b. cond b (Some v) (found es q)) test
            ∙ (both_tests (bytes_eq q (f k)) v e.1 (found es q)
            ∙ ap (λ b. cond (bytes_eq q (f k)) (Some v) (at_e b)) (sym test))
        | Greater ↦ λ is.
            ap (λ o. cond (is_eq (slice_cmp nat_cmp q (f e.0))) (Some e.1) o) more
            ∙ elim (bytes_eq q (f k)) as (λ b. bytes_eq q (f k) ≡ b → cond (is_eq (slice_cmp nat_cmp q (f e.0))) (Some e.1) (cond b (Some v) (found es q)) ≡ cond b (Some v) (at_e (is_eq (slice_cmp nat_cmp q (f e.0))))) [
              | true ↦ λ t.
                  let test : is_eq (slice_cmp nat_cmp q (f e.0)) ≡ false = ap (λ n. is_eq (slice_cmp nat_cmp n (f e.0))) ((bytes_eq-Decides q (f k)).0 t) ∙ ap is_eq is in
                  ap (λ b. cond b (Some e.1) (Some v)) test
              | false ↦ λ t. refl
            ] refl
      ] refl

none_of_head : (a b : Bool) → (a || b) ≡ false → a ≡ false
none_of_head true b h = h
none_of_head false b h = refl

none_of_rest : (a b : Bool) → (a || b) ≡ false → b ≡ false
none_of_rest true b h = absurd (false≢true (sym h))
none_of_rest false b h = h

from_push : (p : List ℕ → Bool) (xs : List (List ℕ)) (y : List ℕ) (i : ℕ) → (p y ≡ true → list_any p xs ≡ false) → position_from p i (xs ++ y ∷ []) ≡ cond (p y) (Some (i + length xs)) (position_from p i xs)
from_push p [] y i h =
    let none : i ≡ i + 0 = omega arith in
    ap (λ j. cond (p y) (Some j) None) none
from_push p (x ∷ xs) y i h =
    let next : i + 1 + length xs ≡ i + length (x ∷ xs) = omega arith in
    let more = from_push p xs y (i + 1) (λ t. none_of_rest (p x) _ (h t)) ∙ ap (λ j. cond (p y) (Some j) (position_from p (i + 1) xs)) next in
    ap (λ o. cond (p x) (Some i) o) more
    ∙ elim (p y) as (λ b. p y ≡ b → cond (p x) (Some i) (cond b (Some (i + length (x ∷ xs))) (position_from p (i + 1) xs)) ≡ cond b (Some (i + length (x ∷ xs))) (cond (p x) (Some i) (position_from p (i + 1) xs))) [
      | true ↦ λ t. ap (λ b. cond b (Some i) (Some (i + length (x ∷ xs)))) (none_of_head (p x) _ (h t))
      | false ↦ λ t. refl
    ] refl

-- the place of a name after a new one was put at the end
pub place_push : (names : List (List ℕ)) (name q : List ℕ) → is_in names name ≡ false → place_of (names ++ name ∷ []) q ≡ cond (bytes_eq q name) (Some (length names)) (place_of names q)
place_push names name q fresh =
    position_from-zero (bytes_eq q) (names ++ name ∷ [])
    ∙ (from_push (bytes_eq q) names name 0 (λ t. ap (λ n. list_any (bytes_eq n) names) ((bytes_eq-Decides q name).0 t) ∙ fresh)
    ∙ (λ j. cond (bytes_eq q name) (Some (zero-add (length names) j)) (sym (position_from-zero (bytes_eq q) names) j)))

module _ {K : Type 0} (f : K → List ℕ) where
  -- with a new name at the end, and its key with its place put in, each name is found at its place
  pub found_push : (es es' : List (K × ℕ)) (k : K) (place : ℕ) (names : List (List ℕ)) (name : List ℕ) → es' ≡ insert_entry (by_order f) es k place → f k ≡ name → place ≡ length names → is_in names name ≡ false → ((q : List ℕ) → found f es q ≡ place_of names q) → (q : List ℕ) → found f es' q ≡ place_of (names ++ name ∷ []) q
  found_push es es' k place names name put shows last fresh h q =
      ap (λ es. found f es q) put
      ∙ (found_insert f es k place q
      ∙ ((λ j. cond (bytes_eq q (shows j)) (Some (last j)) (h q j))
      ∙ sym (place_push names name q fresh)))
