-- What the keys and entries of the tables show, and tests on them.
use Rattle.std.proofs.Common.{◌≡◌, ◌<◌, ◌≤◌, ◌+◌, ◌||◌, ◌&&◌, ℕ, Bool, true, false, not, cond, if◌then◌else◌, List, [], ◌∷◌, ◌++◌, length, get_or, map, position, slice_get, Some, None, refl, sym, ◌∙◌, ap, arith, length-append}
use Rattle.std.specs.Prelude.{nat_lt, option_map}
use Rattle.std.specs.Cmp.Lexicographic.{pointwise}
use Rattle.std.specs.List.{position_or_len, AllByRecursion}
use Rattle.std.specs.Map.{keys_of}
use Rattle.std.specs.Str.{bytes_eq}
use Rattle.std.proofs.lemmas.Bool.{false≢true}
use Rattle.std.proofs.lemmas.List.{length-map}
use Rattle.std.proofs.lemmas.Option.{slice_get-get_or, slice_get-map}
use Rattle.indexmap.specs.IndexMap.{insert_entry}
use Rattle.std.proofs.lemmas.Slice.Eq.{slice_eq-Decides, bytes_eq-Decides}
use Rattle.name_table.specs.Variables.{Variable, IsTable, names_of, are_different, are_same, is_in, place_of}
use Rattle.name_table.proofs.Apart.{different_push}

module _ {K : Type 0} where
  pub map_push : {X : Type 0} (ks : List K) (f : K → X) (k : K) → map f (ks ++ k ∷ []) ≡ map f ks ++ f k ∷ []
  map_push [] f k = refl
  map_push (x ∷ ks) f k = ap (λ xs. f x ∷ xs) (map_push ks f k)

  same_of_map : (xs ys : List K) (f : K → List ℕ) → pointwise (λ x y. bytes_eq (f x) (f y)) xs ys ≡ are_same (map f xs) (map f ys)
  same_of_map [] [] f = refl
  same_of_map [] (y ∷ ys) f = refl
  same_of_map (x ∷ xs) [] f = refl
  same_of_map (x ∷ xs) (y ∷ ys) f = ap (λ b. bytes_eq (f x) (f y) && b) (same_of_map xs ys f)

  pub shown_same : (xs ys : List K) (f : K → List ℕ) (ms ns : List (List ℕ)) → map f xs ≡ ms → map f ys ≡ ns → pointwise (λ x y. bytes_eq (f x) (f y)) xs ys ≡ are_same ms ns
  shown_same xs ys f ms ns p q = same_of_map xs ys f ∙ (λ j. are_same (p j) (q j))

-- the test tells whether the two lists are equal
pub are_same-Decides : (xs ys : List (List ℕ)) (b : Bool) → b ≡ are_same xs ys → (b ≡ true → xs ≡ ys) × (xs ≡ ys → b ≡ true)
are_same-Decides xs ys b e = slice_eq-Decides bytes_eq-Decides xs ys b e

module _ {K : Type 0} where
  place_or_len_of_map : (ks : List K) (f : K → List ℕ) (p : List ℕ → Bool) → position_or_len (λ k. p (f k)) ks ≡ position_or_len p (map f ks)
  place_or_len_of_map [] f p = refl
  place_or_len_of_map (k ∷ ks) f p = ap (λ n. cond (not (p (f k))) (1 + n) 0) (place_or_len_of_map ks f p)

  pub position_of_map : (ks : List K) (f : K → List ℕ) (p : List ℕ → Bool) → position (λ k. p (f k)) ks ≡ position p (map f ks)
  position_of_map ks f p =
      let place = place_or_len_of_map ks f p in
      let len = sym (length-map ks f) in
      λ j. cond (nat_lt (place j) (len j)) (Some (place j)) None

  -- what the entries of a table show
  abbrev pub shown : (K → List ℕ) → List (K × List (List ℕ)) → List Variable
  shown f es = map (λ e. record { name = f e.0; values = e.1 }) es

  names_shown : (es : List (K × List (List ℕ))) (f : K → List ℕ) → map f (keys_of es) ≡ names_of (shown f es)
  names_shown [] f = refl
  names_shown (e ∷ es) f = ap (λ ns. f e.0 ∷ ns) (names_shown es f)

  pub place_of_entries : (es : List (K × List (List ℕ))) (f : K → List ℕ) (name : List ℕ) → position (λ k. bytes_eq name (f k)) (keys_of es) ≡ place_of (names_of (shown f es)) name
  place_of_entries es f name = position_of_map (keys_of es) f (bytes_eq name) ∙ ap (λ ns. place_of ns name) (names_shown es f)

  -- a new name goes last
  pub shown_push : (es : List (K × List (List ℕ))) (k : K) (w : List (List ℕ)) (f : K → List ℕ) → is_in (names_of (shown f es)) (f k) ≡ false → shown f (insert_entry (λ x y. bytes_eq (f x) (f y)) es k w) ≡ shown f es ++ record { name = f k; values = w } ∷ []
  shown_push [] k w f h = refl
  shown_push (e ∷ es) k w f h =
      let more = shown_push es k w f in
      elim (bytes_eq (f k) (f e.0)) as (λ b. (b || is_in (names_of (shown f es)) (f k)) ≡ false → shown f (if b then (e.0, w) ∷ es else e ∷ insert_entry (λ x y. bytes_eq (f x) (f y)) es k w) ≡ shown f (e ∷ es) ++ record { name = f k; values = w } ∷ []) [
        | true ↦ λ is. absurd (false≢true (sym is))
        | false ↦ λ is. ap (λ vs. record { name = f e.0; values = e.1 } ∷ vs) (more is)
      ] h

-- the name and the values of the variable at a place
pub name_at : (vars : List Variable) (i : ℕ) (v : Variable) → slice_get vars i ≡ Some v → slice_get (names_of vars) i ≡ Some v.name
name_at vars i v h = slice_get-map (λ v. v.name) vars i ∙ ap (option_map (λ v. v.name)) h

pub values_at : (vars : List Variable) (i : ℕ) (v : Variable) → slice_get vars i ≡ Some v → slice_get (map (λ v. v.values) vars) i ≡ Some v.values
values_at vars i v h = slice_get-map (λ v. v.values) vars i ∙ ap (option_map (λ v. v.values)) h

-- the entries of a table that has taken a new name
pub shown_after : {K : Type 0} (es es' : List (K × List (List ℕ))) (k : K) (w : List (List ℕ)) (f : K → List ℕ) (vars : List Variable) → es' ≡ insert_entry (λ x y. bytes_eq (f x) (f y)) es k w → shown f es ≡ vars → is_in (names_of vars) (f k) ≡ false → shown f es' ≡ vars ++ record { name = f k; values = w } ∷ []
shown_after es es' k w f vars e v h =
    ap (shown f) e
    ∙ (shown_push es k w f (ap (λ s. is_in (names_of s) (f k)) v ∙ h)
    ∙ ap (λ s. s ++ record { name = f k; values = w } ∷ []) v)

small_push : (vars : List Variable) (v : Variable) → AllByRecursion (λ u. length u.values ≤ 65536) vars → length v.values ≤ 65536 → AllByRecursion (λ u. length u.values ≤ 65536) (vars ++ v ∷ [])
small_push [] v all small = (small, tt)
small_push (u ∷ vars) v all small = (all.0, small_push vars v all.1 small)

pub IsTable-push : (vars : List Variable) (v : Variable) → IsTable vars → length vars < 4096 → is_in (names_of vars) v.name ≡ false → length v.values ≤ 65536 → IsTable (vars ++ v ∷ [])
IsTable-push vars v h room fresh small = record {
  few = omega (arith, length-append vars (v ∷ []), room);
  different = ap are_different (map_push vars (λ v. v.name) v) ∙ different_push (names_of vars) v.name h.different fresh;
  small = small_push vars v h.small small;
}

-- what an item at a place shows stands at that place
pub mapped_at : {S : Type 0} (items : List S) (g : S → Variable) (vars : List Variable) (i : ℕ) (s : S) → map g items ≡ vars → Some s ≡ slice_get items i → slice_get vars i ≡ Some (g s)
mapped_at items g vars i s v h = ap (λ t. slice_get t i) (sym v) ∙ (slice_get-map g items i ∙ ap (option_map g) (sym h))

pub seen_at : {K : Type 0} (es : List (K × List (List ℕ))) (i : ℕ) (e : K × List (List ℕ)) (f : K → List ℕ) (vars : List Variable) → shown f es ≡ vars → Some e ≡ slice_get es i → slice_get vars i ≡ Some (record { name = f e.0; values = e.1 })
seen_at es i e f vars v h = mapped_at es (λ e. record { name = f e.0; values = e.1 }) vars i e v h

-- what `get` found in a slice of the items
pub item_at : {S : Type 0} (slice items : List S) (i : ℕ) (s : S) → slice ≡ items → s ≡ get_or slice i s → i < length slice → Some s ≡ slice_get items i
item_at slice items i s is found within = ap Some found ∙ (sym (slice_get-get_or slice i s within) ∙ ap (λ t. slice_get t i) is)
