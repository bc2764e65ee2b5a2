-- The rest of a list from a place on, by what stands there.
use Rattle.std.proofs.Common.{◌≡◌, ◌+◌, ◌<◌, ◌≤◌, ℕ, zero, suc, Bool, List, [], ◌∷◌, ◌++◌, length, map, drop, get_or, Option, Some, None, refl, sym, ap, ◌∙◌, append_assoc, arith, rules}
use Rattle.std.specs.Prelude.{slice_get, unwrap_or}
use Rattle.std.specs.Borrow.{Bor}
use Rattle.std.specs.Option.{IsSome, option_copied}
use Rattle.std.proofs.lemmas.List.{length-map}
use Rattle.std.proofs.lemmas.Option.{none-some, slice_get-get_or, unwrap_or-slice_get}
use Rattle.name_table.specs.Variables.{names_of}
use Rattle.name_table.specs.CodeBits.{code_bits, bits_of, bits_in}
use Rattle.net_model.specs.Words.{Variable, Scope}
use Rattle.net_model.specs.Printed.{entry_field, entry_fields}
use Rattle.bdd_walk.specs.Paths.{Path}
use Rattle.aut_format.specs.Fields.{blank_after}
use Rattle.aut_format.specs.Rows.{allows_bit, entry_along, entries_along}
use Rattle.aut_format.proofs.Parts.{entry-same}

same-some : {X : Type 0} (x y : X) → Some x ≡ Some y → x ≡ y
same-some x y e = cc

pub drop-here : {X : Type 0} (xs : List X) (k : ℕ) (x : X) → slice_get xs k ≡ Some x → drop k xs ≡ x ∷ drop (k + 1) xs
drop-here [] k x at = absurd (none-some x at)
drop-here (y ∷ xs) zero x at = ap (λ z. z ∷ xs) (same-some y x at)
drop-here (y ∷ xs) (suc k) x at =
    let next : suc (k + 1) ≡ suc k + 1 = omega arith in
    drop-here xs k x at ∙ ap (λ n. x ∷ drop n (y ∷ xs)) next

pub names-here : (scope : Scope) (k : ℕ) (name : List ℕ) → slice_get (names_of scope) k ≡ Some name → names_of (drop k scope) ≡ name ∷ names_of (drop (k + 1) scope)
names-here [] k name at = absurd (none-some name at)
names-here (v ∷ scope) zero name at = ap (λ n. n ∷ names_of scope) (same-some v.name name at)
names-here (v ∷ scope) (suc k) name at =
    let next : suc (k + 1) ≡ suc k + 1 = omega arith in
    names-here scope k name at ∙ ap (λ n. name ∷ names_of (drop n (v ∷ scope))) next

pub variable-here : (scope : Scope) (k : ℕ) (name : List ℕ) (values : List (List ℕ)) → slice_get (names_of scope) k ≡ Some name → slice_get (map (λ (v : Variable). v.values) scope) k ≡ Some values → drop k scope ≡ record { name = name; values = values } ∷ drop (k + 1) scope
variable-here [] k name values at there = absurd (none-some name at)
variable-here (v ∷ scope) zero name values at there =
    let first : v.name ≡ name = same-some v.name name at in
    let second : v.values ≡ values = same-some v.values values there in
    λ i. record { name = first i; values = second i } ∷ scope
variable-here (v ∷ scope) (suc k) name values at there =
    let next : suc (k + 1) ≡ suc k + 1 = omega arith in
    variable-here scope k name values at there ∙ ap (λ n. record { name = name; values = values } ∷ drop n (v ∷ scope)) next

pub values-here : (scope : Scope) (k : ℕ) (values : List (List ℕ)) → slice_get (map (λ (v : Variable). v.values) scope) k ≡ Some values → (v : Variable) × (drop k scope ≡ v ∷ drop (k + 1) scope) × (v.values ≡ values)
values-here [] k values there = absurd (none-some values there)
values-here (v ∷ scope) zero values there = (v, refl, same-some v.values values there)
values-here (v ∷ scope) (suc k) values there =
    let next : suc (k + 1) ≡ suc k + 1 = omega arith in
    let (found, opens, same) = values-here scope k values there in
    (found, opens ∙ ap (λ n. found ∷ drop n (v ∷ scope)) next, same)

some-there : {X : Type 0} (x : X) → IsSome (Some x)
some-there x = search rules

-- what is copied from a place within the list is there
copied-there : {X : Type 0} (xs : List X) (k : ℕ) (d : X) (o : Option (Bor X)) → k < length xs → option_copied o ≡ slice_get xs k → IsSome o
copied-there xs k d (Some x) below is = some-there x
copied-there xs k d None below is = absurd (none-some (get_or xs k d) (is ∙ slice_get-get_or xs k d below))

-- one of the names, and one of the domains
pub name-there : (scope : Scope) (k n : ℕ) (o : Option (Bor (List ℕ))) → n ≡ length scope → k < n → option_copied o ≡ slice_get (names_of scope) k → IsSome o
name-there scope k n o count below is =
    let size = length-map scope (λ (v : Variable). v.name) in
    copied-there (names_of scope) k [] o (omega (arith, below, count, size)) is

pub domain-there : (scope : Scope) (k n : ℕ) (o : Option (Bor (List (List ℕ)))) → n ≡ length scope → k < n → option_copied o ≡ slice_get (map (λ (v : Variable). v.values) scope) k → IsSome o
domain-there scope k n o count below is =
    let size = length-map scope (λ (v : Variable). v.values) in
    copied-there (map (λ (v : Variable). v.values) scope) k [] o (omega (arith, below, count, size)) is

-- what is past the end is empty
pub none-there : (names : List (List ℕ)) (k : ℕ) → slice_get names k ≡ None → get_or names k [] ≡ []
none-there names k none = sym (unwrap_or-slice_get names k []) ∙ ap (λ o. unwrap_or o []) none

-- One turn on: what is left begins with what was written.
pub more : (t t' front rest all whole : List ℕ) → all ≡ front ++ rest → t' ≡ t ++ front → t ++ all ≡ whole → t' ++ rest ≡ whole
more t t' front rest all whole opens wrote kept = ap (λ s. s ++ rest) wrote ∙ append_assoc t front rest ∙ ap (λ s. t ++ s) (sym opens) ∙ kept

-- One entry on.
pub record AreOn (path : Path) (level next : ℕ) (scope : Scope) (k start : ℕ) (t t' whole : List ℕ) : Type 0 where
  pub place : next + bits_in (drop (k + 1) scope) ≡ start
  pub written : t' ++ blank_after (entry_fields (drop (k + 1) scope) (entries_along path next (drop (k + 1) scope))) ≡ whole

pub entry-on : (path here : Path) (level count next : ℕ) (scope : Scope) (k start : ℕ) (values : List (List ℕ)) (t t₁ t₂ whole : List ℕ) → slice_get (map (λ (v : Variable). v.values) scope) k ≡ Some values → count ≡ length values → next ≡ level + code_bits count
    → ((j : ℕ) (bit : Bool) → level ≤ j → j < level + code_bits count → allows_bit here j bit ≡ allows_bit path j bit)
    → t₁ ≡ t ++ entry_field (record { name = []; values = values }) (entry_along here level (record { name = []; values = values }))
    → t₂ ≡ t₁ ++ 32 ∷ []
    → level + bits_in (drop k scope) ≡ start
    → t ++ blank_after (entry_fields (drop k scope) (entries_along path level (drop k scope))) ≡ whole
    → AreOn path level next scope k start t t₂ whole
entry-on path here level count next scope k start values t t₁ t₂ whole there size ends asks wrote blank place kept =
    let (v, opens, same) = values-here scope k values there in
    let rest = drop (k + 1) scope in
    let bits : code_bits count ≡ bits_of v = ap code_bits (size ∙ ap length (sym same)) in
    let begun : t₂ ≡ (t ++ entry_field v (entry_along path level v)) ++ 32 ∷ [] = blank ∙ ap (λ s. s ++ 32 ∷ []) (wrote ∙ ap (λ (vs : List (List ℕ)). t ++ entry_field (record { name = []; values = vs }) (entry_along here level (record { name = []; values = vs }))) (sym same) ∙ ap (λ entry. t ++ entry_field v entry) (entry-same here path level v (λ j bit low high. asks j bit low (omega (arith, high, bits))))) in
    let after : next ≡ level + bits_of v = ends ∙ ap (λ n. level + n) bits in
    record {
      place = omega (arith, place, ap bits_in opens, after);
      written =
          ap (λ l. t₂ ++ blank_after (entry_fields rest (entries_along path l rest))) after
          ∙ more t t₂ (entry_field v (entry_along path level v) ++ 32 ∷ []) (blank_after (entry_fields rest (entries_along path (level + bits_of v) rest))) (blank_after (entry_fields (drop k scope) (entries_along path level (drop k scope)))) whole
          (ap (λ vs. blank_after (entry_fields vs (entries_along path level vs))) opens)
          (begun ∙ append_assoc t (entry_field v (entry_along path level v)) (32 ∷ []))
          kept;
    }
