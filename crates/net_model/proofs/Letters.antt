-- The letters of a network whose signals are driven once are different signals that have names.
use Rattle.std.proofs.Common.{◌≡◌, ◌<◌, ◌≤◌, ◌+◌, ◌||◌, ℕ, Bool, true, false, not, cond, List, [], ◌∷◌, ◌++◌, length, map, nat_eq, count_by, All, refl, sym, ◌∙◌, ap, subst, zero-add, arith}
use Rattle.std.specs.Prelude.{filter, if◌then◌else◌}
use Rattle.std.specs.List.{AllByRecursion, list_any, flat_map, IsDistinct}
use Rattle.std.proofs.lemmas.Bool.{false≢true, eqb-true, eq-eqb}
use Rattle.std.proofs.lemmas.List.{length-map}
use Rattle.std.proofs.lemmas.List.Elements.{All-append, All-filter}
use Rattle.std.proofs.lemmas.List.Sums.{sum_by-append, sum_by-cons}
use Rattle.std.proofs.Math.ListN.{get_or-map}
use Rattle.name_table.specs.Variables.{names_of, are_different}
use Rattle.name_table.specs.ScopeVars.{chosen_of}
use Rattle.name_table.proofs.Chosen.{chosen_differ, length_chosen}
use Rattle.net_model.specs.Nets.{Net}
use Rattle.net_model.specs.Conditions.{drives}
use Rattle.net_model.specs.NetLanguages.{is_automaton, other_outputs, letter_signals}
use Rattle.net_model.specs.SoundNets.{IsSound}
use Rattle.net_model.specs.Outlines.{IsWired}

-- how often a number stands in a list

pub counted_first : (k x : ℕ) (xs : List ℕ) (b : Bool) → nat_eq k x ≡ b → count_by (nat_eq k) (x ∷ xs) ≡ cond b 1 0 + count_by (nat_eq k) xs
counted_first k x xs b is = sum_by-cons (λ y. cond (nat_eq k y) 1 0) x xs ∙ ap (λ e. cond e 1 0 + count_by (nat_eq k) xs) is

counted_both : (k : ℕ) (xs ys : List ℕ) → count_by (nat_eq k) (xs ++ ys) ≡ count_by (nat_eq k) xs + count_by (nat_eq k) ys
counted_both k xs ys = sum_by-append (λ y. cond (nat_eq k y) 1 0) xs ys

none_counted : (k : ℕ) (xs : List ℕ) → list_any (nat_eq k) xs ≡ false → count_by (nat_eq k) xs ≡ 0
none_counted k [] none = refl
none_counted k (x ∷ xs) none =
    elim (nat_eq k x) as (λ b. nat_eq k x ≡ b → (b || list_any (nat_eq k) xs) ≡ false → count_by (nat_eq k) (x ∷ xs) ≡ 0) [
      | true ↦ λ is some. absurd (false≢true (sym some))
      | false ↦ λ is rest. counted_first k x xs false is ∙ (zero-add _ ∙ none_counted k xs rest)
    ] refl none

all_differ : (k : ℕ) (xs : List ℕ) → count_by (nat_eq k) xs ≡ 0 → AllByRecursion (λ x. nat_eq k x ≡ false) xs
all_differ k [] none = tt
all_differ k (x ∷ xs) none =
    elim (nat_eq k x) as (λ b. nat_eq k x ≡ b → AllByRecursion (λ y. nat_eq k y ≡ false) (x ∷ xs)) [
      | true ↦ λ is. let one = counted_first k x xs true is in absurd (omega (arith, one, none))
      | false ↦ λ is. (is, (all_differ k xs (sym (counted_first k x xs false is ∙ zero-add _) ∙ none)))
    ] refl

-- numbers that stand in a list once at most are different
once_distinct : (xs : List ℕ) → ((k : ℕ) → count_by (nat_eq k) xs ≤ 1) → IsDistinct nat_eq xs
unfolding IsDistinct
once_distinct [] once = tt
once_distinct (x ∷ xs) once =
    let first = counted_first x x xs true (eq-eqb x x refl) in
    let here : count_by (nat_eq x) (x ∷ xs) ≤ 1 = once x in
    let none : count_by (nat_eq x) xs ≡ 0 = omega (arith, first, here) in
    (all_differ x xs none, once_distinct xs (λ k. later k (nat_eq k x) refl))
  where
    later : (k : ℕ) (b : Bool) → nat_eq k x ≡ b → count_by (nat_eq k) xs ≤ 1
    later k b is = let all = counted_first k x xs b is in let few : count_by (nat_eq k) (x ∷ xs) ≤ 1 = once k in omega (arith, all, few)

-- a list and what is new of another

abbrev is_new : List ℕ → ℕ → Bool
is_new had x = not (list_any (nat_eq x) had)

kept_few : (k : ℕ) (p : ℕ → Bool) (xs : List ℕ) → count_by (nat_eq k) (filter p xs) ≤ count_by (nat_eq k) xs
kept_few k p [] = omega arith
kept_few k p (x ∷ xs) =
    let more = kept_few k p xs in
    let all = counted_first k x xs (nat_eq k x) refl in
    let kept = counted_first k x (filter p xs) (nat_eq k x) refl in
    elim (p x) as (λ b. count_by (nat_eq k) (cond b (x ∷ filter p xs) (filter p xs)) ≤ count_by (nat_eq k) (x ∷ xs)) [
      | true ↦ omega (arith, more, all, kept)
      | false ↦ omega (arith, more, all)
    ]

-- what is there is not new
none_kept : (k : ℕ) (had xs : List ℕ) → list_any (nat_eq k) had ≡ true → count_by (nat_eq k) (filter (is_new had) xs) ≡ 0
none_kept k had [] there = refl
none_kept k had (x ∷ xs) there =
    let more = none_kept k had xs there in
    elim (list_any (nat_eq x) had) as (λ b. list_any (nat_eq x) had ≡ b → count_by (nat_eq k) (cond (not b) (x ∷ filter (is_new had) xs) (filter (is_new had) xs)) ≡ 0) [
      | true ↦ λ is. more
      | false ↦ λ is.
          elim (nat_eq k x) as (λ b. nat_eq k x ≡ b → count_by (nat_eq k) (x ∷ filter (is_new had) xs) ≡ 0) [
            | true ↦ λ same. absurd (false≢true (sym is ∙ (ap (λ n. list_any (nat_eq n) had) (sym (eqb-true k x same)) ∙ there)))
            | false ↦ λ differ. counted_first k x (filter (is_new had) xs) false differ ∙ (zero-add _ ∙ more)
          ] refl
    ] refl

both_once : (had xs : List ℕ) → ((k : ℕ) → count_by (nat_eq k) had ≤ 1) → ((k : ℕ) → count_by (nat_eq k) xs ≤ 1) → (k : ℕ) → count_by (nat_eq k) (had ++ filter (is_new had) xs) ≤ 1
both_once had xs once more k =
    let all = counted_both k had (filter (is_new had) xs) in
    let few : count_by (nat_eq k) had ≤ 1 = once k in
    let other : count_by (nat_eq k) xs ≤ 1 = more k in
    elim (list_any (nat_eq k) had) as (λ b. list_any (nat_eq k) had ≡ b → count_by (nat_eq k) (had ++ filter (is_new had) xs) ≤ 1) [
      | true ↦ λ is. let none = none_kept k had xs is in omega (arith, all, few, none)
      | false ↦ λ is. let none = none_counted k had is in let kept = kept_few k (is_new had) xs in omega (arith, all, none, kept, other)
    ] refl

-- a sound network is one

pub wired_of : (net : Net) → IsSound net → IsWired net
wired_of net sound = record { known = sound.known; outputs_once = sound.outputs_once; once = sound.conditions.once }

-- of a network with different signals

inputs_once : (net : Net) → IsWired net → (k : ℕ) → count_by (nat_eq k) net.inputs ≤ 1
inputs_once net wired k =
    let driven : count_by (nat_eq k) (drives net) ≤ 1 = wired.once k in
    let all = counted_both k net.inputs (flat_map (λ table. table.outs) net.tables ++ map (λ latch. latch.output) net.latches) in
    omega (arith, driven, all)

pub letters_distinct : (net : Net) → IsWired net → IsDistinct nat_eq (letter_signals net)
letters_distinct net wired =
    elim (is_automaton net) as (λ b. IsDistinct nat_eq (if b then net.inputs else net.inputs ++ other_outputs net)) [
      | true ↦ once_distinct net.inputs (inputs_once net wired)
      | false ↦ once_distinct (net.inputs ++ other_outputs net) (both_once net.inputs net.outputs (inputs_once net wired) wired.outputs_once)
    ]

pub letters_known : (net : Net) → IsWired net → All (λ signal. signal < length net.names) (letter_signals net)
letters_known net wired =
    elim (is_automaton net) as (λ b. All (λ signal. signal < length net.names) (if b then net.inputs else net.inputs ++ other_outputs net)) [
      | true ↦ wired.known.inputs
      | false ↦ All-append (λ signal. signal < length net.names) net.inputs (other_outputs net) wired.known.inputs
          (All-filter (is_new net.inputs) (λ signal. signal < length net.names) net.outputs wired.known.outputs)
    ]

-- of a list in the code whose numbers these are
module _ {V : Type 0} (net : Net) (vs : List V) (f : V → ℕ) (are : map f vs ≡ letter_signals net) (wired : IsWired net) where
  pub listed_known : All (λ v. f v < length net.names) vs
  listed_known k v within =
      let inside : k < length (map f vs) = subst (λ n. k < n) (sym (length-map vs f)) within in
      let all : All (λ signal. signal < length net.names) (map f vs) = subst (λ (ks : List ℕ). All (λ signal. signal < length net.names) ks) (sym are) (letters_known net wired) in
      subst (λ n. n < length net.names) (get_or-map f vs k v) (all k (f v) inside)

  listed_distinct : IsDistinct nat_eq (map f vs)
  listed_distinct = subst (λ (ks : List ℕ). IsDistinct nat_eq ks) (sym are) (letters_distinct net wired)

  pub listed_differ : are_different (names_of (chosen_of net.names (map f vs))) ≡ true
  listed_differ = chosen_differ net.names vs f listed_known listed_distinct wired.known.names.different

  pub listed_few : length vs ≤ 4096
  listed_few = let few = length_chosen net.names vs f listed_known listed_distinct in omega (arith, few, wired.known.names.few)
