use Rattle.std.proofs.Common.{◌≡◌, ◌≢◌, ◌+◌, ◌<◌, ◌≤◌, ℕ, zero, suc, Bool, true, false, if◌then◌else◌, List, [], ◌∷◌, ◌++◌, length, get_or, refl, sym, ap, ◌∙◌, subst, arith, zero-add, eqb-true, inl, inr}
use Rattle.std.specs.Prelude.{nat_eq, count_by, Contains, All}
use Rattle.std.specs.List.{flat_map, range_with_len}
use Rattle.std.proofs.lemmas.Bool.{cases_lt, cases_eq}
use Rattle.std.proofs.lemmas.Bool.Decides.{nat_tests}
use Rattle.std.proofs.lemmas.List.Elements.{All-nil, All-cons, All-append}
use Rattle.std.proofs.lemmas.List.Sums.{sum_by-append}
use Rattle.net_model.specs.Listings.{Listing}
use Rattle.net_model.specs.Nets.{Latch}
use Rattle.net_model.specs.Spellings.{domain_at}
use Rattle.net_model.specs.Conditions.{times_driven, columns_of, uses, latch_outputs, IsReset, IsAutomaton, HasAcceptance, MeetsConditions}
use Rattle.printed_nets.specs.PrintedNets.{letter_places, acc_place, present_place, next_place, acc_table, step_table, reset_table, printed_net}
use Rattle.printed_nets.proofs.NetSaid.{acc_domain_at, present_domain_at, next_domain_at}

-- The network of a printed text meets the conditions.

same_test : (n : ℕ) → nat_eq n n ≡ true
same_test n = grind (arith, nat_tests)

other_test : (n m : ℕ) → n ≢ m → nat_eq n m ≡ false
other_test n m other =
    elim (nat_eq n m) as (λ b. nat_eq n m ≡ b → b ≡ false) [ true ↦ λ e. absurd (other (eqb-true n m e)) | false ↦ λ e. refl ] refl

count_append : (s : ℕ) (xs ys : List ℕ) → count_by (nat_eq s) (xs ++ ys) ≡ count_by (nat_eq s) xs + count_by (nat_eq s) ys
count_append s xs ys = sum_by-append _ xs ys

count_same : (s x : ℕ) (xs : List ℕ) → nat_eq s x ≡ true → count_by (nat_eq s) (x ∷ xs) ≡ 1 + count_by (nat_eq s) xs
count_same s x xs is = count_append s (x ∷ []) xs ∙ ap (λ b. (0 + (if b then 1 else 0)) + count_by (nat_eq s) xs) is

count_other : (s x : ℕ) (xs : List ℕ) → nat_eq s x ≡ false → count_by (nat_eq s) (x ∷ xs) ≡ count_by (nat_eq s) xs
count_other s x xs is =
    let none : (0 + (if false then 1 else 0)) + count_by (nat_eq s) xs ≡ count_by (nat_eq s) xs = zero-add (count_by (nat_eq s) xs) in
    count_append s (x ∷ []) xs ∙ (ap (λ b. (0 + (if b then 1 else 0)) + count_by (nat_eq s) xs) is ∙ none)

-- a number stands once in a range that has it, and in no other one
count_past : (s low n : ℕ) → low + n ≤ s → count_by (nat_eq s) (range_with_len low n) ≡ 0
count_past s low zero past = refl
count_past s low (suc n) past =
    count_other s low (range_with_len (low + 1) n) (other_test s low (λ e. absurd (omega (arith, e)))) ∙ count_past s (low + 1) n (omega arith)

count_before : (s low n : ℕ) → s < low → count_by (nat_eq s) (range_with_len low n) ≡ 0
count_before s low zero before = refl
count_before s low (suc n) before =
    count_other s low (range_with_len (low + 1) n) (other_test s low (λ e. absurd (omega (arith, e)))) ∙ count_before s (low + 1) n (omega arith)

count_inside : (s low n : ℕ) → low ≤ s → s < low + n → count_by (nat_eq s) (range_with_len low n) ≡ 1
count_inside s low zero from to = absurd (omega arith)
count_inside s low (suc n) from to =
    elim (cases_eq s low) [
      | inl same ↦
          let rest = count_before s (low + 1) n (omega (arith, same)) in
          let one : 1 + count_by (nat_eq s) (range_with_len (low + 1) n) ≡ 1 = omega (arith, rest) in
          count_same s low (range_with_len (low + 1) n) (ap (nat_eq s) (sym same) ∙ same_test s) ∙ one
      | inr other ↦
          count_other s low (range_with_len (low + 1) n) (other_test s low other)
          ∙ count_inside s (low + 1) n (omega (arith, other)) (omega arith)
    ]

-- how often a number stands among three others
count_three : (s a b c : ℕ) → (x y z : Bool) → nat_eq s a ≡ x → nat_eq s b ≡ y → nat_eq s c ≡ z → count_by (nat_eq s) (a ∷ b ∷ c ∷ []) ≡ ((0 + (if x then 1 else 0)) + (if y then 1 else 0)) + (if z then 1 else 0)
count_three s a b c x y z e f g = rw e (rw f (rw g refl))

-- how often each signal is driven
module _ (auto : Listing) where
  last_count : (s : ℕ) → times_driven (printed_net auto) s ≡ count_by (nat_eq s) (letter_places auto) + count_by (nat_eq s) (acc_place auto ∷ next_place auto ∷ present_place auto ∷ [])
  last_count s = count_append s (letter_places auto) (acc_place auto ∷ next_place auto ∷ present_place auto ∷ [])

  -- a number differs from a place
  abbrev three : ℕ → ℕ
  three s = count_by (nat_eq s) (acc_place auto ∷ next_place auto ∷ present_place auto ∷ [])

  before_three : (s : ℕ) → s < length auto.vars → three s ≡ 0
  before_three s below =
      count_three s (acc_place auto) (next_place auto) (present_place auto) false false false
      (other_test s (acc_place auto) (λ e. absurd (omega (arith, e)))) (other_test s (next_place auto) (λ e. absurd (omega (arith, e))))
      (other_test s (present_place auto) (λ e. absurd (omega (arith, e)))) ∙ omega arith

  at_acc : three (acc_place auto) ≡ 1
  at_acc =
      count_three (acc_place auto) (acc_place auto) (next_place auto) (present_place auto) true false false
      (same_test (acc_place auto)) (other_test (acc_place auto) (next_place auto) (λ e. absurd (omega (arith, e))))
      (other_test (acc_place auto) (present_place auto) (λ e. absurd (omega (arith, e)))) ∙ omega arith

  at_next : three (next_place auto) ≡ 1
  at_next =
      count_three (next_place auto) (acc_place auto) (next_place auto) (present_place auto) false true false
      (other_test (next_place auto) (acc_place auto) (λ e. absurd (omega (arith, e)))) (same_test (next_place auto))
      (other_test (next_place auto) (present_place auto) (λ e. absurd (omega (arith, e)))) ∙ omega arith

  at_present : three (present_place auto) ≡ 1
  at_present =
      count_three (present_place auto) (acc_place auto) (next_place auto) (present_place auto) false false true
      (other_test (present_place auto) (acc_place auto) (λ e. absurd (omega (arith, e)))) (other_test (present_place auto) (next_place auto) (λ e. absurd (omega (arith, e))))
      (same_test (present_place auto)) ∙ omega arith

  behind_three : (s : ℕ) → length auto.vars + 3 ≤ s → three s ≡ 0
  behind_three s past =
      count_three s (acc_place auto) (next_place auto) (present_place auto) false false false
      (other_test s (acc_place auto) (λ e. absurd (omega (arith, e)))) (other_test s (next_place auto) (λ e. absurd (omega (arith, e))))
      (other_test s (present_place auto) (λ e. absurd (omega (arith, e)))) ∙ omega arith

  -- each of the three is one of them
  abbrev Driven : ℕ → Type 0
  Driven s = (times_driven (printed_net auto) s ≤ 1) × (s < length auto.vars + 3 → 0 < times_driven (printed_net auto) s)

  behind_letters : (s : ℕ) → length auto.vars ≤ s → three s ≡ 1 → Driven s
  behind_letters s past once =
      let counted = last_count s in
      let range = count_past s 0 (length auto.vars) (omega arith) in
      (omega arith, λ inside. omega arith)

  pub driven_once : (s : ℕ) → Driven s
  driven_once s =
      elim (cases_lt s (length auto.vars)) [
        | inl below ↦
            let counted = last_count s in
            let range = count_inside s 0 (length auto.vars) (omega arith) (omega arith) in
            let rest = before_three s below in
            (omega arith, λ inside. omega arith)
        | inr past ↦ elim (cases_lt s (length auto.vars + 3)) [
          | inl inside ↦ elim (cases_eq s (acc_place auto)) [
            | inl is ↦ subst Driven (sym is) (behind_letters (acc_place auto) (omega arith) at_acc)
            | inr not_acc ↦ elim (cases_eq s (next_place auto)) [
              | inl is ↦ subst Driven (sym is) (behind_letters (next_place auto) (omega arith) at_next)
              | inr not_next ↦
                  let is : s ≡ present_place auto = omega (arith, not_acc, not_next) in
                  subst Driven (sym is) (behind_letters (present_place auto) (omega arith) at_present)
            ]
          ]
          | inr outside ↦
              let counted = last_count s in
              let range = count_past s 0 (length auto.vars) (omega arith) in
              let rest = behind_three s outside in
              (omega arith, λ inside. absurd (omega arith))
        ]
      ]

  -- the signals that are used

  abbrev IsInside : ℕ → Type 0
  IsInside s = s < length auto.vars + 3

  inside_range : (low n : ℕ) → low + n ≤ length auto.vars → All IsInside (range_with_len low n)
  inside_range low zero few = All-nil IsInside
  inside_range low (suc n) few = All-cons IsInside low (range_with_len (low + 1) n) (omega arith) (inside_range (low + 1) n (omega arith))

  pub acc_inside : All IsInside (acc_place auto ∷ [])
  acc_inside = All-cons IsInside (acc_place auto) [] (omega arith) (All-nil IsInside)

  pub present_inside : All IsInside (present_place auto ∷ [])
  present_inside = All-cons IsInside (present_place auto) [] (omega arith) (All-nil IsInside)

  pub next_inside : All IsInside (next_place auto ∷ [])
  next_inside = All-cons IsInside (next_place auto) [] (omega arith) (All-nil IsInside)

  uses_inside : All IsInside (uses (printed_net auto))
  uses_inside =
      let both = λ (xs ys : List ℕ) (h : All IsInside xs) (k : All IsInside ys). All-append IsInside xs ys h k in
      let acc = acc_inside in
      let present = present_inside in
      let next = next_inside in
      let letters = inside_range 0 (length auto.vars) (omega arith) in
      let acc_columns : All IsInside (columns_of (acc_table auto)) = both (present_place auto ∷ []) (acc_place auto ∷ []) present acc in
      let step_ins : All IsInside (letter_places auto ++ present_place auto ∷ []) = both (letter_places auto) (present_place auto ∷ []) letters present in
      let step_columns : All IsInside (columns_of (step_table auto)) = both (letter_places auto ++ present_place auto ∷ []) (next_place auto ∷ []) step_ins next in
      let steps : All IsInside (columns_of (step_table auto) ++ []) = both (columns_of (step_table auto)) [] step_columns (All-nil IsInside) in
      let tables : All IsInside (flat_map columns_of (printed_net auto).tables) = both (columns_of (acc_table auto)) (columns_of (step_table auto) ++ []) acc_columns steps in
      let resets : All IsInside (flat_map columns_of (printed_net auto).resets) = both (present_place auto ∷ []) [] present (All-nil IsInside) in
      let latches : All IsInside (next_place auto ∷ present_place auto ∷ []) = both (next_place auto ∷ []) (present_place auto ∷ []) next present in
      both (acc_place auto ∷ []) (flat_map columns_of (printed_net auto).tables ++ (flat_map columns_of (printed_net auto).resets ++ (next_place auto ∷ present_place auto ∷ []))) acc
      (both (flat_map columns_of (printed_net auto).tables) (flat_map columns_of (printed_net auto).resets ++ (next_place auto ∷ present_place auto ∷ [])) tables
      (both (flat_map columns_of (printed_net auto).resets) (next_place auto ∷ present_place auto ∷ []) resets latches))

  all_driven : (signals : List ℕ) → All IsInside signals → All (λ s. 0 < times_driven (printed_net auto) s) signals
  all_driven signals inside = λ k d below. (driven_once (get_or signals k d)).1 (inside k d below)

  -- latches and resets

  pub is_latch_output : Contains (latch_outputs (printed_net auto)) (present_place auto)
  is_latch_output = (0, omega arith, refl)

  only_latch_outputs : All (Contains (latch_outputs (printed_net auto))) (present_place auto ∷ [])
  only_latch_outputs = All-cons (Contains (latch_outputs (printed_net auto))) (present_place auto) [] is_latch_output (All-nil _)

  same_size : length (domain_at (printed_net auto).names (next_place auto)) ≡ length (domain_at (printed_net auto).names (present_place auto))
  same_size = ap length (next_domain_at auto) ∙ sym (ap length (present_domain_at auto))

  once_reset : (s : ℕ) → count_by (nat_eq s) (present_place auto ∷ []) ≤ 1
  once_reset s =
      elim (nat_eq s (present_place auto)) as (λ b. 0 + (if b then 1 else 0) ≤ 1) [ true ↦ omega arith | false ↦ omega arith ]

  -- the signal of an automaton
  pub acc_signal : (signal : ℕ) → IsAutomaton (printed_net auto) signal → acc_place auto ≡ signal
  acc_signal signal is = ap (λ l. get_or l 0 0) is.0

  accepted : (signal : ℕ) → IsAutomaton (printed_net auto) signal → HasAcceptance (printed_net auto) signal
  accepted signal is =
      let made : HasAcceptance (printed_net auto) (acc_place auto) = record {
        binary = ap length (acc_domain_at auto);
        table = acc_table auto;
        held = (0, omega arith, refl);
        only = refl;
        states = only_latch_outputs;
      } in
      subst (HasAcceptance (printed_net auto)) (acc_signal signal is) made

  pub meets_conditions : MeetsConditions (printed_net auto)
  meets_conditions = record {
    once = λ s. (driven_once s).0;
    driven = all_driven (uses (printed_net auto)) uses_inside;
    latches = All-cons (λ (latch : Latch). length (domain_at (printed_net auto).names latch.input) ≡ length (domain_at (printed_net auto).names latch.output)) _ [] same_size (All-nil _);
    reset_once = once_reset;
    resets = All-cons (IsReset (printed_net auto)) (reset_table auto) [] (record { inputs = All-nil _; outputs = only_latch_outputs }) (All-nil _);
    acceptance = accepted;
  }
