use Rattle.std.proofs.Common.{◌≡◌, ◌+◌, ◌-◌, ◌<◌, ◌≤◌, ◌==◌, ◌&&◌, ◌||◌, ℕ, zero, suc, Bool, true, false, not, if◌then◌else◌, List, [], ◌∷◌, ◌++◌, length, map, None, refl, sym, ap, ◌∙◌, arith, eqb-true, inl, inr}
use Rattle.std.specs.Prelude.{slice_index_or}
use Rattle.std.specs.List.{AllByRecursion, list_any}
use Rattle.std.proofs.lemmas.Bool.{and_parts, false≢true, cases_eq}
use Rattle.std.proofs.lemmas.Bool.Decides.{nat_tests}
use Rattle.net_model.specs.Words.{Variable, Scope, Letter, IsLetter}
use Rattle.net_model.specs.Listings as listings
use Rattle.net_model.specs.Listings.{Listing, allows, steps}
use Rattle.net_model.specs.Nets.{Any, Value}
use Rattle.net_model.specs.Tables.{is_value_of, entry_allows, entries_allow, row_matches, row_allows, table_allows}
use Rattle.net_model.specs.Printed.{RisesBelow, IsEntry, AreEntries, IsPrintedRow}
use Rattle.printed_nets.specs.PrintedNets.{values_entry, net_entry, net_entries, net_row, mark_value, mark_row, mark_rows}

-- What the tables of a printed network allow.

-- an entry with as many values as its domain has each of them

rising_length : (low high : ℕ) (entry : List ℕ) → RisesBelow low high entry → low ≤ high → length entry ≤ high - low
rising_length low high [] rises within = omega arith
rising_length low high (value ∷ entry) rises within =
    let above = rises.0 in
    let below = rises.1 in
    let rest = rising_length (value + 1) high entry rises.2 (omega arith) in
    omega arith

full_has : (low high value : ℕ) (entry : List ℕ) → RisesBelow low high entry → low ≤ high → length entry ≡ high - low → low ≤ value → value < high → is_value_of entry value ≡ true
full_has low high value [] rises within full above below = absurd (omega (arith, full))
full_has low high value (first ∷ entry) rises within full above below =
    let from = rises.0 in
    let to = rises.1 in
    let rest = rising_length (first + 1) high entry rises.2 (omega arith) in
    let first_is : first ≡ low = omega arith in
    elim (cases_eq first value) [
      | inl same ↦ let here : (first == value) ≡ true = grind (arith, nat_tests) in rw here refl
      | inr other ↦
          let more = full_has (first + 1) high value entry rises.2 (omega arith) (omega arith) (omega (arith, other)) below in
          elim (first == value) as (λ b. (b || is_value_of entry value) ≡ true) [ true ↦ refl | false ↦ more ]
    ]

single_allows : (ins : List ℕ) (entry : List ℕ) (value : ℕ) → entry_allows ins (values_entry entry) value ≡ list_any (λ v. v == value) entry
single_allows ins [] value = refl
single_allows ins (v ∷ []) value = elim (v == value) as (λ b. b ≡ (b || false)) [ true ↦ refl | false ↦ refl ]
single_allows ins (v ∷ w ∷ more) value = refl

-- an entry allows just its values
entry_same : (ins : List ℕ) (v : Variable) (entry : List ℕ) (value : ℕ) → IsEntry v entry → value < length v.values → entry_allows ins (net_entry v entry) value ≡ list_any (λ w. w == value) entry
entry_same ins v entry value is below =
    elim (length entry == length v.values) as (λ b. (length entry == length v.values) ≡ b → entry_allows ins (if b then Any else values_entry entry) value ≡ list_any (λ w. w == value) entry) [
      | true ↦ λ e.
          let same : length entry ≡ length v.values = eqb-true (length entry) (length v.values) e in
          let full : length entry ≡ length v.values - 0 = omega arith in
          sym (full_has 0 (length v.values) value entry is.1 (omega arith) full (omega arith) below)
      | false ↦ λ e. single_allows ins entry value
    ] refl

-- the entries of a row allow its letter and its present state
pub entries_same : (ins : List ℕ) (vars : Scope) (entries : List (List ℕ)) (a : Letter) (present p : ℕ) → AreEntries vars entries → IsLetter vars a
    → entries_allow ins (net_entries vars entries ++ Value present ∷ []) (a ++ p ∷ []) ≡ (allows entries a && (present == p))
entries_same ins [] [] [] present p are over = elim (present == p) as (λ b. (b && true) ≡ (true && b)) [ true ↦ refl | false ↦ refl ]
entries_same ins [] [] (x ∷ a) present p are over = absurd over
entries_same ins [] (entry ∷ entries) a present p are over = absurd are
entries_same ins (v ∷ vars) [] a present p are over = absurd are
entries_same ins (v ∷ vars) (entry ∷ entries) [] present p are over = absurd over
entries_same ins (v ∷ vars) (entry ∷ entries) (x ∷ a) present p are over =
    ap (λ b. b && entries_allow ins (net_entries vars entries ++ Value present ∷ []) (a ++ p ∷ [])) (entry_same ins v entry x are.0 over.0)
    ∙ (ap (λ b. list_any (λ w. w == x) entry && b) (entries_same ins vars entries a present p are.1 over.1)
    ∙ regroup (list_any (λ w. w == x) entry) (allows entries a) (present == p))
  where
    regroup : (b c d : Bool) → (b && (c && d)) ≡ ((b && c) && d)
    regroup true c d = refl
    regroup false c d = refl

-- a row allows where the listing's row steps
pub row_same : (vars : Scope) (n : ℕ) (row : listings.Row) (a : Letter) (p q : ℕ) → IsPrintedRow vars n row → IsLetter vars a
    → row_allows (a ++ p ∷ []) (q ∷ []) (net_row vars row) ≡ ((row.present == p) && ((row.next == q) && allows row.entries a))
row_same vars n row a p q printed over =
    ap (λ b. b && ((row.next == q) && true)) (entries_same (a ++ p ∷ []) vars row.entries a row.present p printed.entries over)
    ∙ swap (allows row.entries a) (row.present == p) (row.next == q)
  where
    swap : (b c d : Bool) → ((b && c) && (d && true)) ≡ (c && (d && b))
    swap true true true = refl
    swap true true false = refl
    swap true false d = refl
    swap false true true = refl
    swap false true false = refl
    swap false false d = refl

rows_same : (vars : Scope) (n : ℕ) (rows : List listings.Row) (a : Letter) (p q : ℕ) → AllByRecursion (IsPrintedRow vars n) rows → IsLetter vars a
    → list_any (row_allows (a ++ p ∷ []) (q ∷ [])) (map (net_row vars) rows) ≡ list_any (λ row. (row.present == p) && ((row.next == q) && allows row.entries a)) rows
rows_same vars n [] a p q printed over = refl
rows_same vars n (row ∷ rows) a p q printed over = rw (row_same vars n row a p q printed.0 over) (rw (rows_same vars n rows a p q printed.1 over) refl)

-- a table without a default holds by its rows
without_default : (b c : Bool) → (b || (c && false)) ≡ b
without_default true c = refl
without_default false true = refl
without_default false false = refl

pub steps_same : (auto : Listing) (ins outs : List ℕ) (a : Letter) (p q : ℕ) → AllByRecursion (IsPrintedRow auto.vars (length auto.accepting)) auto.rows → IsLetter auto.vars a
    → table_allows (record { ins = ins; outs = outs; rows = map (net_row auto.vars) auto.rows; otherwise = None }) (a ++ p ∷ []) (q ∷ []) ≡ steps auto p a q
steps_same auto ins outs a p q printed over =
    without_default (list_any (row_allows (a ++ p ∷ []) (q ∷ [])) (map (net_row auto.vars) auto.rows)) (not (list_any (row_matches (a ++ p ∷ [])) (map (net_row auto.vars) auto.rows)))
    ∙ rows_same auto.vars (length auto.accepting) auto.rows a p q printed over

-- a letter that a row's entries allow is one over the variables

any_below : (low high value : ℕ) (entry : List ℕ) → RisesBelow low high entry → list_any (λ v. v == value) entry ≡ true → value < high
any_below low high value [] rises any = absurd (false≢true any)
any_below low high value (first ∷ entry) rises any =
    let below = rises.1 in
    elim (first == value) as (λ b. (first == value) ≡ b → (b || list_any (λ v. v == value) entry) ≡ true → value < high) [
      | true ↦ λ e f. let same : first ≡ value = eqb-true first value e in omega arith
      | false ↦ λ e f. any_below (first + 1) high value entry rises.2 f
    ] refl any

pub allowed_letter : (vars : Scope) (entries : List (List ℕ)) (a : Letter) → AreEntries vars entries → allows entries a ≡ true → IsLetter vars a
allowed_letter [] [] [] are all = tt
allowed_letter [] [] (x ∷ a) are all = absurd (false≢true all)
allowed_letter [] (entry ∷ entries) a are all = absurd are
allowed_letter (v ∷ vars) [] a are all = absurd are
allowed_letter (v ∷ vars) (entry ∷ entries) [] are all = absurd (false≢true all)
allowed_letter (v ∷ vars) (entry ∷ entries) (x ∷ a) are all =
    let parts = and_parts (list_any (λ w. w == x) entry) (allows entries a) all in
    (any_below 0 (length v.values) x entry are.0.1 parts.0, allowed_letter vars entries a are.1 parts.1)

-- the table of accepting states

mark_passes : (k p : ℕ) (mark : Bool) (x : ℕ) → row_allows (p ∷ []) (x ∷ []) (mark_row k mark) ≡ (((k == p) && true) && ((mark_value mark == x) && true))
mark_passes k p mark x = refl

none_before : (low p x : ℕ) (marks : List Bool) → p < low → list_any (row_allows (p ∷ []) (x ∷ [])) (mark_rows low marks) ≡ false
none_before low p x [] before = refl
none_before low p x (mark ∷ marks) before =
    let other : (low == p) ≡ false = grind (arith, nat_tests) in
    rw other (none_before (low + 1) p x marks (omega arith))

or_false : (b : Bool) → (b || false) ≡ b
or_false true = refl
or_false false = refl

marks_allow : (low k x : ℕ) (marks : List Bool) → k < length marks → list_any (row_allows ((low + k) ∷ []) (x ∷ [])) (mark_rows low marks) ≡ (mark_value (slice_index_or marks k false) == x)
marks_allow low k x [] below = absurd (omega arith)
marks_allow low zero x (mark ∷ marks) below =
    let here : low + zero ≡ low = omega arith in
    let same : (low == low) ≡ true = grind (arith, nat_tests) in
    ap (λ p. list_any (row_allows (p ∷ []) (x ∷ [])) (mark_rows low (mark ∷ marks))) here
    ∙ rw same (rw (none_before (low + 1) low x marks (omega arith)) (or_false ((mark_value mark == x) && true) ∙ and_true (mark_value mark == x)))
  where
    and_true : (b : Bool) → (b && true) ≡ b
    and_true true = refl
    and_true false = refl
marks_allow low (suc k) x (mark ∷ marks) below =
    let place : low + suc k ≡ low + 1 + k = omega arith in
    let other : (low == (low + 1 + k)) ≡ false = grind (arith, nat_tests) in
    ap (λ p. list_any (row_allows (p ∷ []) (x ∷ [])) (mark_rows low (mark ∷ marks))) place
    ∙ rw other (marks_allow (low + 1) k x marks (omega arith))

-- it holds with a state and the value that tells whether the state accepts
pub marks_same : (ins outs : List ℕ) (marks : List Bool) (p x : ℕ) → p < length marks
    → table_allows (record { ins = ins; outs = outs; rows = mark_rows 0 marks; otherwise = None }) (p ∷ []) (x ∷ []) ≡ (mark_value (slice_index_or marks p false) == x)
marks_same ins outs marks p x below =
    let from : p ≡ 0 + p = omega arith in
    without_default (list_any (row_allows (p ∷ []) (x ∷ [])) (mark_rows 0 marks)) (not (list_any (row_matches (p ∷ [])) (mark_rows 0 marks)))
    ∙ (ap (λ k. list_any (row_allows (k ∷ []) (x ∷ [])) (mark_rows 0 marks)) from ∙ marks_allow 0 p x marks below)
