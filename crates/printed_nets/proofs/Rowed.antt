use Rattle.std.proofs.Common.{◌≡◌, ◌+◌, ◌<◌, ◌^◌, ◌==◌, ◌&&◌, ◌||◌, ℕ, zero, suc, true, false, not, if◌then◌else◌, List, [], ◌∷◌, ◌++◌, length, map, Option, Some, None, refl, sym, ap, ◌∙◌, arith, append_assoc, zero-add, codes}
use Rattle.std.specs.Prelude.{nat_lt, slice_index_or}
use Rattle.std.specs.Option.{option_map}
use Rattle.std.specs.List.{list_any, AllByRecursion, range_with_len, position_or_len}
use Rattle.std.specs.Str.{bytes_eq}
use Rattle.std.proofs.lemmas.Bool.{and_parts, false≢true}
use Rattle.std.proofs.lemmas.Bool.Decides.{nat_tests}
use Rattle.name_table.specs.Variables.{is_in, place_of, are_different}
use Rattle.name_table.proofs.Apart.{not_equal, not_true}
use Rattle.net_model.specs.Words.{Variable, Scope}
use Rattle.net_model.specs.Nets.{Entry, Any, Value, OneOf}
use Rattle.net_model.specs.Forms.{Name, begins_with, is_name, is_value_name}
use Rattle.net_model.specs.Spellings.{Spelled, Dash, One, Listed, Taken, taken_of, as_taken, is_denial, is_list_sign, list_at, entry_at, values_of, input_entry, with_entry, column_then, entries_at}
use Rattle.net_model.specs.Written.{IsTextValue, IsTextVariable}
use Rattle.net_model.specs.Printed.{state_name, value_name, RisesBelow, IsEntry, AreEntries, IsPrintedVariable}
use Rattle.printed_nets.specs.PrintedNets.{state_names, values_entry, net_entry, net_entries, listed_words, values_words, entry_words, entries_words}
use Rattle.printed_nets.proofs.Said.{IsPlainName, plain_name}
use Rattle.printed_nets.proofs.SaidLines.{values_here}
use Rattle.printed_nets.proofs.Named.{same_bytes, states_different}

-- The rows of a printed text spell the rows of its network.

-- the place of a name

below_test : (k n : ℕ) → k < n → nat_lt k n ≡ true
below_test k n below = grind (arith, nat_tests)

in_later : (names : List Name) (k : ℕ) → k < length names → is_in names (slice_index_or names k []) ≡ true
in_later [] k below = absurd (omega arith)
in_later (name ∷ names) zero below = rw (same_bytes name) refl
in_later (name ∷ names) (suc k) below =
    elim (bytes_eq (slice_index_or names k []) name) as (λ b. (b || is_in names (slice_index_or names k [])) ≡ true) [
      | true ↦ refl
      | false ↦ in_later names k (omega arith)
    ]

first_place : (names : List Name) (k : ℕ) → are_different names ≡ true → k < length names → position_or_len (bytes_eq (slice_index_or names k [])) names ≡ k
first_place [] k different below = absurd (omega arith)
first_place (name ∷ names) zero different below = rw (same_bytes name) refl
first_place (name ∷ names) (suc k) different below =
    let parts = and_parts (not (list_any (bytes_eq name) names)) (are_different names) different in
    let none : is_in names name ≡ false = not_true _ parts.0 in
    let other : bytes_eq (slice_index_or names k []) name ≡ false =
    not_equal (slice_index_or names k []) name (λ e. absurd (false≢true (sym none ∙ (ap (is_in names) (sym e) ∙ in_later names k (omega arith))))) in
    let rest : position_or_len (bytes_eq (slice_index_or names k [])) names ≡ k = first_place names k parts.1 (omega arith) in
    rw other (rw rest (omega arith))

pub place_at : (names : List Name) (k : ℕ) → are_different names ≡ true → k < length names → place_of names (slice_index_or names k []) ≡ Some k
place_at names k different below =
    let first = first_place names k different below in
    rw first (rw (below_test k (length names) below) refl)

-- the value of a state's name

state_at : (low n k : ℕ) → k < n → slice_index_or (map state_name (range_with_len low n)) k [] ≡ state_name (low + k)
state_at low zero k below = absurd (omega arith)
state_at low (suc n) zero below = let same : low ≡ low + zero = omega arith in ap state_name same
state_at low (suc n) (suc k) below =
    let same : low + 1 + k ≡ low + suc k = omega arith in
    state_at (low + 1) n k (omega arith) ∙ ap state_name same

pub states_length : (low n : ℕ) → length (map state_name (range_with_len low n)) ≡ n
states_length low zero = refl
states_length low (suc n) = let rest = states_length (low + 1) n in omega arith

pub state_place : (n k : ℕ) → k < n → n < 2 ^ 64 → place_of (state_names n) (state_name k) ≡ Some k
state_place n k below few =
    let size = states_length 0 n in
    let here : slice_index_or (state_names n) k [] ≡ state_name k = state_at 0 n k below ∙ ap state_name (zero-add k) in
    ap (place_of (state_names n)) (sym here) ∙ place_at (state_names n) k (states_different 0 n (omega arith)) (omega arith)

-- entries as they are spelled

abbrev pub spelled_values : Variable → List ℕ → Spelled
spelled_values v [] = Listed []
spelled_values v (value ∷ []) = One (value_name v value)
spelled_values v (value ∷ more ∷ values) = Listed (map (value_name v) (value ∷ more ∷ values))

abbrev pub spelled_entry : Variable → List ℕ → Spelled
spelled_entry v entry = if length entry == length v.values then Dash else spelled_values v entry

-- what the name of a value is not
record IsPlainValue (name : Name) : Type 0 where
  name_is : IsPlainName name
  no_dash : bytes_eq name (codes "-") ≡ false
  no_denial : begins_with 33 name ≡ false
  no_equal : begins_with 61 name ≡ false

plain_value : (name : Name) → is_value_name name ≡ true → IsPlainValue name
plain_value name is =
    let last = not (begins_with 33 name) && not (begins_with 61 name) in
    let one = and_parts (is_name name) (not (bytes_eq name (codes "-")) && (not (begins_with 46 name) && last)) is in
    let two = and_parts (not (bytes_eq name (codes "-"))) (not (begins_with 46 name) && last) one.1 in
    let three = and_parts (not (begins_with 46 name)) last two.1 in
    let four = and_parts (not (begins_with 33 name)) (not (begins_with 61 name)) three.1 in
    record {
      name_is = plain_name name one.0;
      no_dash = not_true _ two.0;
      no_denial = not_true _ four.0;
      no_equal = not_true _ four.1;
    }

not_denial : (name : Name) → begins_with 33 name ≡ false → is_denial name ≡ false
not_denial [] none = refl
not_denial (b ∷ bytes) none = rw none refl

value_read : (name : Name) (words : List Name) → IsPlainValue name → entry_at (name ∷ words) ≡ taken_of (One name) words
value_read name words plain =
    rw plain.name_is.no_opening (rw (not_denial name plain.no_denial) (rw plain.name_is.no_closing (rw plain.name_is.no_comma
    (rw plain.no_dash (rw plain.no_denial (rw plain.no_equal refl))))))

no_list_sign : (name : Name) → IsPlainValue name → is_list_sign name ≡ false
no_list_sign name plain = rw plain.name_is.no_comma (rw plain.name_is.no_opening (rw plain.name_is.no_closing (not_denial name plain.no_denial)))

list_read : (name : Name) (names words : List Name) → AllByRecursion IsTextValue (name ∷ names) → list_at ((listed_words (name ∷ names) ++ codes ")" ∷ []) ++ words) ≡ taken_of (name ∷ names) words
list_read name [] words all = rw (no_list_sign name (plain_value name all.0.name_is)) refl
list_read name (next ∷ names) words all =
    rw (no_list_sign name (plain_value name all.0.name_is)) (ap (as_taken (λ ns. name ∷ ns)) (list_read next names words all.1))

values_read : (v : Variable) (entry : List ℕ) (words : List Name) → IsTextVariable v → IsEntry v entry → entry_at (values_words v entry ++ words) ≡ taken_of (spelled_values v entry) words
values_read v [] words text is = absurd (omega (arith, is.0))
values_read v (value ∷ []) words text is = value_read (value_name v value) words (plain_value (value_name v value) (values_here v 0 (value ∷ []) text is.1).0.name_is)
values_read v (value ∷ more ∷ values) words text is =
    ap (as_taken Listed) (list_read (value_name v value) (map (value_name v) (more ∷ values)) words (values_here v 0 (value ∷ more ∷ values) text is.1))

entry_read : (v : Variable) (entry : List ℕ) (words : List Name) → IsTextVariable v → IsEntry v entry → entry_at (entry_words v entry ++ words) ≡ taken_of (spelled_entry v entry) words
entry_read v entry words text is =
    elim (length entry == length v.values) as (λ b. entry_at ((if b then codes "-" ∷ [] else values_words v entry) ++ words) ≡ taken_of (if b then Dash else spelled_values v entry) words) [
      | true ↦ refl
      | false ↦ values_read v entry words text is
    ]

-- and as they are meant

values_meant : (v : Variable) (low : ℕ) (entry : List ℕ) → IsTextVariable v → RisesBelow low (length v.values) entry → values_of v.values (map (value_name v) entry) ≡ Some entry
values_meant v low [] text rises = refl
values_meant v low (value ∷ entry) text rises =
    rw (place_at v.values value text.different rises.1) (ap (option_map (λ vs. value ∷ vs)) (values_meant v (value + 1) entry text rises.2))

spelled_means : (v : Variable) (entry : List ℕ) → IsTextVariable v → IsEntry v entry → input_entry v.values (spelled_values v entry) ≡ Some (values_entry entry)
spelled_means v [] text is = absurd (omega (arith, is.0))
spelled_means v (value ∷ []) text is = ap (option_map Value) (place_at v.values value text.different is.1.1)
spelled_means v (value ∷ more ∷ values) text is = ap (option_map OneOf) (values_meant v 0 (value ∷ more ∷ values) text is.1)

entry_means : (v : Variable) (entry : List ℕ) → IsTextVariable v → IsEntry v entry → input_entry v.values (spelled_entry v entry) ≡ Some (net_entry v entry)
entry_means v entry text is =
    elim (length entry == length v.values) as (λ b. input_entry v.values (if b then Dash else spelled_values v entry) ≡ Some (if b then Any else values_entry entry)) [
      | true ↦ refl
      | false ↦ spelled_means v entry text is
    ]

-- the entries of a row

-- from this column on, the domains are those of these variables
abbrev pub DomainsFrom : (ℕ → List Name) → ℕ → Scope → Type 0
DomainsFrom domain low [] = Unit {0}
DomainsFrom domain low (v ∷ vars) = (domain low ≡ v.values) × DomainsFrom domain (low + 1) vars

abbrev pub read_in : (ℕ → List Name) → ℕ → Spelled → Option Entry
read_in domain column spelled = input_entry (domain column) spelled

taken_twice : (f g h : List Entry → List Entry) (had : Option (Taken (List Entry))) → ((es : List Entry) → f (g es) ≡ h es) → as_taken f (as_taken g had) ≡ as_taken h had
taken_twice f g h None same = refl
taken_twice f g h (Some had) same = ap (λ es. Some (record { taken = es; rest = had.rest })) (same had.taken)

taken_same : (had : Option (Taken (List Entry))) → had ≡ as_taken (λ es. es) had
taken_same None = refl
taken_same (Some had) = refl

pub entries_read : (domain : ℕ → List Name) (low : ℕ) (vars : Scope) (entries : List (List ℕ)) (columns : List ℕ) (words : List Name) → DomainsFrom domain low vars → AllByRecursion IsPrintedVariable vars → AreEntries vars entries
    → entries_at (read_in domain) (range_with_len low (length vars) ++ columns) (entries_words vars entries ++ words) ≡ as_taken (λ es. net_entries vars entries ++ es) (entries_at (read_in domain) columns words)
entries_read domain low [] [] columns words from all are = taken_same (entries_at (read_in domain) columns words)
entries_read domain low [] (entry ∷ entries) columns words from all are = absurd are
entries_read domain low (v ∷ vars) [] columns words from all are = absurd are
entries_read domain low (v ∷ vars) (entry ∷ entries) columns words from all are =
    let rest = entries_words vars entries ++ words in
    let resolve = read_in domain low in
    let more = entries_at (read_in domain) (range_with_len (low + 1) (length vars) ++ columns) in
    let means : resolve (spelled_entry v entry) ≡ Some (net_entry v entry) =
    ap (λ d. input_entry d (spelled_entry v entry)) from.0 ∙ entry_means v entry all.0.text are.0 in
    ap (λ ws. column_then resolve more (entry_at ws)) (append_assoc (entry_words v entry) (entries_words vars entries) words)
    ∙ (ap (column_then resolve more) (entry_read v entry rest all.0.text are.0)
    ∙ (ap (λ o. with_entry o (more rest)) means
    ∙ (ap (as_taken (λ es. net_entry v entry ∷ es)) (entries_read domain (low + 1) vars entries columns words from.1 all.1 are.1)
    ∙ taken_twice (λ es. net_entry v entry ∷ es) (λ es. net_entries vars entries ++ es) (λ es. net_entries (v ∷ vars) (entry ∷ entries) ++ es) (entries_at (read_in domain) columns words) (λ es. refl))))

-- a state is a value of its column
pub state_read : (k : ℕ) (words : List Name) → entry_at (state_name k ∷ words) ≡ taken_of (One (state_name k)) words
state_read k words = refl
