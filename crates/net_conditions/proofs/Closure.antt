use Rattle.std.proofs.Common.{◌≡◌, ◌<◌, inl, inr, ℕ, Bool, true, false, ◌||◌, cond, List, [], ◌∷◌, ◌++◌, length, map, get_or, replicate, nat_eq, All, Contains, IsTrue, refl, ap, sym, subst, ◌∙◌, arith}
use Rattle.std.specs.Bool.{OnFalse}
use Rattle.std.specs.List.{list_any}
use Rattle.std.proofs.lemmas.List.{length-replicate}
use Rattle.std.proofs.lemmas.List.Elements.{All-push, All-weaker, All-contains, Contains-get_or, Contains-append_left, Contains-append_right, Contains-append_cases}
use Rattle.std.proofs.lemmas.List.Folds.{Any-from_list_any, list_any_at}
use Rattle.net_model.specs.Nets.{Net, Table}
use Rattle.net_model.specs.Conditions.{latch_outputs, Varies, varies_as_input, varies_as_latch, varies_by_table}
use Rattle.net_conditions.specs.Marks.{is_marked, IsSetOf, Adds, GrowsIf, count_left}
use Rattle.net_conditions.specs.Rounds.{outputs_by, AreVarying, IsClosed}
use Rattle.net_model.proofs.Computed.{Decides-member}
use Rattle.net_conditions.proofs.Marking.{Adds-none, marks_alone}

-- Rounds over the tables that add what varies by them.

abbrev IsIn : List Bool → ℕ → Type 0
IsIn set signal = IsTrue (is_marked set signal)

or_true : (b : Bool) → (b || true) ≡ true
or_true true = refl
or_true false = refl

All-from_members : {X : Type 0} (P : X → Type 0) (xs : List X) → ((x : X) → Contains xs x → P x) → All P xs
All-from_members P xs each k d lt = each (get_or xs k d) (Contains-get_or xs k d lt)

list_any-map : {X Y : Type 0} (p : Y → Bool) (f : X → Y) (xs : List X) → list_any p (map f xs) ≡ list_any (λ x. p (f x)) xs
list_any-map p f [] = refl
list_any-map p f (x ∷ xs) = ap (λ b. p (f x) || b) (list_any-map p f xs)

-- what a set has, and what is added to it, is in the new set
kept : (old new : List Bool) (signals : List ℕ) → Adds old signals new → (signal : ℕ) → IsIn old signal → IsIn new signal
kept old new signals adds signal known = adds.marks signal ∙ ap (λ b. b || list_any (nat_eq signal) signals) known

added : (old new : List Bool) (signals : List ℕ) → Adds old signals new → (signal : ℕ) → Contains signals signal → IsIn new signal
added old new signals adds signal member =
    adds.marks signal ∙ ap (λ b. is_marked old signal || b) ((Decides-member signals signal).1 member) ∙ or_true (is_marked old signal)

-- in the new set is what the old one had, and what is added
new_cases : (P : ℕ → Type 0) (old new : List Bool) (signals : List ℕ) → Adds old signals new → ((signal : ℕ) → IsIn old signal → P signal) → ((signal : ℕ) → Contains signals signal → P signal)
    → (signal : ℕ) → IsIn new signal → P signal
new_cases P old new signals adds had gains signal known =
    by (is_marked old signal) (list_any (nat_eq signal) signals) refl refl (sym (adds.marks signal) ∙ known)
  where
    by : (before found : Bool) → is_marked old signal ≡ before → list_any (nat_eq signal) signals ≡ found → (before || found) ≡ true → P signal
    by true found is is_found either = had signal is
    by false found is is_found either = gains signal ((Decides-member signals signal).0 (is_found ∙ either))

-- an output that the set gives varies, where all of the set does
outputs_vary : (net : Net) (table : Table) (set : List Bool) → Contains net.tables table → ((signal : ℕ) → IsIn set signal → Varies net signal)
    → (signal : ℕ) → Contains (outputs_by set table) signal → Varies net signal
outputs_vary net table set held sound signal member = by (list_any (is_marked set) table.ins) refl member
  where
    by : (reads : Bool) → list_any (is_marked set) table.ins ≡ reads → Contains (cond reads table.outs []) signal → Varies net signal
    by true is at =
        let some = Any-from_list_any (is_marked set) table.ins is in
        varies_by_table table some.1 signal held (some.0, some.2, some.3) at (sound some.1 some.4)
    by false is at = let lt = at.1 in absurd (omega arith)

-- the outputs of a table that the set gives are added
pub varying_more : (net : Net) (table : Table) (old new : List Bool) → Contains net.tables table → AreVarying net old → Adds old (outputs_by old table) new → AreVarying net new
varying_more net table old new held varying adds = record {
  len = adds.len ∙ varying.len;
  sources = All-weaker (IsIn old) (IsIn new) (kept old new (outputs_by old table) adds) (net.inputs ++ latch_outputs net) varying.sources;
  sound = new_cases (Varies net) old new (outputs_by old table) adds varying.sound (outputs_vary net table old held varying.sound);
}

-- what a list of tables gives, and one more gives, is in the set, where that one added nothing
pub closed_more : (tables : List Table) (table : Table) (old new : List Bool) → IsClosed tables old → new ≡ old → Adds old (outputs_by old table) new
    → IsClosed (tables ++ table ∷ []) new
closed_more tables table old new closed same adds =
    let P : List Bool → Type 0 = λ set. IsClosed (tables ++ table ∷ []) set in
    let Q : List Bool → Type 0 = λ set. Adds old (outputs_by old table) set in
    subst P (sym same)
    (All-push (λ table'. All (IsIn old) (outputs_by old table')) tables table closed
    (All-from_members (IsIn old) (outputs_by old table) (added old old (outputs_by old table) (subst Q same adds))))

-- the set has grown where it did so before or by the last step
pub grows_then : (grown again : Bool) (old mid new : List Bool) → GrowsIf grown old mid → GrowsIf again mid new → again ≡ true → GrowsIf true old new
grows_then grown again old mid new so_far last is =
    let less : GrowsIf true mid new = subst (λ b. GrowsIf b mid new) is last in
    by grown so_far less
  where
    by : (b : Bool) → GrowsIf b old mid → count_left new < count_left mid → count_left new < count_left old
    by true had less = omega arith
    by false same less = omega (arith, ap count_left same)

pub grows_no_more : (grown again : Bool) (old mid new : List Bool) → GrowsIf grown old mid → GrowsIf again mid new → again ≡ false → GrowsIf grown old new
grows_no_more grown again old mid new so_far last is =
    let same : GrowsIf false mid new = subst (λ b. GrowsIf b mid new) is last in
    subst (λ set. GrowsIf grown old set) (sym same) so_far

-- a set that the tables add nothing to has all that varies
pub complete : (net : Net) (set : List Bool) → AreVarying net set → IsClosed net.tables set → (signal : ℕ) → Varies net signal → IsIn set signal
complete net set varying closed signal (varies_as_input signal' held) =
    All-contains (IsIn set) (net.inputs ++ latch_outputs net) signal varying.sources (Contains-append_left net.inputs (latch_outputs net) signal held)
complete net set varying closed signal (varies_as_latch signal' held) =
    All-contains (IsIn set) (net.inputs ++ latch_outputs net) signal varying.sources (Contains-append_right net.inputs (latch_outputs net) signal held)
complete net set varying closed signal (varies_by_table table input signal' held reads writes rest) =
    let known = complete net set varying closed input rest in
    let here = list_any_at (is_marked set) table.ins reads.0 input reads.1 (ap (is_marked set) reads.2 ∙ known) in
    let all = All-contains (λ table'. All (IsIn set) (outputs_by set table')) net.tables table closed held in
    let outs = subst (λ signals. All (IsIn set) signals) (ap (λ b. cond b table.outs []) here) all in
    All-contains (IsIn set) table.outs signal outs writes

pub IsSetOf-varying : (net : Net) (set : List Bool) → AreVarying net set → IsClosed net.tables set → IsSetOf set (Varies net)
IsSetOf-varying net set varying closed signal = (varying.sound signal, complete net set varying closed signal)

-- the sources alone
pub varying_first : (net : Net) (n : ℕ) (signals : List ℕ) (set : List Bool) → n ≡ length net.names → signals ≡ net.inputs ++ latch_outputs net
    → Adds (replicate n false) signals set → AreVarying net set
varying_first net n signals set count are adds =
    let sources = net.inputs ++ latch_outputs net in record {
      len = adds.len ∙ length-replicate n false ∙ count;
      sources = All-from_members (IsIn set) sources (λ signal member. marks_alone n signals set adds signal ∙ ap (list_any (nat_eq signal)) are ∙ (Decides-member sources signal).1 member);
      sound = λ signal known. source_varies signal ((Decides-member sources signal).0 (ap (list_any (nat_eq signal)) (sym are) ∙ sym (marks_alone n signals set adds signal) ∙ known));
    }
  where
    source_varies : (signal : ℕ) → Contains (net.inputs ++ latch_outputs net) signal → Varies net signal
    source_varies signal member = elim (Contains-append_cases net.inputs (latch_outputs net) signal member) [
      | inl held ↦ varies_as_input signal held
      | inr held ↦ varies_as_latch signal held
    ]

-- a set that had an input of a table has all its outputs added
pub adds_outputs : {X : Type 0} (f : X → ℕ) (set new : List Bool) (ins given outs : List X) (table : Table) (reads : Bool) → table.ins ≡ map f ins → table.outs ≡ map f outs
    → reads ≡ list_any (λ x. is_marked set (f x)) ins → reads ≡ true → given ≡ outs → Adds set (map f given) new → Adds set (outputs_by set table) new
adds_outputs f set new ins given outs table reads ins_are outs_are answer found same adds =
    let P : List ℕ → Type 0 = λ signals. Adds set signals new in
    let here : list_any (is_marked set) table.ins ≡ true = ap (list_any (is_marked set)) ins_are ∙ list_any-map (is_marked set) f ins ∙ sym answer ∙ found in
    subst P (ap (map f) same ∙ sym outs_are ∙ sym (ap (λ b. cond b table.outs []) here)) adds

-- a set that had none stays
pub adds_no_outputs : {X : Type 0} (f : X → ℕ) (set : List Bool) (ins : List X) (table : Table) (reads : Bool) → table.ins ≡ map f ins
    → reads ≡ list_any (λ x. is_marked set (f x)) ins → reads ≡ false → Adds set (outputs_by set table) set
adds_no_outputs f set ins table reads ins_are answer none_found =
    let P : List ℕ → Type 0 = λ signals. Adds set signals set in
    let here : list_any (is_marked set) table.ins ≡ false = ap (list_any (is_marked set)) ins_are ∙ list_any-map (is_marked set) f ins ∙ sym answer ∙ none_found in
    subst P (sym (ap (λ b. cond b table.outs []) here)) (Adds-none set)

-- a fact that holds where a test fails
pub closed_by_test : (grown : Bool) (front tables : List Table) (set : List Bool) → front ≡ tables → (grown ≡ false → IsClosed front set) → OnFalse grown (IsClosed tables set)
closed_by_test true front tables set all closed = tt
closed_by_test false front tables set all closed = let P : List Table → Type 0 = λ ts. IsClosed ts set in subst P all (closed refl)
