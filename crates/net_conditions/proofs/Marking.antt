use Rattle.std.proofs.Common.{◌≡◌, ◌<◌, ◌↔◌, inl, inr, ℕ, zero, suc, Bool, true, false, ◌||◌, not, cond, List, [], ◌∷◌, ◌++◌, length, map, take, get_or, slice_set, replicate, nat_eq, IsTrue, Decides, refl, ap, sym, subst, ◌∙◌, arith}
use Rattle.std.specs.List.{list_any, take-map}
use Rattle.std.proofs.lemmas.Bool.Decides.{eqb_tells, Decides-at}
use Rattle.std.proofs.lemmas.Bool.{false≢true}
use Rattle.std.proofs.lemmas.List.{get_or-map, get_or-set_same, get_or-set_other, set-get_or, length-map, length-set}
use Rattle.std.proofs.lemmas.List.Folds.{list_any-append}
use Rattle.std.proofs.lemmas.List.Sums.{sum_by-set}
use Rattle.net_conditions.specs.Marks.{is_marked, IsSetOf, Adds, GrowsIf, count_left}
use Rattle.net_conditions.proofs.Listed.{IsOnce, once_more, not_once}

-- Marks that are set one by one.

-- the marks after one is set
is_marked-set : (set : List Bool) (k signal : ℕ) → k < length set → is_marked (slice_set set k true) signal ≡ (nat_eq signal k || is_marked set signal)
is_marked-set set k signal lt = elim (eqb_tells signal k) [
  | inl same ↦
      ap (is_marked (slice_set set k true)) same.1 ∙ get_or-set_same set k true false lt
      ∙ sym (ap (λ b. b || is_marked set signal) same.0)
  | inr apart ↦ get_or-set_other set k signal true false apart.1 ∙ sym (ap (λ b. b || is_marked set signal) apart.0)
]

turned : (here before found : Bool) → (here || (before || found)) ≡ (before || (found || (here || false)))
turned true true found = refl
turned true false true = refl
turned true false false = refl
turned false true found = refl
turned false false true = refl
turned false false false = refl

or_none : (b : Bool) → b ≡ (b || false)
or_none true = refl
or_none false = refl

-- nothing is added
pub Adds-none : (set : List Bool) → Adds set [] set
Adds-none set = record { len = refl; marks = λ signal. or_none (is_marked set signal) }

-- one more signal is added
pub Adds-more : (old mid new : List Bool) (signals : List ℕ) (k : ℕ) → Adds old signals mid → k < length old → new ≡ slice_set mid k true → Adds old (signals ++ k ∷ []) new
Adds-more old mid new signals k adds lt is =
    let within : k < length mid = omega (arith, adds.len) in record {
      len = ap length is ∙ length-set mid k true ∙ adds.len;
      marks = λ signal.
          ap (λ set. is_marked set signal) is ∙ is_marked-set mid k signal within
          ∙ ap (λ b. nat_eq signal k || b) (adds.marks signal)
          ∙ turned (nat_eq signal k) (is_marked old signal) (list_any (nat_eq signal) signals)
          ∙ ap (λ b. is_marked old signal || b) (sym (list_any-append (nat_eq signal) signals (k ∷ [])));
    }

-- without a mark
pub none_marked : (n signal : ℕ) → is_marked (replicate n false) signal ≡ false
none_marked zero signal = refl
none_marked (suc n) zero = refl
none_marked (suc n) (suc signal) = none_marked n signal

-- the marks of these signals alone
pub marks_alone : (n : ℕ) (signals : List ℕ) (set : List Bool) → Adds (replicate n false) signals set → (signal : ℕ) → is_marked set signal ≡ list_any (nat_eq signal) signals
marks_alone n signals set adds signal = adds.marks signal ∙ ap (λ b. b || list_any (nat_eq signal) signals) (none_marked n signal)

-- a set of these signals alone is the set of which a fact holds that the search for a signal decides
pub IsSetOf-alone : (P : ℕ → Type 0) (n : ℕ) (signals listed : List ℕ) (set : List Bool) → Adds (replicate n false) signals set → signals ≡ listed
    → ((signal : ℕ) → Decides (list_any (nat_eq signal) listed) (P signal)) → IsSetOf set P
IsSetOf-alone P n signals listed set adds are each signal =
    Decides-at (is_marked set signal) (list_any (nat_eq signal) listed)
    (marks_alone n signals set adds signal ∙ ap (list_any (nat_eq signal)) are) (each signal)

not_true : (b : Bool) → not b ≡ true → b ≡ false
not_true true is = sym is
not_true false is = refl

not_false : (b : Bool) → not b ≡ false → b ≡ true
not_false true is = refl
not_false false is = sym is

-- a new mark is one less that is left
less_left : (set : List Bool) (k : ℕ) → k < length set → is_marked set k ≡ false → count_left (slice_set set k true) < count_left set
less_left set k lt unmarked =
    let left : Bool → ℕ = λ b. cond (not b) 1 0 in
    let counted = sum_by-set left set k true false lt in
    omega (arith, counted, ap left unmarked)

-- a mark that is there changes nothing
set_again : (set : List Bool) (k : ℕ) → is_marked set k ≡ true → slice_set set k true ≡ set
set_again set k marked = ap (slice_set set k) (sym marked) ∙ set-get_or set k false

module _ (grown : Bool) (old mid new : List Bool) (k : ℕ) (is_new : Bool) where
  -- a signal that is new lets the set grow
  pub grows_by : GrowsIf grown old mid → k < length mid → new ≡ slice_set mid k true → is_new ≡ not (is_marked mid k) → is_new ≡ true → GrowsIf true old new
  grows_by so_far lt is answer taken =
      let fewer = less_left mid k lt (not_true (is_marked mid k) (sym answer ∙ taken)) in
      falls grown so_far (omega (arith, fewer, ap count_left is))
    where
      falls : (b : Bool) → GrowsIf b old mid → count_left new < count_left mid → count_left new < count_left old
      falls true less fewer = omega arith
      falls false same fewer = omega (arith, fewer, ap count_left same)

  -- a signal that isn't new leaves it
  pub grows_not : GrowsIf grown old mid → new ≡ slice_set mid k true → is_new ≡ not (is_marked mid k) → is_new ≡ false → GrowsIf grown old new
  grows_not so_far is answer refused =
      let P : List Bool → Type 0 = λ set. GrowsIf grown old set in
      subst P (sym (is ∙ set_again mid k (not_false (is_marked mid k) (sym answer ∙ refused)))) so_far

-- one more signal that had no mark stands once
pub new_once : (n : ℕ) (signals : List ℕ) (k : ℕ) (set : List Bool) (is_new : Bool) → Adds (replicate n false) signals set → IsOnce signals
    → is_new ≡ not (is_marked set k) → is_new ≡ true → IsOnce (signals ++ k ∷ [])
new_once n signals k set is_new adds once answer taken =
    once_more signals k once (sym (marks_alone n signals set adds k) ∙ not_true (is_marked set k) (sym answer ∙ taken))

-- one that had a mark stands there twice
pub again_not_once : {X : Type 0} (f : X → ℕ) (n : ℕ) (xs : List X) (i : ℕ) (d : X) (set : List Bool) (is_new : Bool) → i < length xs
    → Adds (replicate n false) (map f (take i xs)) set → is_new ≡ not (is_marked set (f (get_or xs i d))) → is_new ≡ false
    → IsTrue false ↔ IsOnce (map f xs)
again_not_once f n xs i d set is_new lt adds answer refused =
    let k : ℕ = f (get_or xs i d) in
    let there : list_any (nat_eq k) (take i (map f xs)) ≡ true =
    ap (list_any (nat_eq k)) (take-map f i xs) ∙ sym (marks_alone n (map f (take i xs)) set adds k) ∙ not_false (is_marked set k) (sym answer ∙ refused) in
    let here : get_or (map f xs) i k ≡ k = get_or-map f xs i d k lt in
    (λ t. absurd (false≢true t), λ once. absurd (not_once (map f xs) i k (rw length-map lt) here there once))
