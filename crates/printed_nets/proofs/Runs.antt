use Rattle.std.proofs.Common.{◌≡◌, ◌↔◌, ◌+◌, ◌<◌, ◌==◌, ◌&&◌, ◌||◌, ℕ, zero, suc, Bool, true, false, not, IsTrue, List, [], ◌∷◌, ◌++◌, length, map, get_or, Option, refl, sym, ap, ◌∙◌, subst, arith, append_assoc, codes, eqb-true, inl, inr}
use Rattle.std.specs.Prelude.{slice_index, slice_index_or, unwrap_or, Contains, All}
use Rattle.std.specs.List.{AllByRecursion, range_with_len}
use Rattle.std.specs.Str.{bytes_eq}
use Rattle.std.proofs.lemmas.Bool.{and_parts, false≢true}
use Rattle.std.proofs.lemmas.Bool.Decides.{nat_tests}
use Rattle.std.proofs.lemmas.List.Elements.{All-nil, All-cons}
use Rattle.name_table.specs.Variables.{numbers}
use Rattle.name_table.specs.ScopeVars.{variable_at, chosen_of}
use Rattle.net_model.specs.Words.{Variable, Scope, Letter, Word, IsLetter}
use Rattle.net_model.specs.Listings as listings
use Rattle.net_model.specs.Listings.{Listing, ListingWords, allows, steps, accepts}
use Rattle.net_model.specs.Nets.{Table}
use Rattle.net_model.specs.Tables.{values_at, table_holds}
use Rattle.net_model.specs.Conditions.{latch_outputs, Varies, varies_as_latch, varies_by_table, IsAutomaton}
use Rattle.net_model.specs.NetLanguages.{is_automaton, letter_signals, letters_of, latch_inputs, HoldsIfConstant, IsInitial, Steps, AcceptsBy, IsAccepting, NetWords}
use Rattle.net_model.specs.Printed.{IsPrintedVariable, IsPrintedRow, IsPrintable}
use Rattle.printed_nets.proofs.Members.{IsOneOf, one_from_any, one_from_contains, holds_of_one}
use Rattle.printed_nets.proofs.Simulations.{IsFollowed, word_is_followed}
use Rattle.printed_nets.specs.PrintedNets.{acc_variable, state_variable, printed_names, letter_places, acc_place, present_place, next_place, mark_value, acc_table, step_table, reset_table, printed_net}
use Rattle.printed_nets.proofs.NetSaid.{variable_here, own_variables}
use Rattle.printed_nets.proofs.Rowed.{states_length}
use Rattle.printed_nets.proofs.Allowed.{steps_same, marks_same, allowed_letter}
use Rattle.printed_nets.proofs.Conditioned.{is_latch_output, acc_signal}

-- The network of a printed text has the automaton's letters and language.

-- a value at a place behind others
behind : (front back : List ℕ) (k : ℕ) → slice_index (front ++ back) (length front + k) ≡ slice_index back k
behind [] back k = let same : zero + k ≡ k = omega arith in ap (slice_index back) same
behind (x ∷ front) back k =
    let same : length (x ∷ front) + k ≡ suc (length front + k) = omega arith in
    ap (slice_index (x ∷ (front ++ back))) same ∙ behind front back k

-- values that follow one another
values_follow : (front values back : List ℕ) → values_at (front ++ (values ++ back)) (range_with_len (length front) (length values)) ≡ values
values_follow front [] back = refl
values_follow front (x ∷ values) back =
    let place : length front ≡ length front + 0 = omega arith in
    let here : slice_index (front ++ (x ∷ (values ++ back))) (length front) ≡ x = ap (slice_index (front ++ (x ∷ (values ++ back)))) place ∙ behind front (x ∷ (values ++ back)) 0 in
    let joined : (front ++ x ∷ []) ++ (values ++ back) ≡ front ++ (x ∷ (values ++ back)) = append_assoc front (x ∷ []) (values ++ back) in
    let size : length (front ++ x ∷ []) ≡ length front + 1 = longer front x in
    ap (λ y. y ∷ values_at (front ++ (x ∷ (values ++ back))) (range_with_len (length front + 1) (length values))) here
    ∙ ap (λ ys. x ∷ ys)
    (ap (λ all. values_at all (range_with_len (length front + 1) (length values))) (sym joined)
    ∙ (ap (λ low. values_at ((front ++ x ∷ []) ++ (values ++ back)) (range_with_len low (length values))) (sym size) ∙ values_follow (front ++ x ∷ []) values back))
  where
    longer : (xs : List ℕ) (y : ℕ) → length (xs ++ y ∷ []) ≡ length xs + 1
    longer [] y = omega arith
    longer (z ∷ xs) y = let rest = longer xs y in omega arith

letter_length : (vars : Scope) (a : Letter) → IsLetter vars a → length a ≡ length vars
letter_length [] [] over = refl
letter_length [] (x ∷ a) over = absurd over
letter_length (v ∷ vars) [] over = absurd over
letter_length (v ∷ vars) (x ∷ a) over = let rest = letter_length vars a over.1 in omega arith

-- a letter, and values of further variables
letter_append : (vars more : Scope) (a b : Letter) → IsLetter vars a → IsLetter more b → IsLetter (vars ++ more) (a ++ b)
letter_append [] more [] b over rest = rest
letter_append [] more (x ∷ a) b over rest = absurd over
letter_append (v ∷ vars) more [] b over rest = absurd over
letter_append (v ∷ vars) more (x ∷ a) b over rest = (over.0, letter_append vars more a b over.1 rest)

-- a valuation is a letter with further values
pub record IsParted (vars more : Scope) (valuation : List ℕ) : Type 0 where
  pub front : Letter
  pub back : Letter
  pub over : IsLetter vars front
  pub rest : IsLetter more back
  pub is : valuation ≡ front ++ back

parted : (vars more : Scope) (valuation : List ℕ) → IsLetter (vars ++ more) valuation → IsParted vars more valuation
parted [] more valuation over = record { front = []; back = valuation; over = tt; rest = over; is = refl }
parted (v ∷ vars) more [] over = absurd over
parted (v ∷ vars) more (x ∷ valuation) over =
    let found = parted vars more valuation over.1 in
    record { front = x ∷ found.front; back = found.back; over = (over.0, found.over); rest = found.rest; is = ap (λ l. x ∷ l) found.is }

-- the valuation of a letter, a value of `Acc`, a present and a next state
abbrev pub valuation_of : Letter → ℕ → ℕ → ℕ → List ℕ
valuation_of a x p q = a ++ (x ∷ p ∷ q ∷ [])

pub record IsOwn (n : ℕ) (back : Letter) : Type 0 where
  pub x : ℕ
  pub p : ℕ
  pub q : ℕ
  pub below : x < 2
  pub present : p < n
  pub next : q < n
  pub is : back ≡ x ∷ p ∷ q ∷ []

numbers_length : length (numbers 2) ≡ 2
numbers_length = refl

module _ (auto : Listing) where
  own_values : (back : Letter) → IsLetter (own_variables auto) back → IsOwn (length auto.accepting) back
  own_values [] over = absurd over
  own_values (x ∷ []) over = absurd over.1
  own_values (x ∷ p ∷ []) over = absurd over.1.1
  own_values (x ∷ p ∷ q ∷ []) over =
      let size = states_length 0 (length auto.accepting) in
      record {
        x = x;
        p = p;
        q = q;
        below = over.0;
        present = subst (λ n. p < n) size over.1.0;
        next = subst (λ n. q < n) size over.1.1.0;
        is = refl;
      }
  own_values (x ∷ p ∷ q ∷ r ∷ back) over = absurd over.1.1.1

  own_letter : (x p q : ℕ) → x < 2 → p < length auto.accepting → q < length auto.accepting → IsLetter (own_variables auto) (x ∷ p ∷ q ∷ [])
  own_letter x p q below present next =
      let size = states_length 0 (length auto.accepting) in
      (below, (subst (λ n. p < n) (sym size) present, (subst (λ n. q < n) (sym size) next, tt)))

-- the values of such a valuation
module _ (auto : Listing) (a : Letter) (x p q : ℕ) (over : IsLetter auto.vars a) where
  place : (k : ℕ) → slice_index (valuation_of a x p q) (length auto.vars + k) ≡ slice_index (x ∷ p ∷ q ∷ []) k
  place k = ap (λ n. slice_index (valuation_of a x p q) (n + k)) (sym (letter_length auto.vars a over)) ∙ behind a (x ∷ p ∷ q ∷ []) k

  pub at_acc : slice_index (valuation_of a x p q) (acc_place auto) ≡ x
  at_acc = let same : acc_place auto ≡ length auto.vars + 0 = omega arith in ap (slice_index (valuation_of a x p q)) same ∙ place 0

  pub at_present : slice_index (valuation_of a x p q) (present_place auto) ≡ p
  at_present = place 1

  pub at_next : slice_index (valuation_of a x p q) (next_place auto) ≡ q
  at_next = place 2

  pub at_letters : values_at (valuation_of a x p q) (letter_places auto) ≡ a
  at_letters = ap (λ n. values_at (valuation_of a x p q) (range_with_len 0 n)) (sym (letter_length auto.vars a over)) ∙ values_follow [] a (x ∷ p ∷ q ∷ [])

  pub state_is : values_at (valuation_of a x p q) (latch_outputs (printed_net auto)) ≡ p ∷ []
  state_is = ap (λ y. y ∷ []) at_present

  values_append : (valuation : List ℕ) (xs ys : List ℕ) → values_at valuation (xs ++ ys) ≡ values_at valuation xs ++ values_at valuation ys
  values_append valuation [] ys = refl
  values_append valuation (z ∷ xs) ys = ap (λ vs. slice_index valuation z ∷ vs) (values_append valuation xs ys)

  pub steps_hold : IsPrintable auto → table_holds (valuation_of a x p q) (step_table auto) ≡ steps auto p a q
  steps_hold printable =
      let V = valuation_of a x p q in
      let ins : values_at V (letter_places auto ++ present_place auto ∷ []) ≡ a ++ p ∷ [] =
      values_append V (letter_places auto) (present_place auto ∷ []) ∙ (ap (λ l. l ++ values_at V (present_place auto ∷ [])) at_letters ∙ ap (λ y. a ++ y ∷ []) at_present) in
      rw ins (rw at_next (steps_same auto (step_table auto).ins (step_table auto).outs a p q printable.rows over))

  pub marks_hold : p < length auto.accepting → table_holds (valuation_of a x p q) (acc_table auto) ≡ (mark_value (accepts auto p) == x)
  marks_hold below = rw at_present (rw at_acc (marks_same (present_place auto ∷ []) (acc_place auto ∷ []) auto.accepting p x below))

  pub reset_holds : table_holds (valuation_of a x p q) (reset_table auto) ≡ (0 == p)
  reset_holds = rw at_present (simple (0 == p))
    where
      simple : (b : Bool) → ((true && (b && true)) || false) || (not (true || false) && false) ≡ b
      simple true = refl
      simple false = refl

-- letters

variables_follow : (all front vars back : Scope) → all ≡ front ++ (vars ++ back) → map (variable_at all) (range_with_len (length front) (length vars)) ≡ vars
variables_follow all front [] back is = refl
variables_follow all front (v ∷ vars) back is =
    let here : variable_at all (length front) ≡ v = ap (λ vs. variable_at vs (length front)) is ∙ ap (λ (o : Option Variable). unwrap_or {T = Variable} o (record { name = []; values = [] })) (variable_here front (vars ++ back) v) in
    let next : all ≡ (front ++ v ∷ []) ++ (vars ++ back) = is ∙ sym (append_assoc front (v ∷ []) (vars ++ back)) in
    let size : length (front ++ v ∷ []) ≡ length front + 1 = longer front in
    ap (λ u. u ∷ map (variable_at all) (range_with_len (length front + 1) (length vars))) here
    ∙ ap (λ vs. v ∷ vs) (ap (λ low. map (variable_at all) (range_with_len low (length vars))) (sym size) ∙ variables_follow all (front ++ v ∷ []) vars back next)
  where
    longer : (xs : Scope) → length (xs ++ v ∷ []) ≡ length xs + 1
    longer [] = omega arith
    longer (u ∷ xs) = let rest = longer xs in omega arith

acc_variable_at : (auto : Listing) → variable_at (printed_names auto) (acc_place auto) ≡ acc_variable
acc_variable_at auto = ap (λ (o : Option Variable). unwrap_or {T = Variable} o (record { name = []; values = [] })) (variable_here auto.vars (state_variable (codes "CS") (length auto.accepting) ∷ state_variable (codes "NS") (length auto.accepting) ∷ []) acc_variable)

pub printed_is_automaton : (auto : Listing) → is_automaton (printed_net auto) ≡ true
printed_is_automaton auto = ap (λ (v : Variable). bytes_eq v.name (codes "Acc")) (acc_variable_at auto)

letter_signals_are : (auto : Listing) → letter_signals (printed_net auto) ≡ letter_places auto
letter_signals_are auto = rw (printed_is_automaton auto) refl

pub letters_are : (auto : Listing) → letters_of (printed_net auto) ≡ auto.vars
letters_are auto = ap (chosen_of (printed_names auto)) (letter_signals_are auto) ∙ variables_follow (printed_names auto) [] auto.vars (own_variables auto) refl

pub is_acc_signal : (auto : Listing) → IsAutomaton (printed_net auto) (acc_place auto)
is_acc_signal auto = (refl, ap (λ (v : Variable). v.name) (acc_variable_at auto))

-- a test that passes
number_of_test : (n m : ℕ) → (n == m) ≡ true → n ≡ m
number_of_test n m e = eqb-true n m e

mark_of_test : (mark : Bool) → (mark_value mark == 1) ≡ true → mark ≡ true
mark_of_test true e = refl
mark_of_test false e = absurd (false≢true e)

same_number : (n : ℕ) → (n == n) ≡ true
same_number n = grind (arith, nat_tests)

heads : (x y : ℕ) → x ∷ [] ≡ y ∷ [] → x ≡ y
heads x y e = ap (λ l. get_or l 0 0) e

-- a valuation of the network's signals
pub record IsTaken (auto : Listing) (valuation : List ℕ) : Type 0 where
  pub a : Letter
  pub x : ℕ
  pub p : ℕ
  pub q : ℕ
  pub over : IsLetter auto.vars a
  pub below : x < 2
  pub present : p < length auto.accepting
  pub next : q < length auto.accepting
  pub is : valuation ≡ valuation_of a x p q

taken : (auto : Listing) (valuation : List ℕ) → IsLetter (printed_names auto) valuation → IsTaken auto valuation
taken auto valuation over =
    let cut = parted auto.vars (own_variables auto) valuation over in
    let own = own_values auto cut.back cut.rest in
    record {
      a = cut.front;
      x = own.x;
      p = own.p;
      q = own.q;
      over = cut.over;
      below = own.below;
      present = own.present;
      next = own.next;
      is = cut.is ∙ ap (λ b. cut.front ++ b) own.is;
    }

-- values 0 for all variables
zeros_letter : (vars : Scope) → AllByRecursion IsPrintedVariable vars → IsLetter vars (map (λ v. 0) vars)
zeros_letter [] all = tt
zeros_letter (v ∷ vars) all = (all.0.text.some, zeros_letter vars all.1)

module _ (auto : Listing) (printable : IsPrintable auto) where
  -- the network follows the automaton

  made : (a : Letter) (x p q : ℕ) → IsLetter auto.vars a → x < 2 → p < length auto.accepting → q < length auto.accepting → IsLetter (printed_names auto) (valuation_of a x p q)
  made a x p q over below present next = letter_append auto.vars (own_variables auto) a (x ∷ p ∷ q ∷ []) over (own_letter auto x p q below present next)

  -- the tables aren't constant
  present_varies : Varies (printed_net auto) (present_place auto)
  present_varies = varies_as_latch (present_place auto) (is_latch_output auto)

  acc_varies : Varies (printed_net auto) (acc_place auto)
  acc_varies = varies_by_table (acc_table auto) (present_place auto) (acc_place auto) (0, omega arith, refl) (0, omega arith, refl) (0, omega arith, refl) present_varies

  last_of : (xs : List ℕ) (y : ℕ) → Contains (xs ++ y ∷ []) y
  last_of [] y = (0, omega arith, refl)
  last_of (x ∷ xs) y = let rest = last_of xs y in let inside = rest.1 in (suc rest.0, omega arith, rest.2)

  next_varies : Varies (printed_net auto) (next_place auto)
  next_varies =
      varies_by_table (step_table auto) (present_place auto) (next_place auto) (1, omega arith, refl)
      (last_of (letter_places auto) (present_place auto)) (0, omega arith, refl) present_varies

  none_constant : (valuation : List ℕ) → All (HoldsIfConstant (printed_net auto) valuation) (printed_net auto).tables
  none_constant valuation =
      All-cons (HoldsIfConstant (printed_net auto) valuation) (acc_table auto) (step_table auto ∷ []) (λ constant. absurd (constant 0 0 (omega arith) acc_varies))
      (All-cons (HoldsIfConstant (printed_net auto) valuation) (step_table auto) [] (λ constant. absurd (constant 0 0 (omega arith) next_varies))
      (All-nil (HoldsIfConstant (printed_net auto) valuation)))

  one_passes : (b : Bool) → b ≡ true → (b && true) ≡ true
  one_passes true e = refl
  one_passes false e = absurd (false≢true e)

  two_pass : (b c : Bool) → b ≡ true → c ≡ true → (b && (c && true)) ≡ true
  two_pass true true e f = refl
  two_pass true false e f = absurd (false≢true f)
  two_pass false c e f = absurd (false≢true e)

  -- the state 0 is initial
  zero_is_initial : IsInitial (printed_net auto) (0 ∷ [])
  zero_is_initial =
      let a = map (λ v. 0) auto.vars in
      let over = zeros_letter auto.vars printable.vars in
      let some = printable.states in
      record {
        valuation = valuation_of a 0 0 0;
        values = made a 0 0 0 over (omega arith) some some;
        state = state_is auto a 0 0 0 over;
        tables = none_constant (valuation_of a 0 0 0);
        resets = one_passes (table_holds (valuation_of a 0 0 0) (reset_table auto)) (reset_holds auto a 0 0 0 over);
      }

  -- a step of the automaton is one of the network
  step_followed : (p : ℕ) (a : Letter) (q : ℕ) → p < length auto.accepting → IsTrue (steps auto p a q) → Steps (printed_net auto) (p ∷ []) a (q ∷ []) × (q < length auto.accepting)
  step_followed p a q present step =
      let found = one_from_any (λ (row : listings.Row). (row.present == p) && ((row.next == q) && allows row.entries a)) auto.rows step in
      let row = found.0 in
      let printed = holds_of_one (IsPrintedRow auto.vars (length auto.accepting)) auto.rows row printable.rows found.1 in
      let parts = and_parts (row.present == p) ((row.next == q) && allows row.entries a) found.2 in
      let more = and_parts (row.next == q) (allows row.entries a) parts.1 in
      let over : IsLetter auto.vars a = allowed_letter auto.vars row.entries a printed.entries more.1 in
      let next_is : row.next ≡ q = number_of_test row.next q more.0 in
      let next : q < length auto.accepting = subst (λ k. k < length auto.accepting) next_is printed.next in
      let x = mark_value (accepts auto p) in
      let V = valuation_of a x p q in
      let below : x < 2 = mark_below (accepts auto p) in
      let acc : table_holds V (acc_table auto) ≡ true = marks_hold auto a x p q over present ∙ same_number x in
      let stepped : table_holds V (step_table auto) ≡ true = steps_hold auto a x p q over printable ∙ step in (
        record {
          valuation = V;
          values = made a x p q over below present next;
          state = state_is auto a x p q over;
          letter = ap (values_at V) (letter_signals_are auto) ∙ at_letters auto a x p q over;
          tables = two_pass (table_holds V (acc_table auto)) (table_holds V (step_table auto)) acc stepped;
          next = ap (λ y. y ∷ []) (at_next auto a x p q over);
        },
        next,
      )
    where
      mark_below : (mark : Bool) → mark_value mark < 2
      mark_below true = omega arith
      mark_below false = omega arith

  accepting_followed : (p : ℕ) → p < length auto.accepting → IsTrue (accepts auto p) → IsAccepting (printed_net auto) (p ∷ [])
  accepting_followed p present accepting = λ signal is.
      let a = map (λ v. 0) auto.vars in
      let over = zeros_letter auto.vars printable.vars in
      let V = valuation_of a 1 p 0 in
      let made_by : AcceptsBy (printed_net auto) (acc_place auto) (p ∷ []) = record {
        table = acc_table auto;
        held = (0, omega arith, refl);
        only = refl;
        valuation = V;
        values = made a 1 p 0 over (omega arith) present printable.states;
        state = state_is auto a 1 p 0 over;
        accepts = at_acc auto a 1 p 0 over;
        holds = marks_hold auto a 1 p 0 over present ∙ ap (λ b. mark_value b == 1) accepting;
      } in
      subst (λ s. AcceptsBy (printed_net auto) s (p ∷ [])) (acc_signal auto signal is) made_by

  abbrev Same : List ℕ → ℕ → Type 0
  Same q p = (q ≡ p ∷ []) × (p < length auto.accepting)

  initial_zero : (p : ℕ) → Contains auto.initial p → p ≡ 0
  initial_zero p initial =
      let one = one_from_contains auto.initial p initial in
      let P : List ℕ → Type 0 = λ states. IsOneOf states p in
      let first = subst P printable.initial one in
      elim first [ inl e ↦ sym e | inr none ↦ absurd none ]

  pub net_follows : IsFollowed (Contains auto.initial) (λ p a q. IsTrue (steps auto p a q)) (λ q. IsTrue (accepts auto q))
      (IsInitial (printed_net auto)) (Steps (printed_net auto)) (IsAccepting (printed_net auto)) (λ p q. Same q p)
  net_follows = record {
    starts = λ p initial.
        let is = initial_zero p initial in
        let below : p < length auto.accepting = let some = printable.states in omega (arith, is) in
        (0 ∷ [], (ap (λ k. k ∷ []) (sym is), below), zero_is_initial);
    moves = λ p q a p' same step.
        let followed = step_followed p a p' same.1 step in
        (p' ∷ [], (refl, followed.1), subst (λ s. Steps (printed_net auto) s a (p' ∷ [])) (sym same.0) followed.0);
    ends = λ p q same accepting. subst (IsAccepting (printed_net auto)) (sym same.0) (accepting_followed p same.1 accepting);
  }

  -- the automaton follows the network

  initial_taken : (q : List ℕ) → IsInitial (printed_net auto) q → q ≡ 0 ∷ []
  initial_taken q initial =
      let cut = taken auto initial.valuation initial.values in
      let resets : table_holds (valuation_of cut.a cut.x cut.p cut.q) (reset_table auto) ≡ true =
      ap (λ v. table_holds v (reset_table auto)) (sym cut.is) ∙ (and_parts (table_holds initial.valuation (reset_table auto)) true initial.resets).0 in
      let is : 0 ≡ cut.p = number_of_test 0 cut.p (sym (reset_holds auto cut.a cut.x cut.p cut.q cut.over) ∙ resets) in
      sym initial.state ∙ (ap (λ v. values_at v (latch_outputs (printed_net auto))) cut.is ∙ (state_is auto cut.a cut.x cut.p cut.q cut.over ∙ ap (λ k. k ∷ []) (sym is)))

  step_taken : (p : ℕ) (a : Letter) (r : List ℕ) → Steps (printed_net auto) (p ∷ []) a r → (p' : ℕ) × (r ≡ p' ∷ []) × (p' < length auto.accepting) × IsTrue (steps auto p a p')
  step_taken p a r step =
      let cut = taken auto step.valuation step.values in
      let V = valuation_of cut.a cut.x cut.p cut.q in
      let present : cut.p ≡ p =
      heads cut.p p (sym (state_is auto cut.a cut.x cut.p cut.q cut.over) ∙ (ap (λ v. values_at v (latch_outputs (printed_net auto))) (sym cut.is) ∙ step.state)) in
      let letter : cut.a ≡ a =
      sym (at_letters auto cut.a cut.x cut.p cut.q cut.over) ∙ (ap (values_at V) (sym (letter_signals_are auto)) ∙ (ap (λ v. values_at v (letter_signals (printed_net auto))) (sym cut.is) ∙ step.letter)) in
      let next : r ≡ cut.q ∷ [] =
      sym step.next ∙ (ap (λ v. values_at v (latch_inputs (printed_net auto))) cut.is ∙ ap (λ y. y ∷ []) (at_next auto cut.a cut.x cut.p cut.q cut.over)) in
      let both = and_parts (table_holds step.valuation (acc_table auto)) (table_holds step.valuation (step_table auto) && true) step.tables in
      let stepped : table_holds V (step_table auto) ≡ true =
      ap (λ v. table_holds v (step_table auto)) (sym cut.is) ∙ (and_parts (table_holds step.valuation (step_table auto)) true both.1).0 in
      let is : steps auto cut.p cut.a cut.q ≡ true = sym (steps_hold auto cut.a cut.x cut.p cut.q cut.over printable) ∙ stepped in
      (cut.q, next, cut.next, subst (λ k. steps auto k a cut.q ≡ true) present (subst (λ l. steps auto cut.p l cut.q ≡ true) letter is))

  accepting_taken : (p : ℕ) → p < length auto.accepting → IsAccepting (printed_net auto) (p ∷ []) → IsTrue (accepts auto p)
  accepting_taken p below accepting =
      let by = accepting (acc_place auto) (is_acc_signal auto) in
      let cut = taken auto by.valuation by.values in
      let V = valuation_of cut.a cut.x cut.p cut.q in
      let present : cut.p ≡ p =
      heads cut.p p (sym (state_is auto cut.a cut.x cut.p cut.q cut.over) ∙ (ap (λ v. values_at v (latch_outputs (printed_net auto))) (sym cut.is) ∙ by.state)) in
      let value : cut.x ≡ 1 = sym (at_acc auto cut.a cut.x cut.p cut.q cut.over) ∙ (ap (λ v. slice_index v (acc_place auto)) (sym cut.is) ∙ by.accepts) in
      let table : by.table ≡ acc_table auto = the_table by.table (one_from_contains (printed_net auto).tables by.table by.held) by.only in
      let holds : table_holds V (acc_table auto) ≡ true = ap (λ v. table_holds v (acc_table auto)) (sym cut.is) ∙ (ap (table_holds by.valuation) (sym table) ∙ by.holds) in
      let told : (mark_value (accepts auto cut.p) == cut.x) ≡ true = sym (marks_hold auto cut.a cut.x cut.p cut.q cut.over cut.present) ∙ holds in
      mark_of_test (accepts auto p) (subst (λ k. (mark_value (accepts auto k) == 1) ≡ true) present (subst (λ y. (mark_value (accepts auto cut.p) == y) ≡ true) value told))
    where
      the_table : (table : Table) → IsOneOf (printed_net auto).tables table → table.outs ≡ acc_place auto ∷ [] → table ≡ acc_table auto
      the_table table (inl is) only = sym is
      the_table table (inr (inl is)) only =
          let same : next_place auto ≡ acc_place auto = heads (next_place auto) (acc_place auto) (ap (λ (t : Table). t.outs) is ∙ only) in
          absurd (omega (arith, same))
      the_table table (inr (inr none)) only = absurd none

  pub auto_follows : IsFollowed (IsInitial (printed_net auto)) (Steps (printed_net auto)) (IsAccepting (printed_net auto))
      (Contains auto.initial) (λ p a q. IsTrue (steps auto p a q)) (λ q. IsTrue (accepts auto q)) Same
  auto_follows = record {
    starts = λ q initial.
        let some : 0 < length auto.initial = subst (λ (l : List ℕ). 0 < length l) (sym printable.initial) (omega arith) in
        let first : slice_index_or auto.initial 0 0 ≡ 0 = ap (λ (l : List ℕ). slice_index_or l 0 0) printable.initial in
        (0, (initial_taken q initial, printable.states), (0, some, first));
    moves = λ q p a q' same step.
        let found = step_taken p a q' (subst (λ s. Steps (printed_net auto) s a q') same.0 step) in
        (found.0, (found.1, found.2), found.3);
    ends = λ q p same accepting. accepting_taken p same.1 (subst (IsAccepting (printed_net auto)) same.0 accepting);
  }

  -- the network has the automaton's words
  pub same_words : (word : Word) → NetWords (printed_net auto) word ↔ ListingWords auto word
  same_words word = (word_is_followed auto_follows word, word_is_followed net_follows word)
