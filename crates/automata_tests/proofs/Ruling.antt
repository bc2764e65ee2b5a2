-- The rule on guards in the automata of the cases, and their letters.
use Rattle.std.proofs.Common.{◌≡◌, ◌+◌, ◌^◌, ◌<◌, ◌≤◌, ◌∙◌, ◌++◌, ℕ, Bool, true, false, inl, inr, List, [], ◌∷◌, length, map, get_or, All, sym, ap, subst, length-append, arith}
use Rattle.std.specs.List.{range_with_len}
use Rattle.std.proofs.lemmas.Bool.{cases_lt}
use Rattle.std.proofs.lemmas.List.{map_push, length-map, get_or_default}
use Rattle.std.proofs.lemmas.List.Elements.{All-append, All-cons, All-nil, All-map}
use Rattle.std.proofs.lemmas.List.FromFn.{length-range_with_len, get_or-range_with_len}
use Rattle.node_table.specs.Table.{Bits, Table, value_at, IsValid, Grows}
use Rattle.name_table.specs.CodeBits.{bits_in}
use Rattle.net_model.specs.declared.letter.Letter.{Letter}
use Rattle.net_model.specs.Words.{Scope, Word, IsLetter, IsWord}
use Rattle.bdd_ops.specs.Meaning.{DependsOn}
use Rattle.mv_encoding.specs.Layouts.{Layout, levels_of, IsLaid}
use Rattle.det_core.specs.declared.det.Move.{Move}
use Rattle.det_core.specs.declared.det.DetState.{DetState}
use Rattle.det_core.specs.Automata.{State, state_at, states_of, turned, TargetsBelow, AreGuardsValid, AreGuards, MeetsRule, IsDet}
use Rattle.det_core.specs.Filling.{seen}
use Rattle.det_core.specs.Languages.{word_of}
use Rattle.det_core.proofs.Runs.{rule-grows}
use Rattle.automata_tests.specs.Drawings.{AsksBetween}
use Rattle.automata_tests.proofs.Asking.{depends-between}

-- no moves, and one
module _ (t : Table) (letters : Bits → Bool) where
  pub no-guards : AreGuards t letters []
  no-guards = record {
    valid = All-nil (λ m. IsValid t m.guard);
    some = All-nil (λ m. m.guard ≡ 0 → ⊥);
    within = All-nil (λ m. (bits : Bits) → value_at t m.guard bits ≡ true → letters bits ≡ true);
    disjoint = λ i j d less within. absurd (omega (arith, within));
    targets = λ i j d less within. absurd (omega (arith, within));
  }

  pub one-guard : (m : Move) → IsValid t m.guard → (m.guard ≡ 0 → ⊥) → ((bits : Bits) → value_at t m.guard bits ≡ true → letters bits ≡ true) → AreGuards t letters (m ∷ [])
  one-guard m valid some within = record {
    valid = All-one (λ m. IsValid t m.guard) valid;
    some = All-one (λ m. m.guard ≡ 0 → ⊥) some;
    within = All-one (λ m. (bits : Bits) → value_at t m.guard bits ≡ true → letters bits ≡ true) within;
    disjoint = λ i j d less within. absurd (omega (arith, less, within));
    targets = λ i j d less within. absurd (omega (arith, less, within));
  }
    where
      All-one : (P : Move → Type 0) → P m → All P (m ∷ [])
      All-one P p = All-cons P m [] p (All-nil P)

-- one state more behind the others
pub All-push : (P : State → Type 0) (states : List DetState) (s : DetState) → All P (states_of states) → P (seen s) → All P (states_of (states ++ s ∷ []))
All-push P states s all p =
    subst (All P) (sym (map_push seen states s)) (All-append P (states_of states) (seen s ∷ []) all (All-cons P (seen s) [] p (All-nil P)))

pub rule-push : (a b : Table) → Grows a b → (letters : Bits → Bool) (states : List DetState) (s : DetState) → MeetsRule a letters (states_of states) → AreGuards b letters s.moves.items → MeetsRule b letters (states_of (states ++ s ∷ []))
rule-push a b grow letters states s rule guards =
    All-push (λ s. AreGuards b letters s.moves) states s (rule-grows a b grow letters (states_of states) rule) guards

pub rule-next : {a b : Table} {letters : Bits → Bool} {new : List DetState} (states : List DetState) (s : DetState) → new ≡ states ++ s ∷ [] → MeetsRule a letters (states_of states) → Grows a b → AreGuards b letters s.moves.items → MeetsRule b letters (states_of new)
rule-next {a} {b} {letters} {new} states s is rule grow guards =
    subst (λ list. MeetsRule b letters (states_of list)) (sym is) (rule-push a b grow letters states s rule guards)

pub targets-next : {n target : ℕ} {new : List DetState} (states : List DetState) (s : DetState) → new ≡ states ++ s ∷ [] → All (λ s. TargetsBelow n s.moves) (states_of states) → All (λ m. m.target ≡ target) s.moves.items → target < n → All (λ s. TargetsBelow n s.moves) (states_of new)
targets-next {n} {target} {new} states s is all targets low =
    subst (λ list. All (λ s. TargetsBelow n s.moves) (states_of list)) (sym is)
    (All-push (λ s. TargetsBelow n s.moves) states s all (λ k d within. let at = targets k d within in omega (arith, at, low)))

pub count-next : {k : ℕ} {new : List DetState} (states : List DetState) (s : DetState) → new ≡ states ++ s ∷ [] → length states ≡ k → length new ≡ k + 1
count-next {k} {new} states s is count = let size = ap length is ∙ length-append states (s ∷ []) in omega (arith, size, count)

-- states with these targets are an automaton
pub is-det : (states : List DetState) (n : ℕ) → length states ≡ n → 0 < n → All (λ s. TargetsBelow n s.moves) (states_of states) → IsDet (states_of states)
is-det states n count some targets =
    let size : length (states_of states) ≡ n = length-map states seen ∙ count in
    record {
      some = omega (arith, size, some);
      targets = subst (λ k. All (λ s. TargetsBelow k s.moves) (states_of states)) (sym size) targets;
    }

-- the complement has the same moves
pub rule-turned : (t : Table) (letters : Bits → Bool) (det : List State) → MeetsRule t letters det → MeetsRule t letters (map turned det)
rule-turned t letters det rule = All-map (λ s. AreGuards t letters s.moves) turned det rule

-- all guards are valid
pub guards-valid : (t : Table) (letters : Bits → Bool) (det : List State) → MeetsRule t letters det → All (λ s. AreGuardsValid t s.moves) det
guards-valid t letters det rule k d within = (rule k d within).valid

-- the rule is the same for a set with the same letters
pub rule-same : (t : Table) (letters others : Bits → Bool) (det : List State) → ((bits : Bits) → letters bits ≡ others bits) → MeetsRule t letters det → MeetsRule t others det
rule-same t letters others det same rule = let path : letters ≡ others = (λ i bits. same bits i) in subst (λ l. MeetsRule t l det) path rule

-- levels of letters
pub laid : (layout : Layout) (t : Table) → layout.first ≡ 0 → bits_in layout.scope ≤ t.levels → IsLaid layout t
laid layout t first bits k within = omega (arith, first, bits, within)

pub depends-letters : (t : Table) (layout : Layout) (r : ℕ) → layout.first ≡ 0 → AsksBetween t 0 (bits_in layout.scope) r → DependsOn t (levels_of layout) r
depends-letters t layout r first asks =
    subst (λ k. DependsOn t (range_with_len k (bits_in layout.scope)) r) (sym first) (depends-between t 0 (bits_in layout.scope) r (λ u v same. asks u v (λ k low high. same k low (omega (arith, high)))))

pub all-in-range : (first n m : ℕ) → first + n ≤ m → All (λ level. level < m) (range_with_len first n)
all-in-range first n m few k d within =
    let size = length-range_with_len first n in
    let is = get_or-range_with_len first n k d (omega (arith, within, size)) in
    omega (arith, is, within, size, few)

-- one letter more
pub word-push : (scope : Scope) (word : Word) (letter : List ℕ) → IsWord scope word → IsLetter scope letter → IsWord scope (word ++ letter ∷ [])
word-push scope [] letter is more = (more, tt)
word-push scope (first ∷ word) letter is more = (is.0, word-push scope word letter is.1 more)

pub word-next : (scope : Scope) (letters new : List Letter) (letter : Letter) → new ≡ letters ++ letter ∷ [] → IsWord scope (word_of letters) → IsLetter scope letter.values.items → IsWord scope (word_of new)
word-next scope letters new letter is all one =
    subst (λ list. IsWord scope (word_of list)) (sym is)
    (subst (IsWord scope) (sym (map_push (λ (l : Letter). l.values.items) letters letter)) (word-push scope (word_of letters) letter.values.items all one))

-- the moves of one state more read the levels of the letters
module _ (t : Table) (layout : Layout) (det : List State) (state n : ℕ) (moves : List Move) where
  abbrev Reads : ℕ → State → Type 0
  Reads k d = All (λ m. DependsOn t (levels_of layout) m.guard) (get_or det k d).moves

  pub reads-next : layout.first ≡ 0 → n ≡ bits_in layout.scope → state < length det → moves ≡ (state_at det state).moves → All (λ m. AsksBetween t 0 n m.guard) moves → ((k : ℕ) (d : State) → k < state → Reads k d) → (k : ℕ) (d : State) → k < state + 1 → Reads k d
  reads-next first bits within is asks before k d less =
      elim (cases_lt k state) [
        | inl earlier ↦ before k d earlier
        | inr later ↦
            let same : state ≡ k = omega (arith, less, later) in
            let none : State = record { accepting = false; moves = [] } in
            let here : All (λ m. DependsOn t (levels_of layout) m.guard) moves = (λ i e inside. depends-letters t layout (get_or moves i e).guard first (subst (λ m. AsksBetween t 0 m (get_or moves i e).guard) bits (asks i e inside))) in
            let at : moves ≡ (get_or det k d).moves = is ∙ ap (λ (s : State). s.moves) (get_or_default det state none d within) ∙ ap (λ j. (get_or det j d).moves) same in
            subst (λ list. All (λ m. DependsOn t (levels_of layout) m.guard) list) at here
      ]

pub enough : (states bits first : ℕ) (levels : List ℕ) → levels ≡ range_with_len first bits → states ≤ 2 ^ bits → states ≤ 2 ^ length levels
enough states bits first levels is few = subst (λ k. states ≤ 2 ^ k) (sym (ap length is ∙ length-range_with_len first bits)) few
