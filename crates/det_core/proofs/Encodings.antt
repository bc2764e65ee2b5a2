-- The steps of an automaton as a diagram, put together of its halves.
use Rattle.std.proofs.Common.{◌≡◌, ◌==◌, ◌+◌, ◌≤◌, ◌||◌, ◌&&◌, ℕ, Bool, true, false, not, nat_lt, List, [], ◌∷◌, ◌++◌, length, take, drop, All, refl, sym, ap, ◌∙◌, subst, inl, inr, arith}
use Rattle.std.proofs.lemmas.Bool.{eqb-true, eq-eqb, lt-ltb, le-ltb, ltb-true, ltb-false, and_parts, and_from, not-true, cases_lt}
use Rattle.bdd_ops.proofs.Members.{same-tests}
use Rattle.std.proofs.Math.Bool.{and-false}
use Rattle.std.proofs.lemmas.List.{take-append-drop, get_or_past}
use Rattle.std.proofs.lemmas.List.Elements.{All-tail, All-drop}
use Rattle.std.proofs.lemmas.List.Folds.{list_any-append}
use Rattle.node_table.specs.Table.{Bits, Table, value_at, IsValid, Grows}
use Rattle.bdd_ops.specs.Meaning.{StandsFor}
use Rattle.det_core.specs.declared.det.Move.{Move}
use Rattle.det_core.specs.Automata.{State, state_at, AreGuardsValid}
use Rattle.det_core.specs.Codes.{leads_to, steps_by}

pub leads-grows : (a b : Table) → Grows a b → (moves : List Move) → AreGuardsValid a moves → (bits : Bits) (target : ℕ) → leads_to b moves bits target ≡ leads_to a moves bits target
leads-grows a b grow [] valid bits target = refl
leads-grows a b grow (m ∷ moves) valid bits target =
    let here : IsValid a m.guard = valid 0 m (omega arith) in
    ap (λ v. ((target == m.target) && v) || leads_to b moves bits target) (grow.value m.guard here.held bits)
    ∙ ap (λ rest. ((target == m.target) && value_at a m.guard bits) || rest) (leads-grows a b grow moves (All-tail (λ m. IsValid a m.guard) m moves valid) bits target)

pub guards-at : (t : Table) (det : List State) → All (λ s. AreGuardsValid t s.moves) det → (k : ℕ) → AreGuardsValid t (state_at det k).moves
guards-at t det valid k = elim (cases_lt k (length det)) [
  | inl less ↦ valid k (record { accepting = false; moves = [] }) less
  | inr more ↦ subst (λ (s : State). AreGuardsValid t s.moves) (sym (get_or_past det k (record { accepting = false; moves = [] }) more)) (λ j d within. absurd (omega (arith, within)))
]

pub steps-grow : (a b : Table) → Grows a b → (det : List State) → All (λ s. AreGuardsValid a s.moves) det → (k : ℕ) (bits : Bits) (target : ℕ) → steps_by b det k bits target ≡ steps_by a det k bits target
steps-grow a b grow det valid k bits target = leads-grows a b grow (state_at det k).moves (guards-at a det valid k) bits target

-- the moves by their halves
pub leads-joined : (t : Table) (moves first second : List Move) (middle : ℕ) → first ≡ take middle moves → second ≡ drop middle moves → (bits : Bits) (target : ℕ) → (leads_to t first bits target || leads_to t second bits target) ≡ leads_to t moves bits target
leads-joined t moves first second middle front back bits target =
    sym (list_any-append (λ m. (target == m.target) && value_at t m.guard bits) first second)
    ∙ ap (λ list. leads_to t list bits target) ((λ i. front i ++ back i) ∙ take-append-drop middle moves)

-- whether a number lies in a range
abbrev pub is_between : ℕ → ℕ → ℕ → Bool
is_between start end k = not (nat_lt k start) && nat_lt k end

-- a range of one number
pub between-one : (start end k : ℕ) → end ≡ start + 1 → is_between start end k ≡ (k == start)
between-one start end k is =
    same-tests (is_between start end k) (k == start)
    (λ e. let both = and_parts (not (nat_lt k start)) (nat_lt k end) e in
    let low = ltb-false k start (not-true (nat_lt k start) both.0) in let high = ltb-true k end both.1 in eq-eqb k start (omega (arith, is, low, high)))
    (λ e. let same = eqb-true k start e in
    and_from (not (nat_lt k start)) (nat_lt k end) (ap not (le-ltb k start (omega (arith, same)))) (lt-ltb k end (omega (arith, is, same))))

low-half : (s steps : Bool) → (((not s && true) && steps) || ((not true && true) && steps)) ≡ ((not s && true) && steps)
low-half true steps = refl
low-half false true = refl
low-half false false = refl

-- a range by its halves
pub between-halves : (start middle end k : ℕ) (steps : Bool) → start ≤ middle → middle ≤ end → ((is_between start middle k && steps) || (is_between middle end k && steps)) ≡ (is_between start end k && steps)
between-halves start middle end k steps low high =
    elim (cases_lt k middle) [
      | inl less ↦
          let in_middle = lt-ltb k middle less in
          let in_end = lt-ltb k end (omega (arith, less, high)) in
          (λ i. ((not (nat_lt k start) && in_middle i) && steps) || ((not (in_middle i) && in_end i) && steps))
          ∙ low-half (nat_lt k start) steps
          ∙ (λ i. (not (nat_lt k start) && sym in_end i) && steps)
      | inr more ↦
          let after_start = le-ltb k start (omega (arith, low, more)) in
          let after_middle = le-ltb k middle more in
          (λ i. ((not (after_start i) && after_middle i) && steps) || ((not (after_middle i) && nat_lt k end) && steps))
          ∙ (λ i. (not (sym after_start i) && nat_lt k end) && steps)
    ]

-- all states lie between 0 and their number
pub between-all : (t : Table) (det : List State) (k : ℕ) (bits : Bits) (target : ℕ) → (is_between 0 (length det) k && steps_by t det k bits target) ≡ steps_by t det k bits target
between-all t det k bits target =
    elim (cases_lt k (length det)) [
      | inl less ↦
          let first = le-ltb k 0 (omega arith) in
          let last = lt-ltb k (length det) less in
          (λ i. (not (first i) && last i) && steps_by t det k bits target)
      | inr more ↦
          let none : steps_by t det k bits target ≡ false = ap (λ (s : State). leads_to t s.moves bits target) (get_or_past det k (record { accepting = false; moves = [] }) more) in
          ap (λ v. is_between 0 (length det) k && v) none ∙ and-false (is_between 0 (length det) k) ∙ sym none
    ]

module _ (a b d e : Table) (moves first second : List Move) (middle f g r : ℕ) (target : Bits → ℕ)
    (valid : AreGuardsValid a moves) (front : first ≡ take middle moves) (back : second ≡ drop middle moves) where
  -- what the moves lead to, by the halves of them
  pub leads-halves : Grows a b → StandsFor b f (λ bits. leads_to a first bits (target bits)) → Grows b d → StandsFor d g (λ bits. leads_to b second bits (target bits)) → StandsFor e r (λ bits. value_at d f bits || value_at d g bits) → StandsFor e r (λ bits. leads_to a moves bits (target bits))
  leads-halves grow low later high either =
      let rest : AreGuardsValid a second = subst (λ list. AreGuardsValid a list) (sym back) (All-drop (λ m. IsValid a m.guard) middle moves valid) in
      record {
        valid = either.valid;
        value = λ bits.
            either.value bits
            ∙ (λ i. (later.value f low.valid.held bits ∙ low.value bits) i || (high.value bits ∙ leads-grows a b grow second rest bits (target bits)) i)
            ∙ leads-joined a moves first second middle front back bits (target bits);
      }

module _ (a b d e : Table) (det : List State) (start end f g r : ℕ) (code target : Bits → ℕ) where
  -- the steps from one state
  pub steps-one : end ≡ start + 1 → Grows a b → AreGuardsValid a (state_at det start).moves → StandsFor b f (λ bits. code bits == start) → Grows b d → StandsFor d g (λ bits. leads_to b (state_at det start).moves bits (target bits)) → StandsFor e r (λ bits. value_at d f bits && value_at d g bits)
      → StandsFor e r (λ bits. is_between start end (code bits) && steps_by a det (code bits) bits (target bits))
  steps-one is grow valid from later leads both = record {
    valid = both.valid;
    value = λ bits.
        both.value bits
        ∙ (λ i. (later.value f from.valid.held bits ∙ from.value bits) i && (leads.value bits ∙ leads-grows a b grow (state_at det start).moves valid bits (target bits)) i)
        ∙ same-state (code bits == start) bits refl
        ∙ ap (λ v. v && steps_by a det (code bits) bits (target bits)) (sym (between-one start end (code bits) is));
  }
    where
      same-state : (here : Bool) (bits : Bits) → (code bits == start) ≡ here → ((code bits == start) && steps_by a det start bits (target bits)) ≡ ((code bits == start) && steps_by a det (code bits) bits (target bits))
      same-state true bits at = ap (λ k. (code bits == start) && steps_by a det k bits (target bits)) (sym (eqb-true (code bits) start at))
      same-state false bits at = (λ i. at i && steps_by a det start bits (target bits)) ∙ (λ i. sym at i && steps_by a det (code bits) bits (target bits))

  -- the steps from some states, by the halves of them
  pub steps-halves : (middle : ℕ) → start ≤ middle → middle ≤ end → Grows a b → All (λ s. AreGuardsValid a s.moves) det
      → StandsFor b f (λ bits. is_between start middle (code bits) && steps_by a det (code bits) bits (target bits)) → Grows b d
      → StandsFor d g (λ bits. is_between middle end (code bits) && steps_by b det (code bits) bits (target bits)) → StandsFor e r (λ bits. value_at d f bits || value_at d g bits)
      → StandsFor e r (λ bits. is_between start end (code bits) && steps_by a det (code bits) bits (target bits))
  steps-halves middle low high grow valid first later second either = record {
    valid = either.valid;
    value = λ bits.
        either.value bits
        ∙ (λ i. (later.value f first.valid.held bits ∙ first.value bits) i || (second.value bits ∙ ap (λ v. is_between middle end (code bits) && v) (steps-grow a b grow det valid (code bits) bits (target bits))) i)
        ∙ between-halves start middle end (code bits) (steps_by a det (code bits) bits (target bits)) low high;
  }
