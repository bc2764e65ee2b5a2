-- The runs of an automaton in bits are those of the automaton.
use Rattle.std.proofs.Common.{◌≡◌, ◌==◌, ◌+◌, ◌-◌, ◌^◌, ◌<◌, ◌≤◌, ◌&&◌, ◌↔◌, ◌⊎◌, ℕ, zero, suc, Bool, true, false, if◌then◌else◌, IsTrue, List, [], ◌∷◌, length, map, get_or, inl, inr, refl, sym, ap, ◌∙◌, subst, arith}
use Rattle.std.specs.List.{range_with_len, All}
use Rattle.std.proofs.lemmas.Bool.{eqb-true, eq-eqb, true≢false, and_parts, and_from, cases_lt, cases_eq, or_left, or_right}
use Rattle.std.proofs.lemmas.List.Folds.{Any-from_list_any, list_any-from_Any}
use Rattle.std.proofs.lemmas.List.FromFn.{length-range_with_len, get_or-range_with_len}
use Rattle.std.proofs.lemmas.List.{get_or_past}
use Rattle.name_table.proofs.Powers.{twice}
use Rattle.node_table.specs.Table.{Bits, Table, value_at}
use Rattle.bdd_ops.specs.Levels.{is_in, SameAt, sources, renamed}
use Rattle.bdd_ops.specs.Meaning.{DependsOn}
use Rattle.mv_encoding.proofs.Ranges.{range-in}
use Rattle.net_model.specs.Automata.{RunsFrom}
use Rattle.det_core.specs.declared.det.Move.{Move}
use Rattle.det_core.specs.Automata.{BitWord, State, state_at, has_word, IsDet, MeetsRule, ReadsAlone}
use Rattle.det_core.specs.Codes.{code_number, leads_to}
use Rattle.det_core.specs.Languages.{MovesBy}
use Rattle.det_core.proofs.Runs.{words-by-runs}
use Rattle.det_core.proofs.Words.{targets-at}
use Rattle.subset_build.specs.Relations.{Relation, present_of, StepsBy, HasRun}
use Rattle.sync_solve.specs.Codes.{code_levels, next_levels, code_back, state_number, next_number, coded}
use Rattle.sync_solve.proofs.Products.{decided}

-- numbers in bits

pub number-same : (levels : List ℕ) (u v : Bits) → SameAt levels u v → code_number levels u ≡ code_number levels v
number-same [] u v same = refl
number-same (l ∷ levels) u v same = λ i. (if same l (or_left (l == l) (is_in levels l) (eq-eqb l l refl)) i then 2 ^ length levels else 0) + number-same levels u v (λ k member. same k (or_right (l == k) (is_in levels k) member)) i

-- at consecutive levels one number is spelled by bits of which each has the same place
number-moved : (n f g : ℕ) (u v : Bits) → ((k : ℕ) → k < n → u (f + k) ≡ v (g + k)) → code_number (range_with_len f n) u ≡ code_number (range_with_len g n) v
number-moved zero f g u v same = refl
number-moved (suc n) f g u v same =
    let here : u f ≡ v g = (let e : f ≡ f + 0 = omega arith in ap u e) ∙ same 0 (omega arith) ∙ (let e : g + 0 ≡ g = omega arith in ap v e) in
    let long = length-range_with_len (f + 1) n ∙ sym (length-range_with_len (g + 1) n) in
    λ i. (if here i then 2 ^ long i else 0) + number-moved n (f + 1) (g + 1) u v
    (λ k within. (let e : f + 1 + k ≡ f + suc k = omega arith in ap u e) ∙ same (suc k) (omega (arith, within)) ∙ (let e : g + suc k ≡ g + 1 + k = omega arith in ap v e)) i

-- each number of few digits has bits
pub number-bits : (n first number : ℕ) → number < 2 ^ n → (bits : Bits) × (code_number (range_with_len first n) bits ≡ number)
number-bits zero first number small = ((λ k. false), omega (arith, small))
number-bits (suc n) first number small = elim (cases_lt number (2 ^ n)) [
  | inl less ↦
      let (rest, spells) = number-bits n (first + 1) number less in
      (with_first false rest, (let whole = tail false rest in omega (arith, whole, spells)))
  | inr more ↦
      let double = twice n in
      let (rest, spells) = number-bits n (first + 1) (number - 2 ^ n) (omega (arith, small, more, double)) in
      let long : 2 ^ length (range_with_len (first + 1) n) ≡ 2 ^ n = ap (λ m. 2 ^ m) (length-range_with_len (first + 1) n) in
      (with_first true rest, tail true rest ∙ (λ i. long i + spells i) ∙ omega (arith, more))
]
  where
    with_first : Bool → Bits → Bits
    with_first digit rest k = if k == first then digit else rest k

    at-first : (digit : Bool) (rest : Bits) → with_first digit rest first ≡ digit
    at-first digit rest = ap (λ b. if b then digit else rest first) (eq-eqb first first refl)

    behind : (digit : Bool) (rest : Bits) → SameAt (range_with_len (first + 1) n) (with_first digit rest) rest
    behind digit rest k member = let low = range-in n (first + 1) k member in elim (cases_eq k first) [
      | inl same ↦ absurd (omega (arith, low.0, same))
      | inr apart ↦ elim (decided (k == first)) [
        | inl same ↦ let e = eqb-true k first same in absurd (omega (arith, low.0, e))
        | inr out ↦ ap (λ b. if b then digit else rest k) out
      ]
    ]

    tail : (digit : Bool) (rest : Bits) → code_number (range_with_len first (suc n)) (with_first digit rest) ≡ (if digit then 2 ^ length (range_with_len (first + 1) n) else 0) + code_number (range_with_len (first + 1) n) rest
    tail digit rest = λ i. (if at-first digit rest i then 2 ^ length (range_with_len (first + 1) n) else 0) + number-same (range_with_len (first + 1) n) (with_first digit rest) rest (behind digit rest) i

-- consecutive levels that end in time are there
pub range-low : (first count levels : ℕ) → first + count ≤ levels → All (λ level. level < levels) (range_with_len first count)
range-low first count levels high i d within =
    let long = length-range_with_len first count in
    let at : get_or (range_with_len first count) i d ≡ first + i = get_or-range_with_len first count i d (omega (arith, within, long)) in
    omega (arith, at, within, long, high)

-- the map from the levels of the next state

abbrev back_from : ℕ → ℕ → ℕ → ℕ → List (ℕ × ℕ)
back_from s p i n = map (λ k. (s + k, p + k)) (range_with_len i n)

sources-from : (s p i n : ℕ) → sources (back_from s p i n) ≡ range_with_len (s + i) n
sources-from s p i zero = refl
sources-from s p i (suc n) = let e : s + (i + 1) ≡ s + i + 1 = omega arith in ap (λ l. (s + i) ∷ l) (sources-from s p (i + 1) n ∙ ap (λ m. range_with_len m n) e)

targets-from : (s p i n : ℕ) → present_of (back_from s p i n) ≡ range_with_len (p + i) n
targets-from s p i zero = refl
targets-from s p i (suc n) = let e : p + (i + 1) ≡ p + i + 1 = omega arith in ap (λ l. (p + i) ∷ l) (targets-from s p (i + 1) n ∙ ap (λ m. range_with_len m n) e)

pub code-sources : (first digits : ℕ) → sources (code_back first digits) ≡ next_levels first digits
code-sources first digits = sources-from (first + digits) first 0 digits ∙ (let e : first + digits + 0 ≡ first + digits = omega arith in ap (λ m. range_with_len m digits) e)

pub code-targets : (first digits : ℕ) → present_of (code_back first digits) ≡ code_levels first digits
code-targets first digits = targets-from (first + digits) first 0 digits ∙ (let e : first + 0 ≡ first = omega arith in ap (λ m. range_with_len m digits) e)

renamed-from : (s p i n : ℕ) (r : Bits) (j : ℕ) → i ≤ j → j < i + n → renamed (back_from s p i n) r (s + j) ≡ r (p + j)
renamed-from s p i zero r j low high = absurd (omega (arith, low, high))
renamed-from s p i (suc n) r j low high = elim (decided (s + j == s + i)) [
  | inl here ↦
      let e = eqb-true (s + j) (s + i) here in
      let same : p + i ≡ p + j = omega (arith, e) in
      ap (λ b. if b then r (p + i) else renamed (back_from s p (i + 1) n) r (s + j)) here ∙ ap r same
  | inr out ↦
      ap (λ b. if b then r (p + i) else renamed (back_from s p (i + 1) n) r (s + j)) out
      ∙ renamed-from s p (i + 1) n r j (later (cases_eq i j) out) (omega (arith, high))
]
  where
    later : (i ≡ j) ⊎ (i ≡ j → ⊥) → (s + j == s + i) ≡ false → i + 1 ≤ j
    later (inl same) out = absurd (true≢false (sym (eq-eqb (s + j) (s + i) (ap (λ k. s + k) (sym same))) ∙ out))
    later (inr apart) out = omega (arith, low, apart)

-- a next state is read as a present one
pub next-read : (first digits : ℕ) (r : Bits) → next_number first digits (renamed (code_back first digits) r) ≡ state_number first digits r
next-read first digits r = number-moved digits (first + digits) first (renamed (code_back first digits) r) r (λ k within. renamed-from (first + digits) first 0 digits r k (omega arith) (omega (arith, within)))

module _ (t : Table) (det : List State) (letters : Bits → Bool) (keep : List ℕ) (first digits : ℕ) (is_det : IsDet det) (rule : MeetsRule t letters det) (reads : ReadsAlone t keep det)
    (enough : length det ≤ 2 ^ digits) (above : (k : ℕ) → is_in keep k ≡ true → k < first) where
  abbrev rel : Relation
  rel = coded t det keep first digits

  -- a guard reads the letter
  pub guard-same : (k : ℕ) (u v : Bits) → SameAt keep u v → (j : ℕ) → leads_to t (state_at det k).moves u j ≡ true → leads_to t (state_at det k).moves v j ≡ true
  guard-same k u v same j leads =
      let (i, d, within, here, both) = Any-from_list_any (λ (m : Move). (j == m.target) && value_at t m.guard u) (state_at det k).moves leads in
      let parts = and_parts (j == d.target) (value_at t d.guard u) both in
      list_any-from_Any (λ (m : Move). (j == m.target) && value_at t m.guard v) (state_at det k).moves
      (i, d, within, here, and_from (j == d.target) (value_at t d.guard v) parts.0 (sym (depends i d within here u v same) ∙ parts.1))
    where
      depends : (i : ℕ) (d : Move) → i < length (state_at det k).moves → get_or (state_at det k).moves i d ≡ d → DependsOn t keep d.guard
      depends i d within here = elim (cases_lt k (length det)) [
        | inl less ↦ subst (λ (m : Move). DependsOn t keep m.guard) here (reads k (record { accepting = false; moves = [] }) less i d within)
        | inr more ↦ absurd (let none : length (state_at det k).moves ≡ 0 = ap (λ (s : State). length s.moves) (get_or_past det k (record { accepting = false; moves = [] }) more) in omega (arith, none, within))
      ]

  moves-of : (k : ℕ) (bits : Bits) (j : ℕ) → leads_to t (state_at det k).moves bits j ≡ true → MovesBy t det k bits j
  moves-of k bits j leads =
      let (i, d, within, here, both) = Any-from_list_any (λ (m : Move). (j == m.target) && value_at t m.guard bits) (state_at det k).moves leads in
      let parts = and_parts (j == d.target) (value_at t d.guard bits) both in
      (i, d, within, here, (parts.1, sym (eqb-true j d.target parts.0)))

  of-moves : (k : ℕ) (bits : Bits) (j : ℕ) → MovesBy t det k bits j → leads_to t (state_at det k).moves bits j ≡ true
  of-moves k bits j (i, d, within, here, (has, is)) =
      list_any-from_Any (λ (m : Move). (j == m.target) && value_at t m.guard bits) (state_at det k).moves
      (i, d, within, here, and_from (j == d.target) (value_at t d.guard bits) (eq-eqb j d.target (sym is)) has)

  pub in-state : (u v : Bits) → SameAt (present_of (code_back first digits)) u v → state_number first digits u ≡ state_number first digits v
  in-state u v same = number-same (code_levels first digits) u v (λ k member. same k (ap (λ l. is_in l k) (code-targets first digits) ∙ member))

  in-next : (u r : Bits) → SameAt (sources (code_back first digits)) u (renamed (code_back first digits) r) → next_number first digits u ≡ state_number first digits r
  in-next u r same =
      number-same (next_levels first digits) u (renamed (code_back first digits) r) (λ k member. same k (ap (λ l. is_in l k) (code-sources first digits) ∙ member))
      ∙ next-read first digits r

  step-of : (q a r : Bits) → StepsBy rel q a r → MovesBy t det (state_number first digits q) a (state_number first digits r)
  step-of q a r (u, j) =
      let there : leads_to t (state_at det (state_number first digits q)).moves u (state_number first digits r) ≡ true =
      sym (λ i. leads_to t (state_at det (in-state u q j.now i)).moves u (in-next u r j.next i)) ∙ j.is_step in
      moves-of (state_number first digits q) a (state_number first digits r) (guard-same (state_number first digits q) u a j.letter (state_number first digits r) there)

  -- the bits of a step
  abbrev step_bits : Bits → Bits → Bits → Bits
  step_bits q a r k = if is_in (sources (code_back first digits)) k then renamed (code_back first digits) r k else (if is_in (present_of (code_back first digits)) k then q k else a k)

  at-next : (q a r : Bits) → SameAt (sources (code_back first digits)) (step_bits q a r) (renamed (code_back first digits) r)
  at-next q a r k member = ap (λ b. if b then renamed (code_back first digits) r k else (if is_in (present_of (code_back first digits)) k then q k else a k)) member

  at-else : (q a r : Bits) (k : ℕ) → is_in (sources (code_back first digits)) k ≡ false → step_bits q a r k ≡ (if is_in (present_of (code_back first digits)) k then q k else a k)
  at-else q a r k out = ap (λ b. if b then renamed (code_back first digits) r k else (if is_in (present_of (code_back first digits)) k then q k else a k)) out

  in-sources : (k : ℕ) → is_in (sources (code_back first digits)) k ≡ true → first + digits ≤ k
  in-sources k member = (range-in digits (first + digits) k (sym (ap (λ l. is_in l k) (code-sources first digits)) ∙ member)).0

  in-targets : (k : ℕ) → is_in (present_of (code_back first digits)) k ≡ true → (first ≤ k) × (k < first + digits)
  in-targets k member = range-in digits first k (sym (ap (λ l. is_in l k) (code-targets first digits)) ∙ member)

  not-source : (k : ℕ) → k < first + digits → is_in (sources (code_back first digits)) k ≡ false
  not-source k low = elim (decided (is_in (sources (code_back first digits)) k)) [
    | inl there ↦ let high = in-sources k there in absurd (omega (arith, high, low))
    | inr out ↦ out
  ]

  not-target : (k : ℕ) → k < first → is_in (present_of (code_back first digits)) k ≡ false
  not-target k low = elim (decided (is_in (present_of (code_back first digits)) k)) [
    | inl there ↦ let high = in-targets k there in absurd (omega (arith, high.0, low))
    | inr out ↦ out
  ]

  at-now : (q a r : Bits) → SameAt (present_of (code_back first digits)) (step_bits q a r) q
  at-now q a r k member = at-else q a r k (not-source k (in-targets k member).1) ∙ ap (λ b. if b then q k else a k) member

  at-letter : (q a r : Bits) → SameAt keep (step_bits q a r) a
  at-letter q a r k member =
      let low = above k member in
      at-else q a r k (not-source k (omega (arith, low))) ∙ ap (λ b. if b then q k else a k) (not-target k low)

  step-on : (k j : ℕ) (q a r : Bits) → state_number first digits q ≡ k → state_number first digits r ≡ j → MovesBy t det k a j → StepsBy rel q a r
  step-on k j q a r from to moves =
      let u = step_bits q a r in
      let there : leads_to t (state_at det k).moves u j ≡ true = guard-same k a u (λ l member. sym (at-letter q a r l member)) j (of-moves k a j moves) in (
        u,
        record {
          now = at-now q a r;
          letter = at-letter q a r;
          next = at-next q a r;
          is_step = (λ i. leads_to t (state_at det ((in-state u q (at-now q a r) ∙ from) i)).moves u ((in-next u r (at-next q a r) ∙ to) i)) ∙ there;
        },
      )

  abbrev Runs : ℕ → BitWord → Type 0
  Runs k word = RunsFrom (MovesBy t det) (λ k. IsTrue (state_at det k).accepting) k word

  abbrev RunsOn : Bits → BitWord → Type 0
  RunsOn q word = RunsFrom (StepsBy rel) (λ q. rel.acc q ≡ true) q word

  run-of : (word : BitWord) (q : Bits) → RunsOn q word → Runs (state_number first digits q) word
  run-of [] q accepts = accepts
  run-of (a ∷ word) q (r, step, run) = (state_number first digits r, step-of q a r step, run-of word r run)

  -- a move leads to one of the states
  target-low : (k : ℕ) (a : Bits) (j : ℕ) → k < length det → MovesBy t det k a j → j < length det
  target-low k a j less (i, d, within, here, (has, is)) =
      let low : d.target < length det = subst (λ (m : Move). m.target < length det) here (targets-at det k is_det less i d within) in
      omega (arith, low, is)

  run-on : (word : BitWord) (k : ℕ) (q : Bits) → k < length det → state_number first digits q ≡ k → Runs k word → RunsOn q word
  run-on [] k q less is accepts = ap (λ n. (state_at det n).accepting) is ∙ accepts
  run-on (a ∷ word) k q less is (j, step, run) =
      let low = target-low k a j less step in
      let (r, spells) = number-bits digits first j (omega (arith, low, enough)) in
      (r, step-on k j q a r is spells step, run-on word j r low spells run)

  pub coded-words : (word : BitWord) → HasRun rel word ↔ (has_word t det word ≡ true)
  coded-words word =
      let by_runs = words-by-runs t letters det rule word in (
        λ (q, initial, run). by_runs.1 (state_number first digits q, eqb-true (state_number first digits q) 0 initial, run-of word q run),
        λ has.
            let (k, first_is, run) = by_runs.0 has in
            let some = is_det.some in
            let (q, spells) = number-bits digits first 0 (omega (arith, some, enough)) in
            (q, eq-eqb (state_number first digits q) 0 spells, run-on word 0 q some spells (subst (λ n. Runs n word) first_is run)),
      )
