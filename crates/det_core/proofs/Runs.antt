-- The words of an automaton by its runs, and in a space that has grown.
use Rattle.std.proofs.Common.{◌≡◌, ◌↔◌, ℕ, zero, suc, Bool, true, false, if◌then◌else◌, IsTrue, List, [], ◌∷◌, length, get_or, All, Option, Some, None, inl, inr, refl, sym, ap, ◌∙◌, subst, arith}
use Rattle.std.specs.List.{AllPairs, Any}
use Rattle.std.specs.Option.{MatchOption}
use Rattle.std.proofs.lemmas.Bool.{false≢true, cases_lt}
use Rattle.std.proofs.lemmas.Option.{none-some}
use Rattle.std.proofs.lemmas.List.{get_or_past, get_or_default}
use Rattle.net_model.specs.Automata.{RunsFrom}
use Rattle.node_table.specs.Table.{Bits, Table, value_at, Grows}
use Rattle.bdd_walk.proofs.Lists.{AllPairs-tail}
use Rattle.det_core.specs.declared.det.Move.{Move}
use Rattle.det_core.specs.Automata.{BitWord, State, state_at, target_of, accepts_from, has_word, AreGuardsValid, MeetsRule}
use Rattle.det_core.specs.Languages.{MovesBy, WordsByRuns}
use Rattle.det_core.proofs.Moves.{target-grows, guards-grow}
use Rattle.det_core.proofs.Encodings.{guards-at}

abbrev pub Leads : Table → Bits → List Move → ℕ → Type 0
Leads t bits moves target = Any (λ (m : Move). (value_at t m.guard bits ≡ true) × (m.target ≡ target)) moves

abbrev Disjoint : Table → Bits → List Move → Type 0
Disjoint t bits moves = AllPairs (λ m n. value_at t m.guard bits ≡ true → value_at t n.guard bits ≡ true → ⊥) moves

module _ (t : Table) (bits : Bits) where
  -- the target is that of a move
  pub by-move : (moves : List Move) (j : ℕ) → target_of t moves bits ≡ Some j → Leads t bits moves j
  by-move [] j is = absurd (none-some j is)
  by-move (m ∷ moves) j is = pick (value_at t m.guard bits) refl (by-move moves j) is
    where
      pick : (b : Bool) → value_at t m.guard bits ≡ b → (target_of t moves bits ≡ Some j → Leads t bits moves j) → (if b then Some m.target else target_of t moves bits) ≡ Some j → Leads t bits (m ∷ moves) j
      pick true at later is = (0, m, omega arith, refl, (at, subst (λ (o : Option ℕ). MatchOption o (Unit {0}) (λ k. m.target ≡ k)) is refl))
      pick false at later is = let (k, n, within, here, leads) = later is in (suc k, n, omega (arith, within), here, leads)

  -- and as guards are disjoint, each move that has the letter leads to the target
  to-target : (moves : List Move) (j : ℕ) → Disjoint t bits moves → Leads t bits moves j → target_of t moves bits ≡ Some j
  to-target [] j apart (k, n, within, here, leads) = absurd (omega (arith, within))
  to-target (m ∷ moves) j apart (zero, n, within, here, (at, is)) =
      ap (λ b. if b then Some m.target else target_of t moves bits) (ap (λ (x : Move). value_at t x.guard bits) here ∙ at) ∙ ap Some (ap (λ (x : Move). x.target) here ∙ is)
  to-target (m ∷ moves) j apart (suc k, n, within, here, (at, is)) =
      pick (value_at t m.guard bits) refl (to-target moves j (AllPairs-tail (λ m n. value_at t m.guard bits ≡ true → value_at t n.guard bits ≡ true → ⊥) m moves apart) (k, n, omega (arith, within), here, (at, is)))
    where
      pick : (b : Bool) → value_at t m.guard bits ≡ b → target_of t moves bits ≡ Some j → (if value_at t m.guard bits then Some m.target else target_of t moves bits) ≡ Some j
      pick false first later = ap (λ b. if b then Some m.target else target_of t moves bits) first ∙ later
      pick true first later = absurd (apart 0 (suc k) m (omega arith) within first (ap (λ (x : Move). value_at t x.guard bits) (get_or_default moves k m n (omega (arith, within)) ∙ here) ∙ at))

module _ (t : Table) (letters : Bits → Bool) (det : List State) (rule : MeetsRule t letters det) where
  disjoint-at : (k : ℕ) (bits : Bits) → Disjoint t bits (state_at det k).moves
  disjoint-at k bits = elim (cases_lt k (length det)) [
    | inl less ↦ λ i j d earlier within. (rule k (record { accepting = false; moves = [] }) less).disjoint i j d earlier within bits
    | inr more ↦ subst (λ (s : State). Disjoint t bits s.moves) (sym (get_or_past det k (record { accepting = false; moves = [] }) more)) (λ i j d earlier within. absurd (omega (arith, within)))
  ]

  abbrev Run : ℕ → BitWord → Type 0
  Run k word = RunsFrom (MovesBy t det) (λ k. IsTrue (state_at det k).accepting) k word

  to-run : (word : BitWord) (o : Option ℕ) → accepts_from t det o word ≡ true → (k : ℕ) × (o ≡ Some k) × Run k word
  to-run word None is = absurd (false≢true is)
  to-run [] (Some k) is = (k, refl, is)
  to-run (bits ∷ word) (Some k) is =
      let (j, to, run) = to-run word (target_of t (state_at det k).moves bits) is in
      (k, refl, (j, by-move t bits (state_at det k).moves j to, run))

  from-run : (word : BitWord) (k : ℕ) → Run k word → accepts_from t det (Some k) word ≡ true
  from-run [] k run = run
  from-run (bits ∷ word) k (j, step, run) =
      ap (λ o. accepts_from t det o word) (to-target t bits (state_at det k).moves j (disjoint-at k bits) step) ∙ from-run word j run

  pub words-by-runs : (word : BitWord) → (has_word t det word ≡ true) ↔ WordsByRuns t det word
  words-by-runs word = (
    λ is. let (k, at, run) = to-run word (Some 0) is in (0, refl, subst (λ (o : Option ℕ). MatchOption o (Unit {0}) (λ j. Run j word)) (sym at) run),
    λ (k, first, run). from-run word 0 (subst (λ j. Run j word) first run),
  )

module _ (a b : Table) (grow : Grows a b) (det : List State) (valid : All (λ s. AreGuardsValid a s.moves) det) where
  from-grows : (word : BitWord) (o : Option ℕ) → accepts_from b det o word ≡ accepts_from a det o word
  from-grows word None = refl
  from-grows [] (Some k) = refl
  from-grows (bits ∷ word) (Some k) =
      ap (λ o. accepts_from b det o word) (target-grows a b grow (state_at det k).moves (guards-at a det valid k) bits) ∙ from-grows word (target_of a (state_at det k).moves bits)

  pub words-grow : (word : BitWord) → has_word b det word ≡ has_word a det word
  words-grow word = from-grows word (Some 0)

pub rule-grows : (a b : Table) → Grows a b → (letters : Bits → Bool) (det : List State) → MeetsRule a letters det → MeetsRule b letters det
rule-grows a b grow letters det rule k d within = guards-grow a b grow letters (get_or det k d).moves (rule k d within)
