-- What follows of the states that were reached.
use Rattle.std.proofs.Common.{◌≡◌, ◌+◌, ◌<◌, ◌++◌, ℕ, Bool, true, false, List, [], ◌∷◌, length, get_or, slice_index, refl, sym, ap, ◌∙◌, subst, inl, inr, append_assoc, arith}
use Rattle.std.proofs.lemmas.Bool.{cases_lt, true≢false}
use Rattle.std.proofs.lemmas.List.{append-nil}
use Rattle.node_table.specs.Table.{Bits, Table, value_at}
use Rattle.det_core.specs.declared.det.Move.{Move}
use Rattle.det_core.specs.Automata.{BitWord, AreLetters, State, state_at, has_word, TargetsBelow, MeetsRule}
use Rattle.det_core.proofs.Runs.{words-by-runs}
use Rattle.subset_build.proofs.Values.{some-one}
use Rattle.det_words.specs.Reaching.{HasRunFrom, IsReached, IsAmong, IsTarget, ArePut, IsGoneThrough}
use Rattle.det_words.proofs.Putting.{among-later}

letters-end : (letters : Bits → Bool) (word : BitWord) (bits : Bits) → AreLetters letters word → letters bits ≡ true → AreLetters letters (word ++ bits ∷ [])
letters-end letters [] bits are is = (is, tt)
letters-end letters (first ∷ word) bits are is = (are.0, letters-end letters word bits are.1 is)

abbrev pub AreReached : Table → List State → List ℕ → Type 0
AreReached t det reached = (letters : Bits → Bool) → MeetsRule t letters det → (k : ℕ) → k < length reached → IsReached t letters det (slice_index reached k)

module _ (t : Table) (letters : Bits → Bool) (det : List State) (rule : MeetsRule t letters det) where
  -- a move leads from a state that is reached to one that is
  pub target-reached : (k j target : ℕ) (m : Move) → k < length det → j < length (state_at det k).moves → get_or (state_at det k).moves j m ≡ m → m.target ≡ target → IsReached t letters det k → IsReached t letters det target
  target-reached k j target m less inside here leads is =
      let guards = rule k (record { accepting = false; moves = [] }) less in
      let same : (get_or (state_at det k).moves j m).guard ≡ m.guard = ap (λ (x : Move). x.guard) here in
      let (bits, one) = some-one t (get_or (state_at det k).moves j m).guard (guards.valid j m inside) (guards.some j m inside) in
      record {
        word = is.word ++ bits ∷ [];
        are_letters = letters-end letters is.word bits is.are_letters (guards.within j m inside bits one);
        leads = λ more run.
            let step : HasRunFrom t det k (bits ∷ more) = (target, (j, m, inside, here, (ap (λ g. value_at t g bits) (sym same) ∙ one, leads)), run) in
            subst (λ word. HasRunFrom t det 0 word) (sym (append_assoc is.word (bits ∷ []) more)) (is.leads (bits ∷ more) step);
      }

  -- a state that is reached and accepts gives a word
  pub word-found : (k : ℕ) → IsReached t letters det k → (state_at det k).accepting ≡ true → (word : BitWord) × AreLetters letters word × (has_word t det word ≡ true)
  word-found k is accepts =
      let run : HasRunFrom t det 0 is.word = subst (λ word. HasRunFrom t det 0 word) (append-nil is.word) (is.leads [] accepts) in
      (is.word, is.are_letters, (words-by-runs t letters det rule is.word).1 (0, refl, run))

module _ (t : Table) (det : List State) (reached : List ℕ) (place : ℕ) (gone : IsGoneThrough det place reached) (all : place ≡ length reached) where
  -- once all are gone through, no run from one of them ends in a state that accepts
  pub no-run : (word : BitWord) (k : ℕ) → k < length reached → HasRunFrom t det (slice_index reached k) word → ⊥
  no-run [] k less run = true≢false (sym run ∙ gone.rejects k (omega (arith, less, all)))
  no-run (bits ∷ word) k less (target, (j, m, inside, here, (one, leads)), run) =
      let (i, low, is) = gone.closed k (omega (arith, less, all)) j m inside in
      no-run word i low (subst (λ state. HasRunFrom t det state word) (sym (is ∙ ap (λ (x : Move). x.target) here ∙ leads)) run)

  pub no-word : (letters : Bits → Bool) → MeetsRule t letters det → (word : BitWord) → has_word t det word ≡ true → ⊥
  no-word letters rule word has =
      let (first, is, run) = (words-by-runs t letters det rule word).0 has in
      no-run word 0 gone.some (subst (λ state. HasRunFrom t det state word) (is ∙ sym gone.first) run)

-- one state more
module _ (det : List State) (a b : List ℕ) (place state : ℕ) (moves : List Move) (here : slice_index a place ≡ state) (less : place < length a)
    (own : moves ≡ (state_at det state).moves) (put : ArePut a b moves (length moves)) (gone : IsGoneThrough det place a) where
  pub next-gone : (state_at det state).accepting ≡ false → TargetsBelow (length det) moves → IsGoneThrough det (place + 1) b
  next-gone rejects below = record {
    some = omega (arith, gone.some, put.extends.longer);
    first = put.extends.same 0 gone.some ∙ gone.first;
    states = λ k inside. elim (cases_lt k (length a)) [
      | inl earlier ↦ subst (λ s. s < length det) (sym (put.extends.same k earlier)) (gone.states k earlier)
      | inr later ↦
          let (j, m, low, is, leads) = put.came k later inside in
          subst (λ s. s < length det) (ap (λ (x : Move). x.target) is ∙ leads) (below j m low)
    ];
    within = omega (arith, less, put.extends.longer);
    rejects = λ k low. elim (cases_lt k place) [
      | inl earlier ↦ subst (λ s. (state_at det s).accepting ≡ false) (sym (put.extends.same k (omega (arith, earlier, less)))) (gone.rejects k earlier)
      | inr later ↦
          let this : k ≡ place = omega (arith, low, later) in
          subst (λ s. (state_at det s).accepting ≡ false) (sym (put.extends.same k (omega (arith, this, less)) ∙ ap (slice_index a) this ∙ here)) rejects
    ];
    closed = λ k low. elim (cases_lt k place) [
      | inl earlier ↦
          subst Closed (sym (put.extends.same k (omega (arith, earlier, less)))) (λ j m inside. among-later a b (get_or (state_at det (slice_index a k)).moves j m).target put.extends (gone.closed k earlier j m inside))
      | inr later ↦
          let this : k ≡ place = omega (arith, low, later) in
          subst Closed (sym (put.extends.same k (omega (arith, this, less)) ∙ ap (slice_index a) this ∙ here)) (subst AreAmong own put.all)
    ];
  }
    where
      AreAmong : List Move → Type 0
      AreAmong list = (j : ℕ) (m : Move) → j < length list → IsAmong b (get_or list j m).target

      Closed : ℕ → Type 0
      Closed s = AreAmong (state_at det s).moves

  pub next-reached : (t : Table) → AreReached t det a → AreReached t det b
  next-reached t are letters rule k inside = elim (cases_lt k (length a)) [
    | inl earlier ↦ subst (IsReached t letters det) (sym (put.extends.same k earlier)) (are letters rule k earlier)
    | inr later ↦
        let Target : List Move → Type 0 = λ list. IsTarget list (length list) (slice_index b k) in
        let (j, m, low, is, leads) = subst Target own (put.came k later inside) in
        let inside_det : state < length det = subst (λ s. s < length det) here (gone.states place less) in
        target-reached t letters det rule state j (slice_index b k) m inside_det low is leads (subst (IsReached t letters det) here (are letters rule place less))
  ]
