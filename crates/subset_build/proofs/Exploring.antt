-- The sets found so far and the states made of them, one state more at a time.
use Rattle.std.proofs.Common.{◌≡◌, ◌<◌, ◌≤◌, ◌++◌, ◌↔◌, ℕ, Bool, true, false, List, [], ◌∷◌, length, slice_index, slice_get, get_or, All, Some, None, refl, sym, ap, ◌∙◌, subst, inl, inr, length-append, arith}
use Rattle.std.proofs.Math.Seq.{get_or-append_seam}
use Rattle.std.proofs.lemmas.Bool.{cases_lt}
use Rattle.std.proofs.lemmas.Option.{slice_get_within, slice_get-get_or, get_or_from_slice_get, none-some}
use Rattle.std.proofs.lemmas.List.{get_or_append_left}
use Rattle.std.proofs.lemmas.List.Elements.{All-from_get_or}
use Rattle.net_model.specs.Automata.{RunsFrom}
use Rattle.node_table.specs.Table.{Bits, Table, value_at, Grows}
use Rattle.bdd_ops.specs.Meaning.{DependsOn}
use Rattle.bdd_ops.proofs.Renamed.{depends-grows}
use Rattle.det_core.specs.declared.det.Move.{Move}
use Rattle.det_core.specs.Automata.{BitWord, AreLetters, State, state_at, target_of, accepts_from, has_word, TargetsBelow, IsDet, AreGuards, Covers, MeetsRule, IsComplete, ReadsAlone}
use Rattle.det_core.proofs.Moves.{goes, covered-grows, guards-grow}
use Rattle.det_core.proofs.Runs.{by-move}
use Rattle.subset_build.specs.Relations.{Relation, StepsBy, HasRun, present_of, Reads}
use Rattle.subset_build.specs.Tables.{Extends, IsPlaced}
use Rattle.subset_build.specs.Subsets.{IsNext, IsState, AreNextOf, AreSets, AreStates, IsExplored}
use Rattle.subset_build.specs.declared.prepared.Prepared.{Prepared}
use Rattle.subset_build.specs.Preparing.{IsGround, IsGroundOf}
use Rattle.subset_build.proofs.Making.{reads-grow, ground-grows}
use Rattle.node_table.specs.declared.space.MkFault.{MkFault}
use Rattle.node_table.specs.declared.space.MkFault.TheVariants as mk
use Rattle.det_core.specs.declared.fault.SolveFault.{SolveFault}
use Rattle.det_core.specs.Faults.{IsStopped, IsLimit}

module _ (a b : Table) (grow : Grows a b) (rel : Relation) (letters : Bits → Bool) (sets more : List ℕ) (ext : Extends sets more) (are : AreSets a rel letters sets) where
  -- a set is the same function as before
  set-same : (k : ℕ) → k < length sets → value_at a (slice_index sets k) ≡ value_at b (slice_index more k)
  set-same k less i q = sym (ap (λ r. value_at b r q) (ext.same k less) ∙ grow.value (slice_index sets k) (are.each k less).valid.held q) i

  next-same : (j k : ℕ) (letter : Bits) → j < length sets → k < length sets → IsNext rel (value_at a (slice_index sets j)) letter (value_at a (slice_index sets k)) → IsNext rel (value_at b (slice_index more j)) letter (value_at b (slice_index more k))
  next-same j k letter one two is = subst (λ (from : Bits → Bool). IsNext rel from letter (value_at b (slice_index more k))) (set-same j one) (subst (λ (to : Bits → Bool). IsNext rel (value_at a (slice_index sets j)) letter to) (set-same k two) is)

  pub state-grows : (k : ℕ) (s : State) → k < length sets → IsState a rel letters sets k s → IsState b rel letters more k s
  state-grows k s less is = record {
    accepts = λ yes. let (q, one, two) = is.accepts yes in (q, (λ i. sym (set-same k less) i q) ∙ one, two);
    accepted = λ q one two. is.accepted q ((λ i. set-same k less i q) ∙ one) two;
    guards = guards-grow a b grow letters s.moves is.guards;
    depends = λ j m within. depends-grows a b grow rel.keep (get_or s.moves j m).guard (is.guards.valid j m within) (is.depends j m within);
    covers = λ bits letter. covered-grows a b grow s.moves is.guards.valid bits ∙ is.covers bits letter;
    within = λ j m within. let low = is.within j m within in omega (arith, low, ext.longer);
    leads = λ j m within letter one.
        let guard = is.guards.valid j m within in
        next-same k (get_or s.moves j m).target letter less (is.within j m within) (is.leads j m within letter (sym (grow.value (get_or s.moves j m).guard guard.held letter) ∙ one));
  }

  pub sets-next : (k : ℕ) → k < length sets → AreNextOf b rel letters (value_at a (slice_index sets k)) sets more → AreSets b rel letters more
  sets-next k less came = record {
    some = omega (arith, are.some, ext.longer);
    first = λ q. (λ i. sym (set-same 0 are.some) i q) ∙ are.first q;
    each = λ j within. elim (cases_lt j (length sets)) [
      | inl earlier ↦ subst (λ r. Reads b (present_of rel.state) r) (sym (ext.same j earlier)) (reads-grow a b grow (present_of rel.state) (slice_index sets j) (are.each j earlier))
      | inr later ↦ (came j later within).is_set
    ];
    reached = λ j some within. elim (cases_lt j (length sets)) [
      | inl earlier ↦
          let is = are.reached j some earlier in
          record { from = is.from; earlier = is.earlier; letter = is.letter; is_letter = is.is_letter; next = next-same is.from j is.letter (omega (arith, earlier, is.earlier)) earlier is.next }
      | inr later ↦
          let is = came j later within in
          record {
            from = k;
            earlier = omega (arith, less, later);
            letter = is.letter;
            is_letter = is.is_letter;
            next = subst (λ (from : Bits → Bool). IsNext rel from is.letter (value_at b (slice_index more j))) (set-same k less) is.next;
          }
    ];
  }

  pub states-next : (states : List State) (s : State) → length states < length sets → AreStates a rel letters sets states → IsState b rel letters more (length states) s → AreStates b rel letters more (states ++ s ∷ [])
  states-next states s room before is = record {
    made = let len = length-append states (s ∷ []) in omega (arith, room, ext.longer, len);
    each = λ k less. elim (cases_lt k (length states)) [
      | inl earlier ↦
          subst (IsState b rel letters more k) (sym (get_or_append_left states (s ∷ []) (record { accepting = false; moves = [] }) k earlier))
          (state-grows k (state_at states k) (omega (arith, earlier, before.made)) (before.each k earlier))
      | inr later ↦
          let here : k ≡ length states = (let len = length-append states (s ∷ []) in omega (arith, less, later, len)) in
          let last : state_at (states ++ s ∷ []) k ≡ s = ap (λ i. state_at (states ++ s ∷ []) i) here ∙ get_or-append_seam states s [] (record { accepting = false; moves = [] }) in
          subst (IsState b rel letters more k) (sym last) (subst (λ i. IsState b rel letters more i s) (sym here) is)
    ];
  }

-- the first set
pub sets-first : (t : Table) (rel : Relation) (letters : Bits → Bool) (sets : List ℕ) (init place : ℕ) → Reads t (present_of rel.state) init → ((q : Bits) → value_at t init q ≡ rel.init q) → IsPlaced [] sets init place → AreSets t rel letters sets
sets-first t rel letters sets init place reads is placed =
    let some : 0 < length sets = omega (arith, placed.within) in
    record {
      some = some;
      first = λ q. ap (λ r. value_at t r q) (placed.only 0 (omega arith) some) ∙ is q;
      each = λ k within. subst (λ r. Reads t (present_of rel.state) r) (sym (placed.only k (omega arith) within)) reads;
      reached = λ k later within. absurd (omega (arith, later, within, placed.few));
    }

module _ (t : Table) (rel : Relation) (letters : Bits → Bool) (states : List State) (is : IsExplored t rel letters states) where
  abbrev sets : List ℕ
  sets = is.sets

  abbrev no_state : State
  no_state = record { accepting = false; moves = [] }

  by-state : (P : State → Type 0) → ((k : ℕ) → IsState t rel letters sets k (state_at states k) → P (state_at states k)) → All P states
  by-state P each = All-from_get_or P states no_state (λ k within. each k (is.are_states.each k within))

  pub explored-det : IsDet states
  explored-det = record {
    some = omega (arith, is.are_sets.some, is.all);
    targets = by-state (λ s. TargetsBelow (length states) s.moves) (λ k state j m within. let low = state.within j m within in omega (arith, low, is.all));
  }

  pub explored-rule : MeetsRule t letters states
  explored-rule = by-state (λ s. AreGuards t letters s.moves) (λ k state. state.guards)

  pub explored-covers : IsComplete t letters states
  explored-covers = by-state (λ s. Covers t letters s.moves) (λ k state. state.covers)

  pub explored-reads : ReadsAlone t rel.keep states
  explored-reads = by-state (λ s. All (λ m. DependsOn t rel.keep m.guard) s.moves) (λ k state. state.depends)

  -- a letter leads to the set of all states that steps reach
  step-from : (k : ℕ) (a : Bits) → k < length states → letters a ≡ true → (j : ℕ) × (target_of t (state_at states k).moves a ≡ Some j) × (j < length states) × IsNext rel (value_at t (slice_index sets k)) a (value_at t (slice_index sets j))
  step-from k a less letter =
      let state = is.are_states.each k less in
      let (j, to, low) = goes t (length sets) a (state_at states k).moves state.within (state.covers a letter) in
      let (i, m, inside, here, (one, target)) = by-move t a (state_at states k).moves j to in
      let next = state.leads i m inside a (ap (λ (x : Move). value_at t x.guard a) here ∙ one) in
      (j, to, omega (arith, low, is.all), subst (λ n. IsNext rel (value_at t (slice_index sets k)) a (value_at t (slice_index sets n))) (ap (λ (x : Move). x.target) here ∙ target) next)

  abbrev Run : Bits → BitWord → Type 0
  Run q word = RunsFrom (StepsBy rel) (λ r. rel.acc r ≡ true) q word

  run-from : (word : BitWord) (k : ℕ) → k < length states → AreLetters letters word → accepts_from t states (Some k) word ≡ true → (q : Bits) × (value_at t (slice_index sets k) q ≡ true) × Run q word
  run-from [] k less fits accepted = (is.are_states.each k less).accepts accepted
  run-from (a ∷ word) k less fits accepted =
      let (j, to, low, next) = step-from k a less fits.0 in
      let (r, there, run) = run-from word j low fits.1 (sym (ap (λ o. accepts_from t states o word) to) ∙ accepted) in
      let (q, here, step) = next.found r there in
      (q, here, (r, step, run))

  from-run : (word : BitWord) (k : ℕ) → k < length states → AreLetters letters word → (q : Bits) → value_at t (slice_index sets k) q ≡ true → Run q word → accepts_from t states (Some k) word ≡ true
  from-run [] k less fits q here run = (is.are_states.each k less).accepted q here run
  from-run (a ∷ word) k less fits q here (r, step, run) =
      let (j, to, low, next) = step-from k a less fits.0 in
      ap (λ o. accepts_from t states o word) to ∙ from-run word j low fits.1 r (next.has q r here step) run

  -- the words are those of the relation
  pub explored-words : (word : BitWord) → AreLetters letters word → (has_word t states word ≡ true) ↔ HasRun rel word
  explored-words word fits =
      let some : 0 < length states = omega (arith, is.are_sets.some, is.all) in (
        λ yes. let (q, here, run) = run-from word 0 some fits yes in (q, sym (is.are_sets.first q) ∙ here, run),
        λ (q, init, run). from-run word 0 some fits q (is.are_sets.first q ∙ init) run,
      )

-- why work ends early
pub limit-from : (t : Table) (fault : MkFault) (states : ℕ) (result : SolveFault) (Counted : ℕ → Type 0) → IsStopped t fault states result → (fault ≡ mk.Full → length t.nodes ≡ t.limit) → Counted states → IsLimit t Counted result
limit-from t mk.Full states result Counted is full counted = subst (IsLimit t Counted) (sym is) (refl, full refl, counted)
limit-from t mk.Memory states result Counted is full counted = subst (IsLimit t Counted) (sym is) tt

-- One turn: the state of the first set that has none, in a space s that has grown from a, and the space b after it.
module _ (a s b : Table) (rel : Relation) (parts : List ℕ) (p : Prepared) (init acc valid set : ℕ) (ground : IsGround a parts p init acc valid rel)
    (grow : Grows a s) (same : s.levels ≡ a.levels) (sets : List ℕ) (states : List State) (are : AreSets s rel (value_at a valid) sets) (at : slice_get sets (length states) ≡ Some set) where
  abbrev k : ℕ
  k = length states

  turn-room : k < length sets
  turn-room = slice_get_within sets k set at

  turn-here : slice_index sets k ≡ set
  turn-here = get_or_from_slice_get sets k set 0 at

  pub turn-ground : IsGroundOf s parts p acc valid rel
  turn-ground = ground-grows a s grow same parts p rel acc valid ground.ground

  pub turn-set : Reads s (present_of rel.state) set
  turn-set = subst (λ r. Reads s (present_of rel.state) r) turn-here (are.each k turn-room)

  turn-letters : value_at s valid ≡ value_at a valid
  turn-letters i u = grow.value valid ground.ground.letters.valid.held u i

  module _ (grow2 : Grows s b) (more : List ℕ) (ext : Extends sets more) where
    pub turn-sets : AreNextOf b rel (value_at s valid) (value_at s set) sets more → AreSets b rel (value_at a valid) more
    turn-sets came =
        sets-next s b grow2 rel (value_at a valid) sets more ext are k turn-room
        (subst (λ (letters : Bits → Bool). AreNextOf b rel letters (value_at s (slice_index sets k)) sets more) turn-letters
        (subst (λ r. AreNextOf b rel (value_at s valid) (value_at s r) sets more) (sym turn-here) came))

    pub turn-index : slice_index more k ≡ set
    turn-index = ext.same k turn-room ∙ turn-here

    pub turn-states : (state : State) → AreStates s rel (value_at a valid) sets states → IsState b rel (value_at s valid) more k state → AreStates b rel (value_at a valid) more (states ++ state ∷ [])
    turn-states state before is =
        states-next s b grow2 rel (value_at a valid) sets more ext are states state turn-room before (subst (λ (letters : Bits → Bool). IsState b rel letters more k state) turn-letters is)

-- no set is left without a state
pub all-made : (sets : List ℕ) (n : ℕ) → n ≤ length sets → slice_get sets n ≡ None → n ≡ length sets
all-made sets n few none = elim (cases_lt n (length sets)) [
  | inl less ↦ absurd (none-some (get_or sets n 0) (sym none ∙ slice_get-get_or sets n 0 less))
  | inr more ↦ omega (arith, few, more)
]
