-- A move more for the letters that have none.
use Rattle.std.proofs.Common.{◌≡◌, ◌+◌, ◌<◌, ◌≤◌, ◌||◌, ◌&&◌, ◌⊎◌, ℕ, Bool, true, false, not, if◌then◌else◌, List, [], ◌∷◌, ◌++◌, length, take, get_or, All, Option, Some, None, inl, inr, refl, sym, ap, ◌∙◌, subst, length-append, arith}
use Rattle.std.specs.List.{AllPairs}
use Rattle.std.proofs.lemmas.Bool.{and_parts, not-true, true≢false, cases_lt}
use Rattle.std.proofs.Math.Bool.{or-false}
use Rattle.std.proofs.lemmas.List.{take_more, get_or_default, get_or_append_left, get_or_past}
use Rattle.std.proofs.Math.Seq.{get_or-append_seam}
use Rattle.std.proofs.lemmas.List.Elements.{All-from_get_or, All-append, All-cons, All-nil, All-tail}
use Rattle.std.proofs.lemmas.List.Folds.{list_any-append, list_any-from_Any}
use Rattle.node_table.specs.Table.{Bits, Table, value_at, IsValid, Grows}
use Rattle.node_table.proofs.Nodes.{value-zero}
use Rattle.node_table.proofs.Growth.{valid-grows}
use Rattle.bdd_ops.specs.Meaning.{StandsFor}
use Rattle.bdd_walk.proofs.Lists.{AllPairs-append}
use Rattle.det_core.specs.declared.det.Move.{Move}
use Rattle.det_core.specs.Automata.{BitWord, State, state_at, accepts_from, has_word, target_of, is_covered, TargetsBelow, AreGuardsValid, AreGuards, Covers, MeetsRule, IsComplete, IsDet}
use Rattle.det_core.specs.Filling.{IsFilled, AreFilled, IsLast, AreCompleted}
use Rattle.det_core.proofs.Moves.{covered-grows, target-grows, guards-grow, target-low}
use Rattle.det_core.proofs.Words.{targets-at}

pub stands-grows : (a b : Table) → Grows a b → (r : ℕ) (meaning : Bits → Bool) → StandsFor a r meaning → StandsFor b r meaning
stands-grows a b grow r meaning s = record { valid = valid-grows a b grow r s.valid; value = λ bits. grow.value r s.valid.held bits ∙ s.value bits }

left-over : (guard v covered : Bool) → (if guard then false else (v && not covered)) ≡ (v && not (covered || guard))
left-over true v true = sym (both v)
  where
    both : (v : Bool) → (v && false) ≡ false
    both true = refl
    both false = refl
left-over true true false = refl
left-over true false false = refl
left-over false v true = refl
left-over false v false = refl

covered-more : (t : Table) (moves : List Move) (m : Move) (bits : Bits) → is_covered t (moves ++ m ∷ []) bits ≡ (is_covered t moves bits || value_at t m.guard bits)
covered-more t moves m bits = list_any-append (λ m. value_at t m.guard bits) moves (m ∷ []) ∙ ap (λ v. is_covered t moves bits || v) (or-false (value_at t m.guard bits))

-- what is left of the letters once one guard more is taken from them
pub rest-next : (a s b : Table) (moves : List Move) (i : ℕ) (m : Move) (valid low rest r : ℕ) → i < length moves → m ≡ get_or moves i m → AreGuardsValid a moves → Grows a s
    → StandsFor s low (λ bits. false) → StandsFor s rest (λ bits. value_at a valid bits && not (is_covered a (take i moves) bits))
    → StandsFor b r (λ bits. if value_at s m.guard bits then value_at s low bits else value_at s rest bits)
    → StandsFor b r (λ bits. value_at a valid bits && not (is_covered a (take (i + 1) moves) bits))
rest-next a s b moves i m valid low rest r less at guards grow zero before chosen =
    let held : IsValid a m.guard = subst (λ (x : Move). IsValid a x.guard) (sym at) (guards i m less) in
    record {
      valid = chosen.valid;
      value = λ bits.
          chosen.value bits
          ∙ (λ j. if grow.value m.guard held.held bits j then zero.value bits j else before.value bits j)
          ∙ left-over (value_at a m.guard bits) (value_at a valid bits) (is_covered a (take i moves) bits)
          ∙ ap (λ c. value_at a valid bits && not c) (sym (ap (λ list. is_covered a list bits) (take_more moves i m less ∙ ap (λ x. take i moves ++ x ∷ []) (sym at)) ∙ covered-more a (take i moves) m bits));
    }

module _ (t : Table) (bits : Bits) (m : Move) where
  -- the target with one move more behind
  pub target-more : (moves : List Move) → (target_of t (moves ++ m ∷ []) bits ≡ target_of t moves bits) ⊎ ((target_of t moves bits ≡ None) × (target_of t (moves ++ m ∷ []) bits ≡ Some m.target))
  target-more [] = pick (value_at t m.guard bits) refl
    where
      pick : (b : Bool) → value_at t m.guard bits ≡ b → (target_of t (m ∷ []) bits ≡ target_of t [] bits) ⊎ ((target_of t [] bits ≡ None) × (target_of t (m ∷ []) bits ≡ Some m.target))
      pick true at = inr (refl, ap (λ b. if b then Some m.target else None) at)
      pick false at = inl (ap (λ b. if b then Some m.target else None) at)
  target-more (first ∷ moves) = through (value_at t first.guard bits) (target-more moves)
    where
      through : (b : Bool) → (target_of t (moves ++ m ∷ []) bits ≡ target_of t moves bits) ⊎ ((target_of t moves bits ≡ None) × (target_of t (moves ++ m ∷ []) bits ≡ Some m.target)) → ((if b then Some first.target else target_of t (moves ++ m ∷ []) bits) ≡ (if b then Some first.target else target_of t moves bits)) ⊎ (((if b then Some first.target else target_of t moves bits) ≡ None) × ((if b then Some first.target else target_of t (moves ++ m ∷ []) bits) ≡ Some m.target))
      through true later = inl refl
      through false later = later

covered-from : (v c : Bool) → v ≡ true → (v && not c) ≡ false → c ≡ true
covered-from v true is none = refl
covered-from true false is none = absurd (true≢false none)
covered-from false false is none = absurd (true≢false (sym is))

covered-at : (t : Table) (moves : List Move) (bits : Bits) (k : ℕ) (d : Move) → k < length moves → value_at t (get_or moves k d).guard bits ≡ true → is_covered t moves bits ≡ true
covered-at t moves bits k d within at = list_any-from_Any (λ m. value_at t m.guard bits) moves (k, get_or moves k d, within, get_or_default moves k (get_or moves k d) d within, at)

All-one : (P : Move → Type 0) (m : Move) → P m → All P (m ∷ [])
All-one P m p = All-cons P m [] p (All-nil P)

pairs-one : (R : Move → Move → Type 0) (m : Move) → AllPairs R (m ∷ [])
pairs-one R m i j d less within = absurd (omega (arith, less, within))

module _ (a b : Table) (grow : Grows a b) (valid rest target : ℕ) (moves : List Move) (guards : AreGuards a (value_at a valid) moves) (low : TargetsBelow target moves)
    (stands : StandsFor b rest (λ bits. value_at a valid bits && not (is_covered a moves bits))) where
  abbrev later : AreGuards b (value_at a valid) moves
  later = guards-grow a b grow (value_at a valid) moves guards

  -- where nothing is left the moves stay as they are
  pub filled-already : rest ≡ 0 → IsFilled a b (value_at a valid) target moves moves false
  filled-already none = record {
    guards = later;
    covers = λ bits letter.
        covered-grows a b grow moves guards.valid bits
        ∙ covered-from (value_at a valid bits) (is_covered a moves bits) letter (sym (stands.value bits) ∙ (λ i. value_at b (none i) bits) ∙ value-zero b.nodes bits);
    targets = low;
    leads = λ bits. inl (target-grows a b grow moves guards.valid bits);
  }

  abbrev more : Move
  more = record { guard = rest; target = target }

  left-parts : (bits : Bits) → value_at b rest bits ≡ true → (value_at a valid bits ≡ true) × (is_covered a moves bits ≡ false)
  left-parts bits at =
      let both = and_parts (value_at a valid bits) (not (is_covered a moves bits)) (sym (stands.value bits) ∙ at) in
      (both.0, not-true (is_covered a moves bits) both.1)

  apart : All (λ m. All (λ n. (bits : Bits) → value_at b m.guard bits ≡ true → value_at b n.guard bits ≡ true → ⊥) (more ∷ [])) moves
  apart k d within =
      All-one (λ n. (bits : Bits) → value_at b (get_or moves k d).guard bits ≡ true → value_at b n.guard bits ≡ true → ⊥) more
      (λ bits one two. true≢false (sym (covered-at b moves bits k d within one) ∙ covered-grows a b grow moves guards.valid bits ∙ (left-parts bits two).1))

  covers-more : (bits : Bits) → value_at a valid bits ≡ true → is_covered b (moves ++ more ∷ []) bits ≡ true
  covers-more bits letter = covered-more b moves more bits ∙ pick (is_covered a moves bits) refl
    where
      pick : (c : Bool) → is_covered a moves bits ≡ c → (is_covered b moves bits || value_at b rest bits) ≡ true
      pick true at = ap (λ c. c || value_at b rest bits) (covered-grows a b grow moves guards.valid bits ∙ at)
      pick false at =
          (λ i. (covered-grows a b grow moves guards.valid bits ∙ at) i || (stands.value bits ∙ (λ j. letter j && not (at j))) i)

  -- and else there is one move more
  pub filled-more : (rest ≡ 0 → ⊥) → IsFilled a b (value_at a valid) target moves (moves ++ more ∷ []) true
  filled-more some = record {
    guards = record {
      valid = All-append (λ m. IsValid b m.guard) moves (more ∷ []) later.valid (All-one (λ m. IsValid b m.guard) more stands.valid);
      some = All-append (λ m. m.guard ≡ 0 → ⊥) moves (more ∷ []) later.some (All-one (λ m. m.guard ≡ 0 → ⊥) more some);
      within = All-append (λ m. (bits : Bits) → value_at b m.guard bits ≡ true → value_at a valid bits ≡ true) moves (more ∷ []) later.within (All-one (λ m. (bits : Bits) → value_at b m.guard bits ≡ true → value_at a valid bits ≡ true) more (λ bits at. (left-parts bits at).0));
      disjoint = AllPairs-append (λ m n. (bits : Bits) → value_at b m.guard bits ≡ true → value_at b n.guard bits ≡ true → ⊥) moves (more ∷ []) later.disjoint (pairs-one (λ m n. (bits : Bits) → value_at b m.guard bits ≡ true → value_at b n.guard bits ≡ true → ⊥) more) apart;
      targets = AllPairs-append (λ m n. m.target ≡ n.target → ⊥) moves (more ∷ []) later.targets (pairs-one (λ m n. m.target ≡ n.target → ⊥) more) (λ k d within. All-one (λ n. (get_or moves k d).target ≡ n.target → ⊥) more (λ same. let less = low k d within in absurd (omega (arith, same, less))));
    };
    covers = covers-more;
    targets = All-append (λ m. m.target < target + 1) moves (more ∷ []) (λ k d within. let less = low k d within in omega (arith, less)) (All-one (λ m. m.target < target + 1) more (omega arith));
    leads = λ bits. elim (target-more b bits more moves) [
      | inl same ↦ inl (same ∙ target-grows a b grow moves guards.valid bits)
      | inr new ↦ inr (sym (target-grows a b grow moves guards.valid bits) ∙ new.0, new.1)
    ];
  }

module _ (t : Table) (valid number : ℕ) (is : IsValid t valid) where
  pub last-none : valid ≡ 0 → IsLast t (value_at t valid) number (record { accepting = false; moves = [] })
  last-none none = record {
    rejects = refl;
    guards = record {
      valid = All-nil (λ m. IsValid t m.guard);
      some = All-nil (λ m. m.guard ≡ 0 → ⊥);
      within = All-nil (λ m. (bits : Bits) → value_at t m.guard bits ≡ true → value_at t valid bits ≡ true);
      disjoint = λ i j d less within. absurd (omega (arith, within));
      targets = λ i j d less within. absurd (omega (arith, within));
    };
    covers = λ bits letter. sym (value-zero t.nodes bits) ∙ (λ i. value_at t (sym none i) bits) ∙ letter;
    targets = All-nil (λ m. m.target ≡ number);
  }

  pub last-one : (valid ≡ 0 → ⊥) → IsLast t (value_at t valid) number (record { accepting = false; moves = record { guard = valid; target = number } ∷ [] })
  last-one some =
      let m : Move = record { guard = valid; target = number } in
      record {
        rejects = refl;
        guards = record {
          valid = All-one (λ m. IsValid t m.guard) m is;
          some = All-one (λ m. m.guard ≡ 0 → ⊥) m some;
          within = All-one (λ m. (bits : Bits) → value_at t m.guard bits ≡ true → value_at t valid bits ≡ true) m (λ bits at. at);
          disjoint = pairs-one (λ m n. (bits : Bits) → value_at t m.guard bits ≡ true → value_at t n.guard bits ≡ true → ⊥) m;
          targets = pairs-one (λ m n. m.target ≡ n.target → ⊥) m;
        };
        covers = λ bits letter. ap (λ v. v || false) letter;
        targets = All-one (λ m. m.target ≡ number) m refl;
      }

-- of a larger table
module _ (a s b : Table) (letters : Bits → Bool) (target : ℕ) (moves filled : List Move) (lacks : Bool) where
  pub filled-grows : Grows s b → IsFilled a s letters target moves filled lacks → IsFilled a b letters target moves filled lacks
  filled-grows grow is = record {
    guards = guards-grow s b grow letters filled is.guards;
    covers = λ bits letter. covered-grows s b grow filled is.guards.valid bits ∙ is.covers bits letter;
    targets = is.targets;
    leads = λ bits. elim (is.leads bits) [
      | inl same ↦ inl (target-grows s b grow filled is.guards.valid bits ∙ same)
      | inr new ↦ inr (new.0, target-grows s b grow filled is.guards.valid bits ∙ new.1)
    ];
  }

  pub filled-before : Grows a s → AreGuardsValid a moves → IsFilled s b letters target moves filled lacks → IsFilled a b letters target moves filled lacks
  filled-before grow valid is = record {
    guards = is.guards;
    covers = is.covers;
    targets = is.targets;
    leads = λ bits. elim (is.leads bits) [
      | inl same ↦ inl (same ∙ target-grows a s grow moves valid bits)
      | inr new ↦ inr (sym (target-grows a s grow moves valid bits) ∙ new.0, new.1)
    ];
  }

state-before : (states : List State) (s : State) (j : ℕ) → j < length states → state_at (states ++ s ∷ []) j ≡ state_at states j
state-before states s j less = get_or_append_left states (s ∷ []) (record { accepting = false; moves = [] }) j less

state-last : (states : List State) (s : State) (j : ℕ) → j ≡ length states → state_at (states ++ s ∷ []) j ≡ s
state-last states s j same = ap (λ k. state_at (states ++ s ∷ []) k) same ∙ get_or-append_seam states s [] (record { accepting = false; moves = [] })

either-left : (x y : Bool) → x ≡ true → (x || y) ≡ true
either-left true y is = refl
either-left false y is = absurd (true≢false (sym is))

either-right : (x y : Bool) → y ≡ true → (x || y) ≡ true
either-right true y is = refl
either-right false y is = is

module _ (a s b : Table) (letters : Bits → Bool) (det : List State) where
  -- one state more is filled
  pub filled-next : (k : ℕ) (done : List State) (lacking lacks : Bool) (state : State) → Grows s b → AreFilled a s letters det k done lacking → state.accepting ≡ (state_at det k).accepting
      → IsFilled a b letters (length det) (state_at det k).moves state.moves lacks → AreFilled a b letters det (k + 1) (done ++ state ∷ []) (lacking || lacks)
  filled-next k done lacking lacks state grow before accepts filled = record {
    len = length-append done (state ∷ []) ∙ ap (λ n. n + 1) before.len;
    accepts = λ j less. elim (cases_lt j k) [
      | inl earlier ↦ ap (λ (x : State). x.accepting) (state-before done state j (omega (arith, before.len, earlier))) ∙ before.accepts j earlier
      | inr later ↦
          let here : j ≡ k = omega (arith, less, later) in
          ap (λ (x : State). x.accepting) (state-last done state j (here ∙ sym before.len)) ∙ accepts ∙ ap (λ i. (state_at det i).accepting) (sym here)
    ];
    fills = λ j less. elim (cases_lt j k) [
      | inl earlier ↦
          let (lacked, told, is) = before.fills j earlier in
          let Filled : State → Type 0 = λ x. IsFilled a b letters (length det) (state_at det j).moves x.moves lacked in
          (lacked, (λ e. either-left lacking lacks (told e)), subst Filled (sym (state-before done state j (omega (arith, before.len, earlier)))) (filled-grows a s b letters (length det) (state_at det j).moves (state_at done j).moves lacked grow is))
      | inr later ↦
          let here : j ≡ k = omega (arith, less, later) in
          let At : ℕ → Type 0 = λ i. IsFilled a b letters (length det) (state_at det i).moves state.moves lacks in
          let Filled : State → Type 0 = λ x. IsFilled a b letters (length det) (state_at det j).moves x.moves lacks in
          (lacks, (λ e. either-right lacking lacks e), subst Filled (sym (state-last done state j (here ∙ sym before.len))) (subst At (sym here) filled))
    ];
  }

module _ (a b : Table) (letters : Bits → Bool) (det done : List State) where
  pub completed-already : AreFilled a b letters det (length det) done false → AreCompleted a b letters det done
  completed-already filled = record { lacking = false; len = filled.len; accepts = filled.accepts; fills = filled.fills; last = λ e. absurd (true≢false (sym e)) }

  pub completed-more : (last : State) → AreFilled a b letters det (length det) done true → IsLast b letters (length det) last → AreCompleted a b letters det (done ++ last ∷ [])
  completed-more last filled is = record {
    lacking = true;
    len = length-append done (last ∷ []) ∙ ap (λ n. n + 1) filled.len;
    accepts = λ j less. ap (λ (x : State). x.accepting) (state-before done last j (omega (arith, filled.len, less))) ∙ filled.accepts j less;
    fills = λ j less.
        let (lacked, told, is) = filled.fills j less in
        let Filled : State → Type 0 = λ x. IsFilled a b letters (length det) (state_at det j).moves x.moves lacked in
        (lacked, told, subst Filled (sym (state-before done last j (omega (arith, filled.len, less)))) is);
    last = λ e. subst (IsLast b letters (length det)) (sym (state-last done last (length det) (sym filled.len))) is;
  }

-- what a completed automaton is
module _ (a b : Table) (letters : Bits → Bool) (det done : List State) (det_is : IsDet det) (c : AreCompleted a b letters det done) where
  abbrev none : State
  none = record { accepting = false; moves = [] }

  by-place : (P : State → Type 0) → ((j : ℕ) → j < length det → P (state_at done j)) → (c.lacking ≡ true → P (state_at done (length det))) → All P done
  by-place P each last = All-from_get_or P done none (λ j within. elim (cases_lt j (length det)) [
    | inl less ↦ each j less
    | inr more ↦ pick c.lacking refl j within more
  ])
    where
      pick : (lacking : Bool) → c.lacking ≡ lacking → (j : ℕ) → j < length done → length det ≤ j → P (state_at done j)
      pick true is j within more = let end : length done ≡ length det + 1 = c.len ∙ ap (λ x. if x then length det + 1 else length det) is in
          let here : j ≡ length det = omega (arith, end, within, more) in subst (λ i. P (state_at done i)) (sym here) (last is)
      pick false is j within more = let end : length done ≡ length det = c.len ∙ ap (λ x. if x then length det + 1 else length det) is in absurd (omega (arith, end, within, more))

  pub completed-rule : MeetsRule b letters done
  completed-rule = by-place (λ s. AreGuards b letters s.moves) (λ j less. (c.fills j less).2.guards) (λ is. (c.last is).guards)

  pub completed-covers : IsComplete b letters done
  completed-covers = by-place (λ s. Covers b letters s.moves) (λ j less. (c.fills j less).2.covers) (λ is. (c.last is).covers)

  pub completed-size : (length det ≤ length done) × (length done ≤ length det + 1)
  completed-size = pick c.lacking c.len
    where
      pick : (lacking : Bool) → length done ≡ (if lacking then length det + 1 else length det) → (length det ≤ length done) × (length done ≤ length det + 1)
      pick true is = (omega (arith, is), omega (arith, is))
      pick false is = (omega (arith, is), omega (arith, is))

  targets-fit : (j : ℕ) → j < length det → TargetsBelow (length done) (state_at done j).moves
  targets-fit j less k m within = let (lacked, told, is) = c.fills j less in pick lacked told (is.targets k m within)
    where
      pick : (lacked : Bool) → (lacked ≡ true → c.lacking ≡ true) → (get_or (state_at done j).moves k m).target < (if lacked then length det + 1 else length det) → (get_or (state_at done j).moves k m).target < length done
      pick true told low = let end : length done ≡ length det + 1 = c.len ∙ ap (λ x. if x then length det + 1 else length det) (told refl) in omega (arith, low, end)
      pick false told low = let size = completed-size.0 in omega (arith, low, size)

  pub completed-det : IsDet done
  completed-det = record {
    some = let size = completed-size.0 in omega (arith, size, det_is.some);
    targets = by-place (λ s. TargetsBelow (length done) s.moves) targets-fit
        (λ is k m within.
        let at = (c.last is).targets k m within in
        let end : length done ≡ length det + 1 = c.len ∙ ap (λ x. if x then length det + 1 else length det) is in
        omega (arith, at, end));
  }

  leads-nowhere-else : (n : ℕ) (bits : Bits) (moves : List Move) → All (λ m. m.target ≡ n) moves → (target_of b moves bits ≡ None) ⊎ (target_of b moves bits ≡ Some n)
  leads-nowhere-else n bits [] all = inl refl
  leads-nowhere-else n bits (m ∷ moves) all = pick (value_at b m.guard bits) (all 0 m (omega arith)) (leads-nowhere-else n bits moves (All-tail (λ m. m.target ≡ n) m moves all))
    where
      pick : (v : Bool) → m.target ≡ n → (target_of b moves bits ≡ None) ⊎ (target_of b moves bits ≡ Some n) → ((if v then Some m.target else target_of b moves bits) ≡ None) ⊎ ((if v then Some m.target else target_of b moves bits) ≡ Some n)
      pick true here later = inr (ap Some here)
      pick false here later = later

  -- the state behind the others, which may not be there
  behind : ((state_at done (length det)).accepting ≡ false) × All (λ m. m.target ≡ length det) (state_at done (length det)).moves
  behind = pick c.lacking refl
    where
      pick : (lacking : Bool) → c.lacking ≡ lacking → ((state_at done (length det)).accepting ≡ false) × All (λ m. m.target ≡ length det) (state_at done (length det)).moves
      pick true is = ((c.last is).rejects, (c.last is).targets)
      pick false is =
          let end : length done ≡ length det = c.len ∙ ap (λ x. if x then length det + 1 else length det) is in
          let past : state_at done (length det) ≡ none = get_or_past done (length det) none (omega (arith, end)) in
          (ap (λ (x : State). x.accepting) past, subst (λ (x : State). All (λ m. m.target ≡ length det) x.moves) (sym past) (All-nil (λ (m : Move). m.target ≡ length det)))

  trapped : (word : BitWord) → accepts_from b done (Some (length det)) word ≡ false
  trapped [] = behind.0
  trapped (bits ∷ word) = elim (leads-nowhere-else (length det) bits (state_at done (length det)).moves behind.1) [
    | inl nowhere ↦ ap (λ o. accepts_from b done o word) nowhere
    | inr there ↦ ap (λ o. accepts_from b done o word) there ∙ trapped word
  ]

  onward : (word : BitWord) → ((j : ℕ) → j < length det → accepts_from b done (Some j) word ≡ accepts_from a det (Some j) word) → (o : Option ℕ) → ((j : ℕ) → o ≡ Some j → j < length det) → accepts_from b done o word ≡ accepts_from a det o word
  onward word same None within = refl
  onward word same (Some j) within = same j (within j refl)

  same-from : (word : BitWord) (j : ℕ) → j < length det → accepts_from b done (Some j) word ≡ accepts_from a det (Some j) word
  same-from [] j less = c.accepts j less
  same-from (bits ∷ word) j less = elim ((c.fills j less).2.leads bits) [
    | inl same ↦
        ap (λ o. accepts_from b done o word) same
        ∙ onward word (same-from word) (target_of a (state_at det j).moves bits) (λ k is. target-low a (length det) k bits (state_at det j).moves (targets-at det j det_is less) is)
    | inr new ↦ ap (λ o. accepts_from b done o word) new.1 ∙ trapped word ∙ sym (ap (λ o. accepts_from a det o word) new.0)
  ]

  -- the words stay
  pub completed-words : (word : BitWord) → has_word b done word ≡ has_word a det word
  completed-words word = same-from word 0 det_is.some
