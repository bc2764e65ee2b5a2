-- Turns by level give a plan that fits.
use Rattle.std.proofs.Common.{◌≡◌, ◌==◌, ◌+◌, ◌<◌, ◌≤◌, ◌⊎◌, ◌&&◌, ◌||◌, ℕ, zero, suc, not, Bool, true, false, if◌then◌else◌, List, [], ◌∷◌, ◌++◌, length, take, drop, set, get_or, get_or-set_same, get_or-set_other, slice_get, slice_index, slice_index_or, flat_map, All, Some, refl, sym, ap, ◌∙◌, subst, inl, inr, append-nil, take_all, drop_of_length-le, arith}
use Rattle.std.proofs.lemmas.Option.{slice_get_within, get_or_from_slice_get}
use Rattle.std.proofs.lemmas.Bool.{true≢false, eqb-true, eq-eqb, ne_eqb, cases_eq, cases_lt, and_parts, and_from, or_left, or_right, not-true, not_from_false}
use Rattle.std.proofs.lemmas.List.{get_or_default, get_or_append_left, get_or_push, length-append}
use Rattle.std.proofs.lemmas.List.Elements.{All-nil, All-append, All-from_get_or}
use Rattle.std.proofs.lemmas.List.Folds.{list_any-append, list_any_at, list_any_more, Any-from_list_any}
use Rattle.node_table.specs.Table.{Table}
use Rattle.bdd_ops.specs.Levels.{is_in, IsSetOf}
use Rattle.bdd_ops.proofs.Members.{same-tests}
use Rattle.part_relation.specs.Plans.{IsFree, Depends, IsLast, Fits, IsArrangement, named_by}
use Rattle.part_relation.specs.Supports.{is_marked, IsSupport, IsTurn, AreTurns, ArePutOff, AreOfTurn}

-- one part more
module _ (t : Table) (parts : List ℕ) (place : ℕ) (marks : List Bool) (support : IsSupport t (slice_index parts place) marks) where
  marked-turn : (level : ℕ) → is_marked marks level ≡ true → IsTurn t parts (place + 1) level (place + 1)
  marked-turn level marked = record {
    within = omega arith;
    here = λ p is. let same : place ≡ p = omega (arith, is) in let P : ℕ → Type 0 = λ k. Depends t (slice_index parts k) level in subst P same (support.depends level marked);
    later = λ p low high. absurd (omega (arith, low, high));
  }

  other-turn : (level turn : ℕ) → is_marked marks level ≡ false → IsTurn t parts place level turn → IsTurn t parts (place + 1) level turn
  other-turn level turn unmarked old = record {
    within = omega (arith, old.within);
    here = old.here;
    later = λ p low high. by p low high (cases_lt p place);
  }
    where
      by : (p : ℕ) → turn ≤ p → p < place + 1 → (p < place) ⊎ (place ≤ p) → IsFree t (slice_index parts p) level
      by p low high (inl before) = old.later p low before
      by p low high (inr here) =
          let same : place ≡ p = omega (arith, high, here) in
          let P : ℕ → Type 0 = λ k. IsFree t (slice_index parts k) level in
          subst P same (support.free level unmarked)

  pub turns-next : (old new : List ℕ) → AreTurns t parts place old → ArePutOff old marks (place + 1) (length marks) new → AreTurns t parts (place + 1) new
  turns-next old new turns put = record {
    len = put.len ∙ turns.len;
    each = λ level within. let there : level < length old = omega (arith, within, put.len) in by level there (is_marked marks level) refl;
  }
    where
      by : (level : ℕ) → level < length old → (b : Bool) → is_marked marks level ≡ b → IsTurn t parts (place + 1) level (slice_index new level)
      by level there true marked =
          let P : ℕ → Type 0 = λ turn. IsTurn t parts (place + 1) level turn in
          subst P (sym (put.within level (omega (arith, there, turns.len, support.len)) ∙ ap (λ b. if b then place + 1 else slice_index old level) marked)) (marked-turn level marked)
      by level there false unmarked =
          let P : ℕ → Type 0 = λ turn. IsTurn t parts (place + 1) level turn in
          subst P (sym (put.within level (omega (arith, there, turns.len, support.len)) ∙ ap (λ b. if b then place + 1 else slice_index old level) unmarked)) (other-turn level (slice_index old level) unmarked (turns.each level there))

-- lists of levels, one after another
all-flat : (P : ℕ → Type 0) (lists : List (List ℕ)) → ((k : ℕ) → k < length lists → All P (slice_index_or lists k [])) → All P (flat_map (λ levels. levels) lists)
all-flat P [] each = All-nil P
all-flat P (levels ∷ lists) each =
    All-append P levels (flat_map (λ levels. levels) lists) (each 0 (omega arith)) (all-flat P lists (λ k within. each (suc k) (omega (arith, within))))

in-flat : (lists : List (List ℕ)) (k level : ℕ) → k < length lists → is_in (slice_index_or lists k []) level ≡ true → is_in (flat_map (λ levels. levels) lists) level ≡ true
in-flat [] k level within is = absurd (omega (arith, within))
in-flat (levels ∷ lists) zero level within is =
    list_any-append (λ l. l == level) levels (flat_map (λ levels. levels) lists) ∙ or_left (is_in levels level) (is_in (flat_map (λ levels. levels) lists) level) is
in-flat (levels ∷ lists) (suc k) level within is =
    list_any-append (λ l. l == level) levels (flat_map (λ levels. levels) lists)
    ∙ or_right (is_in levels level) (is_in (flat_map (λ levels. levels) lists) level) (in-flat lists k level (omega (arith, within)) is)

in-list : (levels : List ℕ) (k d : ℕ) → k < length levels → is_in levels (get_or levels k d) ≡ true
in-list levels k d within = list_any_at (λ l. l == get_or levels k d) levels k d within (eq-eqb (get_or levels k d) (get_or levels k d) refl)

-- what is planned so far
pub record IsDraft (turns : List ℕ) (kept : List Bool) (places : ℕ) (order : List ℕ) (hides : List (List ℕ)) : Type 0 where
  pub order_len : length order ≡ places
  pub order_is : (k : ℕ) → k < places → slice_index order k ≡ k
  pub hides_len : length hides ≡ places
  pub hides_are : (k : ℕ) → k < places → AreOfTurn turns kept (k + 1) (length turns) (slice_index_or hides k [])

-- one place more
pub draft-next : (turns : List ℕ) (kept : List Bool) (place : ℕ) (order more_order levels : List ℕ) (hides more_hides : List (List ℕ)) → IsDraft turns kept place order hides → more_order ≡ order ++ place ∷ [] → more_hides ≡ hides ++ levels ∷ [] → AreOfTurn turns kept (place + 1) (length turns) levels → IsDraft turns kept (place + 1) more_order more_hides
draft-next turns kept place order more_order levels hides more_hides draft order_is hides_is are = record {
  order_len = let same = ap length order_is in omega (arith, same, length-append order (place ∷ []), draft.order_len);
  order_is = λ k low. ap (λ xs. slice_index xs k) order_is ∙ order_at k low (cases_lt k place);
  hides_len = let same = ap length hides_is in omega (arith, same, length-append hides (levels ∷ []), draft.hides_len);
  hides_are = λ k low.
      let P : List (List ℕ) → Type 0 = λ lists. AreOfTurn turns kept (k + 1) (length turns) (slice_index_or lists k []) in
      subst P (sym hides_is) (hides_at k low (cases_lt k place));
}
  where
    order_at : (k : ℕ) → k < place + 1 → (k < place) ⊎ (place ≤ k) → slice_index (order ++ place ∷ []) k ≡ k
    order_at k low (inl before) = get_or_append_left order (place ∷ []) 0 k (omega (arith, before, draft.order_len)) ∙ draft.order_is k before
    order_at k low (inr here) = get_or_push order place 0 k (omega (arith, low, here, draft.order_len)) ∙ omega (arith, low, here)

    hides_at : (k : ℕ) → k < place + 1 → (k < place) ⊎ (place ≤ k) → AreOfTurn turns kept (k + 1) (length turns) (slice_index_or (hides ++ levels ∷ []) k [])
    hides_at k low (inl before) =
        let P : List ℕ → Type 0 = λ list. AreOfTurn turns kept (k + 1) (length turns) list in
        subst P (sym (get_or_append_left hides (levels ∷ []) [] k (omega (arith, before, draft.hides_len)))) (draft.hides_are k before)
    hides_at k low (inr here) =
        let same : place ≡ k = omega (arith, low, here) in
        let P : List ℕ → Type 0 = λ list. AreOfTurn turns kept (k + 1) (length turns) list in
        let Q : ℕ → Type 0 = λ turn. AreOfTurn turns kept (turn + 1) (length turns) levels in
        subst P (sym (get_or_push hides levels [] k (omega (arith, same, draft.hides_len)))) (subst Q same are)

module _ (t : Table) (parts turns : List ℕ) (kept : List Bool) (given : AreTurns t parts (length parts) turns) where
  -- a level of this turn
  record IsOf (turn level : ℕ) : Type 0 where
    pub exists : level < t.levels
    pub at : slice_index turns level ≡ turn
    pub hidden : is_marked kept level ≡ false

  of-turn : (turn : ℕ) (levels : List ℕ) → AreOfTurn turns kept turn (length turns) levels → All (IsOf turn) levels
  of-turn turn levels are k d within = by (get_or levels k d) (in-list levels k d within) (cases_lt (get_or levels k d) (length turns))
    where
      by : (level : ℕ) → is_in levels level ≡ true → (level < length turns) ⊎ (length turns ≤ level) → IsOf turn level
      by level is (inl inside) =
          let both = and_parts (slice_index turns level == turn) (not (is_marked kept level)) (sym (are.within level inside) ∙ is) in
          record {
            exists = omega (arith, inside, given.len);
            at = eqb-true (slice_index turns level) turn both.0;
            hidden = not-true (is_marked kept level) both.1;
          }
      by level is (inr outside) = absurd (true≢false (sym is ∙ are.beyond level outside))

  module _ (order first : List ℕ) (hides : List (List ℕ)) (first_is : AreOfTurn turns kept 0 (length turns) first) (draft : IsDraft turns kept (length parts) order hides) where
    arranged : IsArrangement (length parts) order
    arranged = record {
      len = draft.order_len;
      below = All-from_get_or (λ k. k < length parts) order 0 (λ k within. let at : k < length parts = omega (arith, within, draft.order_len) in let is = draft.order_is k at in omega (arith, is, at));
      different = λ j k d less within same.
          let high : k < length parts = omega (arith, within, draft.order_len) in
          let low : j < length parts = omega (arith, less, high) in
          let first_at = get_or_default order j d 0 (omega (arith, less, within)) ∙ draft.order_is j low in
          let second_at = get_or_default order k d 0 within ∙ draft.order_is k high in
          let equal : j ≡ k = sym first_at ∙ same ∙ second_at in
          omega (arith, equal, less);
    }

    first-free : (level : ℕ) → IsOf 0 level → All (λ part. IsFree t part level) parts
    first-free level of =
        let turn = given.each level (omega (arith, of.exists, given.len)) in
        All-from_get_or (λ part. IsFree t part level) parts 0 (λ place within. turn.later place (omega (arith, of.at)) within)

    last-part : (place : ℕ) → place < length parts → (level : ℕ) → IsOf (place + 1) level → IsLast t parts (record { order = order; first = first; hides = hides }) place level
    last-part place within level of = record {
      here = let P : ℕ → Type 0 = λ k. Depends t (slice_index parts k) level in subst P (sym (draft.order_is place within)) (turn.here place (omega (arith, of.at)));
      later = λ next more low.
          let at : next < length parts = omega (arith, low, draft.order_len) in
          let P : ℕ → Type 0 = λ k. IsFree t (slice_index parts k) level in
          subst P (sym (draft.order_is next at)) (turn.later next (omega (arith, more, of.at)) at);
    }
      where
        turn : IsTurn t parts (length parts) level (slice_index turns level)
        turn = given.each level (omega (arith, of.exists, given.len))

    -- what holds of each level that is named
    named : (P : ℕ → Type 0) → ((turn level : ℕ) → IsOf turn level → P level) → All P (named_by (record { order = order; first = first; hides = hides }))
    named P each =
        All-append P first (flat_map (λ levels. levels) hides)
        (λ k d within. each 0 (get_or first k d) (of-turn 0 first first_is k d within))
        (all-flat P hides
        (λ place at k d within. each (place + 1) (get_or (slice_index_or hides place []) k d) (of-turn (place + 1) (slice_index_or hides place []) (draft.hides_are place (omega (arith, at, draft.hides_len))) k d within)))

    pub draft-fits : Fits t parts (record { order = order; first = first; hides = hides })
    draft-fits = record {
      order = arranged;
      places = draft.hides_len ∙ sym draft.order_len;
      exist = named (λ level. level < t.levels) (λ turn level of. of.exists);
      first = λ k d within. first-free (get_or first k d) (of-turn 0 first first_is k d within);
      last = λ place at k d within.
          let low : place < length parts = omega (arith, at, draft.hides_len) in
          last-part place low (get_or (slice_index_or hides place []) k d) (of-turn (place + 1) (slice_index_or hides place []) (draft.hides_are place low) k d within);
    }

    module _ (level : ℕ) (exists : level < t.levels) where
      inside : level < length turns
      inside = omega (arith, exists, given.len)

      named-hidden : is_in (named_by (record { order = order; first = first; hides = hides })) level ≡ true → is_marked kept level ≡ false
      named-hidden is =
          let any = Any-from_list_any (λ l. l == level) (named_by (record { order = order; first = first; hides = hides })) is in
          let same : any.1 ≡ level = eqb-true any.1 level any.4 in
          let P : ℕ → Type 0 = λ l. is_marked kept l ≡ false in
          subst P (any.3 ∙ same) (named P (λ turn l of. of.hidden) any.0 any.1 any.2)

      hidden-named : is_marked kept level ≡ false → is_in (named_by (record { order = order; first = first; hides = hides })) level ≡ true
      hidden-named out = by (slice_index turns level) refl
        where
          in-turn : (turn : ℕ) → slice_index turns level ≡ turn → ((slice_index turns level == turn) && not (is_marked kept level)) ≡ true
          in-turn turn at =
              and_from (slice_index turns level == turn) (not (is_marked kept level)) (eq-eqb (slice_index turns level) turn at) (not_from_false (is_marked kept level) out)

          by : (turn : ℕ) → slice_index turns level ≡ turn → is_in (first ++ flat_map (λ levels. levels) hides) level ≡ true
          by zero at =
              list_any-append (λ l. l == level) first (flat_map (λ levels. levels) hides)
              ∙ or_left (is_in first level) (is_in (flat_map (λ levels. levels) hides) level) (first_is.within level inside ∙ in-turn 0 at)
          by (suc place) at =
              let bound = (given.each level inside).within in
              let low : place < length parts = omega (arith, bound, at) in
              let next : slice_index turns level ≡ place + 1 = omega (arith, at) in
              list_any-append (λ l. l == level) first (flat_map (λ levels. levels) hides)
              ∙ or_right (is_in first level) (is_in (flat_map (λ levels. levels) hides) level)
              (in-flat hides place level (omega (arith, low, draft.hides_len)) ((draft.hides_are place low).within level inside ∙ in-turn (place + 1) next))

      pub draft-names : is_in (named_by (record { order = order; first = first; hides = hides })) level ≡ not (is_marked kept level)
      draft-names =
          same-tests (is_in (named_by (record { order = order; first = first; hides = hides })) level) (not (is_marked kept level))
          (λ is. not_from_false (is_marked kept level) (named-hidden is))
          (λ out. hidden-named (not-true (is_marked kept level) out))

-- as a set
pub set-of-turn : (turns : List ℕ) (kept : List Bool) (turn n : ℕ) (levels given set : List ℕ) → n ≡ length turns → given ≡ levels → AreOfTurn turns kept turn n levels → IsSetOf given set → AreOfTurn turns kept turn (length turns) set
set-of-turn turns kept turn n levels given set is same are made = record {
  within = λ level low. made.same level ∙ ap (λ l. is_in l level) same ∙ are.within level (omega (arith, is, low));
  beyond = λ level high. made.same level ∙ ap (λ l. is_in l level) same ∙ are.beyond level (omega (arith, is, high));
}

or-none : (b : Bool) → (b || false) ≡ b
or-none true = refl
or-none false = refl

-- one level more is marked
pub marked-more : (levels : List ℕ) (marks : List Bool) (k at : ℕ) → slice_get levels k ≡ Some at → at < length marks → ((level : ℕ) → is_marked marks level ≡ is_in (take k levels) level) → (level : ℕ) → is_marked (set marks at true) level ≡ is_in (take (k + 1) levels) level
marked-more levels marks k at is exists before level = by (cases_eq level at) ∙ sym (list_any_more (λ l. l == level) levels k 0 (slice_get_within levels k at is))
  where
    here : get_or levels k 0 ≡ at
    here = get_or_from_slice_get levels k at 0 is

    by : (level ≡ at) ⊎ (level ≡ at → ⊥) → is_marked (set marks at true) level ≡ (is_in (take k levels) level || (get_or levels k 0 == level))
    by (inl same) =
        ap (is_marked (set marks at true)) same
        ∙ get_or-set_same marks at true false exists
        ∙ sym (or_right (is_in (take k levels) level) (get_or levels k 0 == level) (eq-eqb (get_or levels k 0) level (here ∙ sym same)))
    by (inr other) =
        get_or-set_other marks at level true false other
        ∙ before level
        ∙ sym (or-none (is_in (take k levels) level))
        ∙ ap (λ b. is_in (take k levels) level || b) (sym (ne_eqb (get_or levels k 0) level (λ e. other (sym e ∙ here))))

-- a list that was written through a slice of all of it
pub whole : (n : ℕ) (new old : List ℕ) → length new ≡ length old → n ≡ length old → take n (new ++ drop (length new) old) ≡ new
whole n new old same is =
    ap (λ rest. take n (new ++ rest)) (drop_of_length-le old (omega (arith, same))) ∙ ap (take n) (append-nil new) ∙ take_all n new (omega (arith, same, is))

-- what holds of given levels holds of them as a set
pub all-in-set : (P : ℕ → Type 0) (given set : List ℕ) → IsSetOf given set → All P given → All P set
all-in-set P given set made all k d within =
    let any = Any-from_list_any (λ l. l == get_or set k d) given (sym (made.same (get_or set k d)) ∙ in-list set k d within) in
    subst P (any.3 ∙ eqb-true any.1 (get_or set k d) any.4) (all any.0 any.1 any.2)
