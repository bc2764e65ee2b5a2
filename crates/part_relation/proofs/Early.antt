-- Hiding early: a part that is free of the hidden levels may be conjoined once they are hidden.
use Rattle.std.proofs.Common.{◌≡◌, ◌==◌, ◌+◌, ◌<◌, ◌≤◌, ◌&&◌, ℕ, zero, suc, Bool, true, false, if◌then◌else◌, List, [], ◌++◌, length, take, get_or, slice_index, slice_index_or, flat_map, All, refl, sym, ap, ◌∙◌, subst, append-nil, take-suc, arith}
use Rattle.std.specs.List.{list_all}
use Rattle.std.proofs.Math.Bool.{and_assoc, and-true}
use Rattle.std.proofs.lemmas.Bool.{and_parts, and_from, or_parts, or_from, eqb-true}
use Rattle.std.proofs.lemmas.List.{flat_map_more, take_more, take_all}
use Rattle.std.proofs.lemmas.List.Elements.{All-nil, All-append, All-same, All-from_get_or}
use Rattle.std.proofs.lemmas.List.Folds.{list_any-append, list_all_more, Any-from_list_any}
use Rattle.std.proofs.lemmas.List.Sums.{AllPass-from_list_all, list_all-from_AllPass}
use Rattle.node_table.specs.Table.{Bits, Table, value_at, Grows}
use Rattle.node_table.proofs.Growth.{grows-trans}
use Rattle.bdd_ops.specs.Levels.{is_in, SameOutside}
use Rattle.bdd_ops.specs.Meaning.{HasSome, StandsForHidden, IsShort}
use Rattle.bdd_ops.proofs.Members.{same-tests}
use Rattle.bdd_ops.proofs.Short.{short-same}
use Rattle.part_relation.specs.Plans.{Plan, AreValid, IsFree, Fits, all_hold, named_by, part_at, hidden_before, meaning_before, IsShortAt}
use Rattle.part_relation.proofs.Free.{free-all}
use Rattle.part_relation.proofs.Orders.{order-covers}

-- another word for the same meaning
stands-same : (t : Table) (r : ℕ) (levels : List ℕ) (meaning other : Bits → Bool) → ((bits : Bits) → meaning bits ≡ other bits) → StandsForHidden t r levels meaning → StandsForHidden t r levels other
stands-same t r levels meaning other same s = record {
  valid = s.valid;
  found = λ bits is. let some = s.found bits is in (some.0, some.1, sym (same some.0) ∙ some.2);
  holds = λ bits some. s.holds bits (some.0, some.1, same some.0 ∙ some.2);
}

module _ (hidden more : List ℕ) where
  parted : (k : ℕ) → is_in (hidden ++ more) k ≡ false → (is_in hidden k ≡ false) × (is_in more k ≡ false)
  parted k out = or_parts (is_in hidden k) (is_in more k) (sym (list_any-append (λ l. l == k) hidden more) ∙ out)

  joined : (k : ℕ) → is_in hidden k ≡ false → is_in more k ≡ false → is_in (hidden ++ more) k ≡ false
  joined k out also = list_any-append (λ l. l == k) hidden more ∙ or_from (is_in hidden k) (is_in more k) out also

  module _ (meaning part left : Bits → Bool) (free : (u v : Bits) → SameOutside hidden u v → part u ≡ part v) where
    -- where the rest has a value with some bits hidden, so has the whole
    early-found : ((bits : Bits) → left bits ≡ true → HasSome hidden meaning bits) → (bits : Bits) → HasSome more (λ u. left u && part u) bits → HasSome (hidden ++ more) (λ u. meaning u && part u) bits
    early-found found bits some =
        let both = and_parts (left some.0) (part some.0) some.2 in
        let before = found some.0 both.0 in (
          before.0,
          λ k out. before.1 k (parted k out).0 ∙ some.1 k (parted k out).1,
          and_from (meaning before.0) (part before.0) before.2 (free before.0 some.0 before.1 ∙ both.1),
        )

    early-holds : ((bits : Bits) → HasSome hidden meaning bits → left bits ≡ true) → (bits : Bits) → HasSome (hidden ++ more) (λ u. meaning u && part u) bits → HasSome more (λ u. left u && part u) bits
    early-holds holds bits some =
        let both = and_parts (meaning some.0) (part some.0) some.2 in
        (between, λ k out. inside (is_in hidden k) k refl out, and_from (left between) (part between) (holds between (some.0, apart, both.0)) (sym (free some.0 between apart) ∙ both.1))
      where
        between : Bits
        between = λ k. if is_in hidden k then bits k else some.0 k

        apart : SameOutside hidden some.0 between
        apart k out = ap (λ b. if b then bits k else some.0 k) (sym out)

        inside : (b : Bool) (k : ℕ) → is_in hidden k ≡ b → is_in more k ≡ false → (if b then bits k else some.0 k) ≡ bits k
        inside true k at out = refl
        inside false k at out = some.1 k (joined k at out)

-- the ref stands for what is left before the part in this place is taken
pub record IsTaken (t s : Table) (parts : List ℕ) (plan : Plan) (from place r : ℕ) : Type 0 where
  pub stands : StandsForHidden s r (hidden_before plan place) (meaning_before t parts plan from place)
  pub grows : Grows t s
  pub levels : s.levels ≡ t.levels

module _ (t : Table) (parts : List ℕ) (plan : Plan) (from : ℕ) (fits : Fits t parts plan) where
  pub taken-first : (s : Table) (r : ℕ) → StandsForHidden s r plan.first (λ bits. value_at t from bits) → Grows t s → s.levels ≡ t.levels → IsTaken t s parts plan from 0 r
  taken-first s r stands grows levels = record {
    stands =
        let P : List ℕ → Type 0 = λ hidden. StandsForHidden s r hidden (meaning_before t parts plan from 0) in
        subst P (sym (append-nil plan.first)) (stands-same s r plan.first (λ bits. value_at t from bits) (meaning_before t parts plan from 0) (λ bits. sym (and-true (value_at t from bits))) stands);
    grows = grows;
    levels = levels;
  }

  module _ (place : ℕ) (within : place < length plan.order) where
    first-free : All (IsFree t (part_at parts plan place)) plan.first
    first-free k d at = fits.first k d at (slice_index plan.order place) 0 (fits.order.below place 0 within)

    later-free : (i : ℕ) → i ≤ place → All (IsFree t (part_at parts plan place)) (flat_map (λ levels. levels) (take i plan.hides))
    later-free zero low = All-nil (IsFree t (part_at parts plan place))
    later-free (suc i) low =
        let at : i < length plan.hides = omega (arith, low, within, fits.places) in
        All-same (IsFree t (part_at parts plan place)) (flat_map (λ levels. levels) (take (suc i) plan.hides)) (flat_map (λ levels. levels) (take i plan.hides) ++ get_or plan.hides i [])
        (ap (λ taken. flat_map (λ levels. levels) taken) (take-suc plan.hides i [] at) ∙ sym (flat_map_more (λ levels. levels) [] (take i plan.hides) (get_or plan.hides i [])))
        (All-append (IsFree t (part_at parts plan place)) (flat_map (λ levels. levels) (take i plan.hides)) (get_or plan.hides i [])
        (later-free i (omega (arith, low)))
        (λ k d there. (fits.last i at k d there).later place (omega (arith, low)) within))

    all-free : All (IsFree t (part_at parts plan place)) (hidden_before plan place)
    all-free = All-append (IsFree t (part_at parts plan place)) plan.first (flat_map (λ levels. levels) (take place plan.hides)) first-free (later-free place (omega arith))

    hidden-next : hidden_before plan place ++ slice_index_or plan.hides place [] ≡ hidden_before plan (place + 1)
    hidden-next =
        flat_map_more (λ levels. levels) plan.first (take place plan.hides) (slice_index_or plan.hides place [])
        ∙ ap (λ taken. plan.first ++ flat_map (λ levels. levels) taken) (sym (take_more plan.hides place [] (omega (arith, within, fits.places))))

    meaning-next : (bits : Bits) → (meaning_before t parts plan from place bits && value_at t (part_at parts plan place) bits) ≡ meaning_before t parts plan from (place + 1) bits
    meaning-next bits =
        and_assoc (value_at t from bits) (list_all (λ k. value_at t (slice_index parts k) bits) (take place plan.order)) (value_at t (part_at parts plan place) bits)
        ∙ ap (λ b. value_at t from bits && b) (sym (list_all_more (λ k. value_at t (slice_index parts k) bits) plan.order place 0 within))

    -- a part has its value still, once the Space has grown
    part-same : (s : Table) (left : ℕ) → AreValid t parts → IsTaken t s parts plan from place left → (bits : Bits) → value_at s (part_at parts plan place) bits ≡ value_at t (part_at parts plan place) bits
    part-same s left valid taken bits = taken.grows.value (part_at parts plan place) (valid (slice_index plan.order place) 0 (fits.order.below place 0 within)).held bits

    pub taken-short : (s new : Table) (left : ℕ) → AreValid t parts → IsTaken t s parts plan from place left → IsShort new (slice_index_or plan.hides place []) (λ bits. value_at s left bits && value_at s (part_at parts plan place) bits) → IsShortAt t new parts plan from place
    taken-short s new left valid taken short = record {
      within = within;
      left = value_at s left;
      found = taken.stands.found;
      holds = taken.stands.holds;
      short = short-same new (slice_index_or plan.hides place []) (λ bits. value_at s left bits && value_at s (part_at parts plan place) bits) (λ bits. value_at s left bits && value_at t (part_at parts plan place) bits)
          (λ bits. ap (λ b. value_at s left bits && b) (part-same s left valid taken bits)) short;
    }

    pub taken-next : (s new : Table) (left r : ℕ) → AreValid t parts → IsTaken t s parts plan from place left → StandsForHidden new r (slice_index_or plan.hides place []) (λ bits. value_at s left bits && value_at s (part_at parts plan place) bits) → Grows s new → new.levels ≡ s.levels → IsTaken t new parts plan from (place + 1) r
    taken-next s new left r valid taken stands grows levels = record {
      stands =
          let P : List ℕ → Type 0 = λ hidden. StandsForHidden new r hidden (meaning_before t parts plan from (place + 1)) in
          subst P hidden-next
          (stands-same new r (hidden_before plan place ++ slice_index_or plan.hides place []) (λ bits. meaning_before t parts plan from place bits && value_at s (part_at parts plan place) bits) (meaning_before t parts plan from (place + 1))
          (λ bits. ap (λ b. meaning_before t parts plan from place bits && b) (same bits) ∙ meaning-next bits)
          (record {
            valid = stands.valid;
            found = λ bits is. early-found (hidden_before plan place) (slice_index_or plan.hides place []) (meaning_before t parts plan from place) (value_at s (part_at parts plan place)) (value_at s left) free taken.stands.found bits (stands.found bits is);
            holds = λ bits some. stands.holds bits (early-holds (hidden_before plan place) (slice_index_or plan.hides place []) (meaning_before t parts plan from place) (value_at s (part_at parts plan place)) (value_at s left) free taken.stands.holds bits some);
          }));
      grows = grows-trans t s new taken.grows grows;
      levels = levels ∙ taken.levels;
    }
      where
        same : (bits : Bits) → value_at s (part_at parts plan place) bits ≡ value_at t (part_at parts plan place) bits
        same bits = part-same s left valid taken bits

        free : (u v : Bits) → SameOutside (hidden_before plan place) u v → value_at s (part_at parts plan place) u ≡ value_at s (part_at parts plan place) v
        free u v outside = same u ∙ free-all t (part_at parts plan place) (hidden_before plan place) all-free u v outside ∙ sym (same v)

  -- each part stands in one of the places
  in-order : (test : ℕ → Bool) → list_all (λ k. test (slice_index parts k)) plan.order ≡ list_all test parts
  in-order test = same-tests (list_all (λ k. test (slice_index parts k)) plan.order) (list_all test parts) all-parts all-places
    where
      all-parts : list_all (λ k. test (slice_index parts k)) plan.order ≡ true → list_all test parts ≡ true
      all-parts pass = list_all-from_AllPass test parts (All-from_get_or (λ part. test part ≡ true) parts 0 each)
        where
          each : (i : ℕ) → i < length parts → test (get_or parts i 0) ≡ true
          each i at =
              let any = Any-from_list_any (λ l. l == i) plan.order (order-covers (length parts) plan.order fits.order i at) in
              let same : any.1 ≡ i = eqb-true any.1 i any.4 in
              ap (λ k. test (slice_index parts k)) (sym same)
              ∙ ap (λ k. test (slice_index parts k)) (sym any.3)
              ∙ AllPass-from_list_all (λ k. test (slice_index parts k)) plan.order pass any.0 any.1 any.2

      all-places : list_all test parts ≡ true → list_all (λ k. test (slice_index parts k)) plan.order ≡ true
      all-places pass = list_all-from_AllPass (λ k. test (slice_index parts k)) plan.order (λ i d at. AllPass-from_list_all test parts pass (slice_index_or plan.order i d) 0 (fits.order.below i d at))

  pub taken-all : (s : Table) (place r : ℕ) → place ≡ length plan.order → IsTaken t s parts plan from place r → StandsForHidden s r (named_by plan) (λ bits. value_at t from bits && all_hold t parts bits)
  taken-all s place r is taken =
      let P : List ℕ → Type 0 = λ hidden. StandsForHidden s r hidden (λ bits. value_at t from bits && all_hold t parts bits) in
      subst P (ap (λ hides. plan.first ++ flat_map (λ levels. levels) hides) (take_all place plan.hides (omega (arith, is, fits.places))))
      (stands-same s r (hidden_before plan place) (meaning_before t parts plan from place) (λ bits. value_at t from bits && all_hold t parts bits)
      (λ bits.
      ap (λ b. value_at t from bits && b)
      (ap (λ taken. list_all (λ k. value_at t (slice_index parts k) bits) taken) (take_all place plan.order (omega (arith, is)))
      ∙ in-order (λ part. value_at t part bits)))
      taken.stands)
