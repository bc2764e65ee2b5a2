-- The guards of both ends beside each ref, and the nodes over them.
use Rattle.std.proofs.Common.{◌≡◌, ◌==◌, ◌-◌, ◌<◌, ◌≤◌, ◌⊎◌, ℕ, suc, Bool, true, false, if◌then◌else◌, nat_eq, List, [], ◌∷◌, ◌++◌, length, get_or, slice_get, Option, Some, None, Result, Ok, Err, IfOk, refl, sym, ap, ◌∙◌, subst, inl, inr, length-append, arith}
use Rattle.std.specs.List.{All, Any, IsDistinct}
use Rattle.std.specs.Map.{lookup, keys_of}
use Rattle.std.specs.Option.{option_map_or}
use Rattle.std.proofs.lemmas.Bool.{eqb-true, eq-eqb, true≢false, cases_lt, cases_eq}
use Rattle.std.proofs.lemmas.List.{get_or_append_left, get_or-append_right, get_or-map, length-map}
use Rattle.std.proofs.lemmas.List.Elements.{All-push, All-weaker}
use Rattle.std.proofs.lemmas.Map.Keys.{apart_from_distinct}
use Rattle.std.proofs.lemmas.Option.{get_or_from_slice_get}
use Rattle.node_table.specs.Table.{Bits, Table, value_at, top_of, IsTable, IsValid, Grows, Makes}
use Rattle.node_table.proofs.Nodes.{value-zero, level-constant, held-node}
use Rattle.node_table.proofs.Growth.{valid-grows}
use Rattle.bdd_walk.specs.declared.joins.Ends.{Ends}
use Rattle.bdd_walk.specs.declared.splits.Piece.{Piece}
use Rattle.bdd_walk.specs.Splitting.{guard_of, lo_end, hi_end, IsUnder, AreEnds, IsOver, AreOver, IsJoin}
use Rattle.bdd_walk.proofs.Guards.{IsNoLeft, HasGuard, guard-is, guard-holds}

-- two facts of what is in an Ok
pub ok-both : {X E : Type 0} (r : Result X E) (P Q R : X → Type 0) → ((x : X) → P x → Q x → R x) → IfOk r P → IfOk r Q → IfOk r R
ok-both (Ok x) P Q R both first second = both x first second
ok-both (Err e) P Q R both first second = tt

module _ (a b : Table) (grow : Grows a b) (same : b.levels ≡ a.levels) where
  pub ends-grow : (level : ℕ) (e : Ends) → AreEnds a level e → AreEnds b level e
  ends-grow level e ends =
      let lo = grow.top same e.lo ends.lo.held in
      let hi = grow.top same e.hi ends.hi.held in
      record {
        lo = valid-grows a b grow e.lo ends.lo;
        hi = valid-grows a b grow e.hi ends.hi;
        lo_below = omega (arith, lo, ends.lo_below);
        hi_below = omega (arith, hi, ends.hi_below);
        some = ends.some;
      }

  over-grows : (level : ℕ) (e : Ends) (guard : ℕ) → IsOver a level e guard → IsOver b level e guard
  over-grows level e guard is =
      let top = grow.top same guard is.valid.held in
      record {
        ends = ends-grow level e is.ends;
        valid = valid-grows a b grow guard is.valid;
        top = omega (arith, top, is.top);
        some = is.some;
        value = λ u.
            grow.value guard is.valid.held u
            ∙ is.value u
            ∙ (λ i. if u level then sym (grow.value e.hi is.ends.hi.held u) i else sym (grow.value e.lo is.ends.lo.held u) i);
      }

  -- the node that `mk` made
  pub over-made : (level : ℕ) (e : Ends) (guard : ℕ) → AreEnds a level e → Makes a b level e.lo e.hi guard → IsOver b level e guard
  over-made level e guard ends made = record {
    ends = ends-grow level e ends;
    valid = made.valid;
    top = made.top;
    some = some (cases_eq e.lo e.hi);
    value = λ u.
        made.value u ∙ (λ i. if u level then sym (grow.value e.hi ends.hi.held u) i else sym (grow.value e.lo ends.lo.held u) i);
  }
    where
      some : (e.lo ≡ e.hi) ⊎ (e.lo ≡ e.hi → ⊥) → guard ≡ 0 → ⊥
      some (inl equal) none =
          let is = (made.same_ends equal).0 in
          ends.some (sym is ∙ none) (sym equal ∙ sym is ∙ none)
      some (inr differ) none = let node = (held-node b.nodes guard (record { level = level; lo = e.lo; hi = e.hi }) (made.node differ)).0 in omega (arith, node, none)

  pub over-push : (level : ℕ) (ends : List (ℕ × Ends)) (pieces : List Piece) (p : Piece) (e : Ends) → AreOver a level ends pieces → slice_get ends (length pieces) ≡ Some (p.left, e) → lookup (λ k. p.left == k) ends ≡ Some e → IsOver b level e p.at → AreOver b level ends (pieces ++ p ∷ [])
  over-push level ends pieces p e all at known is = record {
    lefts = λ k within d f. left k d f (cases_lt k (length pieces)) within;
    each = All-push P pieces p (All-weaker Q P (λ q any. (any.0, any.1, over-grows level any.0 q.at any.2)) pieces all.each) (e, known, is);
  }
    where
      Q : Piece → Type 0
      Q q = (e : Ends) × (lookup (λ k. q.left == k) ends ≡ Some e) × IsOver a level e q.at

      P : Piece → Type 0
      P q = (e : Ends) × (lookup (λ k. q.left == k) ends ≡ Some e) × IsOver b level e q.at

      key_of : ℕ × Ends → ℕ
      key_of x = x.0

      left : (k : ℕ) (d : Piece) (f : ℕ × Ends) → (k < length pieces) ⊎ (length pieces ≤ k) → k < length (pieces ++ p ∷ []) → (get_or (pieces ++ p ∷ []) k d).left ≡ (get_or ends k f).0
      left k d f (inl before) within = ap (λ q. q.left) (get_or_append_left pieces (p ∷ []) d k before) ∙ all.lefts k before d f
      left k d f (inr last) within =
          let long = length-append pieces (p ∷ []) in
          let is_last : k ≡ length pieces = omega (arith, long) in
          let first : k - length pieces ≡ 0 = omega (arith, is_last) in
          let here : get_or (pieces ++ p ∷ []) k d ≡ get_or (p ∷ []) 0 d = get_or-append_right pieces (p ∷ []) (length pieces) k d refl last ∙ ap (λ j. get_or (p ∷ []) j d) first in
          let key : get_or ends k f ≡ (p.left, e) = ap (λ j. get_or ends j f) is_last ∙ get_or_from_slice_get ends (length pieces) (p.left, e) f at in
          ap (λ q. q.left) here ∙ sym (ap key_of key)

-- a ref that is looked up with success is among the keys
lookup-key : (r : ℕ) (ends : List (ℕ × Ends)) (e : Ends) → lookup (λ k. r == k) ends ≡ Some e → (i : ℕ) × (i < length ends) × ((d : ℕ × Ends) → (get_or ends i d).0 ≡ r)
lookup-key r [] e found = absurd (cc)
lookup-key r (x ∷ ends) e found = by (r == x.0) refl (λ there. lookup-key r ends e there)
  where
    Found : Type 0
    Found = (i : ℕ) × (i < length (x ∷ ends)) × ((d : ℕ × Ends) → (get_or (x ∷ ends) i d).0 ≡ r)

    by : (b : Bool) → (r == x.0) ≡ b → (lookup (λ k. r == k) ends ≡ Some e → (i : ℕ) × (i < length ends) × ((d : ℕ × Ends) → (get_or ends i d).0 ≡ r)) → Found
    by true same rest = (0, omega arith, λ d. sym (eqb-true r x.0 same))
    by false other rest =
        let any = rest (sym (ap (λ b. if b then Some x.1 else lookup (λ k. r == k) ends) other) ∙ found) in
        (suc any.0, omega (arith, any.1), any.2)

-- the ends beside each ref are those of the two lists
pub record ArePaired (ends : List (ℕ × Ends)) (lo hi : List Piece) : Type 0 where
  pub lo_is : (r : ℕ) → lo_end ends r ≡ guard_of lo r
  pub hi_is : (r : ℕ) → hi_end ends r ≡ guard_of hi r
  pub some : (r : ℕ) (e : Ends) → lookup (λ k. r == k) ends ≡ Some e → e.lo ≡ 0 → e.hi ≡ 0 → ⊥

-- the ends for the bit 1 were put beside the others
pub paired : (before ends : List (ℕ × Ends)) (lo hi : List Piece) → ((r : ℕ) → lo_end before r ≡ guard_of lo r) → ((r : ℕ) → lo_end ends r ≡ lo_end before r) → ((r : ℕ) → hi_end ends r ≡ guard_of hi r) → ((r : ℕ) (e : Ends) → lookup (λ k. r == k) ends ≡ Some e → e.lo ≡ 0 → e.hi ≡ 0 → ⊥) → ArePaired ends lo hi
paired before ends lo hi first kept second some = record { lo_is = λ r. kept r ∙ first r; hi_is = second; some = some }

module _ (t : Table) (level : ℕ) (ends : List (ℕ × Ends)) (lo hi pieces : List Piece) where
  pub join-of : IsTable t → IsDistinct nat_eq (keys_of ends) → ArePaired ends lo hi → AreOver t level ends pieces → length pieces ≡ length ends → IsJoin t level lo hi pieces
  join-of is_table distinct paired all every = record {
    valid = λ k d within. (all.each k d within).2.valid;
    top = λ k d within. (all.each k d within).2.top;
    some = λ k d within. (all.each k d within).2.some;
    from = λ k d within lo_none hi_none.
        let any = all.each k d within in
        let r : ℕ = (get_or pieces k d).left in
        paired.some r any.0 any.1
        (sym (ap (λ o. option_map_or (λ e. e.lo) o 0) any.1) ∙ paired.lo_is r ∙ lo_none)
        (sym (ap (λ o. option_map_or (λ e. e.hi) o 0) any.1) ∙ paired.hi_is r ∙ hi_none);
    different = λ i j d less within same. different i j d less within same;
    value = λ r u. value r u (guard-is r pieces);
  }
    where
      different : (i j : ℕ) (d : Piece) → i < j → j < length pieces → (get_or pieces i d).left ≡ (get_or pieces j d).left → ⊥
      different i j d less within same =
          let e : ℕ × Ends = (0, record { lo = 0; hi = 0 }) in
          let key : (k : ℕ) → k < length pieces → get_or (keys_of ends) k 0 ≡ (get_or pieces k d).left = λ k inside. get_or-map (λ x. x.0) ends k e 0 (omega (arith, inside, every)) ∙ sym (all.lefts k inside d e) in
          let apart = apart_from_distinct nat_eq (keys_of ends) i j 0 distinct less (omega (arith, within, every, length-map ends (λ x. x.0))) in
          true≢false (sym (eq-eqb (get_or (keys_of ends) i 0) (get_or (keys_of ends) j 0) (key i (omega (arith, less, within)) ∙ same ∙ sym (key j within))) ∙ apart)

      Sides : ℕ → Bits → Type 0
      Sides r u = value_at t (guard_of pieces r) u ≡ (if u level then value_at t (guard_of hi r) u else value_at t (guard_of lo r) u)

      same_sides : (u : Bits) (a b c d : ℕ) → a ≡ c → b ≡ d → (if u level then value_at t a u else value_at t b u) ≡ (if u level then value_at t c u else value_at t d u)
      same_sides u a b c d first second = λ i. if u level then value_at t (first i) u else value_at t (second i) u

      no_sides : (u : Bits) (b : Bool) → (if b then value_at t 0 u else value_at t 0 u) ≡ false
      no_sides u true = value-zero t.nodes u
      no_sides u false = value-zero t.nodes u

      absent : (r : ℕ) → IsNoLeft r pieces → (o : Option Ends) → lookup (λ k. r == k) ends ≡ o → lookup (λ k. r == k) ends ≡ None
      absent r none None at = at
      absent r none (Some e) at =
          let any = lookup-key r ends e at in
          let d : Piece = record { left = 0; at = 0 } in
          let inside : any.0 < length pieces = omega (arith, any.1, every) in
          absurd (none any.0 d inside (all.lefts any.0 inside d (0, e) ∙ any.2 (0, e)))

      value : (r : ℕ) (u : Bits) → ((guard_of pieces r ≡ 0) × IsNoLeft r pieces) ⊎ Any (HasGuard r (guard_of pieces r)) pieces → Sides r u
      value r u (inl at) =
          let none = absent r at.1 (lookup (λ k. r == k) ends) refl in
          ap (λ g. value_at t g u) at.0
          ∙ value-zero t.nodes u
          ∙ sym (no_sides u (u level))
          ∙ same_sides u 0 0 (guard_of hi r) (guard_of lo r) (sym (ap (λ o. option_map_or (λ e. e.hi) o 0) none) ∙ paired.hi_is r) (sym (ap (λ o. option_map_or (λ e. e.lo) o 0) none) ∙ paired.lo_is r)
      value r u (inr any) =
          let over = all.each any.0 any.1 any.2 in
          let e : Ends = over.0 in
          let left : (get_or pieces any.0 any.1).left ≡ r = ap (λ p. p.left) any.3 ∙ any.4.0 in
          let guard : (get_or pieces any.0 any.1).at ≡ guard_of pieces r = ap (λ p. p.at) any.3 ∙ any.4.1 in
          let known : lookup (λ k. r == k) ends ≡ Some e = sym (ap (λ s. lookup (λ k. s == k) ends) left) ∙ over.1 in
          ap (λ g. value_at t g u) (sym guard)
          ∙ over.2.value u
          ∙ same_sides u e.hi e.lo (guard_of hi r) (guard_of lo r) (sym (ap (λ o. option_map_or (λ e. e.hi) o 0) known) ∙ paired.hi_is r) (sym (ap (λ o. option_map_or (λ e. e.lo) o 0) known) ∙ paired.lo_is r)

-- what both lists hold can stand under a node
pub ends-under : (t : Table) (level : ℕ) → IsTable t → level < t.levels → (ends : List (ℕ × Ends)) (lo hi : List Piece) → All (IsUnder t level) lo → All (IsUnder t level) hi → ArePaired ends lo hi → (r : ℕ) (e : Ends) → lookup (λ k. r == k) ends ≡ Some e → AreEnds t level e
ends-under t level is exists ends lo hi lo_under hi_under paired r e known =
    let lo_is : guard_of lo r ≡ e.lo = sym (paired.lo_is r) ∙ ap (λ o. option_map_or (λ e. e.lo) o 0) known in
    let hi_is : guard_of hi r ≡ e.hi = sym (paired.hi_is r) ∙ ap (λ o. option_map_or (λ e. e.hi) o 0) known in
    record {
      lo = subst (IsValid t) lo_is (valid lo lo_under);
      hi = subst (IsValid t) hi_is (valid hi hi_under);
      lo_below = subst Below lo_is (below lo lo_under);
      hi_below = subst Below hi_is (below hi hi_under);
      some = paired.some r e known;
    }
  where
    Below : ℕ → Type 0
    Below g = level < top_of t g

    zero_valid : IsValid t 0
    zero_valid = record { table = is; held = omega arith }

    zero_below : level < top_of t 0
    zero_below = let top = level-constant t.levels t.nodes 0 (omega arith) in omega (arith, top, exists)

    valid : (pieces : List Piece) → All (IsUnder t level) pieces → IsValid t (guard_of pieces r)
    valid pieces all = guard-holds (IsValid t) pieces zero_valid (λ k d within. (all k d within).valid) r

    below : (pieces : List Piece) → All (IsUnder t level) pieces → level < top_of t (guard_of pieces r)
    below pieces all = guard-holds Below pieces zero_below (λ k d within. (all k d within).below) r
