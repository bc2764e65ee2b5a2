-- The way down to the least bits, one level at a time.
use Rattle.std.proofs.Common.{◌≡◌, ◌==◌, ◌+◌, ◌<◌, ◌≤◌, ◌⊎◌, ◌↔◌, ℕ, zero, suc, Bool, true, false, if◌then◌else◌, List, [], ◌∷◌, length, slice_index, Option, Some, None, IfSome, IsNone, refl, sym, ap, ◌∙◌, subst, inl, inr, arith}
use Rattle.std.specs.Option.{option_eq}
use Rattle.std.specs.List.Sorted.{IsStrictlyIncreasing}
use Rattle.std.proofs.lemmas.Bool.{eqb-true, eq-eqb, true≢false, cases_lt, false_from_ne_true}
use Rattle.std.proofs.lemmas.List.Kept.{AllPairs-from_increasing}
use Rattle.node_table.specs.Table.{Bits, Table, value_at, top_of, IsValid, IsEnd}
use Rattle.node_table.proofs.Nodes.{value-zero, value-one}
use Rattle.bdd_ops.specs.Meaning.{DependsOn}
use Rattle.bdd_ops.specs.Words.{bit_of}
use Rattle.bdd_ops.proofs.Members.{place, at-place}
use Rattle.bdd_ops.proofs.Renamed.{top-in, end-depends}
use Rattle.bdd_walk.specs.Least.{spread, IsAtMost, IsLeast}
use Rattle.bdd_walk.specs.Walk.{IsPassed, IsDown}

-- what a test on the level of a ref says
pub same-level : (top levels r x : ℕ) (own at : Option ℕ) → at ≡ Some x → IfSome own (λ l. (2 ≤ r) × (top ≡ l) × (l < levels)) → option_eq (λ a b. a == b) own at ≡ true → (2 ≤ r) × (top ≡ x)
same-level top levels r x None None is known same = absurd (cc)
same-level top levels r x None (Some y) is known same = absurd (true≢false (sym same))
same-level top levels r x (Some l) None is known same = absurd (cc)
same-level top levels r x (Some l) (Some y) is known same = let e = eqb-true l y same in let same_y : y ≡ x = cc in (known.0, known.1 ∙ e ∙ same_y)

pub other-level : (top levels r x : ℕ) (own at : Option ℕ) → at ≡ Some x → (IsNone own ↔ (r < 2)) → IfSome own (λ l. (2 ≤ r) × (top ≡ l) × (l < levels)) → option_eq (λ a b. a == b) own at ≡ false → 2 ≤ r → top ≡ x → ⊥
other-level top levels r x None at is constant known other node equal = let small : r < 2 = constant.0 refl in omega arith
other-level top levels r x (Some l) None is constant known other node equal = absurd (cc)
other-level top levels r x (Some l) (Some y) is constant known other node equal =
    let same_y : y ≡ x = cc in true≢false (sym (eq-eqb l y (sym known.1 ∙ equal ∙ sym same_y)) ∙ other)

-- a bit that is 0 stays so
pub kept-zero : (words : List ℕ) (k : ℕ) → ((j : ℕ) → k ≤ j → bit_of words j ≡ false) → (j : ℕ) → bit_of words j ≡ (if j == k then false else bit_of words j)
kept-zero words k rest j = by (j == k) refl
  where
    by : (b : Bool) → (j == k) ≡ b → bit_of words j ≡ (if j == k then false else bit_of words j)
    by true e = let is = eqb-true j k e in rest j (omega arith) ∙ sym (ap (λ same. if same then false else bit_of words j) e)
    by false e = sym (ap (λ same. if same then false else bit_of words j) e)

-- one level more: its bit is 1 in the code only where the bits need it there
pub passed : (levels : List ℕ) (code next : ℕ → Bool) (k : ℕ) (bit : Bool) (v : Bits) → ((j : ℕ) → next j ≡ (if j == k then bit else code j)) → (((j : ℕ) → j < k → v (slice_index levels j) ≡ code j) → bit ≡ true → v (slice_index levels k) ≡ true) → IsPassed levels code k v → IsPassed levels next (k + 1) v
passed levels code next k bit v set needed before = by before
  where
    here : next k ≡ bit
    here = set k ∙ ap (λ same. if same then bit else code k) (eq-eqb k k refl)

    there : (j : ℕ) → j < k → next j ≡ code j
    there j less = set j ∙ ap (λ same. if same then bit else code j) (false_from_ne_true (j == k) (λ e. let is = eqb-true j k e in omega arith))

    agree : ((j : ℕ) → j < k → v (slice_index levels j) ≡ code j) → v (slice_index levels k) ≡ bit → (j : ℕ) → j < k + 1 → v (slice_index levels j) ≡ next j
    agree same at j within = by_place (cases_lt j k)
      where
        by_place : (j < k) ⊎ (k ≤ j) → v (slice_index levels j) ≡ next j
        by_place (inl less) = same j less ∙ sym (there j less)
        by_place (inr more) = let is : j ≡ k = omega arith in ap (λ i. v (slice_index levels i)) is ∙ at ∙ sym here ∙ ap next (sym is)

    by : IsPassed levels code k v → IsPassed levels next (k + 1) v
    by (inl first) = inl (first.0, omega (arith, first.1), λ i less. first.2 i less ∙ sym (there i (omega (arith, first.1, less))), there first.0 first.1 ∙ first.3, first.4)
    by (inr same) = by_bits bit (v (slice_index levels k)) refl refl
      where
        by_bits : (b w : Bool) → bit ≡ b → v (slice_index levels k) ≡ w → IsPassed levels next (k + 1) v
        by_bits true true is at = inr (agree same (at ∙ sym is))
        by_bits false false is at = inr (agree same (at ∙ sym is))
        by_bits true false is at = absurd (true≢false (sym (needed same is) ∙ at))
        by_bits false true is at = inl (k, omega arith, (λ i less. same i less ∙ sym (there i less)), here ∙ is, at)

module _ (t : Table) (f : ℕ) (levels : List ℕ) where
  pub down-start : (words : List ℕ) → IsValid t f → (f ≡ 0 → ⊥) → DependsOn t levels f → ((k : ℕ) → bit_of words k ≡ false) → IsDown t f levels words 0 f
  down-start words valid some depends none = record {
    valid = valid;
    some = some;
    depends = depends;
    below = λ node j less. absurd (omega arith);
    value = λ v same. refl;
    least = λ v one. inr (λ j less. absurd (omega arith));
    rest = λ j low. none j;
  }

  -- at the level of a node, by its end at this bit
  pub down-end : (words next : List ℕ) (k r : ℕ) (bit : Bool) (end : ℕ) → IsDown t f levels words k r → 2 ≤ r → top_of t r ≡ slice_index levels k → IsEnd t r bit end → (end ≡ 0 → ⊥) → ((j : ℕ) → bit_of next j ≡ (if j == k then bit else bit_of words j)) → ((v : Bits) → value_at t r v ≡ true → bit ≡ true → v (slice_index levels k) ≡ true) → IsDown t f levels next (k + 1) end
  down-end words next k r bit end down node top is some set needed = record {
    valid = is.valid;
    some = some;
    depends = end-depends t levels r down.valid down.depends bit end is;
    below = λ inner j less. lower j (cases_lt j k) less;
    value = λ v same.
        down.value v (λ j less. same j (omega arith) ∙ there j less)
        ∙ is.value v (ap v top ∙ same k (omega arith) ∙ here);
    least = λ v one.
        passed levels (bit_of words) (bit_of next) k bit v set
        (λ same. needed v (sym (down.value v same) ∙ one))
        (down.least v one);
    rest = λ j low. there_after j low ∙ down.rest j (omega arith);
  }
    where
      here : bit_of next k ≡ bit
      here = set k ∙ ap (λ same. if same then bit else bit_of words k) (eq-eqb k k refl)

      other : (j : ℕ) → (j ≡ k → ⊥) → bit_of next j ≡ bit_of words j
      other j differ = set j ∙ ap (λ same. if same then bit else bit_of words j) (false_from_ne_true (j == k) (λ e. differ (eqb-true j k e)))

      there : (j : ℕ) → j < k → bit_of next j ≡ bit_of words j
      there j less = other j (λ e. omega arith)

      there_after : (j : ℕ) → k + 1 ≤ j → bit_of next j ≡ bit_of words j
      there_after j more = other j (λ e. omega arith)

      lower : (j : ℕ) → (j < k) ⊎ (k ≤ j) → j < k + 1 → slice_index levels j < top_of t end
      lower j (inl less) within = let above = down.below node j less in omega (arith, above, is.below)
      lower j (inr more) within = let same : j ≡ k = omega arith in let at = ap (slice_index levels) same in omega (arith, at, top, is.below)

  -- at a level that isn't that of the ref
  pub down-past : IsStrictlyIncreasing levels → (words : List ℕ) (k r : ℕ) → IsDown t f levels words k r → k < length levels → (2 ≤ r → top_of t r ≡ slice_index levels k → ⊥) → IsDown t f levels words (k + 1) r
  down-past rises words k r down within differs = record {
    valid = down.valid;
    some = down.some;
    depends = down.depends;
    below = λ node j less. lower node j (cases_lt j k) less;
    value = λ v same. down.value v (λ j less. same j (omega arith));
    least = λ v one. passed levels (bit_of words) (bit_of words) k false v (kept-zero words k down.rest) (λ same wrong. absurd (true≢false (sym wrong))) (down.least v one);
    rest = λ j low. down.rest j (omega arith);
  }
    where
      lower : 2 ≤ r → (j : ℕ) → (j < k) ⊎ (k ≤ j) → j < k + 1 → slice_index levels j < top_of t r
      lower node j (inl less) upto = down.below node j less
      lower node j (inr more) upto = at_place (cases_lt at.0 k) (cases_lt k at.0)
        where
          at : (i : ℕ) × (i < length levels) × (slice_index levels i ≡ top_of t r)
          at = place levels (top_of t r) (top-in t levels r down.valid down.depends node)

          at_place : (at.0 < k) ⊎ (k ≤ at.0) → (k < at.0) ⊎ (at.0 ≤ k) → slice_index levels j < top_of t r
          at_place (inl before) any = let above = down.below node at.0 before in absurd (omega (arith, above, at.2))
          at_place (inr from) (inl after) =
              let same : j ≡ k = omega arith in
              let index = ap (slice_index levels) same in
              let less = AllPairs-from_increasing levels rises k at.0 0 after at.1 in
              omega (arith, index, less, at.2)
          at_place (inr from) (inr upto_k) =
              let same : at.0 ≡ k = omega arith in
              absurd (differs node (sym at.2 ∙ ap (slice_index levels) same))

-- the bit of a level at its place
spread-at : (levels : List ℕ) → ((i j : ℕ) → i < j → j < length levels → slice_index levels i < slice_index levels j) → (code : ℕ → Bool) (j : ℕ) → j < length levels → spread levels code (slice_index levels j) ≡ code j
spread-at [] rises code j within = absurd (omega arith)
spread-at (first ∷ levels) rises code zero within = ap (λ same. if same then code 0 else spread levels (λ k. code (suc k)) first) (eq-eqb first first refl)
spread-at (first ∷ levels) rises code (suc j) within =
    let more : first < slice_index levels j = rises 0 (suc j) (omega arith) within in
    ap (λ same. if same then code 0 else spread levels (λ k. code (suc k)) (slice_index levels j)) (false_from_ne_true (slice_index levels j == first) (λ e. let is = eqb-true (slice_index levels j) first e in omega arith))
    ∙ spread-at levels (λ i k less inner. rises (suc i) (suc k) (omega arith) (omega arith)) (λ k. code (suc k)) j (omega arith)

module _ (t : Table) (f : ℕ) (levels : List ℕ) (rises : IsStrictlyIncreasing levels) where
  -- the code's bits are the least
  at-most : (code : ℕ → Bool) (v : Bits) → IsPassed levels code (length levels) v → IsAtMost levels (spread levels code) v
  at-most code v passed = by passed
    where
      pairs : (i j : ℕ) → i < j → j < length levels → slice_index levels i < slice_index levels j
      pairs i j less within = AllPairs-from_increasing levels rises i j 0 less within

      bit : (j : ℕ) → j < length levels → spread levels code (slice_index levels j) ≡ code j
      bit = spread-at levels pairs code

      by : IsPassed levels code (length levels) v → IsAtMost levels (spread levels code) v
      by (inr same) = inl (λ level member.
          let at = place levels level member in
          sym (ap (spread levels code) at.2) ∙ bit at.0 at.1 ∙ sym (same at.0 at.1) ∙ ap v at.2)
      by (inl first) = inr (
        slice_index levels first.0,
        record {
          of_these = at-place levels first.0 (slice_index levels first.0) first.1 refl;
          same = λ level member above.
              let at = place levels level member in
              sym (ap (spread levels code) at.2) ∙ bit at.0 at.1 ∙ sym (first.2 at.0 (before at.0 at.1 (omega (arith, at.2, above)) (cases_lt at.0 first.0))) ∙ ap v at.2;
          zero = bit first.0 first.1 ∙ first.3;
          one = first.4;
        },
      )
        where
          before : (i : ℕ) → i < length levels → slice_index levels i < slice_index levels first.0 → (i < first.0) ⊎ (first.0 ≤ i) → i < first.0
          before i within less (inl is) = is
          before i within less (inr more) = after (cases_lt first.0 i)
            where
              after : (first.0 < i) ⊎ (i ≤ first.0) → i < first.0
              after (inl later) = let above = pairs first.0 i later within in absurd (omega arith)
              after (inr upto) = let same : i ≡ first.0 = omega arith in let equal = ap (slice_index levels) same in absurd (omega (arith, equal, less))

  pub down-last : (words : List ℕ) (k r : ℕ) → IsDown t f levels words k r → k ≡ length levels → IsLeast t f levels words
  down-last words k r down last = record {
    one =
        down.value (spread levels (bit_of words)) (λ j less. spread-at levels (λ i m before within. AllPairs-from_increasing levels rises i m 0 before within) (bit_of words) j (omega arith))
        ∙ ap (λ s. value_at t s (spread levels (bit_of words))) one
        ∙ value-one t.nodes (spread levels (bit_of words));
    least = λ v is.
        let P : ℕ → Type 0 = λ n. IsPassed levels (bit_of words) n v in
        at-most (bit_of words) v (subst P last (down.least v is));
    rest = λ j low. down.rest j (omega arith);
  }
    where
      constant : (r < 2) ⊎ (2 ≤ r) → r < 2
      constant (inl small) = small
      constant (inr node) =
          let at = place levels (top_of t r) (top-in t levels r down.valid down.depends node) in
          let above = down.below node at.0 (omega (arith, at.1)) in
          absurd (omega (arith, above, at.2))

      one : r ≡ 1
      one = by (cases_lt r 1)
        where
          by : (r < 1) ⊎ (1 ≤ r) → r ≡ 1
          by (inl none) = absurd (down.some (omega arith))
          by (inr some) = let small = constant (cases_lt r 2) in omega arith

-- where the end for the bit 0 is 0, a value of 1 needs the bit 1
pub needs-one : (t : Table) (r level lo : ℕ) → top_of t r ≡ level → IsEnd t r false lo → lo ≡ 0 → (v : Bits) → value_at t r v ≡ true → v level ≡ true
needs-one t r level lo top is none v one = by (v level) refl
  where
    by : (b : Bool) → v level ≡ b → v level ≡ true
    by true at = at
    by false at = absurd (true≢false (sym one ∙ is.value v (ap v top ∙ at) ∙ ap (λ s. value_at t s v) none ∙ value-zero t.nodes v))
