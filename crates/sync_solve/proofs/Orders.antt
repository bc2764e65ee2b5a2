-- The levels of letters, and of states, stand as the subset construction asks for it.
use Rattle.std.proofs.Common.{◌≡◌, ◌+◌, ◌*◌, ◌<◌, ◌≤◌, ◌++◌, ◌⊎◌, ℕ, true, false, List, length, get_or, inl, inr, refl, sym, ap, ◌∙◌, subst, arith}
use Rattle.std.specs.List.{All}
use Rattle.std.proofs.lemmas.Bool.{true≢false}
use Rattle.std.proofs.lemmas.List.{get_or-map, length-map, get_or_default}
use Rattle.std.proofs.lemmas.List.FromFn.{length-map-range_with_len, get_or-map-range_with_len}
use Rattle.node_table.specs.Table.{Table}
use Rattle.bdd_ops.specs.Levels.{is_in, sources, IsRisingMap}
use Rattle.bdd_ops.proofs.Members.{at-place}
use Rattle.bdd_walk.proofs.Lists.{AllPairs-append}
use Rattle.mv_encoding.specs.Spots.{all_levels}
use Rattle.mv_encoding.proofs.Ranges.{range-in}
use Rattle.net_model.specs.Problems.{File}
use Rattle.net_frame.specs.Placing.{FileSpots}
use Rattle.frame_words.specs.Levels.{LiesAround}
use Rattle.subset_build.specs.Relations.{AreInOrder, present_of}
use Rattle.relation_words.proofs.Runs.{across}
use Rattle.sync_solve.specs.Codes.{code_back}
use Rattle.sync_solve.specs.Files.{AreDiagrams}
use Rattle.sync_solve.proofs.Products.{decided, in-either, present-append, sources-append}
use Rattle.sync_solve.proofs.Codes.{code-sources, code-targets}

-- the levels at a place of a map
at-source : (back : List (ℕ × ℕ)) (i : ℕ) (d : ℕ × ℕ) → i < length back → is_in (sources back) (get_or back i d).0 ≡ true
at-source back i d within = at-place (sources back) i (get_or back i d).0 (omega (arith, within, length-map back (λ (p : ℕ × ℕ). p.0))) (get_or-map (λ (p : ℕ × ℕ). p.0) back i d 0 within)

at-target : (back : List (ℕ × ℕ)) (i : ℕ) (d : ℕ × ℕ) → i < length back → is_in (present_of back) (get_or back i d).1 ≡ true
at-target back i d within = at-place (present_of back) i (get_or back i d).1 (omega (arith, within, length-map back (λ (p : ℕ × ℕ). p.1))) (get_or-map (λ (p : ℕ × ℕ). p.1) back i d 0 within)

all-low : (keep : List ℕ) (levels : ℕ) → ((k : ℕ) → is_in keep k ≡ true → k < levels) → All (λ k. k < levels) keep
all-low keep levels low i d within = low (get_or keep i d) (at-place keep i (get_or keep i d) within (get_or_default keep i 0 d within))

-- a file's states lie behind its letters
pub record LiesBehind (t : Table) (start : ℕ) (back : List (ℕ × ℕ)) : Type 0 where
  pub rises : IsRisingMap back
  pub next : (k : ℕ) → is_in (sources back) k ≡ true → (start ≤ k) × (k < t.levels)
  pub now : (k : ℕ) → is_in (present_of back) k ≡ true → (start ≤ k) × (k < t.levels)
  pub apart : (k : ℕ) → is_in (sources back) k ≡ true → is_in (present_of back) k ≡ false

pub behind-file : (t : Table) (start : ℕ) (file : File) (spots : FileSpots) (parts : List ℕ) (init acc : ℕ) → AreDiagrams t file spots parts init acc → LiesAround t start spots → LiesBehind t start spots.back
behind-file t start file spots parts init acc are around = record {
  rises = are.placed.rises;
  next = λ k member. around.next k (sym (are.placed.sources_are k) ∙ member);
  now = λ k member. around.present k (sym (are.placed.targets_are k) ∙ member);
  apart = λ k member. elim (decided (is_in (present_of spots.back) k)) [
    | inl there ↦
        absurd (true≢false (sym (sym (are.placed.sources_are k) ∙ member)
        ∙ across t file spots parts init acc (all_levels spots.letters) (record { sound = are.sound; placed = are.placed; steps = are.steps; initial = are.initial; accepting = are.accepting; letters = λ k. refl }) k
        (sym (are.placed.targets_are k) ∙ there)))
    | inr out ↦ out
  ];
}

pub order-of : (t : Table) (start : ℕ) (keep : List ℕ) (back : List (ℕ × ℕ)) → start ≤ t.levels → ((k : ℕ) → is_in keep k ≡ true → k < start) → LiesBehind t start back → AreInOrder t.levels keep back
order-of t start keep back within low behind = record {
  rises = behind.rises;
  keep_within = all-low keep t.levels (λ k member. let less = low k member in omega (arith, less, within));
  state_within = λ i d inside. ((behind.next (get_or back i d).0 (at-source back i d inside)).1, (behind.now (get_or back i d).1 (at-target back i d inside)).1);
  apart = behind.apart;
  above_next = λ k l member there. let less = low k member in let more = (behind.next l there).0 in omega (arith, less, more);
  above_present = λ k l member there. let less = low k member in let more = (behind.now l there).0 in omega (arith, less, more);
}

abbrev Rises : ℕ × ℕ → ℕ × ℕ → Type 0
Rises p q = (p.0 < q.0) × (p.1 < q.1)

code-rises : (first digits : ℕ) → IsRisingMap (code_back first digits)
code-rises first digits i j d less within =
    let pair : ℕ → ℕ × ℕ = λ k. (first + digits + k, first + k) in
    let long = length-map-range_with_len pair 0 digits in
    let here : get_or (code_back first digits) i d ≡ (first + digits + i, first + i) = get_or-map-range_with_len pair 0 digits i i d (omega (arith, less, within, long)) (omega arith) in
    let there : get_or (code_back first digits) j d ≡ (first + digits + j, first + j) = get_or-map-range_with_len pair 0 digits j j d (omega (arith, within, long)) (omega arith) in
    subst (λ p. Rises p (get_or (code_back first digits) j d)) (sym here) (subst (λ q. Rises (first + digits + i, first + i) q) (sym there) (omega (arith, less), omega (arith, less)))

-- below a file's levels come those of the states of an automaton
pub behind-both : (s t : Table) (start first digits : ℕ) (back : List (ℕ × ℕ)) → s.levels ≤ first → first + 2 * digits ≤ t.levels → start ≤ s.levels → LiesBehind s start back → LiesBehind t start (back ++ code_back first digits)
behind-both s t start first digits back low high within behind =
    let later : (k : ℕ) → is_in (sources (code_back first digits)) k ≡ true → (first + digits ≤ k) × (k < first + digits + digits) = λ k member. range-in digits (first + digits) k (sym (ap (λ l. is_in l k) (code-sources first digits)) ∙ member) in
    let now : (k : ℕ) → is_in (present_of (code_back first digits)) k ≡ true → (first ≤ k) × (k < first + digits) = λ k member. range-in digits first k (sym (ap (λ l. is_in l k) (code-targets first digits)) ∙ member) in
    record {
      rises = AllPairs-append Rises back (code_back first digits) behind.rises (code-rises first digits)
          (λ i d inside j e there.
          let p = behind.next (get_or back i d).0 (at-source back i d inside) in
          let q = behind.now (get_or back i d).1 (at-target back i d inside) in
          let r = later (get_or (code_back first digits) j e).0 (at-source (code_back first digits) j e there) in
          let s = now (get_or (code_back first digits) j e).1 (at-target (code_back first digits) j e there) in
          (omega (arith, p.1, r.0, low), omega (arith, q.1, s.0, low)));
      next = λ k member. elim (in-either (sources back) (sources (code_back first digits)) k (ap (λ l. is_in l k) (sym (sources-append back (code_back first digits))) ∙ member)) [
        | inl there ↦ let at = behind.next k there in (at.0, omega (arith, at.1, low, high))
        | inr there ↦ let at = later k there in (omega (arith, at.0, low, within), omega (arith, at.1, high))
      ];
      now = λ k member. elim (in-either (present_of back) (present_of (code_back first digits)) k (ap (λ l. is_in l k) (sym (present-append back (code_back first digits))) ∙ member)) [
        | inl there ↦ let at = behind.now k there in (at.0, omega (arith, at.1, low, high))
        | inr there ↦ let at = now k there in (omega (arith, at.0, low, within), omega (arith, at.1, high))
      ];
      apart = λ k member. elim (decided (is_in (present_of (back ++ code_back first digits)) k)) [
        | inr out ↦ out
        | inl here ↦ absurd (both k
            (in-either (sources back) (sources (code_back first digits)) k (ap (λ l. is_in l k) (sym (sources-append back (code_back first digits))) ∙ member))
            (in-either (present_of back) (present_of (code_back first digits)) k (ap (λ l. is_in l k) (sym (present-append back (code_back first digits))) ∙ here)))
      ];
    }
  where
    both : (k : ℕ) → (is_in (sources back) k ≡ true) ⊎ (is_in (sources (code_back first digits)) k ≡ true) → (is_in (present_of back) k ≡ true) ⊎ (is_in (present_of (code_back first digits)) k ≡ true) → ⊥
    both k (inl a) (inl b) = true≢false (sym b ∙ behind.apart k a)
    both k (inl a) (inr b) =
        let low_k = (behind.next k a).1 in
        let high_k = (range-in digits first k (sym (ap (λ l. is_in l k) (code-targets first digits)) ∙ b)).0 in
        absurd (omega (arith, low_k, high_k, low))
    both k (inr a) (inl b) =
        let low_k = (behind.now k b).1 in
        let high_k = (range-in digits (first + digits) k (sym (ap (λ l. is_in l k) (code-sources first digits)) ∙ a)).0 in
        absurd (omega (arith, low_k, high_k, low))
    both k (inr a) (inr b) =
        let high_k = (range-in digits (first + digits) k (sym (ap (λ l. is_in l k) (code-sources first digits)) ∙ a)).0 in
        let low_k = (range-in digits first k (sym (ap (λ l. is_in l k) (code-targets first digits)) ∙ b)).1 in
        absurd (omega (arith, high_k, low_k))
