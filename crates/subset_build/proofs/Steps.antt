-- The image of a set of states, renamed.
use Rattle.std.proofs.Common.{◌≡◌, ◌<◌, ◌++◌, ◌||◌, ◌&&◌, ℕ, Bool, true, false, not, nat_lt, if◌then◌else◌, List, refl, sym, ap, ◌∙◌, arith}
use Rattle.std.proofs.lemmas.Bool.{and_parts, and_from, lt-ltb, ltb-true, true≢false}
use Rattle.node_table.specs.Table.{Bits}
use Rattle.bdd_ops.specs.Levels.{is_in, SameAt, SameOutside, sources, renamed}
use Rattle.bdd_ops.specs.Meaning.{HasSome}
use Rattle.bdd_ops.proofs.Members.{same-tests}
use Rattle.subset_build.specs.Relations.{Relation, StepsBy, AreInOrder, present_of}
use Rattle.subset_build.specs.Preparing.{at_itself}
use Rattle.subset_build.proofs.Maps.{renamed-itself, renamed-behind, sources-whole}

module _ (levels : ℕ) (rel : Relation) (order : AreInOrder levels rel.keep rel.state) (named : List ℕ)
    (hides : (k : ℕ) → k < levels → is_in named k ≡ not (is_in rel.keep k || is_in (sources rel.state) k))
    (keep_low : (k : ℕ) → is_in rel.keep k ≡ true → k < levels) (next_low : (k : ℕ) → is_in (sources rel.state) k ≡ true → k < levels) (present_low : (k : ℕ) → is_in (present_of rel.state) k ≡ true → k < levels)
    (from holds image : Bits → Bool)
    (from_depends : (u v : Bits) → SameAt (present_of rel.state) u v → from u ≡ from v)
    (holds_within : (u v : Bits) → ((k : ℕ) → k < levels → u k ≡ v k) → holds u ≡ holds v)
    (holds_is : (u : Bits) → holds u ≡ rel.holds u)
    (found : (bits : Bits) → image bits ≡ true → HasSome named (λ u. from u && holds u) bits)
    (has : (bits : Bits) → HasSome named (λ u. from u && holds u) bits → image bits ≡ true) where
  abbrev whole : List (ℕ × ℕ)
  whole = at_itself rel.keep ++ rel.state

  out-letter : (k : ℕ) → is_in rel.keep k ≡ true → is_in named k ≡ false
  out-letter k member = hides k (keep_low k member) ∙ ap (λ b. not (b || is_in (sources rel.state) k)) member

  no-letter : (k : ℕ) → is_in (sources rel.state) k ≡ true → is_in rel.keep k ≡ false
  no-letter k next = pick (is_in rel.keep k) refl
    where
      pick : (b : Bool) → is_in rel.keep k ≡ b → is_in rel.keep k ≡ false
      pick true member = let less = order.above_next k k member next in absurd (omega (arith, less))
      pick false member = member

  out-next : (k : ℕ) → is_in (sources rel.state) k ≡ true → is_in named k ≡ false
  out-next k next = hides k (next_low k next) ∙ (λ i. not (no-letter k next i || next i))

  -- what isn't hidden is a letter's or a next state's
  kept : (P : Type 0) (k : ℕ) → k < levels → is_in named k ≡ false → (is_in rel.keep k ≡ true → P) → (is_in (sources rel.state) k ≡ true → P) → P
  kept P k low out letter next = pick (is_in rel.keep k) (is_in (sources rel.state) k) refl refl
    where
      pick : (x y : Bool) → is_in rel.keep k ≡ x → is_in (sources rel.state) k ≡ y → P
      pick true y is also = letter is
      pick false true is also = next also
      pick false false is also = absurd (true≢false ((λ i. not (sym is i || sym also i)) ∙ sym (hides k low) ∙ out))

  -- the one at the levels of the space, and the other below
  abbrev cut : Bits → Bits → Bits
  cut u v k = if nat_lt k levels then u k else v k

  cut-low : (u v : Bits) (k : ℕ) → k < levels → cut u v k ≡ u k
  cut-low u v k low = ap (λ b. if b then u k else v k) (lt-ltb k levels low)

  cut-outside : (u v : Bits) → ((k : ℕ) → k < levels → is_in named k ≡ false → u k ≡ v k) → SameOutside named (cut u v) v
  cut-outside u v same k out = pick (nat_lt k levels) refl
    where
      pick : (b : Bool) → nat_lt k levels ≡ b → (if nat_lt k levels then u k else v k) ≡ v k
      pick true low = ap (λ b. if b then u k else v k) low ∙ same k (ltb-true k levels low) out
      pick false low = ap (λ b. if b then u k else v k) low

  cut-both : (u v : Bits) → from u ≡ true → holds u ≡ true → (from (cut u v) && holds (cut u v)) ≡ true
  cut-both u v one two =
      and_from (from (cut u v)) (holds (cut u v))
      (from_depends (cut u v) u (λ k member. cut-low u v k (present_low k member)) ∙ one)
      (holds_within (cut u v) u (λ k low. cut-low u v k low) ∙ two)

  pub image-found : (v : Bits) → image (renamed whole v) ≡ true → (q : Bits) × (from q ≡ true) × StepsBy rel q v v
  image-found v is =
      let (u, same, both) = found (renamed whole v) is in
      let (one, two) = and_parts (from u) (holds u) both in (
        u,
        one,
        (
          u,
          record {
            now = λ k member. refl;
            letter = λ k member. same k (out-letter k member) ∙ renamed-itself rel.keep rel.state v k member;
            next = λ k member. same k (out-next k member) ∙ renamed-behind rel.keep rel.state v k (no-letter k member);
            is_step = sym (holds_is u) ∙ two;
          },
        ),
      )

  pub image-has : (q v : Bits) → from q ≡ true → StepsBy rel q v v → image (renamed whole v) ≡ true
  image-has q v one (u, joins) =
      has (renamed whole v) (
        cut u (renamed whole v),
        cut-outside u (renamed whole v) (λ k low out.
            kept (u k ≡ renamed whole v k) k low out
            (λ member. joins.letter k member ∙ sym (renamed-itself rel.keep rel.state v k member))
            (λ member. joins.next k member ∙ sym (renamed-behind rel.keep rel.state v k (no-letter k member)))),
        cut-both u (renamed whole v) (from_depends u q joins.now ∙ one) (holds_is u ∙ joins.is_step),
      )

  image-later : (u v : Bits) → SameAt (sources whole) u v → image u ≡ true → image v ≡ true
  image-later u v same is =
      let (w, outside, both) = found u is in
      let (one, two) = and_parts (from w) (holds w) both in
      has v (
        cut w v,
        cut-outside w v (λ k low out.
            outside k out
            ∙ kept (u k ≡ v k) k low out
            (λ member. same k (sources-whole rel.keep rel.state k ∙ ap (λ b. b || is_in (sources rel.state) k) member))
            (λ member. same k (sources-whole rel.keep rel.state k ∙ (λ i. no-letter k member i || member i)))),
        cut-both w v one two,
      )

  pub image-depends : (u v : Bits) → SameAt (sources whole) u v → image u ≡ image v
  image-depends u v same = same-tests (image u) (image v) (image-later u v same) (image-later v u (λ k member. sym (same k member)))
