-- A run of two relations side by side is a run of each.
use Rattle.std.proofs.Common.{◌≡◌, ◌==◌, ◌++◌, ◌||◌, ◌↔◌, ◌⊎◌, ℕ, Bool, true, false, if◌then◌else◌, List, [], ◌∷◌, inl, inr, refl, sym, ap, ◌∙◌}
use Rattle.std.proofs.lemmas.Bool.{eqb-true, eq-eqb, true≢false, false≢true, and_parts, and_from, or_cases, or_left, or_right}
use Rattle.std.proofs.lemmas.List.{map-append}
use Rattle.node_table.specs.Table.{Bits}
use Rattle.bdd_ops.specs.Levels.{is_in, SameAt, sources, renamed}
use Rattle.net_model.specs.Automata.{RunsFrom}
use Rattle.det_core.specs.Automata.{BitWord}
use Rattle.subset_build.specs.Relations.{Relation, present_of, StepsBy, HasRun}
use Rattle.subset_build.proofs.Lists.{is_in-append}
use Rattle.sync_solve.specs.Products.{SameLetters, beside, AreBeside}

pub decided : (b : Bool) → (b ≡ true) ⊎ (b ≡ false)
decided true = inl refl
decided false = inr refl

-- a level among those of two lists
pub in-left : (xs ys : List ℕ) (k : ℕ) → is_in xs k ≡ true → is_in (xs ++ ys) k ≡ true
in-left xs ys k member = is_in-append xs ys k ∙ or_left (is_in xs k) (is_in ys k) member

pub in-right : (xs ys : List ℕ) (k : ℕ) → is_in ys k ≡ true → is_in (xs ++ ys) k ≡ true
in-right xs ys k member = is_in-append xs ys k ∙ or_right (is_in xs k) (is_in ys k) member

pub in-either : (xs ys : List ℕ) (k : ℕ) → is_in (xs ++ ys) k ≡ true → (is_in xs k ≡ true) ⊎ (is_in ys k ≡ true)
in-either xs ys k member = or_cases (is_in xs k) (is_in ys k) (sym (is_in-append xs ys k) ∙ member)

pub present-append : (xs ys : List (ℕ × ℕ)) → present_of (xs ++ ys) ≡ present_of xs ++ present_of ys
present-append xs ys = map-append (λ (p : ℕ × ℕ). p.1) xs ys

pub sources-append : (xs ys : List (ℕ × ℕ)) → sources (xs ++ ys) ≡ sources xs ++ sources ys
sources-append xs ys = map-append (λ (p : ℕ × ℕ). p.0) xs ys

-- bits that are read through two maps
module _ (p : ℕ × ℕ) (xs : List (ℕ × ℕ)) (k : ℕ) where
  -- a source that isn't the first one
  later-source : (k == p.0) ≡ false → is_in (sources (p ∷ xs)) k ≡ true → is_in (sources xs) k ≡ true
  later-source apart member = pick (p.0 == k) refl member
    where
      pick : (b : Bool) → (p.0 == k) ≡ b → (b || is_in (sources xs) k) ≡ true → is_in (sources xs) k ≡ true
      pick true same is = absurd (true≢false (sym (eq-eqb k p.0 (sym (eqb-true p.0 k same))) ∙ apart))
      pick false same is = is

  -- what is no source isn't the first one either
  not-first : is_in (sources (p ∷ xs)) k ≡ false → ((k == p.0) ≡ false) × (is_in (sources xs) k ≡ false)
  not-first out = (pick (k == p.0) refl, rest (is_in (sources xs) k) refl)
    where
      pick : (b : Bool) → (k == p.0) ≡ b → (k == p.0) ≡ false
      pick true same = absurd (true≢false (sym (or_left (p.0 == k) (is_in (sources xs) k) (eq-eqb p.0 k (sym (eqb-true k p.0 same)))) ∙ out))
      pick false same = same

      rest : (b : Bool) → is_in (sources xs) k ≡ b → is_in (sources xs) k ≡ false
      rest true same = absurd (true≢false (sym (or_right (p.0 == k) (is_in (sources xs) k) same) ∙ out))
      rest false same = same

pub renamed-left : (xs ys : List (ℕ × ℕ)) (v : Bits) (k : ℕ) → is_in (sources xs) k ≡ true → renamed (xs ++ ys) v k ≡ renamed xs v k
renamed-left [] ys v k member = absurd (false≢true member)
renamed-left (p ∷ xs) ys v k member = pick (k == p.0) refl (renamed-left xs ys v k)
  where
    pick : (b : Bool) → (k == p.0) ≡ b → (is_in (sources xs) k ≡ true → renamed (xs ++ ys) v k ≡ renamed xs v k) → renamed ((p ∷ xs) ++ ys) v k ≡ renamed (p ∷ xs) v k
    pick true at later = ap (λ b. if b then v p.1 else renamed (xs ++ ys) v k) at ∙ sym (ap (λ b. if b then v p.1 else renamed xs v k) at)
    pick false at later = ap (λ r. if k == p.0 then v p.1 else r) (later (later-source p xs k at member))

pub renamed-right : (xs ys : List (ℕ × ℕ)) (v : Bits) (k : ℕ) → is_in (sources xs) k ≡ false → renamed (xs ++ ys) v k ≡ renamed ys v k
renamed-right [] ys v k out = refl
renamed-right (p ∷ xs) ys v k out =
    let apart = not-first p xs k out in
    ap (λ b. if b then v p.1 else renamed (xs ++ ys) v k) apart.0 ∙ renamed-right xs ys v k apart.1

pub renamed-same : (xs : List (ℕ × ℕ)) (u v : Bits) (k : ℕ) → SameAt (present_of xs) u v → is_in (sources xs) k ≡ true → renamed xs u k ≡ renamed xs v k
renamed-same [] u v k same member = absurd (false≢true member)
renamed-same (p ∷ xs) u v k same member = pick (k == p.0) refl (renamed-same xs u v k (λ l there. same l (or_right (p.1 == l) (is_in (present_of xs) l) there)))
  where
    pick : (b : Bool) → (k == p.0) ≡ b → (is_in (sources xs) k ≡ true → renamed xs u k ≡ renamed xs v k) → renamed (p ∷ xs) u k ≡ renamed (p ∷ xs) v k
    pick true at later =
        ap (λ b. if b then u p.1 else renamed xs u k) at
        ∙ same p.1 (or_left (p.1 == p.1) (is_in (present_of xs) p.1) (eq-eqb p.1 p.1 refl))
        ∙ sym (ap (λ b. if b then v p.1 else renamed xs v k) at)
    pick false at later = ap (λ b. if b then u p.1 else renamed xs u k) at ∙ later (later-source p xs k at member) ∙ sym (ap (λ b. if b then v p.1 else renamed xs v k) at)

module _ (a b : Relation) (kept a_levels b_levels : List ℕ) (are : AreBeside a b kept a_levels b_levels) where
  abbrev both : Relation
  both = beside kept a b

  -- no level of the second one's states is one of the first one's
  now-apart : (k : ℕ) → is_in (present_of b.state) k ≡ true → is_in (present_of a.state) k ≡ false
  now-apart k member = elim (decided (is_in (present_of a.state) k)) [
    | inl there ↦ absurd (true≢false (sym (are.a_now k there) ∙ (are.b_now k member).1))
    | inr out ↦ out
  ]

  next-apart : (k : ℕ) → is_in (sources b.state) k ≡ true → is_in (sources a.state) k ≡ false
  next-apart k member = elim (decided (is_in (sources a.state) k)) [
    | inl there ↦ absurd (true≢false (sym (are.a_next k there) ∙ (are.b_next k member).1))
    | inr out ↦ out
  ]

  -- the state of the first, and beside it that of the second
  abbrev joined_state : Bits → Bits → Bits
  joined_state p q k = if is_in (present_of a.state) k then p k else q k

  state-left : (p q : Bits) → SameAt (present_of a.state) (joined_state p q) p
  state-left p q k member = ap (λ b. if b then p k else q k) member

  state-right : (p q : Bits) → SameAt (present_of b.state) (joined_state p q) q
  state-right p q k member = ap (λ b. if b then p k else q k) (now-apart k member)

  -- the bits of the first at its levels, of the second at its other levels, and those of the letter elsewhere
  abbrev joined_bits : Bits → Bits → Bits → Bits
  joined_bits u v w k = if is_in a_levels k then u k else (if is_in b_levels k then v k else w k)

  bits-left : (u v w : Bits) → SameAt a_levels (joined_bits u v w) u
  bits-left u v w k member = ap (λ b. if b then u k else (if is_in b_levels k then v k else w k)) member

  bits-right : (u v w : Bits) (k : ℕ) → is_in a_levels k ≡ false → is_in b_levels k ≡ true → joined_bits u v w k ≡ v k
  bits-right u v w k out member = ap (λ b. if b then u k else (if is_in b_levels k then v k else w k)) out ∙ ap (λ b. if b then v k else w k) member

  bits-else : (u v w : Bits) (k : ℕ) → is_in a_levels k ≡ false → is_in b_levels k ≡ false → joined_bits u v w k ≡ w k
  bits-else u v w k out member = ap (λ b. if b then u k else (if is_in b_levels k then v k else w k)) out ∙ ap (λ b. if b then v k else w k) member

  -- where both have the bits of the letter at the levels of their letters, the second finds its own
  bits-second : (u v w : Bits) → SameAt a.keep u w → SameAt b.keep v w → SameAt b_levels (joined_bits u v w) v
  bits-second u v w of_a of_b k member = elim (decided (is_in a_levels k)) [
    | inl there ↦ let common = are.shared k there member in bits-left u v w k there ∙ of_a k common.0 ∙ sym (of_b k common.1)
    | inr out ↦ bits-right u v w k out member
  ]

  bits-letter : (u v w : Bits) → SameAt a.keep u w → SameAt b.keep v w → SameAt kept (joined_bits u v w) w
  bits-letter u v w of_a of_b k member = elim (decided (is_in a_levels k)) [
    | inl there ↦ bits-left u v w k there ∙ of_a k (are.kept_a k member there)
    | inr out ↦ elim (decided (is_in b_levels k)) [
      | inl there ↦ bits-right u v w k out there ∙ of_b k (are.kept_b k member there)
      | inr nowhere ↦ bits-else u v w k out nowhere
    ]
  ]

  join-step : (p q r s w x : Bits) → SameAt kept w x → StepsBy a p w r → StepsBy b q w s → StepsBy both (joined_state p q) x (joined_state r s)
  join-step p q r s w x same (u, ja) (v, jb) = (
    joined_bits u v w,
    record {
      now = λ k member. elim (in-either (present_of a.state) (present_of b.state) k (ap (λ l. is_in l k) (sym (present-append a.state b.state)) ∙ member)) [
        | inl there ↦ bits-left u v w k (are.a_now k there) ∙ ja.now k there ∙ sym (state-left p q k there)
        | inr there ↦ let own = are.b_now k there in bits-right u v w k own.1 own.0 ∙ jb.now k there ∙ sym (state-right p q k there)
      ];
      letter = λ k member. bits-letter u v w ja.letter jb.letter k member ∙ same k member;
      next = λ k member. elim (in-either (sources a.state) (sources b.state) k (ap (λ l. is_in l k) (sym (sources-append a.state b.state)) ∙ member)) [
        | inl there ↦
            bits-left u v w k (are.a_next k there) ∙ ja.next k there
            ∙ renamed-same a.state r (joined_state r s) k (λ l at. sym (state-left r s l at)) there
            ∙ sym (renamed-left a.state b.state (joined_state r s) k there)
        | inr there ↦
            let own = are.b_next k there in
            bits-right u v w k own.1 own.0 ∙ jb.next k there
            ∙ renamed-same b.state s (joined_state r s) k (λ l at. sym (state-right r s l at)) there
            ∙ sym (renamed-right a.state b.state (joined_state r s) k (next-apart k there))
      ];
      is_step = and_from (a.holds (joined_bits u v w)) (b.holds (joined_bits u v w))
          (are.a_holds (joined_bits u v w) u (bits-left u v w) ∙ ja.is_step)
          (are.b_holds (joined_bits u v w) v (bits-second u v w ja.letter jb.letter) ∙ jb.is_step);
    },
  )

  abbrev Run : Relation → Bits → BitWord → Type 0
  Run rel q word = RunsFrom (StepsBy rel) (λ q. rel.acc q ≡ true) q word

  runs-join : (ws xs : BitWord) (p q : Bits) → SameLetters kept ws xs → Run a p ws → Run b q ws → Run both (joined_state p q) xs
  runs-join [] [] p q same of_a of_b =
      and_from (a.acc (joined_state p q)) (b.acc (joined_state p q)) (are.a_acc (joined_state p q) p (state-left p q) ∙ of_a) (are.b_acc (joined_state p q) q (state-right p q) ∙ of_b)
  runs-join [] (x ∷ xs) p q same of_a of_b = absurd same
  runs-join (w ∷ ws) [] p q same of_a of_b = absurd same
  runs-join (w ∷ ws) (x ∷ xs) p q same (r, step_a, of_a) (s, step_b, of_b) =
      (joined_state r s, join-step p q r s w x same.0 step_a step_b, runs-join ws xs r s same.1 of_a of_b)

  -- and a step of both is one of each, by the letter that its bits have
  split-left : (q u r : Bits) (x : Bits) → (j : StepsBy both q x r) → StepsBy a q j.0 r
  split-left q u r x (bits, j) = (
    bits,
    record {
      now = λ k member. j.now k (ap (λ l. is_in l k) (present-append a.state b.state) ∙ in-left (present_of a.state) (present_of b.state) k member);
      letter = λ k member. refl;
      next = λ k member. j.next k (ap (λ l. is_in l k) (sources-append a.state b.state) ∙ in-left (sources a.state) (sources b.state) k member) ∙ renamed-left a.state b.state r k member;
      is_step = (and_parts (a.holds bits) (b.holds bits) j.is_step).0;
    },
  )

  split-right : (q u r : Bits) (x : Bits) → (j : StepsBy both q x r) → StepsBy b q j.0 r
  split-right q u r x (bits, j) = (
    bits,
    record {
      now = λ k member. j.now k (ap (λ l. is_in l k) (present-append a.state b.state) ∙ in-right (present_of a.state) (present_of b.state) k member);
      letter = λ k member. refl;
      next = λ k member. j.next k (ap (λ l. is_in l k) (sources-append a.state b.state) ∙ in-right (sources a.state) (sources b.state) k member) ∙ renamed-right a.state b.state r k (next-apart k member);
      is_step = (and_parts (a.holds bits) (b.holds bits) j.is_step).1;
    },
  )

  runs-split : (xs : BitWord) (q : Bits) → Run both q xs → (ws : BitWord) × SameLetters kept ws xs × Run a q ws × Run b q ws
  runs-split [] q accepts = let parts = and_parts (a.acc q) (b.acc q) accepts in ([], tt, parts.0, parts.1)
  runs-split (x ∷ xs) q (r, (u, j), run) =
      let (ws, same, of_a, of_b) = runs-split xs r run in
      (u ∷ ws, (j.letter, same), (r, split-left q u r x (u, j), of_a), (r, split-right q u r x (u, j), of_b))

  pub product-words : (xs : BitWord) → HasRun both xs ↔ ((ws : BitWord) × SameLetters kept ws xs × HasRun a ws × HasRun b ws)
  product-words xs = (
    λ (q, initial, run).
        let (ws, same, of_a, of_b) = runs-split xs q run in
        let parts = and_parts (a.init q) (b.init q) initial in
        (ws, same, (q, parts.0, of_a), (q, parts.1, of_b)),
    λ (ws, same, (p, first, of_a), (q, second, of_b)). (
      joined_state p q,
      and_from (a.init (joined_state p q)) (b.init (joined_state p q)) (are.a_init (joined_state p q) p (state-left p q) ∙ first) (are.b_init (joined_state p q) q (state-right p q) ∙ second),
      runs-join ws xs p q same of_a of_b,
    ),
  )
