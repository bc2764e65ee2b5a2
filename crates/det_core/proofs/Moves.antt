-- What the moves of a state do with a letter, and that they do the same in a space that has grown.
use Rattle.std.proofs.Common.{◌≡◌, ◌<◌, ◌||◌, ℕ, Bool, true, false, if◌then◌else◌, List, [], ◌∷◌, get_or, Option, Some, refl, sym, ap, ◌∙◌, subst, arith}
use Rattle.std.proofs.lemmas.Bool.{false≢true}
use Rattle.std.proofs.lemmas.Option.{none-some}
use Rattle.std.specs.Option.{MatchOption}
use Rattle.std.proofs.lemmas.List.Elements.{All-tail}
use Rattle.node_table.specs.Table.{Bits, Table, value_at, IsValid, Grows}
use Rattle.node_table.proofs.Growth.{valid-grows}
use Rattle.det_core.specs.declared.det.Move.{Move}
use Rattle.det_core.specs.Automata.{target_of, is_covered, TargetsBelow, AreGuardsValid, AreGuards}

module _ (t : Table) (n : ℕ) (bits : Bits) where
  abbrev pub Goes : List Move → Type 0
  Goes moves = (j : ℕ) × (target_of t moves bits ≡ Some j) × (j < n)

  goes-by : (m : Move) (moves : List Move) (b : Bool) → value_at t m.guard bits ≡ b → m.target < n → (is_covered t moves bits ≡ true → Goes moves) → is_covered t (m ∷ moves) bits ≡ true → Goes (m ∷ moves)
  goes-by m moves true at here later covered = (m.target, ap (λ c. if c then Some m.target else target_of t moves bits) at, here)
  goes-by m moves false at here later covered =
      let (j, is, less) = later (sym (ap (λ c. c || is_covered t moves bits) at) ∙ covered) in
      (j, ap (λ c. if c then Some m.target else target_of t moves bits) at ∙ is, less)

  -- a letter that some move has leads to one of the states
  pub goes : (moves : List Move) → TargetsBelow n moves → is_covered t moves bits ≡ true → Goes moves
  goes [] below covered = absurd (false≢true covered)
  goes (m ∷ moves) below covered =
      goes-by m moves (value_at t m.guard bits) refl (below 0 m (omega arith)) (λ later. goes moves (All-tail (λ m. m.target < n) m moves below) later) covered

module _ (a b : Table) (grow : Grows a b) where
  pub covered-grows : (moves : List Move) → AreGuardsValid a moves → (bits : Bits) → is_covered b moves bits ≡ is_covered a moves bits
  covered-grows [] valid bits = refl
  covered-grows (m ∷ moves) valid bits =
      let here : IsValid a m.guard = valid 0 m (omega arith) in
      ap (λ c. c || is_covered b moves bits) (grow.value m.guard here.held bits)
      ∙ ap (λ c. value_at a m.guard bits || c) (covered-grows moves (All-tail (λ m. IsValid a m.guard) m moves valid) bits)

  pub target-grows : (moves : List Move) → AreGuardsValid a moves → (bits : Bits) → target_of b moves bits ≡ target_of a moves bits
  target-grows [] valid bits = refl
  target-grows (m ∷ moves) valid bits =
      let here : IsValid a m.guard = valid 0 m (omega arith) in
      ap (λ c. if c then Some m.target else target_of b moves bits) (grow.value m.guard here.held bits)
      ∙ ap (λ o. if value_at a m.guard bits then Some m.target else o) (target-grows moves (All-tail (λ m. IsValid a m.guard) m moves valid) bits)

  pub guards-grow : (letters : Bits → Bool) (moves : List Move) → AreGuards a letters moves → AreGuards b letters moves
  guards-grow letters moves g = record {
    valid = λ k d within. valid-grows a b grow (get_or moves k d).guard (g.valid k d within);
    some = g.some;
    within = λ k d within bits at. g.within k d within bits (sym (grow.value (get_or moves k d).guard (g.valid k d within).held bits) ∙ at);
    disjoint = λ i j d less within bits at also.
        g.disjoint i j d less within bits
        (sym (grow.value (get_or moves i d).guard (g.valid i d (omega (arith, less, within))).held bits) ∙ at)
        (sym (grow.value (get_or moves j d).guard (g.valid j d within).held bits) ∙ also);
    targets = g.targets;
  }

-- a letter leads to one of the states only
pub target-low : (t : Table) (n j : ℕ) (bits : Bits) (moves : List Move) → TargetsBelow n moves → target_of t moves bits ≡ Some j → j < n
target-low t n j bits [] below is = absurd (none-some j is)
target-low t n j bits (m ∷ moves) below is = pick (value_at t m.guard bits) (below 0 m (omega arith)) (target-low t n j bits moves (All-tail (λ m. m.target < n) m moves below)) is
  where
    pick : (b : Bool) → m.target < n → (target_of t moves bits ≡ Some j → j < n) → (if b then Some m.target else target_of t moves bits) ≡ Some j → j < n
    pick true here later is = subst (λ (o : Option ℕ). MatchOption o (Unit {0}) (λ k. k < n)) is here
    pick false here later is = later is
