-- Two relations that run side by side on one word.
use Rattle.std.specs.Prelude.{◌≡◌, ◌&&◌, ◌++◌, ℕ, true, false, List, [], ◌∷◌}
use Rattle.node_table.specs.Table.{Bits}
use Rattle.bdd_ops.specs.Levels.{is_in, SameAt, sources}
use Rattle.det_core.specs.Automata.{BitWord}
use Rattle.subset_build.specs.Relations.{Relation, present_of}

-- the words are as long as each other, and have the same bits at these levels at each position
abbrev pub SameLetters : List ℕ → BitWord → BitWord → Type 0
SameLetters keep [] [] = Unit {0}
SameLetters keep [] (x ∷ xs) = ⊥
SameLetters keep (w ∷ ws) [] = ⊥
SameLetters keep (w ∷ ws) (x ∷ xs) = SameAt keep w x × SameLetters keep ws xs

-- a step of both, at one letter of which these levels are kept
abbrev pub beside : List ℕ → Relation → Relation → Relation
beside keep a b = record {
  init = λ q. a.init q && b.init q;
  acc = λ q. a.acc q && b.acc q;
  holds = λ u. a.holds u && b.holds u;
  keep = keep;
  state = a.state ++ b.state;
}

-- The two have nothing in common but levels of their letters: each depends on its own levels alone, and those of the second
-- one's states are no levels of the first.
pub record AreBeside (a b : Relation) (kept a_levels b_levels : List ℕ) : Type 0 where
  pub a_holds : (u v : Bits) → SameAt a_levels u v → a.holds u ≡ a.holds v
  pub b_holds : (u v : Bits) → SameAt b_levels u v → b.holds u ≡ b.holds v
  pub a_init : (u v : Bits) → SameAt (present_of a.state) u v → a.init u ≡ a.init v
  pub b_init : (u v : Bits) → SameAt (present_of b.state) u v → b.init u ≡ b.init v
  pub a_acc : (u v : Bits) → SameAt (present_of a.state) u v → a.acc u ≡ a.acc v
  pub b_acc : (u v : Bits) → SameAt (present_of b.state) u v → b.acc u ≡ b.acc v
  pub a_now : (k : ℕ) → is_in (present_of a.state) k ≡ true → is_in a_levels k ≡ true
  pub a_next : (k : ℕ) → is_in (sources a.state) k ≡ true → is_in a_levels k ≡ true
  pub b_now : (k : ℕ) → is_in (present_of b.state) k ≡ true → (is_in b_levels k ≡ true) × (is_in a_levels k ≡ false)
  pub b_next : (k : ℕ) → is_in (sources b.state) k ≡ true → (is_in b_levels k ≡ true) × (is_in a_levels k ≡ false)
  pub shared : (k : ℕ) → is_in a_levels k ≡ true → is_in b_levels k ≡ true → (is_in a.keep k ≡ true) × (is_in b.keep k ≡ true)
  pub kept_a : (k : ℕ) → is_in kept k ≡ true → is_in a_levels k ≡ true → is_in a.keep k ≡ true
  pub kept_b : (k : ℕ) → is_in kept k ≡ true → is_in b_levels k ≡ true → is_in b.keep k ≡ true
