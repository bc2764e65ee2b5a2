-- Where what a file has for itself stands.
use Rattle.std.proofs.Common.{◌≡◌, ◌+◌, ◌<◌, ◌≤◌, inl, inr, ℕ, zero, suc, Bool, true, false, not, nat_eq, List, [], ◌∷◌, length, arith}
use Rattle.std.specs.List.{list_any}
use Rattle.std.specs.Str.{bytes_eq}
use Rattle.std.proofs.lemmas.Bool.{cases_order, and_parts, or_parts}
use Rattle.name_table.specs.CodeBits.{bits_in}
use Rattle.name_table.specs.ScopeVars.{variable_at}
use Rattle.name_table.specs.Variables.{Variable, names_of, are_different}
use Rattle.name_table.proofs.Apart.{not_true}
use Rattle.node_table.specs.Table.{Table}
use Rattle.net_model.specs.Nets.{Net}
use Rattle.net_model.specs.Conditions.{latch_outputs}
use Rattle.net_model.specs.NetLanguages.{letter_signals}
use Rattle.mv_encoding.specs.Layouts.{Layout, IsLaid}
use Rattle.net_problem.specs.ProblemBits.{own_of, own_scope}
use Rattle.net_frame.specs.Frames.{own_level, own_spot, next_spot}
use Rattle.net_frame.proofs.Beside.{AreBeside}
use Rattle.net_frame.proofs.JointLevels.{EndsBelow}
use Rattle.net_frame.proofs.Summed.{own-behind, own-within, own-latch, own-other}

-- the code lies among the levels of a signal
pub record LiesIn (net : Net) (start signal : ℕ) (spot : Layout) : Type 0 where
  pub low : own_level net start signal ≤ spot.first
  pub high : spot.first + bits_in spot.scope ≤ own_level net start signal + bits_in (own_of net signal)

module _ (net : Net) (start : ℕ) where
  pub in-other : (signal : ℕ) → list_any (nat_eq signal) (letter_signals net) ≡ false → LiesIn net start signal (own_spot net start signal)
  in-other signal none =
      let bits = own-other net signal none in
      record { low = omega arith; high = omega (arith, bits) }

  pub in-present : (signal : ℕ) → list_any (nat_eq signal) (latch_outputs net) ≡ true → LiesIn net start signal (own_spot net start signal)
  in-present signal is =
      let bits = own-latch net signal is in
      record { low = omega arith; high = omega (arith, bits) }

  pub in-next : (signal : ℕ) → list_any (nat_eq signal) (latch_outputs net) ≡ true → LiesIn net start signal (next_spot net start signal)
  in-next signal is =
      let bits = own-latch net signal is in
      record { low = omega arith; high = omega (arith, bits) }

  -- different signals
  pub lies-beside : (i j : ℕ) (a b : Layout) → (i ≡ j → ⊥) → LiesIn net start i a → LiesIn net start j b → AreBeside a b
  lies-beside i j a b differ one other =
      elim (cases_order i j) [
        | inl same ↦ absurd (differ same)
        | inr order ↦
            elim order [
              | inl less ↦ let behind = own-behind net i j less in inl (omega (arith, behind, one.high, other.low))
              | inr more ↦ let behind = own-behind net j i more in inr (omega (arith, behind, other.high, one.low))
            ]
      ]

  pub states-beside : (signal : ℕ) → AreBeside (own_spot net start signal) (next_spot net start signal)
  states-beside signal = inl (omega arith)

  -- what ends before the first of them
  pub joint-lies : (i : ℕ) (a b : Layout) → EndsBelow start a → LiesIn net start i b → AreBeside a b
  joint-lies i a b ends lies = inl (omega (arith, ends, lies.low))

  pub lies-laid : (t : Table) → start + bits_in (own_scope net) ≤ t.levels → (i : ℕ) (a : Layout) → i < length net.names → LiesIn net start i a → IsLaid a t
  lies-laid t room i a known lies k below = let within = own-within net i known in omega (arith, within, lies.high, room, below)

pub ends-laid : (t : Table) (end : ℕ) (a : Layout) → end ≤ t.levels → EndsBelow end a → IsLaid a t
ends-laid t end a room ends k below = omega (arith, room, ends, below)

-- different names
none-at : (p : List ℕ → Bool) (vars : List Variable) (j : ℕ) → list_any p (names_of vars) ≡ false → j < length vars → p (variable_at vars j).name ≡ false
none-at p [] j none below = absurd (omega (arith, below))
none-at p (v ∷ vars) zero none below = (or_parts (p v.name) (list_any p (names_of vars)) none).0
none-at p (v ∷ vars) (suc j) none below = none-at p vars j (or_parts (p v.name) (list_any p (names_of vars)) none).1 (omega (arith, below))

pub names-differ : (vars : List Variable) → are_different (names_of vars) ≡ true → (i j : ℕ) → i < j → j < length vars → bytes_eq (variable_at vars i).name (variable_at vars j).name ≡ false
names-differ [] different i j less below = absurd (omega (arith, below))
names-differ (v ∷ vars) different i zero less below = absurd (omega (arith, less))
names-differ (v ∷ vars) different zero (suc j) less below =
    let parts = and_parts (not (list_any (bytes_eq v.name) (names_of vars))) (are_different (names_of vars)) different in
    none-at (bytes_eq v.name) vars j (not_true (list_any (bytes_eq v.name) (names_of vars)) parts.0) (omega (arith, below))
names-differ (v ∷ vars) different (suc i) (suc j) less below =
    let parts = and_parts (not (list_any (bytes_eq v.name) (names_of vars))) (are_different (names_of vars)) different in
    names-differ vars parts.1 i j (omega (arith, less)) (omega (arith, below))
