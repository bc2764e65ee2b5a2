-- What a memo holds stays right.
use Rattle.std.proofs.Common.{◌≡◌, ◌⊎◌, ℕ, sym, subst, inl, inr}
use Rattle.node_table.specs.Table.{Table, Grows}
use Rattle.bdd_ops.specs.declared.choice.Choice.{Choice}
use Rattle.bdd_ops.specs.declared.memo.Memo.{Memo}
use Rattle.bdd_ops.specs.Recursion.{AreValid, IsNoted, IsRight}
use Rattle.bdd_ops.proofs.Choices.{choice-grows}

module _ (IsAnswer : Table → Choice → ℕ → Type 0) where
  pub right-empty : (t : Table) (m : Memo) → ((c : Choice) (r : ℕ) → IsNoted m c r → ⊥) → IsRight IsAnswer t m
  right-empty t m none = record { valid = λ c r noted. absurd (none c r noted); answer = λ c r noted. absurd (none c r noted) }

  pub right-grows : (a b : Table) → Grows a b → ((c : Choice) (r : ℕ) → AreValid a c → IsAnswer a c r → IsAnswer b c r) → (m : Memo) → IsRight IsAnswer a m → IsRight IsAnswer b m
  right-grows a b grow lasts m right = record {
    valid = λ c r noted. choice-grows a b grow c (right.valid c r noted);
    answer = λ c r noted. lasts c r (right.valid c r noted) (right.answer c r noted);
  }

  pub right-noted : (t : Table) (old new : Memo) (c : Choice) (r : ℕ) → ((d : Choice) (s : ℕ) → IsNoted new d s → ((d ≡ c) × (s ≡ r)) ⊎ IsNoted old d s) → IsRight IsAnswer t old → AreValid t c → IsAnswer t c r → IsRight IsAnswer t new
  right-noted t old new c r noted right valid answer = record {
    valid = λ d s at. valid_by d s (noted d s at);
    answer = λ d s at. answer_by d s (noted d s at);
  }
    where
      valid_by : (d : Choice) (s : ℕ) → ((d ≡ c) × (s ≡ r)) ⊎ IsNoted old d s → AreValid t d
      valid_by d s (inl same) = let P : Choice → Type 0 = λ e. AreValid t e in subst P (sym same.0) valid
      valid_by d s (inr before) = right.valid d s before

      answer_by : (d : Choice) (s : ℕ) → ((d ≡ c) × (s ≡ r)) ⊎ IsNoted old d s → IsAnswer t d s
      answer_by d s (inl same) =
          let P : Choice → Type 0 = λ e. IsAnswer t e s in
          let Q : ℕ → Type 0 = λ q. IsAnswer t c q in
          subst P (sym same.0) (subst Q (sym same.1) answer)
      answer_by d s (inr before) = right.answer d s before

  -- the Space grew, and the memo notes one more answer, or forgets some
  pub right-later : (a b : Table) → Grows a b → ((c : Choice) (r : ℕ) → AreValid a c → IsAnswer a c r → IsAnswer b c r) → (old new : Memo) (c : Choice) (r : ℕ) → ((d : Choice) (s : ℕ) → IsNoted new d s → ((d ≡ c) × (s ≡ r)) ⊎ IsNoted old d s) → IsRight IsAnswer a old → AreValid b c → IsAnswer b c r → IsRight IsAnswer b new
  right-later a b grow lasts old new c r noted right valid answer = right-noted b old new c r noted (right-grows a b grow lasts old right) valid answer
