-- What is left where the bits above a level are fixed is one ref.
use Rattle.std.proofs.Common.{◌≡◌, ◌<◌, ◌≤◌, ℕ, if◌then◌else◌, nat_lt, sym, ap, ◌∙◌, arith}
use Rattle.std.proofs.lemmas.Bool.{lt-ltb, ltb-true, false_from_ne_true}
use Rattle.node_table.specs.Table.{Bits, Table, number_of_next, level_or, AreNodes}
use Rattle.node_table.proofs.Canonical.{value-below, canonical}
use Rattle.bdd_walk.specs.Cuts.{SameAbove, IsLeft}

module _ (level : ℕ) where
  -- the first bits above the level, and the second from there on
  abbrev merged : Bits → Bits → Bits
  merged v x k = if nat_lt k level then v k else x k

  merged-above : (v x : Bits) → SameAbove level v (merged v x)
  merged-above v x k less = sym (ap (λ b. if b then v k else x k) (lt-ltb k level less))

  merged-from : (v x : Bits) (k : ℕ) → level ≤ k → merged v x k ≡ x k
  merged-from v x k low = ap (λ b. if b then v k else x k) (false_from_ne_true (nat_lt k level) (λ less. let under = ltb-true k level less in omega (arith, under, low)))

  -- nothing else is left by the same bits
  pub left-unique : (t : Table) (levels f : ℕ) → AreNodes levels t.nodes → (v : Bits) (r s : ℕ) → r < number_of_next t.nodes → s < number_of_next t.nodes → level ≤ level_or levels t.nodes r → level ≤ level_or levels t.nodes s → IsLeft t level f v r → IsLeft t level f v s → r ≡ s
  left-unique t levels f all v r s r_held s_held r_low s_low r_left s_left =
      canonical levels t.nodes all r s r_held s_held (λ x.
      value-below levels t.nodes all r r_held x (merged v x) (λ k low. sym (merged-from v x k (omega (arith, low, r_low))))
      ∙ sym (r_left (merged v x) (merged-above v x))
      ∙ s_left (merged v x) (merged-above v x)
      ∙ value-below levels t.nodes all s s_held (merged v x) x (λ k low. merged-from v x k (omega (arith, low, s_low))))
