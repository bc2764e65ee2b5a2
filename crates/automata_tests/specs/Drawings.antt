-- What is asked of the diagrams of a case.
use Rattle.std.specs.Prelude.{◌≡◌, ◌<◌, ◌≤◌, ℕ}
use Rattle.node_table.specs.Table.{Bits, Table, value_at}

-- the bits agree at the levels from `first` on that lie above `end`
abbrev pub SameBetween : ℕ → ℕ → Bits → Bits → Type 0
SameBetween first end u v = (k : ℕ) → first ≤ k → k < end → u k ≡ v k

-- the value of the ref depends on the bits at these levels alone
abbrev pub AsksBetween : Table → ℕ → ℕ → ℕ → Type 0
AsksBetween t first end r = (u v : Bits) → SameBetween first end u v → value_at t r u ≡ value_at t r v
