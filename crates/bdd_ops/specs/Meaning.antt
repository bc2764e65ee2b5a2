-- What a diagram stands for.
use Rattle.std.specs.Prelude.{◌≡◌, ℕ, Bool, true, if◌then◌else◌, nat_lt, List}
use Rattle.node_table.specs.Table.{Bits, Table, value_at, IsValid}
use Rattle.bdd_ops.specs.Levels.{SameOutside, SameAt}

-- a valid ref with this value at all bits
pub record StandsFor (t : Table) (r : ℕ) (meaning : Bits → Bool) : Type 0 where
  pub valid : IsValid t r
  pub value : (bits : Bits) → value_at t r bits ≡ meaning bits

-- some bits at these levels, beside the others as they are, give the value 1
abbrev pub HasSome : List ℕ → (Bits → Bool) → Bits → Type 0
HasSome levels meaning bits = (u : Bits) × SameOutside levels u bits × (meaning u ≡ true)

-- a valid ref that has the value 1 exactly where some bits at these levels give it
pub record StandsForHidden (t : Table) (r : ℕ) (levels : List ℕ) (meaning : Bits → Bool) : Type 0 where
  pub valid : IsValid t r
  pub found : (bits : Bits) → value_at t r bits ≡ true → HasSome levels meaning bits
  pub holds : (bits : Bits) → HasSome levels meaning bits → value_at t r bits ≡ true

-- the value of the ref depends on the bits at these levels alone
abbrev pub DependsOn : Table → List ℕ → ℕ → Type 0
DependsOn t levels r = (u v : Bits) → SameAt levels u v → value_at t r u ≡ value_at t r v

-- no ref of the Space has this value
abbrev pub IsMissing : Table → (Bits → Bool) → Type 0
IsMissing t meaning = (r : ℕ) → IsValid t r → ((bits : Bits) → value_at t r bits ≡ meaning bits) → ⊥

-- the bits of `above` above this level, and those of `below` from it on
abbrev pub joined : ℕ → Bits → Bits → Bits
joined level above below k = if nat_lt k level then above k else below k

-- With the bits above some level fixed, no ref of the Space stands for what is left of the meaning where these levels are
-- hidden. It is an answer on the way to that with no bits fixed.
pub record IsShort (t : Table) (levels : List ℕ) (meaning : Bits → Bool) : Type 0 where
  pub level : ℕ
  pub above : Bits
  pub missing : (r : ℕ) → StandsForHidden t r levels (λ bits. meaning (joined level above bits)) → ⊥
