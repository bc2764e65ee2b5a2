-- The steps that the operations share.
use Rattle.std.specs.Prelude.{◌≡◌, ◌<◌, ◌≤◌, ℕ, Bool, true, if◌then◌else◌, min, List, slice_index_or}
use Rattle.node_table.specs.Table.{Bits, Table, value_at, top_of, IsValid}
use Rattle.bdd_ops.specs.declared.choice.Choice.{Choice}
use Rattle.bdd_ops.specs.declared.memo.Entry.{Entry}
use Rattle.bdd_ops.specs.declared.memo.Memo.{Memo}
use Rattle.bdd_ops.specs.Levels.{target_or, renamed}
use Rattle.bdd_ops.specs.Meaning.{HasSome}

-- all three are valid
pub record AreValid (t : Table) (c : Choice) : Type 0 where
  pub f : IsValid t c.f
  pub g : IsValid t c.g
  pub h : IsValid t c.h

-- g where f is 1, and h where it is 0
abbrev pub ite_value : Table → Choice → Bits → Bool
ite_value t c bits = if value_at t c.f bits then value_at t c.g bits else value_at t c.h bits

-- the topmost level of the three
abbrev pub low_of : Table → Choice → ℕ
low_of t c = min (top_of t c.f) (min (top_of t c.g) (top_of t c.h))

-- a valid ref with this value, whose level is the floor or lies below it
pub record StandsBelow (t : Table) (floor r : ℕ) (meaning : Bits → Bool) : Type 0 where
  pub valid : IsValid t r
  pub top : floor ≤ top_of t r
  pub value : (bits : Bits) → value_at t r bits ≡ meaning bits

-- the same, with these levels hidden
pub record HidesBelow (t : Table) (floor r : ℕ) (levels : List ℕ) (meaning : Bits → Bool) : Type 0 where
  pub valid : IsValid t r
  pub top : floor ≤ top_of t r
  pub found : (bits : Bits) → value_at t r bits ≡ true → HasSome levels meaning bits
  pub holds : (bits : Bits) → HasSome levels meaning bits → value_at t r bits ≡ true

-- r is what is left of f once the bit at this level is fixed
pub record IsCofactor (t : Table) (level f : ℕ) (bit : Bool) (r : ℕ) : Type 0 where
  pub valid : IsValid t r
  pub below : level < top_of t r
  pub value : (bits : Bits) → bits level ≡ bit → value_at t f bits ≡ value_at t r bits

-- d is what is left of the three of c once the bit at this level is fixed
pub record AreCofactors (t : Table) (level : ℕ) (bit : Bool) (c d : Choice) : Type 0 where
  pub f : IsCofactor t level c.f bit d.f
  pub g : IsCofactor t level c.g bit d.g
  pub h : IsCofactor t level c.h bit d.h
  pub valid : AreValid t d
  pub below : level < low_of t d
  pub value : (bits : Bits) → bits level ≡ bit → ite_value t c bits ≡ ite_value t d bits

-- the three diagrams of a slot without an answer
abbrev pub no_choice : Choice
no_choice = record { f = 0; g = 0; h = 0 }

-- some slot has this entry, which isn't that of a slot without an answer
pub record IsHeld (slots : List Entry) (e : Entry) : Type 0 where
  pub slot : ℕ
  pub is : slice_index_or slots slot (record { at = no_choice; answer = 0 }) ≡ e
  pub some : e.at ≡ no_choice → ⊥

-- the memo has this answer
abbrev pub IsNoted : Memo → Choice → ℕ → Type 0
IsNoted m c r = IsHeld m.slots.items (record { at = c; answer = r })

-- each answer that the memo has is right, where `IsAnswer t c r` says that r is the answer at c
pub record IsRight (IsAnswer : Table → Choice → ℕ → Type 0) (t : Table) (m : Memo) : Type 0 where
  pub valid : (c : Choice) (r : ℕ) → IsNoted m c r → AreValid t c
  pub answer : (c : Choice) (r : ℕ) → IsNoted m c r → IsAnswer t c r

-- r is g where f is 1, and h where it is 0
abbrev pub IsIte : Table → Choice → ℕ → Type 0
IsIte t c r = StandsBelow t (low_of t c) r (ite_value t c)

-- the same, with these levels hidden
abbrev pub IsHidden : List ℕ → Table → Choice → ℕ → Type 0
IsHidden levels t c r = HidesBelow t (low_of t c) r levels (ite_value t c)

-- r is f with its levels renamed
abbrev pub IsRenamed : List (ℕ × ℕ) → Table → Choice → ℕ → Type 0
IsRenamed pairs t c r = StandsBelow t (target_or t.levels pairs (top_of t c.f)) r (λ bits. value_at t c.f (renamed pairs bits))
