-- Sets of letters, and codes of letters, on the levels of a layout.
use Rattle.std.specs.Prelude.{◌≡◌, ◌+◌, ◌<◌, ℕ, Bool, true, [], ◌∷◌}
use Rattle.name_table.specs.CodeBits.{bits_in}
use Rattle.name_table.specs.ScopeVars.{variable_at}
use Rattle.net_model.specs.Words.{Letter, IsLetter}
use Rattle.node_table.specs.Table.{Bits, Table, value_at, IsValid}
use Rattle.bdd_ops.specs.Meaning.{DependsOn}
use Rattle.mv_encoding.specs.Layouts.{Layout, bits_before, numbers_of, levels_of}

-- The ref stands for the letters of which `Member` tells: it depends on the levels of the code alone, has the value 1 at the
-- code of each member, and 0 at all other bits.
pub record StandsForSet (t : Table) (layout : Layout) (r : ℕ) (Member : Letter → Type 0) : Type 0 where
  pub valid : IsValid t r
  pub depends : DependsOn t (levels_of layout) r
  pub found : (bits : Bits) → value_at t r bits ≡ true → IsLetter layout.scope (numbers_of layout bits) × Member (numbers_of layout bits)
  pub holds : (bits : Bits) → IsLetter layout.scope (numbers_of layout bits) → Member (numbers_of layout bits) → value_at t r bits ≡ true

-- where the code of one variable stands
abbrev pub layout_of : Layout → ℕ → Layout
layout_of layout var = record { scope = variable_at layout.scope var ∷ []; first = layout.first + bits_before layout.scope var }

-- the bits at the levels of a layout are those of this code
abbrev pub HasCode : Layout → (ℕ → Bool) → Bits → Type 0
HasCode layout code bits = (k : ℕ) → k < bits_in layout.scope → bits (layout.first + k) ≡ code k
