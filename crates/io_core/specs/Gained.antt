use Rattle.std.specs.Prelude.{◌≡◌, ◌≤◌, ℕ, List, ◌++◌, length, take, Option, Some, None}
use Rattle.std.specs.Borrow.{Bor}
use Rattle.std.specs.List.{flat_map}

-- what a sink tells after it has gained these bytes; one that tells nothing goes on telling nothing
abbrev pub gained : Option (List ℕ) → List ℕ → Option (List ℕ)
gained None bytes = None
gained (Some had) bytes = Some (had ++ bytes)

-- between these two moments a sink has gained a front of these bytes, and nothing else
abbrev pub GainsFrontOf : Option (List ℕ) → Option (List ℕ) → List ℕ → Type 0
GainsFrontOf old new bytes = (n : ℕ) × (n ≤ length bytes) × (new ≡ gained old (take n bytes))

-- pieces one after another
abbrev pub joined : List (Bor (List ℕ)) → List ℕ
joined pieces = flat_map (λ piece. piece.now) pieces
