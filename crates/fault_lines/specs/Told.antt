use Rattle.std.specs.Prelude.{◌≡◌, ◌⊎◌, ℕ, List, Option}
use Rattle.io_core.specs.Causes.{Rose}
use Rattle.io_core.specs.Gained.{gained, GainsFrontOf}

-- err has gained the line, or a front of it where a count of its own rose
abbrev pub IsTold : Option (List ℕ) → Option (List ℕ) → ℕ → ℕ → ℕ → ℕ → List ℕ → Type 0
IsTold old new faults faults' wants wants' line =
    (new ≡ gained old line) ⊎ (GainsFrontOf old new line × (Rose faults faults' ⊎ Rose wants wants'))
