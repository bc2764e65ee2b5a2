-- Lists of bits, held as words of 64.
use Rattle.std.specs.Prelude.{◌==◌, ◌/◌, ◌%◌, ℕ, Bool, List, slice_index}
use Rattle.std.specs.Int.{bit_at}

-- bit k of these words
abbrev pub bit_of : List ℕ → ℕ → Bool
bit_of words k = bit_at (slice_index words (k / 64)) (k % 64) == 1
