use Rattle.std.specs.Prelude.{ℕ, List, [], unwrap_or}
use Rattle.std.specs.Ordering.{nat_cmp}
use Rattle.std.specs.Cmp.Lexicographic.{slice_cmp}
use Rattle.std.specs.FinMap.{FinMap, get}

-- files by their names: a finite map from the bytes of a name to the bytes of the file
abbrev pub Files : Type 0
Files = FinMap (slice_cmp nat_cmp) (List ℕ)

-- the bytes that are held under a name; a name that isn't there counts as held with no bytes
abbrev pub bytes_under : Files → List ℕ → List ℕ
bytes_under files name = unwrap_or (get files name) []
