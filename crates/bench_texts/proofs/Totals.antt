use Rattle.std.proofs.Common.{◌≡◌, ◌+◌, ℕ, List, [], length, take, slice_get, Some, ◌∙◌, ap}
use Rattle.std.specs.Prelude.{sum_by}
use Rattle.std.proofs.lemmas.List.Sums.{sum_by_more}
use Rattle.std.proofs.lemmas.Option.{slice_get_within, get_or_from_slice_get}

-- the lengths of one more list
pub one_more : {X : Type 0} (lists : List (List X)) (n : ℕ) (list : List X) → slice_get lists n ≡ Some list → sum_by length (take (n + 1) lists) ≡ sum_by length (take n lists) + length list
one_more lists n list at =
    sum_by_more length lists n [] (slice_get_within lists n list at)
    ∙ ap (λ l. sum_by length (take n lists) + length l) (get_or_from_slice_get lists n list [] at)
