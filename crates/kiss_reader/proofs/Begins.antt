-- How a text begins.
use Rattle.std.proofs.Common.{◌≡◌, List, [], ◌∷◌, Some, map, slice_get, sym, ap}
use Rattle.std.specs.Option.{option_map}
use Rattle.lex_core.specs.LogicalLines.{TextWord}
use Rattle.net_model.specs.Forms.{Name}
use Rattle.kiss_reader.specs.KissFaults.{begins_with_directive}
use Rattle.kiss_reader.specs.Said.{is_machine_word}

pub first_word : (words : List TextWord) (word : Name) → Some word ≡ option_map (λ w. w.bytes) (slice_get words 0) → begins_with_directive (map (λ w. w.bytes) words) ≡ is_machine_word word
first_word [] word h = cc
first_word (w ∷ words) word h = let is : word ≡ w.bytes = cc in ap is_machine_word (sym is)
