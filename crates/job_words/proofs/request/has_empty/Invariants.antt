use Rattle.std.proofs.Common.{◌≡◌, ◌==◌, length, map, drop}
use Rattle.std.specs.List.{list_any}
use Rattle.job_words.proofs.request.has_empty.Given as goal

abbrev pub invariant-loop-name : goal.invariant-loop-name
invariant-loop-name l =
    list_any (λ name. length name == 0) (map (λ name. name.now) (drop l.name-index l.names))
    ≡ list_any (λ name. length name == 0) (map (λ name. name.now) l.names)
