use Rattle.std.proofs.Common.{◌≡◌, map, take}
use Rattle.name_table.specs.ScopeVars.{variable_at}
use Rattle.net_frame.specs.Frames.{letter_spot}
use Rattle.net_frame.proofs.letters.codes_of_letters.Given as goal

abbrev pub invariant-loop-letter : goal.invariant-loop-letter
invariant-loop-letter l =
    l.codes.items ≡ map (λ letter. letter_spot l.mode l.joint (variable_at l.net.names letter.0).name) (take l.letter-index l.letter-items)
