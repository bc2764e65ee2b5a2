use Rattle.std.proofs.Common.{◌≡◌, ◌<◌, drop, map, length, Some}
use Rattle.mv_encoding.specs.Layouts.{numbers_of}
use Rattle.det_core.specs.Automata.{BitWord, accepts_from, has_word}
use Rattle.det_core.specs.Languages.{word_of}
use Rattle.det_core.proofs.det.Det.accepts.Given as goal

abbrev pub invariant-loop-letter : goal.invariant-loop-letter
invariant-loop-letter l = record {
  within : l.state < length l.self;
  leads : (us : BitWord) → map (numbers_of l.coding) us ≡ word_of l.letter-items → has_word l.space l.self us ≡ accepts_from l.space l.self (Some l.state) (drop l.letter-index us);
}
