use Rattle.net_model.specs.Words.{IsWord}
use Rattle.det_core.specs.Languages.{word_of}
use Rattle.automata_tests.proofs.automata.word.Given as goal

abbrev pub invariant-loop-value : goal.invariant-loop-value
invariant-loop-value l = IsWord l.scope (word_of l.letters.items)
