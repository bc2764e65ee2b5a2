use Rattle.lex_core.proofs.Made.{words_made}
use Rattle.lex_core.proofs.laws.words_are_of_word_bytes.Goals as goal

pub returns : goal.returns
returns c = words_made
