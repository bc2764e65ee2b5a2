use Rattle.relation_words.proofs.Runs.{same-words}
use Rattle.relation_words.proofs.laws.relations_have_the_words_of_files.Goals as goal

pub returns : goal.returns
returns c t file spots parts init acc keep is word = same-words t file spots parts init acc keep is word
