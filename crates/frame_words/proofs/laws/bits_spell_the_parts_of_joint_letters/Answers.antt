use Rattle.frame_words.proofs.Spelt.{spells-parts}
use Rattle.frame_words.proofs.laws.bits_spell_the_parts_of_joint_letters.Goals as goal

pub returns : goal.returns
returns c t problem third frame built sync fits = spells-parts t problem third frame built sync fits
