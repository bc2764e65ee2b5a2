use Rattle.frame_words.proofs.Order.{in-order}
use Rattle.frame_words.proofs.laws.letters_lie_above.Goals as goal

pub returns : goal.returns
returns c t problem third frame built sync fits = in-order t problem third frame built sync fits
