use Rattle.std.proofs.Common.{◌<◌, length, ◌∙◌, sym, arith}
use Rattle.std.proofs.lemmas.List.{take_rest}
use Rattle.lex_core.proofs.Fronts.{part_word}
use Rattle.lex_core.proofs.words.Words.next_word.Goals as goal

-- the word of several bytes that stands here
pub returns-in-Part-clause-word : goal.returns-in-Part-clause-word
returns-in-Part-clause-word c =
    let some : 0 < length c.loop-self.self-inside.rest.now = omega arith in
    let rest = take_rest c.loop-self.self-inside.rest.now 1 in
    let word = part_word c.loop-self.self-inside.place c.loop-self.self-inside.start c.loop-self.self-inside.rest.now _ some rest (sym c.sign_at-sign.ensures ∙ c.in-Part.is) in
    sym c.loop-self.invariant.words
    ∙ rw (c.cut_word.ensures.start, c.cut_word.ensures.end, c.cut_word.ensures.word, c.cut_word.ensures.rest, c.part_len-len.ensures.part) word
