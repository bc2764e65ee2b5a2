use Rattle.std.proofs.Common.{◌≡◌, ◌↔◌, ◌∙◌, true, ap, subst, IfOk}
use Rattle.std.proofs.lemmas.Result.{IfOk-weaker}
use Rattle.node_table.specs.Table.{value_at}
use Rattle.mv_encoding.specs.Layouts.{levels_of}
use Rattle.det_core.specs.Automata.{BitWord, AreLetters, has_word, MeetsRule}
use Rattle.det_core.specs.Languages.{letters_of}
use Rattle.subset_build.specs.Relations.{HasRun, relation_of}
use Rattle.sync_solve.specs.Files.{AreDiagrams}
use Rattle.sync_solve.specs.Safe.{IsComposed}
use Rattle.net_model.specs.Problems.{File}
use Rattle.sync_solve.proofs.Composed.{letters-read, words-composed}
use Rattle.sync_solve.proofs.composing.composed.Goals as goal

pub determinise-requires-clause-valid : goal.determinise-requires-clause-valid
determinise-requires-clause-valid c =
    letters-read c.letters_of_x.new.space c.args.frame.now.x c.levels.result.now c.in_ok-valid.valid (c.levels.ensures ∙ ap levels_of c.x.ensures) c.in_ok-valid.ensures.ok

pub returns-clause-words : goal.returns-clause-words
returns-clause-words c =
    let product = c.in_ok-product.product in
    let new = c.determinise.new.space in
    let old = c.args.space.now in
    let frame = c.args.frame.now in
    let others = c.args.others.now in
    IfOk-weaker c.determinise.result
    (λ det. (word : BitWord) → AreLetters (value_at c.letters_of_x.new.space c.in_ok-valid.valid) word → (has_word new det word ≡ true) ↔ HasRun (relation_of c.letters_of_x.new.space product.parts product.init product.acc c.levels.result.now c.in_ok-product.back) word)
    (λ det. (file : File) → AreDiagrams old file frame.f c.args.f.parts c.args.f.init c.args.f.acc → (xs : BitWord) → AreLetters (letters_of frame.x) xs → (has_word new det xs ≡ true) ↔ IsComposed old frame file others xs)
    (λ det words file are xs letters. words-composed old c.product.new.space c.letters_of_x.new.space new frame file others product c.in_ok-product.back c.levels.result.now c.in_ok-valid.valid det
    (c.in_ok-product.ensures.ok file are) c.letters_of_x.ensures.grows (c.levels.ensures ∙ ap levels_of c.x.ensures) c.in_ok-valid.ensures.ok words xs letters)
    c.determinise.ensures.words

pub returns-clause-rule : goal.returns-clause-rule
returns-clause-rule c =
    let stands = c.in_ok-valid.ensures.ok in
    subst (λ letters. IfOk c.determinise.result (MeetsRule c.determinise.new.space letters)) (λ i bits. stands.value bits i) c.determinise.ensures.rule
