use Rattle.std.proofs.Common.{◌≡◌, ◌+◌, ◌∙◌, ℕ, List, [], map, drop, Option, Some, false, sym, ap, subst}
use Rattle.std.proofs.lemmas.Bool.{false≢true}
use Rattle.net_model.specs.Words.{IsWord, IsLetter}
use Rattle.net_model.specs.declared.letter.Letter.{Letter}
use Rattle.bdd_ops.specs.Words.{bit_of}
use Rattle.mv_encoding.specs.Layouts.{numbers_of}
use Rattle.det_core.specs.declared.det.Move.{Move}
use Rattle.det_core.specs.Automata.{BitWord, accepts_from, has_word, AreGuardsValid}
use Rattle.det_core.specs.Languages.{word_of}
use Rattle.det_core.proofs.Reading.{bits-of-word, letter-at, step-leads, next-low, end-opens}
use Rattle.det_core.proofs.det.Det.accepts.Goals as goal

pub code_of-code-requires : goal.code_of-code-requires
code_of-code-requires c =
    let items = c.deref-letter-items.result.now in
    let Word : List Letter → Type 0 = λ letters. IsWord c.args.coding.now.scope (word_of letters) in
    let Is : Letter → Type 0 = λ letter. IsLetter c.args.coding.now.scope letter.values.items in
    subst Is (sym c.letter-item.is)
    (letter-at c.args.coding.now.scope items c.loop-letter.letter-index c.letter-item.result (subst Word (sym c.deref-letter-items.ensures.value) c.requires.word) c.loop-letter-test.true)

pub target-requires-clause-guards : goal.target-requires-clause-guards
target-requires-clause-guards c =
    let Valid : List Move → Type 0 = λ moves. AreGuardsValid c.args.space.now moves in
    subst Valid (sym c.moves.ensures.moves) (c.requires.rule c.loop-letter.state (record { accepting = false; moves = [] }) c.loop-letter.invariant.within).valid

pub returns-in-None : goal.returns-in-None
returns-in-None c =
    let t = c.args.space.now in
    let det = c.args.self.now in
    let layout = c.args.coding.now in
    let items = c.deref-letter-items.result.now in
    let i = c.loop-letter.letter-index in
    let code = bit_of c.code_of-code.result in (
      λ no. absurd (false≢true no),
      λ some.
          sym
          (step-leads t det layout items code c.moves.result.now c.loop-letter.state i c.letter-item.result c.target.result c.moves.ensures.moves c.letter-item.is c.loop-letter-test.true c.code_of-code.ensures.laid c.target.ensures c.loop-letter.invariant.leads some.0 (some.1 ∙ ap word_of (sym c.deref-letter-items.ensures.value))
          ∙ ap (λ (o : Option ℕ). accepts_from t det o (drop (i + 1) some.0)) c.in-None.is)
          ∙ some.2,
    )

pub loop-letter-preserved : goal.loop-letter-preserved
loop-letter-preserved c =
    let t = c.args.space.now in
    let det = c.args.self.now in
    let layout = c.args.coding.now in
    let items = c.deref-letter-items.result.now in
    let i = c.loop-letter.letter-index in
    let code = bit_of c.code_of-code.result in
    record {
      within = next-low t det layout items code c.moves.result.now c.loop-letter.state i c.letter-item.result c.target.result c.moves.ensures.moves c.letter-item.is c.loop-letter-test.true c.code_of-code.ensures.laid c.target.ensures c.states-count.ensures.det c.loop-letter.invariant.within c.in-Some.next c.in-Some.is;
      leads = λ us spell.
          step-leads t det layout items code c.moves.result.now c.loop-letter.state i c.letter-item.result c.target.result c.moves.ensures.moves c.letter-item.is c.loop-letter-test.true c.code_of-code.ensures.laid c.target.ensures c.loop-letter.invariant.leads us spell
          ∙ ap (λ (o : Option ℕ). accepts_from t det o (drop (i + 1) us)) c.in-Some.is;
    }

pub returns : goal.returns
returns c =
    let t = c.args.space.now in
    let det = c.args.self.now in
    let layout = c.args.coding.now in
    let items = c.deref-letter-items.result.now in
    let i = c.loop-letter.letter-index in
    let same : items ≡ c.args.word.now.letters.items = c.deref-letter-items.ensures.value in
    let word = bits-of-word layout (word_of c.args.word.now.letters.items) c.requires.word in
    let ends : (us : BitWord) → map (numbers_of layout) us ≡ word_of c.args.word.now.letters.items → has_word t det us ≡ c.accepting.result =
    λ us spell.
    c.loop-letter.invariant.leads us (spell ∙ ap word_of (sym same))
    ∙ ap (λ rest. accepts_from t det (Some c.loop-letter.state) rest) (end-opens layout items us (spell ∙ ap word_of (sym same)) i c.loop-letter-test.false)
    ∙ sym c.accepting.ensures in (
      λ yes. (word.0, word.1, ends word.0 word.1 ∙ yes),
      λ some. sym (ends some.0 some.1) ∙ some.2,
    )
