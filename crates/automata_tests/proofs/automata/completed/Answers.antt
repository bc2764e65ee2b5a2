use Rattle.std.proofs.Common.{sym}
use Rattle.std.proofs.lemmas.Result.{IfOk-weaker}
use Rattle.node_table.specs.Table.{value_at}
use Rattle.det_core.specs.Automata.{MeetsRule}
use Rattle.det_core.specs.Languages.{letters_of}
use Rattle.automata_tests.proofs.Ruling.{rule-same}
use Rattle.automata_tests.proofs.automata.completed.Goals as goal

pub complete-requires-clause-rule : goal.complete-requires-clause-rule
complete-requires-clause-rule c =
    rule-same c.args.space.now (letters_of c.args.letters.now) (value_at c.args.space.now c.args.valid) c.args.det (λ bits. sym (c.requires.valid.value bits)) c.requires.rule

pub returns-clause-rule : goal.returns-clause-rule
returns-clause-rule c =
    let new = c.complete.new.space in
    let letters = value_at c.args.space.now c.args.valid in
    IfOk-weaker c.complete.result (MeetsRule new letters) (MeetsRule new (letters_of c.args.letters.now))
    (λ det rule. rule-same new letters (letters_of c.args.letters.now) det c.requires.valid.value rule)
    c.complete.ensures.rule
