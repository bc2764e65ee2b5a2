use Rattle.blifmv_lines.specs.Said.{form_said}
use Rattle.blifmv_names.specs.Signals.{with_mentions}
use Rattle.blifmv_names.proofs.Taken.{spelling_fault, few_behind}
use Rattle.blifmv_names.proofs.take_line.take_form.Goals as goal

pub returns-in-Some-kind_of_spelling-clause-fault : goal.returns-in-Some-kind_of_spelling-clause-fault
returns-in-Some-kind_of_spelling-clause-fault c =
    let form = form_said c.args.form in
    spelling_fault c.args.place (with_mentions c.args.signals.now form) c.mention.new.signals form c.in-Some-kind_of_spelling.kind c.in_ok-mention.field-0
    c.in_default.ensures c.if-not-branch.false c.in_ok-mention.ensures c.in_default-limit_of_line.ensures c.in-Some-kind_of_spelling.ensures

pub returns-clause-few : goal.returns-clause-few
returns-clause-few c =
    few_behind c.args.signals.now c.mention.new.signals c.give.new.signals (form_said c.args.form) c.in_ok-mention.field-0 c.in_ok-give.field-0
    c.if-not-branch.false c.in_ok-mention.ensures c.if-not-branch-2.false c.in_ok-give.ensures
