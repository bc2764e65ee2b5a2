use Rattle.blifmv_lines.specs.Said.{texts}
use Rattle.blifmv_names.proofs.Mentions.{both_many, both_few}
use Rattle.blifmv_names.proofs.mention.mention_both.Goals as goal

pub returns-then-not-branch : goal.returns-then-not-branch
returns-then-not-branch c =
    both_many c.args.signals.now c.mention_all.new.signals (texts c.args.ins.now) (texts c.args.outs.now) c.in_ok-mention_all.field-0
    c.if-not-branch.true c.in_ok-mention_all.ensures

pub returns : goal.returns
returns c =
    both_few c.args.signals.now c.mention_all.new.signals c.mention_all-2.new.signals (texts c.args.ins.now) (texts c.args.outs.now)
    c.in_ok-mention_all.field-0 c.in_ok-few.few c.if-not-branch.false c.in_ok-mention_all.ensures c.in_ok-few.ensures
