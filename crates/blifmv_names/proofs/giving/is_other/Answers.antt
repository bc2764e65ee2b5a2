use Rattle.std.proofs.Common.{sym, ◌∙◌}
use Rattle.blifmv_names.proofs.Agreeing.{agreeing_more}
use Rattle.blifmv_names.proofs.giving.is_other.Goals as goal

pub returns-clause-agreeing : goal.returns-clause-agreeing
returns-clause-agreeing c =
    agreeing_more c.args.domain.now c.args.signals.now c.args.agreeing.now c.mention.new.self c.args.name.now c.requires
    (sym c.if-is_another.false ∙ c.is_another.ensures) c.in_ok-mention.ensures.ok
