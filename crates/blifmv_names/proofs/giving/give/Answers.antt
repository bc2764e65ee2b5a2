use Rattle.std.proofs.Common.{sym, ◌∙◌, ap}
use Rattle.blifmv_lines.specs.Said.{texts, form_said, listed_names}
use Rattle.blifmv_names.proofs.Given.{given_form}
use Rattle.blifmv_names.proofs.giving.give.Goals as goal

pub returns : goal.returns
returns c =
    given_form c.args.signals.now c.give_all.new.signals (form_said c.args.form) (listed_names (texts c.in-Domains.names.now)) c.in-Domains.count.now (texts c.in-Domains.values.now) c.in-Some.domain c.in_ok-domain.field-0
    (ap form_said c.in-Domains.is) c.in_ok-domain.ensures c.in-Some.is (sym c.in_ok-clashes.ensures ∙ c.if-clashes.false) c.in_ok-give_all.ensures
