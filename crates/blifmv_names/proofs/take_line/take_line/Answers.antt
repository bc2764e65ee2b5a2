use Rattle.std.proofs.Common.{sym}
use Rattle.blifmv_lines.specs.Said.{texts, form_said}
use Rattle.blifmv_names.proofs.Taken.{counted}
use Rattle.blifmv_names.proofs.take_line.take_line.Goals as goal

pub take_form-requires-clause-counted : goal.take_form-requires-clause-counted
take_form-requires-clause-counted c = counted (texts c.args.words.now) (form_said c.in-Some.form) (sym c.in-Some.ensures)
