use Rattle.std.proofs.Common.{◌∙◌, ap, not, refl}
use Rattle.std.proofs.lemmas.Bool.Decides.{same_from_decides}
use Rattle.name_table.specs.Variables.{are_same}
use Rattle.name_table.proofs.Shown.{are_same-Decides}
use Rattle.blifmv_names.specs.Signals.{agrees}
use Rattle.blifmv_names.proofs.giving.is_another.Goals as goal

pub returns-in-Some : goal.returns-in-Some
returns-in-Some c =
    let test = are_same-Decides c.args.domain.now c.in-Some.had.now (are_same c.args.domain.now c.in-Some.had.now) refl in
    ap not (same_from_decides c.is_same.result _ c.is_same.ensures test ∙ ap (agrees c.args.domain.now) c.in-Some.ensures)
