use Rattle.std.proofs.Common.{◌++◌, ap, sym, ◌∙◌}
use Rattle.std.proofs.lemmas.List.{append-nil}
use Rattle.aut_format.proofs.Places.{none-there}
use Rattle.aut_format.proofs.rows.push_value.Goals as goal

pub returns-in-None : goal.returns-in-None
returns-in-None c =
    sym (append-nil c.args.text.now.items) ∙ ap (λ name. c.args.text.now.items ++ name) (sym (none-there c.args.domain.now c.args.value (sym c.name.ensures ∙ c.in-None.is)))
