use Rattle.std.proofs.Common.{◌++◌, [], ap, sym, ◌∙◌, length}
use Rattle.std.proofs.lemmas.Bool.{eqb-true}
use Rattle.aut_format.proofs.Parts.{free-field}
use Rattle.aut_format.proofs.rows.push_entry.Goals as goal

pub returns-then-is_empty : goal.returns-then-is_empty
returns-then-is_empty c =
    c.in_ok-push.ensures.items ∙ ap (λ field. c.args.text.now.items ++ field) (sym (free-field c.args.path.now c.args.level (record { name = []; values = c.args.domain.now }) (eqb-true (length c.args.path.now) 0 (sym c.is_empty.ensures ∙ c.if-is_empty.true))))
