use Rattle.std.proofs.Common.{sym, ◌∙◌}
use Rattle.job_words.proofs.NameLists.{none_empty, no_name_list}
use Rattle.job_words.proofs.request.names_in.Goals as goal

pub returns-then-has_empty-clause-none : goal.returns-then-has_empty-clause-none
returns-then-has_empty-clause-none c =
    no_name_list c.args.list.now _ c.in_ok-names.ensures (rw c.deref.ensures.value at (sym c.has_empty.ensures ∙ c.if-has_empty.true))

pub returns-clause-some : goal.returns-clause-some
returns-clause-some c =
    (c.in_ok-names.ensures, none_empty _ (rw c.deref.ensures.value at (sym c.has_empty.ensures ∙ c.if-has_empty.false)))
