use Rattle.std.proofs.Common.{◌∙◌, sym}
use Rattle.blifmv_lines.proofs.Listed.{list_at-none, list_at-some}
use Rattle.blifmv_lines.proofs.entry.list_at.Goals as goal

pub returns-in_err-place : goal.returns-in_err-place
returns-in_err-place c =
    rw c.from_residual.ensures (sym (list_at-none c.args.words.now (sym c.list_place.ensures.place ∙ c.in_err-place.was)))

pub returns : goal.returns
returns c =
    list_at-some c.args.words.now c.split_at.result.0.now c.split_at.result.1.now c.in_ok-place.place
    (sym c.list_place.ensures.place ∙ c.in_ok-place.was) c.split_at.ensures.front c.split_at.ensures.back
