use Rattle.std.proofs.Common.{◌||◌}
use Rattle.std.proofs.lemmas.Result.{IfOk-weaker}
use Rattle.node_table.specs.Table.{value_at}
use Rattle.bdd_ops.specs.Meaning.{StandsFor}
use Rattle.det_core.specs.Codes.{code_number, leads_to}
use Rattle.det_core.proofs.Encodings.{leads-halves}
use Rattle.det_core.proofs.encoding.+leads.Goals as goal

pub returns-in_ok-second-in_default-clause-ok : goal.returns-in_ok-second-in_default-clause-ok
returns-in_ok-second-in_default-clause-ok t c =
    let a = c.args.space.now in
    let b = c.leads.new.space in
    let d = c.leads-in_default.new.space in
    let e = c.or.new.space in
    let first = c.in_ok-first-in_default.first in
    let second = c.in_ok-second-in_default.second in
    IfOk-weaker c.or.result (λ r. StandsFor e r (λ bits. value_at d first bits || value_at d second bits)) (λ r. StandsFor e r (λ bits. leads_to a c.args.moves.now bits (code_number c.args.next.now bits)))
    (λ r either.
    leads-halves a b d e c.args.moves.now c.split_at.result.0.now c.split_at.result.1.now _ first second r (code_number c.args.next.now) c.requires.guards c.split_at.ensures.front c.split_at.ensures.back c.in_ok-first-in_default.ensures.grows c.in_ok-first-in_default.ensures.ok c.in_ok-second-in_default.ensures.grows c.in_ok-second-in_default.ensures.ok either)
    c.or.ensures.ok
