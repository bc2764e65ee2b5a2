use Rattle.std.proofs.Common.{◌≡◌, ◌≤◌, ◌∙◌, sym, arith}
use Rattle.net_model.specs.Forms.{number_of}
use Rattle.blifmv_names.proofs.Given.{numbers_given}
use Rattle.blifmv_names.proofs.giving.domain_of.Goals as goal

pub returns-in_ok-domain : goal.returns-in_ok-domain
returns-in_ok-domain c =
    let count : c.number_of.result ≡ number_of c.args.count.now = omega (arith, c.requires.few, c.number_of.ensures) in
    let few : c.number_of.result ≤ 65536 = omega (arith, c.requires.few, count) in
    numbers_given c.args.count.now c.args.values.now c.in_ok-domain.domain c.number_of.result (sym c.is_empty.ensures ∙ c.if-is_empty.true) count few c.in_ok-domain.ensures
