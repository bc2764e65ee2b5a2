use Rattle.std.proofs.Common.{◌∙◌, length, ap, arith}
use Rattle.std.proofs.lemmas.List.FromFn.{length-range_with_len}
use Rattle.name_table.specs.CodeBits.{bits_in}
use Rattle.mv_encoding.proofs.coding.Coding.bits.Goals as goal

pub returns-clause-bits : goal.returns-clause-bits
returns-clause-bits c =
    c.len.ensures.len
    ∙ ap length c.self.invariant.levels_are
    ∙ length-range_with_len c.self.inside.first (bits_in c.self.inside.scope)
    ∙ ap (λ l. bits_in l.scope) c.self.view_is

pub returns-clause-few : goal.returns-clause-few
returns-clause-few c =
    let all = ap length c.self.invariant.levels_are ∙ length-range_with_len c.self.inside.first (bits_in c.self.inside.scope) in
    omega (arith, c.len.ensures.len, all, c.self.invariant.few)
