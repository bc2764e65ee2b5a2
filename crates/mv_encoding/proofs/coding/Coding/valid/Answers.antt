use Rattle.std.proofs.Common.{◌-◌, ◌∙◌, length, sym, ap, subst, arith}
use Rattle.std.proofs.lemmas.List.FromFn.{length-range_with_len}
use Rattle.std.proofs.lemmas.Result.{IfOk-weaker}
use Rattle.name_table.specs.CodeBits.{bits_in}
use Rattle.node_table.specs.Table.{Table}
use Rattle.bdd_ops.specs.Meaning.{StandsFor}
use Rattle.mv_encoding.specs.Fields.{AllFit}
use Rattle.mv_encoding.specs.Layouts.{Layout, numbers_of, is_letter}
use Rattle.mv_encoding.specs.Sets.{StandsForSet}
use Rattle.mv_encoding.proofs.Letters.{no-bits-letter, set-of-letters}
use Rattle.mv_encoding.proofs.coding.Coding.valid.Goals as goal

pub codes_of_letters-requires : goal.codes_of_letters-requires
codes_of_letters-requires c =
    let some = c.if-len-eq0.false in
    let all =
    ap length c.self.invariant.levels_are
    ∙ length-range_with_len c.self.inside.first (bits_in c.self.inside.scope)
    ∙ ap (λ l. bits_in l.scope) c.self.view_is in
    let last = c.requires (bits_in c.args.self.now.scope - 1) (omega (arith, some, c.len.ensures.len, all)) in
    omega (arith, some, c.len.ensures.len, all, last)

pub returns-then-len-eq0-clause-ok : goal.returns-then-len-eq0-clause-ok
returns-then-len-eq0-clause-ok c =
    let all =
    ap length c.self.invariant.levels_are
    ∙ length-range_with_len c.self.inside.first (bits_in c.self.inside.scope)
    ∙ ap (λ l. bits_in l.scope) c.self.view_is in
    let P : Layout → Type 0 = λ l. AllFit l.scope in
    let fit = subst P c.self.view_is c.self.invariant.all_fit in
    record {
      valid = c.one.ensures.valid;
      value = λ b.
          c.one.ensures.value b
          ∙ sym (no-bits-letter c.args.self.now.scope c.args.self.now.first b (omega (arith, c.if-len-eq0.true, c.len.ensures.len, all)) (λ var known. (fit var known).some));
    }

pub returns-then-len-eq0-clause-letters : goal.returns-then-len-eq0-clause-letters
returns-then-len-eq0-clause-letters c = set-of-letters c.args.space.now c.args.self.now c.one.result (returns-then-len-eq0-clause-ok c)

pub returns-clause-letters : goal.returns-clause-letters
returns-clause-letters c =
    let new : Table = c.codes_of_letters.new.space in
    IfOk-weaker c.codes_of_letters.result (λ r. StandsFor new r (λ b. is_letter c.args.self.now.scope (numbers_of c.args.self.now b))) (λ r. StandsForSet new c.args.self.now r (λ letter. Unit {0}))
    (λ r s. set-of-letters new c.args.self.now r s)
    c.codes_of_letters.ensures.ok
