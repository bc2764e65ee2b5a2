use Rattle.std.proofs.Common.{◌≡◌, ◌+◌, ◌++◌, sym, ap, ◌∙◌, arith}
use Rattle.std.specs.Option.{option_copied}
use Rattle.name_table.specs.CodeBits.{code_bits, bits_in}
use Rattle.net_model.specs.Printed.{entry_fields}
use Rattle.bdd_walk.specs.Paths.{path_of}
use Rattle.aut_format.specs.Fields.{blank_after}
use Rattle.aut_format.specs.Rows.{entries_along}
use Rattle.aut_format.proofs.Places.{domain-there, entry-on}
use Rattle.aut_format.proofs.Parts.{left-start, left-on, here-asks}
use Rattle.aut_format.proofs.rows.push_entries.Goals as goal

pub loop-var-init : goal.loop-var-init
loop-var-init c =
    let start : c.from-level.result ≡ c.args.coding.now.first = c.from-level.ensures ∙ c.first.ensures in
    let scope = c.scope-scope.result.now in
    record {
      place = ap (λ l. l + bits_in scope) start;
      left = left-start c.args.path.now c.behind-left.result.now c.from-level.result c.requires c.behind-left.ensures;
      written = ap (λ l. c.args.text.now.items ++ blank_after (entry_fields scope (entries_along (path_of c.args.path.now) l scope))) start;
    }

pub unwrap-domain-requires : goal.unwrap-domain-requires
unwrap-domain-requires c = domain-there c.scope-scope.result.now c.loop-var.var c.len-var-end.result c.domain.result c.len-var-end.ensures.len c.loop-var-test.true c.domain.ensures

pub loop-var-preserved : goal.loop-var-preserved
loop-var-preserved c =
    let level = c.loop-var.level in
    let end = level + c.from.result in
    let path = path_of c.args.path.now in
    let left = c.loop-var.left.now in
    let before = c.loop-var.invariant.left in
    let step : end ≡ level + code_bits c.len.result = ap (λ n. level + n) (c.from.ensures ∙ c.code_bits.ensures.bits) in
    let asks = here-asks path left c.before-in-loop-var.result.now level end before c.before-in-loop-var.ensures in
    let on = entry-on path (path_of c.before-in-loop-var.result.now) level c.len.result end c.scope-scope.result.now c.loop-var.var _ c.unwrap-domain.result.now c.loop-var.text.items _ _ _ (sym c.domain.ensures ∙ ap option_copied c.unwrap-domain.ensures) c.len.ensures.len step (λ j bit low high. asks j bit low (omega (arith, high, step))) c.in_ok-push_entry.ensures c.in_ok-push.ensures.items c.loop-var.invariant.place c.loop-var.invariant.written in
    record {
      place = on.place;
      left = left-on path left c.behind-left-in-loop-var.result.now level end before (omega arith) c.behind-left-in-loop-var.ensures;
      written = on.written;
    }
