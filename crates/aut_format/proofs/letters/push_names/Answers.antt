use Rattle.std.proofs.Common.{◌+◌, ◌∷◌, drop, ap, sym, ◌∙◌}
use Rattle.std.specs.Option.{option_copied}
use Rattle.name_table.specs.Variables.{names_of}
use Rattle.aut_format.specs.Fields.{blank_before}
use Rattle.aut_format.proofs.Places.{names-here, name-there, more}
use Rattle.aut_format.proofs.letters.push_names.Goals as goal

pub unwrap-requires : goal.unwrap-requires
unwrap-requires c = name-there c.args.scope.now c.loop-var.var c.len-var-end.result c.name.result c.len-var-end.ensures.len c.loop-var-test.true c.name.ensures

pub loop-var-preserved : goal.loop-var-preserved
loop-var-preserved c =
    let scope = c.args.scope.now in
    let here = names-here scope c.loop-var.var c.unwrap.result.now (sym c.name.ensures ∙ ap option_copied c.unwrap.ensures) in
    more c.loop-var.text.items _ (32 ∷ c.unwrap.result.now) (blank_before (names_of (drop (c.loop-var.var + 1) scope))) (blank_before (names_of (drop c.loop-var.var scope))) _ (ap blank_before here) c.in_ok-push_field.ensures c.loop-var.invariant
