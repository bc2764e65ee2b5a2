use Rattle.std.proofs.Common.{◌≡◌, ap, sym, ◌∙◌, length, map, arith, rules, codes, string_bytes}
use Rattle.job_words.proofs.Seven.{seven}
use Rattle.job_words.proofs.args.Args.solve_form.Goals as goal

pub returns-in-len7-clause-some : goal.returns-in-len7-clause-some
returns-in-len7-clause-some c =
    let words = c.as_slice.result.now in
    let n : length words ≡ 7 = omega (arith, c.in-len7.len_at_least, c.in-len7.len_below) in
    let are = seven (λ w. string_bytes w) words c.command-item.result c.f-item.result c.s-item.result c.inputs-item.result c.ins-item.result c.outputs-item.result c.outs-item.result n c.command-item.is c.f-item.is c.s-item.is c.inputs-item.is c.ins-item.is c.outputs-item.is c.outs-item.is in
    let command : string_bytes c.command-item.result ≡ codes "solve" = search rules in
    let inputs : string_bytes c.inputs-item.result ≡ codes "--in" = search rules in
    let outputs : string_bytes c.outputs-item.result ≡ codes "--out" = search rules in
    let view : c.args.self.now ≡ map (λ w. string_bytes w) words = sym c.self.view_is ∙ ap (map (λ w. string_bytes w)) (sym c.as_slice.ensures.value) in
    cc
