use Rattle.std.proofs.Common.{◌≡◌, ◌∙◌, false, map, nat_eq, sym, ap}
use Rattle.std.specs.List.{list_any}
use Rattle.net_model.specs.NetLanguages.{is_automaton}
use Rattle.net_model.specs.Nets.{net_of}
use Rattle.net_problem.proofs.LetterSignals.{letter-output}
use Rattle.net_problem.proofs.bit_counts.is_letter.Goals as goal

pub returns-else-has_acc : goal.returns-else-has_acc
returns-else-has_acc c =
    let net = net_of c.args.net.now in
    let none : list_any (nat_eq c.args.signal.0) net.inputs ≡ false =
    ap (λ signals. list_any (nat_eq c.args.signal.0) (map (λ v. v.0) signals)) (sym c.deref.ensures.value) ∙ sym c.is_among.ensures ∙ c.if-is_among.false in
    let other : is_automaton net ≡ false = sym c.has_acc.ensures ∙ c.if-has_acc.false in
    c.is_among-else-has_acc.ensures
    ∙ ap (λ signals. list_any (nat_eq c.args.signal.0) (map (λ v. v.0) signals)) c.deref-else-has_acc.ensures.value
    ∙ sym (letter-output net c.args.signal.0 none other)
