-- Which signals are letters.
use Rattle.std.proofs.Common.{◌≡◌, ◌||◌, ◌∙◌, ℕ, true, false, not, cond, nat_eq, List, [], ◌∷◌, ◌++◌, refl, sym, ap}
use Rattle.std.specs.Prelude.{filter}
use Rattle.std.specs.List.{list_any}
use Rattle.std.proofs.lemmas.Bool.{eqb-true}
use Rattle.std.proofs.lemmas.List.Folds.{list_any-append}
use Rattle.net_model.specs.Nets.{Net}
use Rattle.net_model.specs.NetLanguages.{is_automaton, other_outputs, letter_signals}

-- what is no input stands among the outputs that are none exactly where it is an output
pub among-others : (ins outs : List ℕ) (signal : ℕ) → list_any (nat_eq signal) ins ≡ false → list_any (nat_eq signal) (filter (λ s. not (list_any (nat_eq s) ins)) outs) ≡ list_any (nat_eq signal) outs
among-others ins [] signal none = refl
among-others ins (out ∷ outs) signal none =
    let rest = among-others ins outs signal none in
    elim (nat_eq signal out) as (λ b. nat_eq signal out ≡ b → list_any (nat_eq signal) (cond (not (list_any (nat_eq out) ins)) (out ∷ filter (λ s. not (list_any (nat_eq s) ins)) outs) (filter (λ s. not (list_any (nat_eq s) ins)) outs)) ≡ (b || list_any (nat_eq signal) outs)) [
      | true ↦ λ is.
          let same : list_any (nat_eq out) ins ≡ false = ap (λ s. list_any (nat_eq s) ins) (sym (eqb-true signal out is)) ∙ none in
          rw (same, is) refl
      | false ↦ λ is.
          elim (list_any (nat_eq out) ins) as (λ b. list_any (nat_eq signal) (cond (not b) (out ∷ filter (λ s. not (list_any (nat_eq s) ins)) outs) (filter (λ s. not (list_any (nat_eq s) ins)) outs)) ≡ list_any (nat_eq signal) outs)
          [ true ↦ rest | false ↦ rw (is, rest) refl ]
    ] refl

pub letter-input : (net : Net) (signal : ℕ) → list_any (nat_eq signal) net.inputs ≡ true → list_any (nat_eq signal) (letter_signals net) ≡ true
letter-input net signal is =
    elim (is_automaton net) as (λ b. list_any (nat_eq signal) (cond b net.inputs (net.inputs ++ other_outputs net)) ≡ true) [
      | true ↦ is
      | false ↦ list_any-append (nat_eq signal) net.inputs (other_outputs net) ∙ ap (λ b. b || list_any (nat_eq signal) (other_outputs net)) is
    ]

pub letter-automaton : (net : Net) (signal : ℕ) → list_any (nat_eq signal) net.inputs ≡ false → is_automaton net ≡ true → list_any (nat_eq signal) (letter_signals net) ≡ false
letter-automaton net signal none is = ap (λ b. list_any (nat_eq signal) (cond b net.inputs (net.inputs ++ other_outputs net))) is ∙ none

pub letter-output : (net : Net) (signal : ℕ) → list_any (nat_eq signal) net.inputs ≡ false → is_automaton net ≡ false → list_any (nat_eq signal) (letter_signals net) ≡ list_any (nat_eq signal) net.outputs
letter-output net signal none is =
    ap (λ b. list_any (nat_eq signal) (cond b net.inputs (net.inputs ++ other_outputs net))) is
    ∙ list_any-append (nat_eq signal) net.inputs (other_outputs net)
    ∙ ap (λ b. b || list_any (nat_eq signal) (other_outputs net)) none
    ∙ among-others net.inputs net.outputs signal none
