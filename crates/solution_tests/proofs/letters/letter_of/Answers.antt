use Rattle.std.proofs.Common.{◌≡◌, ◌<◌, [], ◌∷◌, length, sym, subst, arith, rules}
use Rattle.name_table.specs.ScopeVars.{variable_at}
use Rattle.net_model.specs.Words.{IsLetter}
use Rattle.solution_tests.proofs.Pairs.{pair_is_letter}
use Rattle.solution_tests.proofs.letters.letter_of.Goals as goal

pub returns : goal.returns
returns c =
    let scope = c.args.scope.now in
    let items_are : c.in_ok-values.values.items ≡ c.args.first ∷ c.args.second ∷ [] = search rules in
    let two : length scope ≡ 2 = search rules in
    let below : c.args.first < length (variable_at scope 0).values = search rules in
    let second_below : c.args.second < length (variable_at scope 1).values = search rules in
    subst (IsLetter scope) (sym items_are) (pair_is_letter scope c.args.first c.args.second two below second_below)
