use Rattle.std.proofs.Common.{◌↔◌, refl, sym, subst}
use Rattle.net_model.specs.Words.{Word, Language}
use Rattle.net_model.specs.Automata.{WordsOf}
use Rattle.net_model.specs.Equation.{Topology, part, IsSafe, StaysInside, IsOver, IsLargestSolution}
use Rattle.net_model.specs.declared.class.Class.TheVariants.{All}

-- The words of a language that are all safe, and the safe words of a language, in either mode.

module _ (topology : Topology) (F S A : Language) where
  -- a language of safe words stays inside S
  pub safe_stays_inside : ((x : Word) → A x → IsSafe topology F S x) → StaysInside topology F S A
  safe_stays_inside safe e in' =
      subst S in'.4 ((safe (part topology topology.x in'.0) in'.3).1 in'.0 in'.1 refl in'.2)

  -- each word of a language that stays inside S is safe
  pub inside_is_safe : IsOver topology.x A → StaysInside topology F S A → (x : Word) → A x → IsSafe topology F S x
  inside_is_safe over inside x in' =
      (over x in', λ w joint same in_f. inside (part topology topology.s w) (w, joint, in_f, subst A (sym same) in', refl))

-- a language that has exactly the safe words is the largest solution of class all
pub safe_words_are_largest : (topology : Topology) (F S A : Language) → ((x : Word) → A x ↔ IsSafe topology F S x) → IsLargestSolution All topology F S A
safe_words_are_largest topology F S A exact = record {
  solution = (λ x in'. ((exact x).0 in').0, safe_stays_inside topology F S A (λ x in'. (exact x).0 in'));
  largest = λ auto solution x in'.
      (exact x).1 (inside_is_safe topology F S (WordsOf auto) solution.0 solution.1 x in');
}
