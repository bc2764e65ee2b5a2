-- The solution of a problem.
use Rattle.std.specs.Prelude.{◌↔◌, MatchBool}
use Rattle.net_model.specs.Words.{Word, Language}
use Rattle.net_model.specs.Equation.{IsSafe}
use Rattle.net_model.specs.NetLanguages.{StandsForAutomaton}
use Rattle.net_model.specs.Files.{Means}
use Rattle.net_model.specs.Problems.{Problem}
use Rattle.sync_solve.specs.Files.{FileWords}
use Rattle.solution_text.specs.declared.solution.Solution.{Solution}

-- the language of the text, over X's letters
abbrev pub MeansText : Problem → Solution → Language
MeansText problem solution word = Means solution.text.items problem.topology.x word

-- The text stands for an automaton over X's letters that has just the safe words, and it is told whether there are any.
pub record IsSolutionOf (problem : Problem) (solution : Solution) : Type 0 where
  pub automaton : StandsForAutomaton solution.text.items problem.topology.x
  pub exact : (word : Word) → MeansText problem solution word ↔ IsSafe problem.topology (FileWords problem.f) (FileWords problem.s) word
  pub verdict : MatchBool solution.has_word ((word : Word) × MeansText problem solution word) ((word : Word) → MeansText problem solution word → ⊥)
