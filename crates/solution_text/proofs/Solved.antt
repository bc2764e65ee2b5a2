-- The text of the automaton of the safe words is the solution.
use Rattle.std.proofs.Common.{◌≡◌, ◌↔◌, ◌<◌, ◌^◌, ℕ, Bool, true, false, List, length, map, MatchBool, codes, refl, sym, ap, ◌∙◌, subst}
use Rattle.node_table.specs.Table.{Bits, Table}
use Rattle.mv_encoding.specs.Layouts.{Layout, numbers_of, levels_of}
use Rattle.net_model.specs.Words.{Scope, Word, Language}
use Rattle.net_model.specs.Equation.{IsSafe}
use Rattle.net_model.specs.NetLanguages.{StandsForAutomaton}
use Rattle.net_model.specs.Files.{Means}
use Rattle.net_model.specs.Problems.{Problem, IsBuilt}
use Rattle.net_model.specs.Printed.{printed_text}
use Rattle.net_model.specs.declared.class.Mode.TheVariants.{Sync}
use Rattle.det_core.specs.Automata.{BitWord, State, AreLetters, has_word, IsDet, MeetsRule, ReadsAlone}
use Rattle.det_core.specs.Languages.{letters_of, HasLetters}
use Rattle.aut_format.specs.Rows.{HaveTextNames, listing_of_det}
use Rattle.aut_format.proofs.Meaning.{solution_is_name}
use Rattle.aut_format.proofs.Printing.{det-automaton, det-means}
use Rattle.sync_solve.specs.Files.{FileWords}
use Rattle.solution_text.specs.declared.solution.Solution.{Solution}
use Rattle.solution_text.specs.Solutions.{MeansText, IsSolutionOf}
use Rattle.solution_text.proofs.GoodNames.{problem_names}

module _ (problem : Problem) (t : Table) (x : Layout) (det : List State) (solution : Solution) (built : IsBuilt problem) (mode : problem.topology.mode ≡ Sync) (x_scope : x.scope ≡ problem.topology.x)
    (rule : MeetsRule t (letters_of x) det) (reads : ReadsAlone t (levels_of x) det) (is_det : IsDet det) (few : length det < 2 ^ 64)
    (text : solution.text.items ≡ printed_text (codes "solution") (listing_of_det t x det))
    (safe : (word : Word) → HasLetters t x det word ↔ IsSafe problem.topology (FileWords problem.f) (FileWords problem.s) word)
    (some : (letters : Bits → Bool) → MeetsRule t letters det → MatchBool solution.has_word ((word : BitWord) × AreLetters letters word × (has_word t det word ≡ true)) ((word : BitWord) → has_word t det word ≡ true → ⊥)) where
  names : HaveTextNames x.scope
  names = subst HaveTextNames (sym x_scope) (problem_names problem built mode)

  means : (word : Word) → MeansText problem solution word ↔ HasLetters t x det word
  means word =
      subst (λ (bytes : List ℕ). Means bytes problem.topology.x word ↔ HasLetters t x det word) (sym text)
      (subst (λ (scope : Scope). Means (printed_text (codes "solution") (listing_of_det t x det)) scope word ↔ HasLetters t x det word) x_scope
      (det-means t x det rule reads (codes "solution") solution_is_name names is_det few word))

  has-some : (b : Bool) → MatchBool b ((word : BitWord) × AreLetters (letters_of x) word × (has_word t det word ≡ true)) ((word : BitWord) → has_word t det word ≡ true → ⊥)
      → MatchBool b ((word : Word) × MeansText problem solution word) ((word : Word) → MeansText problem solution word → ⊥)
  has-some true (word, letters, has) = (map (numbers_of x) word, (means (map (numbers_of x) word)).1 (word, refl, has))
  has-some false none = λ word in_text. let (bits, spells, has) = (means word).0 in_text in none bits has

  pub solution-is : IsSolutionOf problem solution
  solution-is = record {
    automaton =
        subst (λ (bytes : List ℕ). StandsForAutomaton bytes problem.topology.x) (sym text)
        (subst (λ (scope : Scope). StandsForAutomaton (printed_text (codes "solution") (listing_of_det t x det)) scope) x_scope
        (det-automaton t x det rule reads (codes "solution") solution_is_name names is_det few));
    exact = λ word. (λ in_text. (safe word).0 ((means word).0 in_text), λ is_safe. (means word).1 ((safe word).1 is_safe));
    verdict = has-some solution.has_word (some (letters_of x) rule);
  }
