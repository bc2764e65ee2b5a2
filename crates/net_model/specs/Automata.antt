use Rattle.std.specs.Prelude.{◌≡◌, ℕ, List, [], ◌∷◌, Any, Contains}
use Rattle.net_model.specs.Words.{Letter, Language}

-- a run on the word leads from this state to one that accepts; letters may be of any type
abbrev pub RunsFrom : {Q A : Type 0} → (Q → A → Q → Type 0) → (Q → Type 0) → Q → List A → Type 0
RunsFrom Steps Accepts q [] = Accepts q
RunsFrom {Q} Steps Accepts q (a ∷ word) = (r : Q) × Steps q a r × RunsFrom Steps Accepts r word

-- the words with a run from an initial state to one that accepts
abbrev pub LanguageOf : {Q A : Type 0} → (Q → Type 0) → (Q → A → Q → Type 0) → (Q → Type 0) → List A → Type 0
LanguageOf {Q} Initial Steps Accepts word = (q : Q) × Initial q × RunsFrom Steps Accepts q word

-- a move of an automaton of definitions
pub record Move : Type 0 where
  pub from : ℕ
  pub letter : Letter
  pub to : ℕ

-- An automaton of definitions, of any size.
pub record Automaton : Type 0 where
  pub states : ℕ
  pub initial : List ℕ
  pub accepting : List ℕ
  pub moves : List Move

abbrev pub MovesBy : Automaton → ℕ → Letter → ℕ → Type 0
MovesBy auto q a r = Any (λ (m : Move). (m.from ≡ q) × (m.letter ≡ a) × (m.to ≡ r)) auto.moves

-- the words of its runs
abbrev pub WordsOf : Automaton → Language
WordsOf auto = LanguageOf (Contains auto.initial) (MovesBy auto) (Contains auto.accepting)
