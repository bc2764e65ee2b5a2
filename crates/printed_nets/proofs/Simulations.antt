use Rattle.net_model.specs.Words.{Letter, Word}
use Rattle.net_model.specs.Automata.{RunsFrom, LanguageOf}
use Rattle.std.proofs.Common.{[], ◌∷◌}

-- Each word of an automaton is a word of another one that follows it.

-- each initial state, step and accepting state of the first automaton is followed by one of the second, for states that are
-- related
pub record IsFollowed {Q R : Type 0}
    (Initial : Q → Type 0) (Steps : Q → Letter → Q → Type 0) (Accepts : Q → Type 0)
    (Initial' : R → Type 0) (Steps' : R → Letter → R → Type 0) (Accepts' : R → Type 0)
    (Related : Q → R → Type 0) : Type 0 where
  pub starts : (q : Q) → Initial q → (r : R) × Related q r × Initial' r
  pub moves : (q : Q) (r : R) (a : Letter) (q' : Q) → Related q r → Steps q a q' → (r' : R) × Related q' r' × Steps' r a r'
  pub ends : (q : Q) (r : R) → Related q r → Accepts q → Accepts' r

module _ {Q R : Type 0} {Initial : Q → Type 0} {Steps : Q → Letter → Q → Type 0} {Accepts : Q → Type 0}
    {Initial' : R → Type 0} {Steps' : R → Letter → R → Type 0} {Accepts' : R → Type 0} {Related : Q → R → Type 0}
    (followed : IsFollowed Initial Steps Accepts Initial' Steps' Accepts' Related) where
  run_is_followed : (word : Word) (q : Q) (r : R) → Related q r → RunsFrom Steps Accepts q word → RunsFrom Steps' Accepts' r word
  run_is_followed [] q r related accepts = followed.ends q r related accepts
  run_is_followed (a ∷ word) q r related (q', step, run) =
      let (r', related', step') = followed.moves q r a q' related step in
      (r', step', run_is_followed word q' r' related' run)

  -- a word of the first automaton is one of the second
  pub word_is_followed : (word : Word) → LanguageOf Initial Steps Accepts word → LanguageOf Initial' Steps' Accepts' word
  word_is_followed word (q, initial, run) =
      let (r, related, initial') = followed.starts q initial in
      (r, initial', run_is_followed word q r related run)
