-- The words of a deterministic automaton.
use Rattle.std.specs.Prelude.{◌≡◌, ℕ, Bool, true, IsTrue, List, map, Any}
use Rattle.net_model.specs.Words.{Word}
use Rattle.net_model.specs.Automata.{LanguageOf}
use Rattle.node_table.specs.Table.{Bits, Table, value_at}
use Rattle.net_model.specs.declared.letter.Letter.{Letter}
use Rattle.mv_encoding.specs.Layouts.{Layout, numbers_of, is_letter}
use Rattle.det_core.specs.declared.det.Move.{Move}
use Rattle.det_core.specs.Automata.{BitWord, State, state_at, has_word}

-- a move leads from one state to the other by this letter
abbrev pub MovesBy : Table → List State → ℕ → Bits → ℕ → Type 0
MovesBy t det k bits target = Any (λ (m : Move). (value_at t m.guard bits ≡ true) × (m.target ≡ target)) (state_at det k).moves

-- the words of the runs from state 0 to one that accepts
abbrev pub WordsByRuns : Table → List State → BitWord → Type 0
WordsByRuns t det word = LanguageOf (λ k. k ≡ 0) (MovesBy t det) (λ k. IsTrue (state_at det k).accepting) word

-- the letters of a word of the code
abbrev pub word_of : List Letter → Word
word_of letters = map (λ letter. letter.values.items) letters

-- the bits that stand for a letter under a layout
abbrev pub letters_of : Layout → Bits → Bool
letters_of layout bits = is_letter layout.scope (numbers_of layout bits)

-- the words over the variables of a layout: those whose letters some bits spell there that the automaton has
abbrev pub HasLetters : Table → Layout → List State → Word → Type 0
HasLetters t layout det word = (bits : BitWord) × (map (numbers_of layout) bits ≡ word) × (has_word t det bits ≡ true)
