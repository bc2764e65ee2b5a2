-- The way to the safe words: what is outside S, composed with F.
use Rattle.std.specs.Prelude.{◌≡◌, true, false, List, map}
use Rattle.node_table.specs.Table.{Table}
use Rattle.mv_encoding.specs.Layouts.{Layout, levels_of}
use Rattle.mv_encoding.specs.Spots.{spelled, spell_values}
use Rattle.net_model.specs.Problems.{File}
use Rattle.net_frame.specs.Frames.{Frame}
use Rattle.det_core.specs.Automata.{BitWord, State, AreLetters, has_word}
use Rattle.sync_solve.specs.Products.{SameLetters}
use Rattle.sync_solve.specs.Files.{FileWords}

-- of the words with these letters the automaton has just those that the file hasn't
pub record HasOthers (t : Table) (file : File) (letters : List Layout) (det : List State) : Type 0 where
  pub out : (word : BitWord) → AreLetters (spell_values letters) word → has_word t det word ≡ true → FileWords file (map (spelled letters) word) → ⊥
  pub rest : (word : BitWord) → AreLetters (spell_values letters) word → has_word t det word ≡ false → FileWords file (map (spelled letters) word)

-- some bits that have those of the word at X's levels are a word of F and one of the automaton
abbrev pub IsComposed : Table → Frame → File → List State → BitWord → Type 0
IsComposed t frame f det xs =
    (ws : BitWord)
    × SameLetters (levels_of frame.x) ws xs
    × FileWords f (map (spelled frame.f.letters) ws)
    × (has_word t det ws ≡ true)
