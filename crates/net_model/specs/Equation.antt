use Rattle.std.specs.Prelude.{◌≡◌, ℕ}
use Rattle.net_model.specs.Words.{Scope, Word, Language, IsWord}
use Rattle.net_model.specs.Parts.{part_by}
use Rattle.net_model.specs.Automata.{Automaton, WordsOf}
use Rattle.net_model.specs.declared.class.Class.{Class}
use Rattle.net_model.specs.declared.class.Class.TheVariants.{All}
use Rattle.net_model.specs.declared.class.Mode.{Mode}

-- The scopes of an equation: of the joint words, of F, of S and of X, whose first `inputs` variables are its inputs.
pub record Topology : Type 0 where
  pub mode : Mode
  pub joint : Scope
  pub f : Scope
  pub s : Scope
  pub x : Scope
  pub inputs : ℕ

-- the part of a joint word on a scope
abbrev pub part : Topology → Scope → Word → Word
part topology scope word = part_by topology.mode topology.joint scope word

-- F composed with A: the words over S's scope that are the external part of a joint word whose F part is in F and
-- whose X part is in A
abbrev pub InComposition : Topology → Language → Language → Language
InComposition topology F A e =
    (w : Word)
    × IsWord topology.joint w
    × F (part topology topology.f w)
    × A (part topology topology.x w)
    × (part topology topology.s w ≡ e)

-- F composed with A is inside S
abbrev pub StaysInside : Topology → Language → Language → Language → Type 0
StaysInside topology F S A = (e : Word) → InComposition topology F A e → S e

-- a word over X is safe where every joint word whose X part it is and whose F part is in F has its external part in S
abbrev pub IsSafe : Topology → Language → Language → Language
IsSafe topology F S x =
    IsWord topology.x x
    × ((w : Word) → IsWord topology.joint w → part topology topology.x w ≡ x → F (part topology topology.f w) → S (part topology topology.s w))

-- in the largest solution of a class; the language of the safe words is an argument
abbrev pub InLargest : Class → Topology → Language → Language
InLargest All topology Safe x = Safe x

-- a language over this scope
abbrev pub IsOver : Scope → Language → Type 0
IsOver scope A = (x : Word) → A x → IsWord scope x

-- a solution of a class
abbrev pub IsSolution : Class → Topology → Language → Language → Language → Type 0
IsSolution All topology F S A = IsOver topology.x A × StaysInside topology F S A

-- A is a solution of the class that has each word of each automaton which is one
pub record IsLargestSolution (class : Class) (topology : Topology) (F S A : Language) : Type 0 where
  pub solution : IsSolution class topology F S A
  pub largest : (auto : Automaton) → IsSolution class topology F S (WordsOf auto) → (x : Word) → WordsOf auto x → A x
