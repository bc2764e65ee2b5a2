-- F beside an automaton, as one relation.
use Rattle.std.specs.Prelude.{◌≡◌, ◌&&◌, ◌↔◌, ℕ, List}
use Rattle.node_table.specs.Table.{Bits, Table, value_at, IsValid}
use Rattle.bdd_ops.specs.Meaning.{StandsFor}
use Rattle.part_relation.specs.Plans.{all_hold, AreValid}
use Rattle.mv_encoding.specs.Layouts.{levels_of}
use Rattle.net_model.specs.Problems.{File}
use Rattle.net_frame.specs.Frames.{Frame}
use Rattle.det_core.specs.Automata.{BitWord, State}
use Rattle.subset_build.specs.Relations.{relation_of, HasRun, AreInOrder, Reads, present_of}
use Rattle.sync_solve.specs.declared.machine.Machine.{Machine}
use Rattle.sync_solve.specs.Safe.{IsComposed}

-- all refs are valid
pub record AreHeld (t : Table) (m : Machine) : Type 0 where
  pub parts : AreValid t m.parts
  pub init : IsValid t m.init
  pub acc : IsValid t m.acc

-- steps, initial and accepting states are those of both; the values of the two are those in the first Space
pub record AreBoth (s t : Table) (a b both : Machine) : Type 0 where
  pub valid : AreValid t both.parts
  pub steps : (u : Bits) → all_hold t both.parts u ≡ (all_hold s a.parts u && all_hold s b.parts u)
  pub initial : StandsFor t both.init (λ q. value_at s a.init q && value_at s b.init q)
  pub accepting : StandsFor t both.acc (λ q. value_at s a.acc q && value_at s b.acc q)

-- The relation meets what the subset construction asks for, and has just the words of X's letters at which F and the
-- automaton go together. F's words and those of the automaton are told in the first Space.
pub record IsProduct (s t : Table) (frame : Frame) (f : File) (det : List State) (m : Machine) (back : List (ℕ × ℕ)) : Type 0 where
  pub order : AreInOrder t.levels (levels_of frame.x) back
  pub valid : AreValid t m.parts
  pub init : Reads t (present_of back) m.init
  pub acc : Reads t (present_of back) m.acc
  pub words : (xs : BitWord) → HasRun (relation_of t m.parts m.init m.acc (levels_of frame.x) back) xs ↔ IsComposed s frame f det xs
