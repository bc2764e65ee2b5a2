-- What is made once for all steps of a construction.
use Rattle.std.specs.Prelude.{◌≡◌, ◌+◌, ◌<◌, ◌++◌, ◌||◌, ◌⊎◌, not, ℕ, true, List, map}
use Rattle.std.specs.List.Sorted.{IsStrictlyIncreasing}
use Rattle.node_table.specs.Table.{Bits, Table, value_at}
use Rattle.bdd_ops.specs.Levels.{is_in, sources}
use Rattle.part_relation.specs.Plans.{Fits, named_by, all_hold, AreValid}
use Rattle.subset_build.specs.Relations.{Relation, present_of, AreInOrder, Reads}
use Rattle.subset_build.specs.declared.prepared.Prepared.{Prepared}

-- the map that takes each of these levels to itself
abbrev pub at_itself : List ℕ → List (ℕ × ℕ)
at_itself levels = map (λ k. (k, k)) levels

-- all levels lie above this one, which is one more than one of them, or the first
pub record IsLevelBelow (levels : List ℕ) (below : ℕ) : Type 0 where
  pub all : (k : ℕ) → is_in levels k ≡ true → k < below
  pub least : (below ≡ 0) ⊎ ((k : ℕ) × (is_in levels k ≡ true) × (below ≡ k + 1))

pub record IsPrepared (t : Table) (parts keep : List ℕ) (state : List (ℕ × ℕ)) (p : Prepared) : Type 0 where
  pub fits : Fits t parts p.plan
  pub hides : (k : ℕ) → k < t.levels → is_in (named_by p.plan) k ≡ not (is_in keep k || is_in (sources state) k)
  pub keep_rises : IsStrictlyIncreasing keep
  pub map_is : p.map ≡ at_itself keep ++ state
  pub level_is : IsLevelBelow keep p.level

-- the parts are the steps of the relation, and this is prepared for them
pub record IsStepOf (t : Table) (parts : List ℕ) (p : Prepared) (rel : Relation) : Type 0 where
  pub order : AreInOrder t.levels rel.keep rel.state
  pub parts_valid : AreValid t parts
  pub holds : (u : Bits) → all_hold t parts u ≡ rel.holds u
  pub prepared : IsPrepared t parts rel.keep rel.state p

-- and the refs are its accepting states and its letters
pub record IsGroundOf (t : Table) (parts : List ℕ) (p : Prepared) (acc valid : ℕ) (rel : Relation) : Type 0 where
  pub steps : IsStepOf t parts p rel
  pub acc_set : Reads t (present_of rel.state) acc
  pub acc_is : (q : Bits) → value_at t acc q ≡ rel.acc q
  pub letters : Reads t rel.keep valid

-- and its initial states
pub record IsGround (t : Table) (parts : List ℕ) (p : Prepared) (init acc valid : ℕ) (rel : Relation) : Type 0 where
  pub ground : IsGroundOf t parts p acc valid rel
  pub init_set : Reads t (present_of rel.state) init
  pub init_is : (q : Bits) → value_at t init q ≡ rel.init q
