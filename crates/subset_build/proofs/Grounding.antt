-- What `determinise` asks for is the ground of its construction.
use Rattle.std.proofs.Common.{ℕ, List, refl}
use Rattle.node_table.specs.Table.{Table}
use Rattle.part_relation.specs.Plans.{AreValid}
use Rattle.subset_build.specs.declared.prepared.Prepared.{Prepared}
use Rattle.subset_build.specs.Relations.{relation_of, present_of, AreInOrder, Reads}
use Rattle.subset_build.specs.Preparing.{IsPrepared, IsGround}

pub ground-of : (t : Table) (parts : List ℕ) (p : Prepared) (init acc valid : ℕ) (keep : List ℕ) (state : List (ℕ × ℕ)) → AreInOrder t.levels keep state → AreValid t parts → Reads t (present_of state) init → Reads t (present_of state) acc → Reads t keep valid → IsPrepared t parts keep state p
    → IsGround t parts p init acc valid (relation_of t parts init acc keep state)
ground-of t parts p init acc valid keep state order are_valid is_init is_acc is_valid is_prepared = record {
  ground = record {
    steps = record { order = order; parts_valid = are_valid; holds = λ u. refl; prepared = is_prepared };
    acc_set = is_acc;
    acc_is = λ q. refl;
    letters = is_valid;
  };
  init_set = is_init;
  init_is = λ q. refl;
}
