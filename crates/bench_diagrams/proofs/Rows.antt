use Rattle.std.proofs.Common.{◌≡◌, ◌+◌, ℕ, List, [], ◌∷◌, ◌++◌, arith, ◌∙◌}
use Rattle.std.specs.Prelude.{All}
use Rattle.std.proofs.lemmas.List.Elements.{All-push}
use Rattle.node_table.specs.Table.{Table, Grows}
use Rattle.bench_diagrams.specs.Rows.{StandsAt}

-- what a loop over the refs of the row below keeps
pub record IsRow (levels : ℕ) (t : Table) (level : ℕ) (below row : List ℕ) (hi : ℕ) : Type 0 where
  pub as_many_levels : t.levels ≡ levels
  pub below_stands : All (StandsAt t (level + 1)) below
  pub row_stands : All (StandsAt t level) row
  pub hi_stands : StandsAt t (level + 1) hi

-- a ref stands at its level in a space that has grown
pub stays : {old new : Table} → Grows old new → new.levels ≡ old.levels → (level r : ℕ) → StandsAt old level r → StandsAt new level r
stays g e level r s = record {
  valid = record { table = g.table; held = omega arith };
  top = rw (g.top e r s.valid.held) s.top;
}

pub all_stay : {old new : Table} → Grows old new → new.levels ≡ old.levels → (level : ℕ) (refs : List ℕ) → All (StandsAt old level) refs → All (StandsAt new level) refs
all_stay g e level refs all k d lt = stays g e level _ (all k d lt)

-- one more node of the row
pub row_more : {levels level : ℕ} {old new : Table} {below row : List ℕ} {hi : ℕ} → IsRow levels old level below row hi → Grows old new → new.levels ≡ old.levels → (node lo : ℕ) → StandsAt new level node → StandsAt old (level + 1) lo → IsRow levels new level below (row ++ node ∷ []) lo
row_more {levels} {level} {old} {new} {below} {row} {hi} is g e node lo stands lo_stands = record {
  as_many_levels = e ∙ is.as_many_levels;
  below_stands = all_stay g e (level + 1) below is.below_stands;
  row_stands = All-push (StandsAt new level) row node (all_stay g e level row is.row_stands) stands;
  hi_stands = stays g e (level + 1) lo lo_stands;
}
