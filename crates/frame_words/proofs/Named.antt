-- Variables and codes of a name.
use Rattle.std.proofs.Common.{◌≡◌, ◌||◌, true, false, cond, List, [], ◌∷◌, ℕ}
use Rattle.std.specs.Prelude.{All}
use Rattle.std.specs.List.{AllByRecursion}
use Rattle.std.specs.Str.{bytes_eq}
use Rattle.std.proofs.lemmas.Bool.{false≢true}
use Rattle.std.proofs.lemmas.List.Elements.{recursion_from_All}
use Rattle.name_table.specs.ScopeVars.{variable_at}
use Rattle.mv_encoding.specs.Layouts.{Layout}
use Rattle.net_frame.specs.Frames.{spot_named}
use Rattle.net_frame.specs.Making.{has_spot}

-- what holds of all codes holds of that of a name
by-name : (P : Layout → Type 0) (spots : List Layout) (name : List ℕ) → AllByRecursion P spots → has_spot spots name ≡ true → P (spot_named spots name)
by-name P [] name all there = absurd (false≢true there)
by-name P (spot ∷ spots) name all there =
    elim (bytes_eq (variable_at spot.scope 0).name name) as (λ b. (b || has_spot spots name) ≡ true → P (cond b spot (spot_named spots name)))
    [ true ↦ λ e. all.0 | false ↦ λ e. by-name P spots name all.1 e ] there

pub holds-named : (P : Layout → Type 0) (spots : List Layout) (name : List ℕ) → All P spots → has_spot spots name ≡ true → P (spot_named spots name)
holds-named P spots name all there = by-name P spots name (recursion_from_All P spots all) there
