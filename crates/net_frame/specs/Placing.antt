-- What the levels of a network's signals and latches must be, for its relation to be told on them.
use Rattle.std.specs.Prelude.{◌≡◌, ◌⊎◌, ℕ, List, [], ◌∷◌, ◌++◌, map, All}
use Rattle.std.specs.List.{AllZip, AllPairs}
use Rattle.node_table.specs.Table.{Bits, Table}
use Rattle.bdd_ops.specs.Levels.{is_in, sources, renamed, IsRisingMap}
use Rattle.mv_encoding.specs.Layouts.{Layout}
use Rattle.mv_encoding.specs.Spots.{AreLaid, AreApart, all_levels, spelled, spot_at, spots_at}
use Rattle.net_model.specs.Nets.{Net}
use Rattle.net_model.specs.Conditions.{latch_outputs}
use Rattle.net_model.specs.NetLanguages.{letter_signals, states_of}

-- Where the codes of a file stand: of its letters in their order, of its signals by their numbers, and of the present and
-- the next value of each latch. The map takes the levels of next values to those of present ones.
pub record FileSpots : Type 0 where
  pub letters : List Layout
  pub signals : List Layout
  pub present : List Layout
  pub next : List Layout
  pub back : List (ℕ × ℕ)

-- the levels that a map takes others to
abbrev pub targets : List (ℕ × ℕ) → List ℕ
targets pairs = map (λ p. p.1) pairs

-- The present value of a latch stands where its output does; where the output is a letter it stands for itself.
abbrev pub IsPresentOf : List Layout → Layout → ℕ → Type 0
IsPresentOf signals present output = (present ≡ spot_at signals output) ⊎ All (AreApart present) signals

-- The codes are those of the network's variables, on levels that exist, and no two share a level that have nothing to do
-- with each other.
pub record IsPlaced (t : Table) (net : Net) (spots : FileSpots) : Type 0 where
  pub letters : spots.letters ≡ spots_at spots.signals (letter_signals net)
  pub signals : map (λ spot. spot.scope) spots.signals ≡ map (λ v. v ∷ []) net.names
  pub present : map (λ spot. spot.scope) spots.present ≡ map (λ v. v ∷ []) (states_of net)
  pub next : map (λ spot. spot.scope) spots.next ≡ map (λ v. v ∷ []) (states_of net)
  pub signals_laid : AreLaid t spots.signals
  pub states_laid : AreLaid t (spots.present ++ spots.next)
  pub signals_apart : AllPairs AreApart spots.signals
  pub states_apart : AllPairs AreApart (spots.present ++ spots.next)
  pub letters_apart : All (λ letter. All (AreApart letter) (spots.present ++ spots.next)) spots.letters
  pub outputs : AllZip (IsPresentOf spots.signals) spots.present (latch_outputs net)
  pub next_apart : All (λ next. All (AreApart next) spots.signals) spots.next
  pub rises : IsRisingMap spots.back
  pub sources_are : (k : ℕ) → is_in (sources spots.back) k ≡ is_in (all_levels spots.next) k
  pub targets_are : (k : ℕ) → is_in (targets spots.back) k ≡ is_in (all_levels spots.present) k
  pub reads : (bits : Bits) → spelled spots.next (renamed spots.back bits) ≡ spelled spots.present bits
