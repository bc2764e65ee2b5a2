use Rattle.std.specs.Prelude.{◌==◌, ℕ, Bool, true, false, ◌&&◌, IsTrue, List, [], ◌∷◌, Contains, slice_index_or}
use Rattle.std.specs.List.{list_any}
use Rattle.net_model.specs.Words.{Scope, Letter, Language}
use Rattle.net_model.specs.Automata.{LanguageOf}

-- A row of a listing: the values that it allows each variable, the present state and the next one.
pub record Row : Type 0 where
  pub entries : List (List ℕ)
  pub present : ℕ
  pub next : ℕ

-- A listed automaton as plain data: its letters' variables, its initial states, for each state whether it accepts, and
-- its rows.
pub record Listing : Type 0 where
  pub vars : Scope
  pub initial : List ℕ
  pub accepting : List Bool
  pub rows : List Row

-- each entry has the letter's value
abbrev pub allows : List (List ℕ) → Letter → Bool
allows [] [] = true
allows (entry ∷ entries) (a ∷ letter) = list_any (λ v. v == a) entry && allows entries letter
allows [] (a ∷ letter) = false
allows (entry ∷ entries) [] = false

-- some row leads from p to q by the letter
abbrev pub steps : Listing → ℕ → Letter → ℕ → Bool
steps auto p a q = list_any (λ row. (row.present == p) && ((row.next == q) && allows row.entries a)) auto.rows

abbrev pub accepts : Listing → ℕ → Bool
accepts auto q = slice_index_or auto.accepting q false

-- the words of a listing
abbrev pub ListingWords : Listing → Language
ListingWords auto = LanguageOf (Contains auto.initial) (λ p a q. IsTrue (steps auto p a q)) (λ q. IsTrue (accepts auto q))
