-- What is printed of a deterministic automaton.
use Rattle.std.proofs.Common.{◌↔◌, ◌<◌, ◌^◌, ℕ, IsTrue, List, length, get_or}
use Rattle.net_model.specs.Words.{Letter, Word}
use Rattle.net_model.specs.Listings.{steps}
use Rattle.net_model.specs.NetLanguages.{StandsForAutomaton}
use Rattle.net_model.specs.Files.{Means}
use Rattle.net_model.specs.Written.{IsTextName}
use Rattle.net_model.specs.Printed.{printed_text}
use Rattle.printed_nets.proofs.Meant.{printed_automaton, printed_means}
use Rattle.node_table.specs.Table.{Table}
use Rattle.mv_encoding.specs.Layouts.{Layout, levels_of}
use Rattle.det_core.specs.Automata.{State, IsDet, MeetsRule, ReadsAlone, AreGuardsValid}
use Rattle.det_core.specs.Languages.{letters_of, HasLetters}
use Rattle.aut_format.specs.Rows.{listing_of_det, HasStep, HaveTextNames}
use Rattle.aut_format.proofs.Steps.{listing-printed, listing-words, step-known, step-there}

module _ (t : Table) (layout : Layout) (det : List State) (rule : MeetsRule t (letters_of layout) det) (reads : ReadsAlone t (levels_of layout) det) where
  -- its text stands for an automaton over the same letters
  pub det-automaton : (name : List ℕ) → IsTextName name → HaveTextNames layout.scope → IsDet det → length det < 2 ^ 64 → StandsForAutomaton (printed_text name (listing_of_det t layout det)) layout.scope
  det-automaton name named names is few =
      printed_automaton name (listing_of_det t layout det) named (listing-printed t layout det rule reads names is few)

  -- and means its words
  pub det-means : (name : List ℕ) → IsTextName name → HaveTextNames layout.scope → IsDet det → length det < 2 ^ 64 → (word : Word) → Means (printed_text name (listing_of_det t layout det)) layout.scope word ↔ HasLetters t layout det word
  det-means name named names is few word =
      let text = printed_means name (listing_of_det t layout det) named (listing-printed t layout det rule reads names is few) word in
      let words = listing-words t layout det rule reads word in
      (λ means. words.0 (text.0 means), λ has. text.1 (words.1 has))

  -- its steps are its moves
  pub det-steps : (k : ℕ) (letter : Letter) (target : ℕ) → IsTrue (steps (listing_of_det t layout det) k letter target) ↔ HasStep t layout det k letter target
  det-steps k letter target = (step-known t layout det rule reads k letter target, step-there t layout det rule reads k letter target)

-- the rule says that guards are valid
pub guards-valid : (t : Table) (layout : Layout) (det : List State) → MeetsRule t (letters_of layout) det → (k : ℕ) (d : State) → k < length det → AreGuardsValid t (get_or det k d).moves
guards-valid t layout det rule k d within = (rule k d within).valid
