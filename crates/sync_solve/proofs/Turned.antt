-- An automaton that is turned round has the words that the file hasn't.
use Rattle.std.proofs.Common.{◌≡◌, ◌↔◌, ◌&&◌, ℕ, Bool, true, false, not, List, [], ◌∷◌, map, refl, sym, ap, ◌∙◌, subst}
use Rattle.std.specs.List.{All}
use Rattle.std.proofs.lemmas.Bool.{true≢false}
use Rattle.std.proofs.lemmas.List.Elements.{All-map}
use Rattle.node_table.specs.Table.{Bits, Table, value_at}
use Rattle.bdd_ops.specs.Levels.{is_in, SameAt}
use Rattle.bdd_ops.specs.Meaning.{StandsFor, DependsOn}
use Rattle.mv_encoding.specs.Layouts.{Layout, levels_of, is_letter}
use Rattle.mv_encoding.specs.Spots.{AreLaid, all_levels, spelled, spell_values}
use Rattle.net_model.specs.Outlines.{outline}
use Rattle.net_model.proofs.Outlined.{file-wired}
use Rattle.net_model.specs.Problems.{File, IsSoundFile}
use Rattle.net_frame.specs.Placing.{FileSpots}
use Rattle.net_frame.specs.Frames.{IsFilePlaced}
use Rattle.net_relation.proofs.PlacedNet as placed-net
use Rattle.det_core.specs.declared.det.Move.{Move}
use Rattle.det_core.specs.Automata.{BitWord, State, AreLetters, has_word, turned, AreGuards, Covers, MeetsRule, IsComplete, ReadsAlone}
use Rattle.subset_build.specs.Relations.{HasRun, relation_of}
use Rattle.sync_solve.specs.Files.{FileWords, AreDiagrams}
use Rattle.sync_solve.specs.Safe.{HasOthers}
use Rattle.sync_solve.proofs.Products.{in-left, in-right}
use Rattle.sync_solve.proofs.Files.{file-words}
use Rattle.sync_solve.proofs.Reading.{layout-same}

-- whether bits are letters depends on the levels of the letters alone
pub values-same : (spots : List Layout) (u v : Bits) → SameAt (all_levels spots) u v → spell_values spots u ≡ spell_values spots v
values-same [] u v same = refl
values-same (spot ∷ spots) u v same =
    λ i. is_letter spot.scope (layout-same spot u v (λ k member. same k (in-left (levels_of spot) (all_levels spots) k member)) i)
    && values-same spots u v (λ k member. same k (in-right (levels_of spot) (all_levels spots) k member)) i

pub file-letters-laid : (t : Table) (file : File) (spots : FileSpots) → IsSoundFile file → IsFilePlaced t file spots → AreLaid t spots.letters
file-letters-laid t file spots sound placed = placed-net.wired-laid t (outline file) spots (file-wired file sound) placed

-- the moves stay as they are
pub turned-rule : (t : Table) (letters : Bits → Bool) (det : List State) → MeetsRule t letters det → MeetsRule t letters (map turned det)
turned-rule t letters det rule = All-map (λ (s : State). AreGuards t letters s.moves) turned det rule

pub turned-complete : (t : Table) (letters : Bits → Bool) (det : List State) → IsComplete t letters det → IsComplete t letters (map turned det)
turned-complete t letters det complete = All-map (λ (s : State). Covers t letters s.moves) turned det complete

pub turned-reads : (t : Table) (levels : List ℕ) (det : List State) → ReadsAlone t levels det → ReadsAlone t levels (map turned det)
turned-reads t levels det reads = All-map (λ (s : State). All (λ (m : Move). DependsOn t levels m.guard) s.moves) turned det reads

pub reads-same : (t : Table) (xs ys : List ℕ) → ((k : ℕ) → is_in xs k ≡ is_in ys k) → (det : List State) → ReadsAlone t xs det → ReadsAlone t ys det
reads-same t xs ys same det reads k d within i m inside u v at = reads k d within i m inside u v (λ l member. at l (sym (same l) ∙ member))

module _ (t s : Table) (file : File) (spots : FileSpots) (parts : List ℕ) (init acc : ℕ) (keep : List ℕ) (back : List (ℕ × ℕ)) (are : AreDiagrams t file spots parts init acc)
    (same : (k : ℕ) → is_in keep k ≡ is_in (all_levels spots.letters) k) (back_is : back ≡ spots.back) (valid : ℕ) (letters : StandsFor t valid (spell_values spots.letters)) (det other : List State)
    (words : (word : BitWord) → AreLetters (value_at t valid) word → (has_word s det word ≡ true) ↔ HasRun (relation_of t parts init acc keep back) word)
    (complete : IsComplete s (value_at t valid) det)
    (turn : (u : Table) (l : Bits → Bool) → IsComplete u l det → (word : BitWord) → AreLetters l word → has_word u other word ≡ not (has_word u det word)) where
  as-valid : (word : BitWord) → AreLetters (spell_values spots.letters) word → AreLetters (value_at t valid) word
  as-valid word over = subst (λ l. AreLetters l word) (λ i bits. sym (letters.value bits) i) over

  turned-word : (word : BitWord) → AreLetters (spell_values spots.letters) word → has_word s other word ≡ not (has_word s det word)
  turned-word word over = turn s (value_at t valid) complete word (as-valid word over)

  in-file : (word : BitWord) → AreLetters (spell_values spots.letters) word → (has_word s det word ≡ true) ↔ FileWords file (map (spelled spots.letters) word)
  in-file word over =
      let by_runs = words word (as-valid word over) in
      let runs = file-words t file spots parts init acc keep are same word in (
        λ has. runs.0 (subst (λ b. HasRun (relation_of t parts init acc keep b) word) back_is (by_runs.0 has)),
        λ in_words. by_runs.1 (subst (λ b. HasRun (relation_of t parts init acc keep b) word) (sym back_is) (runs.1 in_words)),
      )

  of-not : (b : Bool) → not b ≡ false → b ≡ true
  of-not true is = refl
  of-not false is = absurd (true≢false is)

  pub others-are : HasOthers s file spots.letters other
  others-are = record {
    out = λ word over has in_words. true≢false (sym has ∙ turned-word word over ∙ ap not ((in-file word over).1 in_words));
    rest = λ word over has. (in-file word over).0 (of-not (has_word s det word) (sym (turned-word word over) ∙ has));
  }
