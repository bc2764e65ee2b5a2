-- The relation of a file has the file's words, and those are words over its letters.
use Rattle.std.proofs.Common.{◌≡◌, ◌↔◌, ◌<◌, ℕ, List, [], ◌∷◌, length, map, get_or, sym, ◌∙◌, subst}
use Rattle.std.specs.List.{All}
use Rattle.std.proofs.lemmas.List.Elements.{All-head, All-tail}
use Rattle.node_table.specs.Table.{Table, Grows}
use Rattle.node_table.proofs.Growth.{valid-grows}
use Rattle.name_table.specs.ScopeVars.{chosen_of}
use Rattle.bdd_ops.specs.Levels.{is_in}
use Rattle.bdd_ops.proofs.Renamed.{depends-grows}
use Rattle.mv_encoding.specs.Layouts.{Layout}
use Rattle.mv_encoding.specs.Spots.{AreSpots, all_levels, spelled, StandsForValues}
use Rattle.part_relation.specs.Plans.{AreValid}
use Rattle.part_relation.specs.Steps.{StepCode, StandsForSteps}
use Rattle.net_model.specs.Words.{Scope, Letter, Word, IsLetter, IsWord}
use Rattle.net_model.specs.Automata.{RunsFrom}
use Rattle.net_model.specs.Tables.{values_at}
use Rattle.net_model.specs.Nets.{Net}
use Rattle.net_model.specs.NetLanguages.{letter_signals, letters_of, Steps, IsAccepting}
use Rattle.net_model.specs.SoundNets.{IsSound}
use Rattle.net_model.specs.Machines.{Machine, MachineSteps, machine_letters}
use Rattle.net_model.specs.Outlines.{outline}
use Rattle.net_model.specs.Problems.{File, NetFile, MachineFile, IsSoundFile, file_letters}
use Rattle.net_model.proofs.Outlined.{file-wired}
use Rattle.net_model.proofs.Letters.{letters_known, wired_of}
use Rattle.net_frame.specs.Placing.{FileSpots}
use Rattle.net_frame.specs.Frames.{IsFilePlaced}
use Rattle.net_relation.specs.Relations.{file_meanings, StandsForFileSteps, StepsOf, IsInitialOf, IsAcceptingOf, step_code}
use Rattle.net_relation.proofs.Added.{are-grow}
use Rattle.net_relation.proofs.PlacedNet as placed-net
use Rattle.net_relation.proofs.PlacedNet.{placed-later}
use Rattle.det_core.specs.Automata.{BitWord}
use Rattle.subset_build.specs.Relations.{HasRun, relation_of}
use Rattle.subset_build.proofs.Making.{holds-grow}
use Rattle.relation_words.proofs.Runs.{same-words}
use Rattle.relation_words.proofs.Ends.{value-below}
use Rattle.sync_solve.specs.Files.{FileWords, AreDiagrams}

-- growth

pub valid-grow : (a b : Table) → Grows a b → (parts : List ℕ) → AreValid a parts → AreValid b parts
valid-grow a b grow parts valid k d within = valid-grows a b grow (get_or parts k d) (valid k d within)

pub steps-grow : {Q A : Type 0} (a b : Table) → Grows a b → (parts : List ℕ) (code : StepCode Q A) (Step : Q → A → Q → Type 0) → StandsForSteps a parts code Step → StandsForSteps b parts code Step
steps-grow a b grow parts code Step is = record {
  valid = valid-grow a b grow parts is.valid;
  found = λ bits all. is.found bits (sym (holds-grow a b grow parts is.valid bits) ∙ all);
  holds = λ bits step. let (u, same, all) = is.holds bits step in (u, same, holds-grow a b grow parts is.valid u ∙ all);
}

pub file-steps-grow : (a b : Table) → Grows a b → (parts : List ℕ) (spots : FileSpots) (file : File) → StandsForFileSteps a parts spots file → StandsForFileSteps b parts spots file
file-steps-grow a b grow parts spots file is = steps-grow a b grow parts (step_code spots) (StepsOf file) is

pub values-grow : (a b : Table) → Grows a b → (spots : List Layout) (r : ℕ) (Member : List ℕ → Type 0) → StandsForValues a spots r Member → StandsForValues b spots r Member
values-grow a b grow spots r Member is = record {
  valid = valid-grows a b grow r is.valid;
  depends = depends-grows a b grow (all_levels spots) r is.valid is.depends;
  found = λ bits one. is.found bits (sym (grow.value r is.valid.held bits) ∙ one);
  holds = λ bits letter member. grow.value r is.valid.held bits ∙ is.holds bits letter member;
}

pub file-placed-later : (s t : Table) → t.levels ≡ s.levels → (file : File) (spots : FileSpots) → IsFilePlaced s file spots → IsFilePlaced t file spots
file-placed-later s t levels file spots placed = placed-later s t (outline file) spots levels placed

pub diagrams-grow : (a b : Table) → Grows a b → b.levels ≡ a.levels → (file : File) (spots : FileSpots) (parts : List ℕ) (init acc : ℕ) → AreDiagrams a file spots parts init acc → AreDiagrams b file spots parts init acc
diagrams-grow a b grow levels file spots parts init acc are = record {
  sound = are.sound;
  placed = file-placed-later a b levels file spots are.placed;
  steps = file-steps-grow a b grow parts spots file are.steps;
  meanings = are-grow a b grow parts (file_meanings file spots) are.meanings;
  initial = values-grow a b grow spots.present init (IsInitialOf file) are.initial;
  accepting = values-grow a b grow spots.present acc (IsAcceptingOf file) are.accepting;
}

-- words

pub file-words : (t : Table) (file : File) (spots : FileSpots) (parts : List ℕ) (init acc : ℕ) (keep : List ℕ) → AreDiagrams t file spots parts init acc
    → ((k : ℕ) → is_in keep k ≡ is_in (all_levels spots.letters) k)
    → (word : BitWord) → HasRun (relation_of t parts init acc keep spots.back) word ↔ FileWords file (map (spelled spots.letters) word)
file-words t file spots parts init acc keep are letters word =
    same-words t file spots parts init acc keep (record {
      sound = are.sound;
      placed = are.placed;
      steps = are.steps;
      initial = are.initial;
      accepting = are.accepting;
      letters = letters;
    }) word

chosen-letter : (names : Scope) (valuation : Letter) (signals : List ℕ) → IsLetter names valuation → All (λ s. s < length names) signals → IsLetter (chosen_of names signals) (values_at valuation signals)
chosen-letter names valuation [] over known = tt
chosen-letter names valuation (s ∷ signals) over known =
    (value-below names valuation s over (All-head (λ s. s < length names) s signals known), chosen-letter names valuation signals over (All-tail (λ s. s < length names) s signals known))

net-word : (net : Net) → IsSound net → (word : Word) (q : List ℕ) → RunsFrom (Steps net) (IsAccepting net) q word → IsWord (letters_of net) word
net-word net sound [] q run = tt
net-word net sound (a ∷ word) q (r, step, run) =
    (subst (IsLetter (letters_of net)) step.letter (chosen-letter net.names step.valuation (letter_signals net) step.values (letters_known net (wired_of net sound))), net-word net sound word r run)

machine-word : (machine : Machine) (word : Word) (q : ℕ) → RunsFrom (MachineSteps machine) (λ s. Unit {0}) q word → IsWord (machine_letters machine) word
machine-word machine [] q run = tt
machine-word machine (a ∷ word) q (r, step, run) = (step.letter, machine-word machine word r run)

pub word-of-file : (file : File) → IsSoundFile file → (word : Word) → FileWords file word → IsWord (file_letters file) word
word-of-file (NetFile net) sound word (q, initial, run) = net-word net sound word q run
word-of-file (MachineFile machine) sound word (q, initial, run) = machine-word machine word q run

-- the codes of its letters are single variables, those of its letters
pub letter-spots : (t : Table) (file : File) (spots : FileSpots) → IsSoundFile file → IsFilePlaced t file spots → AreSpots spots.letters
letter-spots t file spots sound placed = placed-net.wired-are t (outline file) spots (file-wired file sound) placed
