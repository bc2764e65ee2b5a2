-- The automaton of the safe words, from what its parts are.
use Rattle.std.proofs.Common.{◌≡◌, ◌↔◌, ◌<◌, ◌+◌, ℕ, Bool, true, not, List, [], ◌∷◌, length, map, Option, refl, sym, ap, ◌∙◌, subst, arith}
use Rattle.std.specs.List.{All}
use Rattle.std.proofs.lemmas.List.Elements.{All-head, All-tail}
use Rattle.node_table.specs.Table.{Bits, Table}
use Rattle.name_table.specs.ScopeVars.{variable_at, chosen_of}
use Rattle.mv_encoding.specs.Layouts.{Layout, IsLaid}
use Rattle.mv_encoding.specs.Spots.{variables_at, spelled, spell_values, spot_at, spots_at}
use Rattle.mv_encoding.proofs.Apart.{values-test}
use Rattle.mv_encoding.proofs.Ranges.{in-range}
use Rattle.net_model.specs.Words.{Scope, Word, IsLetter, IsWord}
use Rattle.net_model.specs.Equation.{IsSafe}
use Rattle.net_model.specs.Topologies.{topology_by}
use Rattle.net_model.specs.NetLanguages.{letter_signals}
use Rattle.net_model.specs.Problems.{File, Problem, IsBuilt, IsSoundFile, file_letters}
use Rattle.net_model.specs.declared.class.Mode.{Mode}
use Rattle.net_model.specs.declared.class.Mode.TheVariants.{Sync, Parallel}
use Rattle.net_model.specs.Outlines.{outline}
use Rattle.net_model.proofs.Outlined.{file-wired, outline-letters}
use Rattle.net_relation.proofs.PlacedNet.{wired-variables}
use Rattle.net_frame.specs.Placing.{FileSpots}
use Rattle.net_frame.specs.Frames.{Frame, FitsProblem, IsFilePlaced}
use Rattle.net_relation.proofs.PlacedNet.{scope-at, spots-long}
use Rattle.frame_words.specs.Levels.{LiesAround, AreInOrder}
use Rattle.frame_words.proofs.Spelt.{spells-parts}
use Rattle.det_core.specs.Automata.{BitWord, State, AreLetters, has_word, MeetsRule, IsComplete}
use Rattle.det_core.specs.Languages.{letters_of, HasLetters}
use Rattle.sync_solve.specs.Files.{FileWords}
use Rattle.sync_solve.specs.Safe.{HasOthers, IsComposed}
use Rattle.sync_solve.proofs.Files.{letter-spots, word-of-file}
use Rattle.sync_solve.proofs.Outside.{word-letters, safe-words, words-of-values}

-- levels stay in order while none comes

around-later : (s t : Table) (start : ℕ) (spots : FileSpots) → t.levels ≡ s.levels → LiesAround s start spots → LiesAround t start spots
around-later s t start spots levels around = record {
  letters = around.letters;
  signals = around.signals;
  present = λ k member. let at = around.present k member in (at.0, omega (arith, at.1, levels));
  next = λ k member. let at = around.next k member in (at.0, omega (arith, at.1, levels));
}

pub order-later : (s t : Table) (frame : Frame) → t.levels ≡ s.levels → AreInOrder s frame → AreInOrder t frame
order-later s t frame levels order = record {
  start = order.start;
  within = (let within = order.within in omega (arith, within, levels));
  x = order.x;
  f = around-later s t order.start frame.f levels order.f;
  s = around-later s t order.start frame.s levels order.s;
}

-- the levels of X's letter are there
pub x-laid : (t : Table) (frame : Frame) → AreInOrder t frame → IsLaid frame.x t
x-laid t frame order k within =
    let low = order.x (frame.x.first + k) (in-range _ frame.x.first (frame.x.first + k) (omega arith) (omega (arith, within))) in
    let start = order.within in
    omega (arith, low, start)

-- the variables of a file's letters

letter-variables : (t : Table) (file : File) (spots : FileSpots) → IsSoundFile file → IsFilePlaced t file spots → variables_at spots.letters ≡ file_letters file
letter-variables t file spots sound placed = wired-variables t (outline file) spots (file-wired file sound) placed ∙ outline-letters file

-- the scopes of a problem are those of its files

scope-f : (mode : Mode) (f s : Scope) (ins outs : List (List ℕ)) → (topology_by mode f s ins outs).f ≡ f
scope-f Sync f s ins outs = refl
scope-f Parallel f s ins outs = refl

scope-s : (mode : Mode) (f s : Scope) (ins outs : List (List ℕ)) → (topology_by mode f s ins outs).s ≡ s
scope-s Sync f s ins outs = refl
scope-s Parallel f s ins outs = refl

f-scope : (problem : Problem) → IsBuilt problem → problem.topology.f ≡ file_letters problem.f
f-scope problem built = ap (λ (p : Problem). p.topology.f) built.scopes ∙ scope-f problem.topology.mode (file_letters problem.f) (file_letters problem.s) built.ins built.outs

s-scope : (problem : Problem) → IsBuilt problem → problem.topology.s ≡ file_letters problem.s
s-scope problem built = ap (λ (p : Problem). p.topology.s) built.scopes ∙ scope-s problem.topology.mode (file_letters problem.f) (file_letters problem.s) built.ins built.outs

pub solved : (old s u : Table) (problem : Problem) (third : Option File) (frame : Frame) (others found answer : List State) → IsBuilt problem → problem.topology.mode ≡ Sync → FitsProblem old problem third frame
    → HasOthers s problem.s frame.s.letters others → MeetsRule s (spell_values frame.s.letters) others
    → ((xs : BitWord) → AreLetters (letters_of frame.x) xs → (has_word u found xs ≡ true) ↔ IsComposed s frame problem.f others xs)
    → IsComplete u (letters_of frame.x) found → MeetsRule u (letters_of frame.x) answer
    → ((t : Table) (letters : Bits → Bool) → IsComplete t letters found → (word : BitWord) → AreLetters letters word → has_word t answer word ≡ not (has_word t found word))
    → (word : Word) → HasLetters u frame.x answer word ↔ IsSafe problem.topology (FileWords problem.f) (FileWords problem.s) word
solved old s u problem third frame others found answer built mode fits outside rule composed complete answer_rule turn word =
    let x_scope = ap (λ (f : Frame). f.x.scope) fits.is in
    let placed = fits.s mode in
    let spots = letter-spots old problem.s frame.s built.s_sound placed in
    let variables = letter-variables old problem.s frame.s built.s_sound placed ∙ sym (s-scope problem built) in
    let test : (bits : Bits) → (spell_values frame.s.letters bits ≡ true) ↔ IsLetter problem.topology.s (spelled frame.s.letters bits) =
    λ bits. subst (λ scope. (spell_values frame.s.letters bits ≡ true) ↔ IsLetter scope (spelled frame.s.letters bits)) variables (values-test frame.s.letters spots bits) in
    words-of-values u frame.x answer problem.topology.x x_scope answer_rule (IsSafe problem.topology (FileWords problem.f) (FileWords problem.s)) (λ word safe. safe.0)
    (safe-words problem.topology frame mode (spells-parts old problem third frame built mode fits) x_scope (FileWords problem.f) (FileWords problem.s) test
    (λ word has. subst (λ scope. IsWord scope word) (sym (f-scope problem built)) (word-of-file problem.f built.f_sound word has))
    (λ ws. has_word s others ws) (λ xs. has_word u found xs) (λ xs. has_word u answer xs)
    (word-letters s (spell_values frame.s.letters) others rule) outside.out outside.rest composed
    (λ xs letters. turn u (letters_of frame.x) complete xs letters)) word
