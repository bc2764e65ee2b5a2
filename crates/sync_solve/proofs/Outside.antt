-- What is left when all is taken away that leads outside S is safe.
use Rattle.std.proofs.Common.{◌≡◌, ◌↔◌, ℕ, Bool, true, false, not, IsTrue, List, [], ◌∷◌, length, map, get_or, inl, inr, refl, sym, ap, ◌∙◌, subst, arith}
use Rattle.std.proofs.lemmas.Bool.{true≢false, cases_lt}
use Rattle.std.proofs.lemmas.List.{get_or_past}
use Rattle.node_table.specs.Table.{Bits, Table, value_at}
use Rattle.bdd_ops.specs.Levels.{SameAt}
use Rattle.mv_encoding.specs.Layouts.{Layout, numbers_of, levels_of}
use Rattle.mv_encoding.specs.Spots.{spelled, spell_values}
use Rattle.mv_encoding.proofs.Letters.{letter-test}
use Rattle.net_model.specs.Words.{Scope, Letter, Word, Language, IsLetter, IsWord}
use Rattle.net_model.specs.Parts.{letter_part, sync_part, part_by}
use Rattle.net_model.specs.Equation.{Topology, part, IsSafe}
use Rattle.net_model.specs.Automata.{RunsFrom}
use Rattle.net_model.specs.declared.class.Mode.TheVariants.{Sync}
use Rattle.net_frame.specs.Frames.{Frame}
use Rattle.frame_words.specs.Letters.{SpellsParts}
use Rattle.det_core.specs.declared.det.Move.{Move}
use Rattle.det_core.specs.Automata.{BitWord, State, AreLetters, state_at, has_word, MeetsRule}
use Rattle.det_core.specs.Languages.{MovesBy, letters_of, HasLetters}
use Rattle.det_core.proofs.Runs.{words-by-runs}
use Rattle.det_core.proofs.Reading.{bits-of-word}
use Rattle.sync_solve.specs.Products.{SameLetters}
use Rattle.sync_solve.proofs.Products.{decided}
use Rattle.sync_solve.proofs.Reading.{layout-same}

-- the letters of a word that an automaton has are letters
module _ (t : Table) (letters : Bits → Bool) (det : List State) (rule : MeetsRule t letters det) where
  run-letters : (word : BitWord) (k : ℕ) → RunsFrom (MovesBy t det) (λ k. IsTrue (state_at det k).accepting) k word → AreLetters letters word
  run-letters [] k run = tt
  run-letters (bits ∷ word) k (j, (i, d, within, here, (has, is)), run) = (letter, run-letters word j run)
    where
      letter : letters bits ≡ true
      letter = elim (cases_lt k (length det)) [
        | inl less ↦ (rule k (record { accepting = false; moves = [] }) less).within i d within bits (ap (λ (m : Move). value_at t m.guard bits) here ∙ has)
        | inr more ↦ absurd (let none : length (state_at det k).moves ≡ 0 = ap (λ (s : State). length s.moves) (get_or_past det k (record { accepting = false; moves = [] }) more) in omega (arith, none, within))
      ]

  pub word-letters : (word : BitWord) → has_word t det word ≡ true → AreLetters letters word
  word-letters word has = let (k, first, run) = (words-by-runs t letters det rule word).0 has in run-letters word k run

-- words over a layout
module _ (layout : Layout) where
  same-numbers : (ws xs : BitWord) → SameLetters (levels_of layout) ws xs → map (numbers_of layout) ws ≡ map (numbers_of layout) xs
  same-numbers [] [] same = refl
  same-numbers [] (x ∷ xs) same = absurd same
  same-numbers (w ∷ ws) [] same = absurd same
  same-numbers (w ∷ ws) (x ∷ xs) same = λ i. layout-same layout w x same.0 i ∷ same-numbers ws xs same.1 i

  abbrev rest-of : Word → Word
  rest-of [] = []
  rest-of (letter ∷ word) = word

  same-letters : ((u v : Bits) → numbers_of layout u ≡ numbers_of layout v → SameAt (levels_of layout) u v) → (ws xs : BitWord) → map (numbers_of layout) ws ≡ map (numbers_of layout) xs → SameLetters (levels_of layout) ws xs
  same-letters code [] [] same = tt
  same-letters code [] (x ∷ xs) same = let long = ap length same in absurd (omega (arith, long))
  same-letters code (w ∷ ws) [] same = let long = ap length same in absurd (omega (arith, long))
  same-letters code (w ∷ ws) (x ∷ xs) same = (code w x (ap (λ word. get_or word 0 []) same), same-letters code ws xs (ap rest-of same))

  over-letters : (scope : Scope) → layout.scope ≡ scope → (xs : BitWord) → AreLetters (letters_of layout) xs → IsWord scope (map (numbers_of layout) xs)
  over-letters scope is [] letters = tt
  over-letters scope is (x ∷ xs) letters = (subst (λ s. IsLetter s (numbers_of layout x)) is ((letter-test layout.scope (numbers_of layout x)).0 letters.0), over-letters scope is xs letters.1)

  letters-over : (xs : BitWord) → IsWord layout.scope (map (numbers_of layout) xs) → AreLetters (letters_of layout) xs
  letters-over [] over = tt
  letters-over (x ∷ xs) over = ((letter-test layout.scope (numbers_of layout x)).1 over.0, letters-over xs over.1)

module _ (topology : Topology) (frame : Frame) (mode : topology.mode ≡ Sync) (spells : SpellsParts topology frame) (x_scope : frame.x.scope ≡ topology.x) (F S : Language)
    (test : (bits : Bits) → (spell_values frame.s.letters bits ≡ true) ↔ IsLetter topology.s (spelled frame.s.letters bits))
    (f_over : (word : Word) → F word → IsWord topology.f word)
    (others got answer : BitWord → Bool)
    (others_letters : (ws : BitWord) → others ws ≡ true → AreLetters (spell_values frame.s.letters) ws)
    (out : (ws : BitWord) → AreLetters (spell_values frame.s.letters) ws → others ws ≡ true → S (map (spelled frame.s.letters) ws) → ⊥)
    (rest : (ws : BitWord) → AreLetters (spell_values frame.s.letters) ws → others ws ≡ false → S (map (spelled frame.s.letters) ws))
    (composed : (xs : BitWord) → AreLetters (letters_of frame.x) xs → (got xs ≡ true) ↔ ((ws : BitWord) × SameLetters (levels_of frame.x) ws xs × F (map (spelled frame.f.letters) ws) × (others ws ≡ true)))
    (turned : (xs : BitWord) → AreLetters (letters_of frame.x) xs → answer xs ≡ not (got xs)) where
  -- the parts of the joint word that bits spell
  parts-are : (spell : Bits → Letter) (scope : Scope) → ((bits : Bits) → spell bits ≡ letter_part topology.joint scope (spelled frame.joint bits)) → (ws : BitWord) → part topology scope (map (spelled frame.joint) ws) ≡ map spell ws
  parts-are spell scope one ws = ap (λ m. part_by m topology.joint scope (map (spelled frame.joint) ws)) mode ∙ each ws
    where
      each : (ws : BitWord) → sync_part topology.joint scope (map (spelled frame.joint) ws) ≡ map spell ws
      each [] = refl
      each (w ∷ ws) = λ i. sym (one w) i ∷ each ws i

  f-part : (ws : BitWord) → part topology topology.f (map (spelled frame.joint) ws) ≡ map (spelled frame.f.letters) ws
  f-part = parts-are (spelled frame.f.letters) topology.f spells.f_part

  s-part : (ws : BitWord) → part topology topology.s (map (spelled frame.joint) ws) ≡ map (spelled frame.s.letters) ws
  s-part = parts-are (spelled frame.s.letters) topology.s spells.s_part

  x-part : (ws : BitWord) → part topology topology.x (map (spelled frame.joint) ws) ≡ map (numbers_of frame.x) ws
  x-part = parts-are (numbers_of frame.x) topology.x spells.x_part

  -- each joint word has bits
  joint-bits : (w : Word) → IsWord topology.joint w → (ws : BitWord) × (map (spelled frame.joint) ws ≡ w)
  joint-bits [] over = ([], refl)
  joint-bits (letter ∷ w) over =
      let (first, is) = spells.codes letter over.0 in
      let (ws, are) = joint-bits w over.1 in
      (first ∷ ws, (λ i. is i ∷ are i))

  s-letters : (ws : BitWord) → IsWord topology.joint (map (spelled frame.joint) ws) → AreLetters (spell_values frame.s.letters) ws
  s-letters [] over = tt
  s-letters (w ∷ ws) over = ((test w).1 (spells.is_s w over.0), s-letters ws over.1)

  joint-over : (ws : BitWord) → IsWord topology.f (map (spelled frame.f.letters) ws) → AreLetters (spell_values frame.s.letters) ws → IsWord topology.joint (map (spelled frame.joint) ws)
  joint-over [] over letters = tt
  joint-over (w ∷ ws) over letters = (spells.is_joint w over.0 ((test w).0 letters.0), joint-over ws over.1 letters.1)

  -- a joint word of F whose part X's word is has its part in S, unless it was found
  has-part : (xs : BitWord) → AreLetters (letters_of frame.x) xs → got xs ≡ false → (w : Word) → IsWord topology.joint w → part topology topology.x w ≡ map (numbers_of frame.x) xs → F (part topology topology.f w) → S (part topology topology.s w)
  has-part xs letters none w over x_is f_has =
      let (ws, spelled_w) = joint-bits w over in
      let over_ws : IsWord topology.joint (map (spelled frame.joint) ws) = subst (IsWord topology.joint) (sym spelled_w) over in
      let same = same-letters frame.x spells.x_code ws xs (sym (x-part ws) ∙ ap (part topology topology.x) spelled_w ∙ x_is) in
      let f_ws : F (map (spelled frame.f.letters) ws) = subst F (ap (part topology topology.f) (sym spelled_w) ∙ f-part ws) f_has in
      let s_ws : S (map (spelled frame.s.letters) ws) = elim (decided (others ws)) [
        | inl is ↦ absurd (true≢false (sym ((composed xs letters).1 (ws, same, f_ws, is)) ∙ none))
        | inr out ↦ rest ws (s-letters ws over_ws) out
      ] in
      subst S (sym (s-part ws) ∙ ap (part topology topology.s) spelled_w) s_ws

  found-unsafe : (xs : BitWord) → AreLetters (letters_of frame.x) xs → got xs ≡ true → IsSafe topology F S (map (numbers_of frame.x) xs) → ⊥
  found-unsafe xs letters is safe =
      let (ws, same, f_ws, has) = (composed xs letters).0 is in
      let s_letters = others_letters ws has in
      let over = joint-over ws (f_over (map (spelled frame.f.letters) ws) f_ws) s_letters in
      let x_is = x-part ws ∙ same-numbers frame.x ws xs same in
      let s_has = safe.1 (map (spelled frame.joint) ws) over x_is (subst F (sym (f-part ws)) f_ws) in
      out ws s_letters has (subst S (s-part ws) s_has)

  pub safe-words : (xs : BitWord) → AreLetters (letters_of frame.x) xs → (answer xs ≡ true) ↔ IsSafe topology F S (map (numbers_of frame.x) xs)
  safe-words xs letters = elim (decided (got xs)) [
    | inl is ↦ (
      λ yes. absurd (true≢false (sym yes ∙ turned xs letters ∙ ap not is)),
      λ safe. absurd (found-unsafe xs letters is safe),
    )
    | inr none ↦ (
      λ yes. (over-letters frame.x topology.x x_scope xs letters, has-part xs letters none),
      λ safe. turned xs letters ∙ ap not none,
    )
  ]

-- So the words of values are the safe ones.
pub words-of-values : (t : Table) (layout : Layout) (det : List State) (scope : Scope) → layout.scope ≡ scope → MeetsRule t (letters_of layout) det → (Safe : Language) → ((word : Word) → Safe word → IsWord scope word)
    → ((xs : BitWord) → AreLetters (letters_of layout) xs → (has_word t det xs ≡ true) ↔ Safe (map (numbers_of layout) xs)) → (word : Word) → HasLetters t layout det word ↔ Safe word
words-of-values t layout det scope is rule Safe over same word = (
  λ (bits, spells, has). subst Safe spells ((same bits (word-letters t (letters_of layout) det rule bits has)).0 has),
  λ safe.
      let over_word : IsWord layout.scope word = subst (λ s. IsWord s word) (sym is) (over word safe) in
      let (bits, spells) = bits-of-word layout word over_word in
      let letters = letters-over layout bits (subst (IsWord layout.scope) (sym spells) over_word) in
      (bits, spells, (same bits letters).1 (subst Safe (sym spells) safe)),
)
