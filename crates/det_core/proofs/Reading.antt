-- Words over the variables of a layout.
use Rattle.std.proofs.Common.{◌≡◌, ◌==◌, ◌+◌, ◌-◌, ◌<◌, ◌≤◌, ◌↔◌, ℕ, zero, suc, Bool, false, List, [], ◌∷◌, length, map, drop, get_or, Option, Some, refl, sym, ap, ◌∙◌, arith}
use Rattle.std.proofs.Math.Seq.{drop-cons}
use Rattle.std.proofs.lemmas.List.{get_or-map, length-map, drop_all}
use Rattle.node_table.specs.Table.{Bits, Table, value_at, top_of, IsValid, IsEnd}
use Rattle.node_table.proofs.Nodes.{value-zero, value-one}
use Rattle.bdd_ops.specs.Meaning.{DependsOn}
use Rattle.bdd_ops.proofs.Renamed.{top-in}
use Rattle.name_table.specs.CodeBits.{bits_in}
use Rattle.net_model.specs.Words.{Scope, Word, IsLetter, IsWord}
use Rattle.net_model.specs.declared.letter.Letter.{Letter}
use Rattle.mv_encoding.specs.Layouts.{Layout, levels_of, numbers_of}
use Rattle.mv_encoding.specs.Sets.{HasCode}
use Rattle.mv_encoding.proofs.Ranges.{range-in}
use Rattle.mv_encoding.proofs.Letters.{some-code}
use Rattle.det_core.specs.declared.det.Move.{Move}
use Rattle.det_core.specs.Automata.{BitWord, State, state_at, target_of, accepts_from, has_word, IsDet}
use Rattle.det_core.specs.Languages.{word_of}
use Rattle.det_core.proofs.Moves.{target-low}
use Rattle.det_core.proofs.Words.{targets-at}

module _ (t : Table) (layout : Layout) (r : ℕ) (valid : IsValid t r) (reads : DependsOn t (levels_of layout) r) where
  -- a node of a set of letters asks a bit of the code
  pub asks-code : 2 ≤ r → (layout.first ≤ top_of t r) × (top_of t r < layout.first + bits_in layout.scope)
  asks-code node = range-in (bits_in layout.scope) layout.first (top_of t r) (top-in t (levels_of layout) r valid reads node)

  -- and the set has the letter where the end that the bit picks has it
  pub end-has : (code : ℕ → Bool) (level end : ℕ) (bits : Bits) → 2 ≤ r → top_of t r ≡ level → HasCode layout code bits → IsEnd t r (code (level - layout.first)) end → value_at t end bits ≡ value_at t r bits
  end-has code level end bits node top has is =
      let laid = asks-code node in
      let back : layout.first + (level - layout.first) ≡ top_of t r = omega (arith, top, laid.0) in
      let here : bits (top_of t r) ≡ code (level - layout.first) = ap bits (sym back) ∙ has (level - layout.first) (omega (arith, top, laid.0, laid.1)) in
      sym (is.value bits here)

-- the bits of a code
abbrev pub bits_with : Layout → (ℕ → Bool) → Bits
bits_with layout code level = code (level - layout.first)

pub bits-have : (layout : Layout) (code : ℕ → Bool) → HasCode layout code (bits_with layout code)
bits-have layout code k within = let back : layout.first + k - layout.first ≡ k = omega arith in ap code back

-- each word has bits
pub bits-of-word : (layout : Layout) (word : Word) → IsWord layout.scope word → (bits : BitWord) × (map (numbers_of layout) bits ≡ word)
bits-of-word layout [] is = ([], refl)
bits-of-word layout (letter ∷ word) is =
    let (first, spells) = some-code layout.scope layout.first letter is.0 in
    let (rest, spell) = bits-of-word layout word is.1 in
    (first ∷ rest, (λ i. spells i ∷ spell i))

pub letter-at : (scope : Scope) (letters : List Letter) (i : ℕ) (d : Letter) → IsWord scope (word_of letters) → i < length letters → IsLetter scope (get_or letters i d).values.items
letter-at scope [] i d is within = absurd (omega (arith, within))
letter-at scope (letter ∷ letters) zero d is within = is.0
letter-at scope (letter ∷ letters) (suc i) d is within = letter-at scope letters i d is.1 (omega (arith, within))

module _ (layout : Layout) (letters : List Letter) (us : BitWord) (spell : map (numbers_of layout) us ≡ word_of letters) where
  long : length us ≡ length letters
  long = sym (length-map us (numbers_of layout)) ∙ ap length spell ∙ length-map {B = List ℕ} letters (λ (letter : Letter). letter.values.items)

  -- the bits at a place spell the letter there
  pub spells-at : (i : ℕ) (letter : Letter) (none : Bits) → i < length letters → letter ≡ get_or letters i letter → numbers_of layout (get_or us i none) ≡ letter.values.items
  spells-at i letter none within at =
      sym (get_or-map (numbers_of layout) us i none [] (omega (arith, long, within)))
      ∙ ap (λ word. get_or word i []) spell
      ∙ get_or-map (λ (letter : Letter). letter.values.items) letters i letter [] within
      ∙ ap (λ (l : Letter). l.values.items) (sym at)

  pub next-opens : (i : ℕ) (none : Bits) → i < length letters → drop i us ≡ get_or us i none ∷ drop (i + 1) us
  next-opens i none within = drop-cons us i none (omega (arith, long, within)) ∙ ap (λ n. get_or us i none ∷ drop n us) (let e : suc i ≡ i + 1 = omega arith in e)

  pub end-opens : (i : ℕ) → length letters ≤ i → drop i us ≡ []
  end-opens i past = drop_all i us (omega (arith, long, past))

pub constant-has : (t : Table) (r : ℕ) (bits : Bits) → r < 2 → (r == 1) ≡ value_at t r bits
constant-has t zero bits small = sym (value-zero t.nodes bits)
constant-has t (suc zero) bits small = sym (value-one t.nodes bits)
constant-has t (suc (suc r)) bits small = absurd (omega (arith, small))

module _ (t : Table) (det : List State) (layout : Layout) (letters : List Letter) (code : ℕ → Bool) (moves : List Move) (state i : ℕ) (letter : Letter) (answer : Option ℕ)
    (lies : moves ≡ (state_at det state).moves) (at : letter ≡ get_or letters i letter) (within : i < length letters)
    (laid : (bits : Bits) → HasCode layout code bits ↔ (numbers_of layout bits ≡ letter.values.items))
    (leads : (bits : Bits) → HasCode layout code bits → answer ≡ target_of t moves bits) where
  answers : (bits : Bits) → HasCode layout code bits → target_of t (state_at det state).moves bits ≡ answer
  answers bits has = sym (leads bits has ∙ ap (λ list. target_of t list bits) lies)

  -- one letter more
  pub step-leads : ((us : BitWord) → map (numbers_of layout) us ≡ word_of letters → has_word t det us ≡ accepts_from t det (Some state) (drop i us))
      → (us : BitWord) → map (numbers_of layout) us ≡ word_of letters → has_word t det us ≡ accepts_from t det answer (drop (i + 1) us)
  step-leads before us spell =
      let bits = get_or us i (λ level. false) in
      before us spell
      ∙ ap (λ rest. accepts_from t det (Some state) rest) (next-opens layout letters us spell i (λ level. false) within)
      ∙ ap (λ o. accepts_from t det o (drop (i + 1) us)) (answers bits ((laid bits).1 (spells-at layout letters us spell i letter (λ level. false) within at)))

  pub next-low : IsDet det → state < length det → (next : ℕ) → answer ≡ Some next → next < length det
  next-low is less next to =
      target-low t (length det) next (bits_with layout code) (state_at det state).moves (targets-at det state is less) (answers (bits_with layout code) (bits-have layout code) ∙ to)
