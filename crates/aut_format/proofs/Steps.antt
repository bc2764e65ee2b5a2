-- The steps, the words and the rows of a deterministic automaton as a listing.
use Rattle.std.proofs.Common.{◌≡◌, ◌==◌, ◌&&◌, ◌↔◌, ◌+◌, ◌^◌, ◌<◌, ◌≤◌, ◌⊎◌, ℕ, zero, suc, true, false, IsTrue, List, [], ◌∷◌, length, map, get_or, All, refl, sym, ap, ◌∙◌, subst, inl, inr, arith, zero-add}
use Rattle.std.specs.List.{AllByRecursion, AllPairs, Any, list_any}
use Rattle.std.specs.List.Sorted.{IsStrictlyIncreasing}
use Rattle.std.proofs.lemmas.Bool.{cases_lt, eqb-true, eq-eqb, and_parts, and_from, false≢true}
use Rattle.std.proofs.lemmas.List.{length-map, get_or_past, get_or_default}
use Rattle.printed_nets.proofs.Members.{IsOneOf, one_from_contains, contains_from_one, one_of_either, one_before, one_behind, holds_of_one, any_from_one, one_from_any, one_mapped, one_of_mapped, one_of_joined, joined_of_one}
use Rattle.name_table.specs.CodeBits.{bits_of, bits_in}
use Rattle.net_model.specs.Words.{Variable, Scope, Letter, Word, IsLetter}
use Rattle.net_model.specs.Automata.{RunsFrom}
use Rattle.net_model.specs.Listings.{Row, allows, steps, accepts, ListingWords}
use Rattle.net_model.specs.Printed.{AreEntries, IsPrintedRow, IsPrintable}
use Rattle.node_table.specs.Table.{Bits, Table, value_at, IsValid}
use Rattle.bdd_ops.specs.Levels.{is_in}
use Rattle.bdd_ops.specs.Meaning.{DependsOn}
use Rattle.bdd_walk.specs.Paths.{Literal, Path, Follows, levels_on, paths_of, ArePathsOf}
use Rattle.bdd_walk.proofs.Ways.{are-paths-of}
use Rattle.mv_encoding.specs.Layouts.{Layout, numbers_of, levels_of}
use Rattle.mv_encoding.proofs.Letters.{some-code, one-code, letter-test}
use Rattle.mv_encoding.proofs.Ranges.{range-in}
use Rattle.det_core.specs.declared.det.Move.{Move}
use Rattle.det_core.specs.Automata.{State, BitWord, state_at, IsDet, MeetsRule, ReadsAlone}
use Rattle.det_core.specs.Languages.{MovesBy, letters_of, HasLetters}
use Rattle.det_core.proofs.Runs.{words-by-runs}
use Rattle.aut_format.specs.Rows.{numbers_along, entry_along, entries_along, row_along, rows_of_move, rows_of_moves, rows_from, listing_of_det, HasStep, HaveTextNames}
use Rattle.aut_format.proofs.Along.{letter-along, numbers-rise, values-rise, out-above}
use Rattle.aut_format.proofs.Literals.{LevelsIn, own_bits, followed-along, along-followed, follows-own, paths-within}

-- what holds of all elements holds of a member
all-of-one : {X : Type 0} (P : X → Type 0) (xs : List X) (x : X) → All P xs → IsOneOf xs x → P x
all-of-one P xs x all one = let (k, inside, is) = contains_from_one xs x one in subst P is (all k x inside)

-- what holds of each member holds of all elements
all-from-ones : {X : Type 0} (P : X → Type 0) (xs : List X) → ((x : X) → IsOneOf xs x → P x) → AllByRecursion P xs
all-from-ones P [] each = tt
all-from-ones P (x ∷ xs) each = (each x (inl refl), all-from-ones P xs (λ y one. each y (inr one)))

-- a value that an entry allows is one of the variable's
value-known : (path : Path) (level a : ℕ) (v : Variable) → list_any (λ k. k == a) (entry_along path level v) ≡ true → a < length v.values
value-known path level a v is = elim (cases_lt a (length v.values)) [
  | inl less ↦ less
  | inr more ↦
      let rise = values-rise 0 (0 + 2 ^ bits_of v) (length v.values) (numbers_along path level (bits_of v) 0) (numbers-rise path level (bits_of v) 0) in
      absurd (false≢true (sym (out-above 0 (length v.values) a (entry_along path level v) more rise) ∙ is))
]

letter-known : (path : Path) (level : ℕ) (scope : Scope) (a : Letter) → allows (entries_along path level scope) a ≡ true → IsLetter scope a
letter-known path level [] [] is = tt
letter-known path level [] (a ∷ letter) is = absurd (false≢true is)
letter-known path level (v ∷ scope) [] is = absurd (false≢true is)
letter-known path level (v ∷ scope) (a ∷ letter) is =
    let parts = and_parts (list_any (λ k. k == a) (entry_along path level v)) (allows (entries_along path (level + bits_of v) scope) letter) is in
    (value-known path level a v parts.0, letter-known path (level + bits_of v) scope letter parts.1)

some-value : (a : ℕ) (ks : List ℕ) → list_any (λ k. k == a) ks ≡ true → 0 < length ks
some-value a [] is = absurd (false≢true is)
some-value a (k ∷ ks) is = omega arith

-- entries that allow some letter are printed
entries-printed : (path : Path) (level : ℕ) (scope : Scope) (a : Letter) → allows (entries_along path level scope) a ≡ true → AreEntries scope (entries_along path level scope)
entries-printed path level [] [] is = tt
entries-printed path level [] (a ∷ letter) is = absurd (false≢true is)
entries-printed path level (v ∷ scope) [] is = absurd (false≢true is)
entries-printed path level (v ∷ scope) (a ∷ letter) is =
    let parts = and_parts (list_any (λ k. k == a) (entry_along path level v)) (allows (entries_along path (level + bits_of v) scope) letter) is in (
      (some-value a (entry_along path level v) parts.0, values-rise 0 (0 + 2 ^ bits_of v) (length v.values) (numbers_along path level (bits_of v) 0) (numbers-rise path level (bits_of v) 0)),
      entries-printed path (level + bits_of v) scope letter parts.1,
    )

-- a guard is a set of letters
pub record IsGuard (t : Table) (layout : Layout) (r : ℕ) : Type 0 where
  pub valid : IsValid t r
  pub within : (bits : Bits) → value_at t r bits ≡ true → letters_of layout bits ≡ true
  pub reads : DependsOn t (levels_of layout) r

module _ (t : Table) (layout : Layout) (r : ℕ) (guard : IsGuard t layout r) where
  are-paths : ArePathsOf t r (paths_of t.nodes r)
  are-paths = are-paths-of t r guard.valid

  letter-of : (bits : Bits) → value_at t r bits ≡ true → IsLetter layout.scope (numbers_of layout bits)
  letter-of bits has = (letter-test layout.scope (numbers_of layout bits)).0 (guard.within bits has)

  levels-known : (path : Path) → AllByRecursion (λ (l : Literal). is_in (levels_of layout) l.0 ≡ true) path → LevelsIn layout.first (bits_in layout.scope) path
  levels-known [] all = tt
  levels-known (l ∷ path) all = (range-in (bits_in layout.scope) layout.first l.0 all.0, levels-known path all.1)

  asks-within : (path : Path) → IsOneOf (paths_of t.nodes r) path → LevelsIn layout.first (bits_in layout.scope) path
  asks-within path one =
      levels-known path (holds_of_one (λ path. AllByRecursion (λ (l : Literal). is_in (levels_of layout) l.0 ≡ true) path) (paths_of t.nodes r) path (paths-within t (levels_of layout) r r (omega arith) guard.valid guard.reads) one)

  -- the row of a path allows letters of the guard alone
  pub row-inside : (path : Path) → IsOneOf (paths_of t.nodes r) path → (bits : Bits) → allows (entries_along path layout.first layout.scope) (numbers_of layout bits) ≡ true → value_at t r bits ≡ true
  row-inside path one bits allowed =
      let letter = letter-known path layout.first layout.scope (numbers_of layout bits) allowed in
      let follows = along-followed path layout.first (bits_in layout.scope) bits (asks-within path one) (sym (letter-along path layout.first layout.scope bits letter) ∙ allowed) in
      all-of-one (λ path. (bits : Bits) → Follows path bits → value_at t r bits ≡ true) (paths_of t.nodes r) path are-paths.inside one bits follows

  row-follows : (path : Path) (bits : Bits) → value_at t r bits ≡ true → Follows path bits → allows (entries_along path layout.first layout.scope) (numbers_of layout bits) ≡ true
  row-follows path bits has follows =
      letter-along path layout.first layout.scope bits (letter-of bits has) ∙ followed-along path layout.first (bits_in layout.scope) bits follows

  -- and some row allows each of them
  pub row-covers : (bits : Bits) → value_at t r bits ≡ true → (path : Path) × IsOneOf (paths_of t.nodes r) path × (allows (entries_along path layout.first layout.scope) (numbers_of layout bits) ≡ true)
  row-covers bits has =
      let (k, path, inside, is, follows) = are-paths.covering bits has in
      (path, one_from_contains (paths_of t.nodes r) path (k, inside, is), row-follows path bits has follows)

  -- each row has an entry for each variable
  pub row-printed : (path : Path) → IsOneOf (paths_of t.nodes r) path → AreEntries layout.scope (entries_along path layout.first layout.scope)
  row-printed path one =
      let rises = all-of-one (λ path. IsStrictlyIncreasing (levels_on path)) (paths_of t.nodes r) path are-paths.rising one in
      let follows = follows-own path rises in
      let has = all-of-one (λ path. (bits : Bits) → Follows path bits → value_at t r bits ≡ true) (paths_of t.nodes r) path are-paths.inside one (own_bits path) follows in
      entries-printed path layout.first layout.scope (numbers_of layout (own_bits path)) (row-follows path (own_bits path) has follows)

module _ (t : Table) (layout : Layout) where
  -- a row of a listing, with its state, its move and its path
  pub record IsRowOf (k : ℕ) (states : List State) (row : Row) : Type 0 where
    pub place : ℕ
    pub move : Move
    pub path : Path
    pub within : place < length states
    pub moved : IsOneOf (state_at states place).moves move
    pub found : IsOneOf (paths_of t.nodes move.guard) path
    pub is : row_along layout (k + place) move.target path ≡ row

  row-known : (k : ℕ) (states : List State) (row : Row) → IsOneOf (rows_from t layout k states) row → IsRowOf k states row
  row-known k [] row one = absurd one
  row-known k (s ∷ states) row one =
      elim (one_of_either (rows_of_moves t layout k s.moves) (rows_from t layout (k + 1) states) row one) [
        | inl here ↦
            let (m, moved, inner) = joined_of_one (rows_of_move t layout k) s.moves row here in
            let (path, found, is) = one_of_mapped (row_along layout k m.target) (paths_of t.nodes m.guard) row inner in
            let same : k + 0 ≡ k = omega arith in
            record { place = 0; move = m; path = path; within = omega arith; moved = moved; found = found; is = ap (λ n. row_along layout n m.target path) same ∙ is }
        | inr there ↦
            let rest = row-known (k + 1) states row there in
            let same : k + suc rest.place ≡ k + 1 + rest.place = omega arith in
            record { place = suc rest.place; move = rest.move; path = rest.path; within = omega (arith, rest.within); moved = rest.moved; found = rest.found; is = ap (λ n. row_along layout n rest.move.target rest.path) same ∙ rest.is }
      ]

  row-there : (k : ℕ) (states : List State) (i : ℕ) (m : Move) (path : Path) → i < length states → IsOneOf (state_at states i).moves m → IsOneOf (paths_of t.nodes m.guard) path → IsOneOf (rows_from t layout k states) (row_along layout (k + i) m.target path)
  row-there k [] i m path within moved found = absurd (omega (arith, within))
  row-there k (s ∷ states) zero m path within moved found =
      let same : k ≡ k + 0 = omega arith in
      let P : ℕ → Type 0 = λ n. IsOneOf (rows_from t layout k (s ∷ states)) (row_along layout n m.target path) in
      subst P same
      (one_before (rows_of_moves t layout k s.moves) (rows_from t layout (k + 1) states) (row_along layout k m.target path)
      (one_of_joined (rows_of_move t layout k) s.moves m (row_along layout k m.target path) moved
      (one_mapped (row_along layout k m.target) (paths_of t.nodes m.guard) path found)))
  row-there k (s ∷ states) (suc i) m path within moved found =
      let same : k + 1 + i ≡ k + suc i = omega arith in
      let P : ℕ → Type 0 = λ n. IsOneOf (rows_from t layout k (s ∷ states)) (row_along layout n m.target path) in
      subst P same
      (one_behind (rows_of_moves t layout k s.moves) (rows_from t layout (k + 1) states) (row_along layout (k + 1 + i) m.target path)
      (row-there (k + 1) states i m path (omega (arith, within)) moved found))

same-marks : (det : List State) (q : ℕ) → get_or (map (λ (s : State). s.accepting) det) q false ≡ (state_at det q).accepting
same-marks [] q =
    get_or_past [] q false (omega arith) ∙ ap (λ (s : State). s.accepting) (sym (get_or_past [] q (record { accepting = false; moves = [] }) (omega arith)))
same-marks (s ∷ det) zero = refl
same-marks (s ∷ det) (suc q) = same-marks det q

-- where guards are disjoint, bits lead to one state at most
one-move : (t : Table) (u : Bits) (moves : List Move) (i j : ℕ) → AllPairs (λ (m n : Move). value_at t m.guard u ≡ true → value_at t n.guard u ≡ true → ⊥) moves
    → Any (λ (m : Move). (value_at t m.guard u ≡ true) × (m.target ≡ i)) moves → Any (λ (m : Move). (value_at t m.guard u ≡ true) × (m.target ≡ j)) moves → i ≡ j
one-move t u moves i j apart (p, m, within, at, (has, to)) (q, n, inside, there, (holds, goes)) = by (cases_lt p q) (cases_lt q p)
  where
    has-at : (k : ℕ) (x d : Move) → k < length moves → get_or moves k x ≡ x → value_at t x.guard u ≡ true → value_at t (get_or moves k d).guard u ≡ true
    has-at k x d below is holds = ap (λ (y : Move). value_at t y.guard u) (get_or_default moves k d x below ∙ is) ∙ holds

    by : (p < q) ⊎ (q ≤ p) → (q < p) ⊎ (p ≤ q) → i ≡ j
    by (inl less) other = absurd (apart p q m less inside (has-at p m m within at has) (has-at q n m inside there holds))
    by (inr more) (inl less) = absurd (apart q p m less within (has-at q n m inside there holds) (has-at p m m within at has))
    by (inr more) (inr less) =
        let same : p ≡ q = omega (arith, more, less) in
        let both : m ≡ n = sym at ∙ ap (λ k. get_or moves k m) same ∙ get_or_default moves q m n inside ∙ there in
        sym to ∙ ap (λ (y : Move). y.target) both ∙ goes

module _ (t : Table) (layout : Layout) (det : List State) (rule : MeetsRule t (letters_of layout) det) (reads : ReadsAlone t (levels_of layout) det) where
  abbrev none : State
  none = record { accepting = false; moves = [] }

  guard-known : (k : ℕ) (m : Move) → k < length det → IsOneOf (state_at det k).moves m → IsGuard t layout m.guard
  guard-known k m within one = record {
    valid = all-of-one (λ (m : Move). IsValid t m.guard) (state_at det k).moves m (rule k none within).valid one;
    within = all-of-one (λ (m : Move). (bits : Bits) → value_at t m.guard bits ≡ true → letters_of layout bits ≡ true) (state_at det k).moves m (rule k none within).within one;
    reads = all-of-one (λ (m : Move). DependsOn t (levels_of layout) m.guard) (state_at det k).moves m (reads k none within) one;
  }

  -- a state that moves is one of the automaton's
  state-known : (k : ℕ) (m : Move) → IsOneOf (state_at det k).moves m → k < length det
  state-known k m one = elim (cases_lt k (length det)) [
    | inl less ↦ less
    | inr more ↦ absurd (subst (λ (s : State). IsOneOf s.moves m) (get_or_past det k none more) one)
  ]

  -- a row that allows the letter comes of a move
  step-by-row : (k : ℕ) (a : Letter) (j i : ℕ) (m : Move) (path : Path) → i < length det → IsOneOf (state_at det i).moves m → IsOneOf (paths_of t.nodes m.guard) path → 0 + i ≡ k → m.target ≡ j → allows (entries_along path layout.first layout.scope) a ≡ true → HasStep t layout det k a j
  step-by-row k a j i m path within moved found here to allowed =
      let (bits, spells) = some-code layout.scope layout.first a (letter-known path layout.first layout.scope a allowed) in
      let P : Letter → Type 0 = λ letter. allows (entries_along path layout.first layout.scope) letter ≡ true in
      let has = row-inside t layout m.guard (guard-known i m within moved) path found bits (subst P (sym spells) allowed) in
      let (q, inside, at) = contains_from_one (state_at det i).moves m moved in
      let M : ℕ → Type 0 = λ n. MovesBy t det n bits j in
      (bits, spells, subst M (sym (zero-add i) ∙ here) (q, m, inside, at, (has, to)))

  step-of-row : (k : ℕ) (a : Letter) (j : ℕ) (row : Row) → IsRowOf t layout 0 det row → ((row.present == k) && ((row.next == j) && allows row.entries a)) ≡ true → HasStep t layout det k a j
  step-of-row k a j row r pass =
      let P : Row → Type 0 = λ row. ((row.present == k) && ((row.next == j) && allows row.entries a)) ≡ true in
      let parts = and_parts (0 + r.place == k) ((r.move.target == j) && allows (entries_along r.path layout.first layout.scope) a) (subst P (sym r.is) pass) in
      let more = and_parts (r.move.target == j) (allows (entries_along r.path layout.first layout.scope) a) parts.1 in
      step-by-row k a j r.place r.move r.path r.within r.moved r.found (eqb-true (0 + r.place) k parts.0) (eqb-true r.move.target j more.0) more.1

  pub step-known : (k : ℕ) (a : Letter) (j : ℕ) → steps (listing_of_det t layout det) k a j ≡ true → HasStep t layout det k a j
  step-known k a j is =
      let (row, one, pass) = one_from_any (λ row. (row.present == k) && ((row.next == j) && allows row.entries a)) (rows_from t layout 0 det) is in
      step-of-row k a j row (row-known t layout 0 det row one) pass

  pub step-there : (k : ℕ) (a : Letter) (j : ℕ) → HasStep t layout det k a j → steps (listing_of_det t layout det) k a j ≡ true
  step-there k a j (bits, spells, (q, m, inside, at, (has, to))) =
      let moved = one_from_contains (state_at det k).moves m (q, inside, at) in
      let within = state-known k m moved in
      let (path, found, allowed) = row-covers t layout m.guard (guard-known k m within moved) bits has in
      any_from_one (λ row. (row.present == k) && ((row.next == j) && allows row.entries a)) (rows_from t layout 0 det) (row_along layout (0 + k) m.target path)
      (row-there t layout 0 det k m path within moved found)
      (and_from (0 + k == k) ((m.target == j) && allows (entries_along path layout.first layout.scope) a) (eq-eqb (0 + k) k (zero-add k))
      (and_from (m.target == j) (allows (entries_along path layout.first layout.scope) a) (eq-eqb m.target j to) (sym (ap (allows (entries_along path layout.first layout.scope)) spells) ∙ allowed)))

  -- guards read the levels of the code alone
  moves-same : (k : ℕ) (u v : Bits) (j : ℕ) → numbers_of layout u ≡ numbers_of layout v → MovesBy t det k v j → MovesBy t det k u j
  moves-same k u v j same (q, m, inside, at, (has, to)) =
      let moved = one_from_contains (state_at det k).moves m (q, inside, at) in
      let guard = guard-known k m (state-known k m moved) moved in
      (q, m, inside, at, (guard.reads u v ((one-code layout.scope layout.first u v).0 same) ∙ has, to))

  -- a letter leads to one state at most
  pub one-target : (k : ℕ) (a : Letter) (i j : ℕ) → steps (listing_of_det t layout det) k a i ≡ true → steps (listing_of_det t layout det) k a j ≡ true → i ≡ j
  one-target k a i j first second =
      let (u, spells, to_i) = step-known k a i first in
      let (v, spell, to_v) = step-known k a j second in
      let to_j = moves-same k u v j (spells ∙ sym spell) to_v in
      let (q, m, inside, at, _) = to_i in
      let within = state-known k m (one_from_contains (state_at det k).moves m (q, inside, at)) in
      one-move t u (state_at det k).moves i j (λ x y d earlier below. (rule k none within).disjoint x y d earlier below u) to_i to_j

  abbrev ListingRun : ℕ → Word → Type 0
  ListingRun q word = RunsFrom (λ p a q. IsTrue (steps (listing_of_det t layout det) p a q)) (λ q. IsTrue (accepts (listing_of_det t layout det) q)) q word

  abbrev DetRun : ℕ → BitWord → Type 0
  DetRun q us = RunsFrom (MovesBy t det) (λ k. IsTrue (state_at det k).accepting) q us

  to-run : (word : Word) (q : ℕ) → ListingRun q word → (us : BitWord) × (map (numbers_of layout) us ≡ word) × DetRun q us
  to-run [] q run = ([], refl, sym (same-marks det q) ∙ run)
  to-run (a ∷ word) q (r, step, run) =
      let (u, spells, moves) = step-known q a r step in
      let (us, spell, rest) = to-run word r run in
      (u ∷ us, (λ i. spells i ∷ spell i), (r, moves, rest))

  from-run : (us : BitWord) (q : ℕ) → DetRun q us → ListingRun q (map (numbers_of layout) us)
  from-run [] q run = same-marks det q ∙ run
  from-run (u ∷ us) q (r, moves, run) = (r, step-there q (numbers_of layout u) r (u, refl, moves), from-run us r run)

  -- the words of the listing are those of the automaton
  pub listing-words : (word : Word) → ListingWords (listing_of_det t layout det) word ↔ HasLetters t layout det word
  listing-words word = (
    λ (q, initial, run).
        let first = start q (one_from_contains (0 ∷ []) q initial) in
        let (us, spell, rest) = to-run word 0 (subst (λ k. ListingRun k word) (sym first) run) in
        (us, spell, (words-by-runs t (letters_of layout) det rule us).1 (0, refl, rest)),
    λ (us, spell, has).
        let (k, first, run) = (words-by-runs t (letters_of layout) det rule us).0 has in
        subst (ListingWords (listing_of_det t layout det)) spell (0, (0, omega arith, refl), from-run us 0 (subst (λ n. DetRun n us) first run)),
  )
    where
      start : (q : ℕ) → IsOneOf (0 ∷ []) q → 0 ≡ q
      start q (inl is) = is
      start q (inr none) = absurd none

  row-fits : (row : Row) → IsDet det → IsRowOf t layout 0 det row → IsPrintedRow layout.scope (length (map (λ (s : State). s.accepting) det)) row
  row-fits row is r =
      let count : length (map (λ (s : State). s.accepting) det) ≡ length det = length-map det (λ (s : State). s.accepting) in
      let below = all-of-one (λ (m : Move). m.target < length det) (state_at det r.place).moves r.move (is.targets r.place none r.within) r.moved in
      let P : Row → Type 0 = IsPrintedRow layout.scope (length (map (λ (s : State). s.accepting) det)) in
      subst P r.is (record {
        entries = row-printed t layout r.move.guard (guard-known r.place r.move r.within r.moved) r.path r.found;
        present = omega (arith, count, r.within);
        next = omega (arith, count, below);
      })

  -- the listing can be printed
  pub listing-printed : HaveTextNames layout.scope → IsDet det → length det < 2 ^ 64 → IsPrintable (listing_of_det t layout det)
  listing-printed names is few =
      let count : length (map (λ (s : State). s.accepting) det) ≡ length det = length-map det (λ (s : State). s.accepting) in
      record {
        vars = names.vars;
        different = names.different;
        states = omega (arith, count, is.some);
        few = omega (arith, count, few);
        initial = refl;
        rows = all-from-ones (IsPrintedRow layout.scope (length (map (λ (s : State). s.accepting) det))) (rows_from t layout 0 det) (λ row one. row-fits row is (row-known t layout 0 det row one));
      }
