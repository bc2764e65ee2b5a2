-- What a sound network and its spots give to the calls that make its parts.
use Rattle.std.proofs.Common.{◌≡◌, ◌∙◌, ◌+◌, ◌<◌, ℕ, zero, suc, List, [], ◌∷◌, ◌++◌, length, map, get_or, refl, sym, ap, arith, subst}
use Rattle.std.specs.Prelude.{All}
use Rattle.std.proofs.lemmas.List.{length-map, get_or-map, get_or_default}
use Rattle.std.proofs.lemmas.List.Elements.{All-map}
use Rattle.name_table.specs.CodeBits.{bits_in, code_bits}
use Rattle.name_table.specs.ScopeVars.{variable_at, chosen_of}
use Rattle.net_model.specs.Words.{Variable, Scope}
use Rattle.net_model.specs.Nets.{Table, Latch, Net}
use Rattle.net_model.specs.Conditions.{latch_outputs, columns_of, IsAutomaton}
use Rattle.net_model.specs.NetLanguages.{letter_signals, letters_of, states_of}
use Rattle.net_model.specs.SoundNets.{IsSound, IsTableOf}
use Rattle.net_model.specs.Outlines.{IsWired}
use Rattle.net_model.proofs.Letters.{letters_known, wired_of}
use Rattle.node_table.specs.Table.{Table as Nodes}
use Rattle.mv_encoding.specs.Layouts.{Layout, IsLaid}
use Rattle.mv_encoding.specs.Spots.{IsSpot, AreSpots, AreLaid, variables_at, spot_at, spots_at}
use Rattle.table_parts.specs.TableParts.{IsTableOver}
use Rattle.net_frame.specs.Placing.{FileSpots, IsPlaced}
use Rattle.net_relation.specs.Relations.{ArePresentAt, AreLatchesAt}
use Rattle.net_relation.proofs.Spelled.{nowhere, head, tail, spots-of}

-- the scope of a spot by its place
pub scope-at : (spots : List Layout) (vars : Scope) → map (λ spot. spot.scope) spots ≡ map (λ v. v ∷ []) vars → (k : ℕ) → k < length spots → (spot_at spots k).scope ≡ variable_at vars k ∷ []
scope-at [] vars are k within = absurd (omega (arith, within))
scope-at (spot ∷ spots) [] are k within = let more = ap length are in absurd (omega (arith, more))
scope-at (spot ∷ spots) (v ∷ vars) are zero within = ap (λ l. get_or l 0 []) are
scope-at (spot ∷ spots) (v ∷ vars) are (suc k) within = scope-at spots vars (ap behind are) k (omega (arith, within))
  where
    behind : List Scope → List Scope
    behind [] = []
    behind (x ∷ xs) = xs

-- a spot that was looked up
pub spot-is : (signals spots : List Layout) → signals ≡ spots → (signal : ℕ) (spot : Layout) → signal < length spots → spot ≡ get_or signals signal spot → spot ≡ spot_at spots signal
spot-is signals spots same signal spot known is = is ∙ ap (λ l. get_or l signal spot) same ∙ get_or_default spots signal spot nowhere known

-- as many spots as variables
pub spots-long : (spots : List Layout) (vars : Scope) → map (λ spot. spot.scope) spots ≡ map (λ v. v ∷ []) vars → length spots ≡ length vars
spots-long spots vars are = sym (length-map spots (λ spot. spot.scope)) ∙ ap length are ∙ length-map vars (λ v. v ∷ [])

-- the variable of a chosen one
pub chosen-at : (names : Scope) (numbers : List ℕ) (k d : ℕ) → k < length numbers → variable_at (chosen_of names numbers) k ≡ variable_at names (get_or numbers k d)
chosen-at names [] k d within = absurd (omega (arith, within))
chosen-at names (n ∷ numbers) zero d within = refl
chosen-at names (n ∷ numbers) (suc k) d within = chosen-at names numbers k d (omega (arith, within))

pub left-laid : (t : Nodes) (xs ys : List Layout) → AreLaid t (xs ++ ys) → AreLaid t xs
left-laid t [] ys laid k d within = absurd (omega (arith, within))
left-laid t (x ∷ xs) ys laid zero d within = head (λ s. IsLaid s t) x (xs ++ ys) laid
left-laid t (x ∷ xs) ys laid (suc k) d within = left-laid t xs ys (tail (λ s. IsLaid s t) x (xs ++ ys) laid) k d (omega (arith, within))

right-laid : (t : Nodes) (xs ys : List Layout) → AreLaid t (xs ++ ys) → AreLaid t ys
right-laid t [] ys laid = laid
right-laid t (x ∷ xs) ys laid = right-laid t xs ys (tail (λ s. IsLaid s t) x (xs ++ ys) laid)

-- the variables of some spots
chosen-variables : (spots : List Layout) (names : Scope) → map (λ spot. spot.scope) spots ≡ map (λ v. v ∷ []) names → (signals : List ℕ) → All (λ s. s < length names) signals → variables_at (spots_at spots signals) ≡ chosen_of names signals
chosen-variables spots names are [] known = refl
chosen-variables spots names are (s ∷ signals) known =
    let within = head (λ s. s < length names) s signals known in
    let long = spots-long spots names are in
    let here : variable_at (spot_at spots s).scope 0 ≡ variable_at names s = ap (λ (scope : Scope). variable_at scope 0) (scope-at spots names are s (omega (arith, within, long))) in
    let rest = chosen-variables spots names are signals (tail (λ s. s < length names) s signals known) in
    λ i. here i ∷ rest i

-- what holds of spots holds of some of them
pub chosen-all : (P : Layout → Type 0) (spots : List Layout) → All P spots → (signals : List ℕ) → All (λ s. s < length spots) signals → All P (spots_at spots signals)
chosen-all P spots all [] known k d within = absurd (omega (arith, within))
chosen-all P spots all (s ∷ signals) known zero d within = all s nowhere (head (λ x. x < length spots) s signals known)
chosen-all P spots all (s ∷ signals) known (suc k) d within = chosen-all P spots all signals (tail (λ x. x < length spots) s signals known) k d (omega (arith, within))

laid-later : (s t : Nodes) → t.levels ≡ s.levels → (spots : List Layout) → AreLaid s spots → AreLaid t spots
laid-later s t levels spots laid k d within j inside = omega (arith, laid k d within j inside, levels)

-- spots stay as they are placed while no level comes
pub placed-later : (s t : Nodes) (net : Net) (spots : FileSpots) → t.levels ≡ s.levels → IsPlaced s net spots → IsPlaced t net spots
placed-later s t net spots levels placed = record {
  letters = placed.letters;
  signals = placed.signals;
  present = placed.present;
  next = placed.next;
  signals_laid = laid-later s t levels spots.signals placed.signals_laid;
  states_laid = laid-later s t levels (spots.present ++ spots.next) placed.states_laid;
  signals_apart = placed.signals_apart;
  states_apart = placed.states_apart;
  letters_apart = placed.letters_apart;
  outputs = placed.outputs;
  next_apart = placed.next_apart;
  rises = placed.rises;
  sources_are = placed.sources_are;
  targets_are = placed.targets_are;
  reads = placed.reads;
}

-- what is said of lists is said of equal ones
pub of-two : {A B : Type 0} (P : A → B → Type 0) {a b : A} {c d : B} → a ≡ b → c ≡ d → P b d → P a c
of-two {A} {B} P {a} {b} {c} {d} e f is = let Q : A → Type 0 = λ x. P x c in let R : B → Type 0 = λ y. P b y in subst Q (sym e) (subst R (sym f) is)

pub of-three : {A B C : Type 0} (P : A → B → C → Type 0) {a b : A} {c d : B} {x y : C} → a ≡ b → c ≡ d → x ≡ y → P b d y → P a c x
of-three {A} {B} {C} P {a} {b} {c} {d} {x} {y} e f g is = let Q : A → Type 0 = λ z. P z c x in subst Q (sym e) (of-two (P b) f g is)

pub of-four : {A B C D : Type 0} (P : A → B → C → D → Type 0) {a b : A} {c d : B} {x y : C} {u v : D} → a ≡ b → c ≡ d → x ≡ y → u ≡ v → P b d y v → P a c x u
of-four {A} {B} {C} {D} P {a} {b} {c} {d} {x} {y} {u} {v} e f g h is = let Q : A → Type 0 = λ z. P z c x u in subst Q (sym e) (of-three (P b) f g h is)

-- where each signal is driven once, the letters have codes
module _ (t : Nodes) (net : Net) (spots : FileSpots) (wired : IsWired net) (placed : IsPlaced t net spots) where
  wired-known : All (λ s. s < length spots.signals) (letter_signals net)
  wired-known =
      let P : ℕ → Type 0 = λ n. All (λ s. s < n) (letter_signals net) in
      subst P (sym (spots-long spots.signals net.names placed.signals)) (letters_known net wired)

  pub wired-laid : AreLaid t spots.letters
  wired-laid =
      let P : List Layout → Type 0 = λ l. AreLaid t l in
      subst P (sym placed.letters) (chosen-all (λ s. IsLaid s t) spots.signals placed.signals_laid (letter_signals net) wired-known)

  pub wired-are : AreSpots spots.letters
  wired-are = subst AreSpots (sym placed.letters) (chosen-all IsSpot spots.signals (spots-of spots.signals net.names placed.signals).0 (letter_signals net) wired-known)

  -- and they are those of the letters
  pub wired-variables : variables_at spots.letters ≡ letters_of net
  wired-variables = ap variables_at placed.letters ∙ chosen-variables spots.signals net.names placed.signals (letter_signals net) (letters_known net wired)

module _ (t : Nodes) (net : Net) (spots : FileSpots) (sound : IsSound net) (placed : IsPlaced t net spots) where
  pub signals-are : AreSpots spots.signals
  signals-are = (spots-of spots.signals net.names placed.signals).0

  pub names-are : variables_at spots.signals ≡ net.names
  names-are = (spots-of spots.signals net.names placed.signals).1

  pub signals-long : length spots.signals ≡ length net.names
  signals-long = spots-long spots.signals net.names placed.signals

  -- what is known of a list of signals
  pub known-spots : (signals : List ℕ) → All (λ s. s < length net.names) signals → All (λ s. s < length spots.signals) signals
  known-spots signals known = let P : ℕ → Type 0 = λ n. All (λ s. s < n) signals in subst P (sym signals-long) known

  over : (table : Table) → All (λ s. s < length net.names) (columns_of table) → IsTableOf net table → IsTableOver (variables_at spots.signals) table
  over table known is =
      let P : Scope → Type 0 = λ names. IsTableOver names table in
      subst P (sym names-are) (record { known = known; rows = is.rows; otherwise = is.otherwise })

  pub tables-over : All (IsTableOver (variables_at spots.signals)) net.tables
  tables-over k d within = over (get_or net.tables k d) (sound.known.tables k d within) (sound.tables k d within)

  pub resets-over : All (IsTableOver (variables_at spots.signals)) net.resets
  resets-over k d within = over (get_or net.resets k d) (sound.known.resets k d within) (sound.resets k d within)

  pub letters-known : All (λ s. s < length spots.signals) (letter_signals net)
  letters-known = wired-known t net spots (wired_of net sound) placed

  -- the only output of an automaton
  pub acc-known : (signal : ℕ) → IsAutomaton net signal → signal < length spots.signals
  acc-known signal acc =
      let P : List ℕ → Type 0 = λ outputs. All (λ s. s < length net.names) outputs in
      let known = head (λ s. s < length net.names) signal [] (subst P acc.0 sound.known.outputs) in
      omega (arith, known, signals-long)

  pub letters-laid : AreLaid t spots.letters
  letters-laid = wired-laid t net spots (wired_of net sound) placed

  pub letters-are : AreSpots spots.letters
  letters-are = wired-are t net spots (wired_of net sound) placed

  states-long : length (states_of net) ≡ length net.latches
  states-long = length-map (latch_outputs net) (variable_at net.names) ∙ length-map net.latches (λ latch. latch.output)

  pub latches-known : All (λ latch. (latch.input < length spots.signals) × (latch.output < length spots.signals)) net.latches
  latches-known k d within =
      let l = get_or net.latches k d in
      let both = known-spots (l.input ∷ l.output ∷ []) (sound.known.latches k d within) in
      (both 0 0 (omega arith), both 1 0 (omega arith))

  pub outputs-known : All (λ latch. latch.output < length spots.signals) net.latches
  outputs-known k d within = (latches-known k d within).1

  -- the latch outputs by their names
  pub outputs-named : All (λ x. x < length net.names) (latch_outputs net)
  outputs-named = All-map (λ x. x < length net.names) (λ latch. latch.output) net.latches (λ k d within. (sound.known.latches k d within) 1 0 (omega arith))

  pub present-are : AreSpots spots.present
  present-are = (spots-of spots.present (states_of net) placed.present).0

  pub present-laid : AreLaid t spots.present
  present-laid = left-laid t spots.present spots.next placed.states_laid

  pub next-are : AreSpots spots.next
  next-are = (spots-of spots.next (states_of net) placed.next).0

  next-laid : AreLaid t spots.next
  next-laid = right-laid t spots.present spots.next placed.states_laid

  pub present-long : length spots.present ≡ length net.latches
  present-long = spots-long spots.present (states_of net) placed.present ∙ states-long

  pub next-long : length spots.next ≡ length net.latches
  next-long = spots-long spots.next (states_of net) placed.next ∙ states-long

  -- the variable of a state in its place is that of the latch's output
  state-variable : (k : ℕ) (d : Latch) → k < length net.latches → variable_at (states_of net) k ≡ variable_at net.names (get_or net.latches k d).output
  state-variable k d within =
      let long = length-map net.latches (λ latch. latch.output) in
      chosen-at net.names (latch_outputs net) k d.output (omega (arith, long, within)) ∙ ap (variable_at net.names) (get_or-map (λ latch. latch.output) net.latches k d d.output within)

  pub present-at : ArePresentAt t spots.signals net.latches spots.present
  present-at = record {
    len = present-long;
    known = outputs-known;
    agree = λ k d within.
        let here : k < length spots.present = omega (arith, within, present-long) in
        let output = outputs-known k d within in
        record {
          a_spot = present-are k nowhere here;
          b_spot = signals-are (get_or net.latches k d).output nowhere output;
          bits = ap bits_in (scope-at spots.present (states_of net) placed.present k here ∙ ap (λ v. v ∷ []) (state-variable k d within) ∙ sym (scope-at spots.signals net.names placed.signals (get_or net.latches k d).output output));
          a_laid = present-laid k nowhere here;
          b_laid = placed.signals_laid (get_or net.latches k d).output nowhere output;
        };
  }

  one-bits : (v w : Variable) → length v.values ≡ length w.values → bits_in (v ∷ []) ≡ bits_in (w ∷ [])
  one-bits v w same = ap (λ n. code_bits n + 0) same

  pub latches-at : AreLatchesAt t spots.signals net.latches spots.present spots.next
  latches-at = record {
    present_at = present-at;
    len = next-long;
    known = latches-known;
    agree = λ k d within.
        let here : k < length spots.next = omega (arith, within, next-long) in
        let l = get_or net.latches k d in
        let input = (latches-known k d within).0 in
        record {
          a_spot = next-are k nowhere here;
          b_spot = signals-are l.input nowhere input;
          bits = ap bits_in (scope-at spots.next (states_of net) placed.next k here ∙ ap (λ v. v ∷ []) (state-variable k d within))
              ∙ one-bits (variable_at net.names l.output) (variable_at net.names l.input) (sym (sound.conditions.latches k d within))
              ∙ sym (ap bits_in (scope-at spots.signals net.names placed.signals l.input input));
          a_laid = next-laid k nowhere here;
          b_laid = placed.signals_laid l.input nowhere input;
        };
  }
