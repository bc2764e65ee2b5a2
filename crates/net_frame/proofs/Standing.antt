-- Where the codes of a network's signals and states stand.
use Rattle.std.proofs.Common.{◌≡◌, ◌+◌, ◌<◌, ◌≤◌, ◌∙◌, inl, inr, ℕ, true, false, nat_eq, List, [], ◌∷◌, ◌++◌, map, length, get_or, refl, sym, ap, subst, arith}
use Rattle.std.specs.Prelude.{All}
use Rattle.std.specs.List.{list_any, range_with_len, AllByRecursion, AllPairs, AllZip}
use Rattle.std.specs.Str.{bytes_eq}
use Rattle.std.proofs.lemmas.Bool.{cases_Bool, cases_eq, false≢true, eq-eqb}
use Rattle.std.proofs.lemmas.List.{get_or_default}
use Rattle.std.proofs.lemmas.List.Elements.{All-map, All-append, All-from_recursion, recursion_from_All}
use Rattle.std.proofs.lemmas.List.FromFn.{get_or-map-range_with_len, fill_by_all}
use Rattle.std.proofs.lemmas.Option.{unwrap_or-slice_get}
use Rattle.name_table.specs.CodeBits.{bits_in}
use Rattle.name_table.specs.ScopeVars.{variable_at}
use Rattle.name_table.specs.Variables.{Variable}
use Rattle.node_table.specs.Table.{Table}
use Rattle.net_model.specs.Words.{Scope}
use Rattle.net_model.specs.Nets.{Net}
use Rattle.net_model.specs.Conditions.{latch_outputs}
use Rattle.net_model.specs.NetLanguages.{letter_signals, states_of}
use Rattle.net_model.specs.Outlines.{IsWired}
use Rattle.net_model.specs.declared.class.Mode.TheVariants.{Sync}
use Rattle.net_model.proofs.Letters.{letters_known}
use Rattle.mv_encoding.specs.Layouts.{Layout, IsLaid}
use Rattle.mv_encoding.specs.Spots.{AreApart, AreLaid, spot_at, spots_at}
use Rattle.net_problem.specs.ProblemBits.{own_scope}
use Rattle.net_frame.specs.Placing.{IsPresentOf}
use Rattle.net_frame.specs.Frames.{own_spot, next_spot, signal_spot, spot_named}
use Rattle.net_frame.proofs.Among.{map-map, each-weaker}
use Rattle.net_frame.proofs.Beside.{AreBeside, beside-turned, apart-beside}
use Rattle.net_frame.proofs.JointLevels.{EndsBelow}
use Rattle.net_frame.proofs.Latched.{output-at, outputs-once, once-distinct}
use Rattle.net_frame.proofs.LetterSpots.{same-images, letter-is, own-is}
use Rattle.net_frame.proofs.OwnPlaces.{LiesIn, in-other, in-present, in-next, lies-beside, states-beside, joint-lies, lies-laid, ends-laid, names-differ}
use Rattle.net_frame.proofs.Pairwise.{all-range, pairs-append, pairs-distinct}

-- the codes of the letters are those of joint variables, before all that the network has for itself
pub record StandsOn (net : Net) (joint : List Layout) (start : ℕ) : Type 0 where
  pub ends : (signal : ℕ) → list_any (nat_eq signal) (letter_signals net) ≡ true → EndsBelow start (spot_named joint (variable_at net.names signal).name)
  pub scope : (signal : ℕ) → list_any (nat_eq signal) (letter_signals net) ≡ true → (spot_named joint (variable_at net.names signal).name).scope ≡ variable_at net.names signal ∷ []
  pub beside : (i j : ℕ) → list_any (nat_eq i) (letter_signals net) ≡ true → list_any (nat_eq j) (letter_signals net) ≡ true → bytes_eq (variable_at net.names i).name (variable_at net.names j).name ≡ false → AreBeside (spot_named joint (variable_at net.names i).name) (spot_named joint (variable_at net.names j).name)

-- a signal that is the output of a latch
pub record IsOutput (net : Net) (signal : ℕ) : Type 0 where
  pub known : signal < length net.names
  pub is : list_any (nat_eq signal) (latch_outputs net) ≡ true

pub outputs-are : (net : Net) → IsWired net → AllByRecursion (IsOutput net) (latch_outputs net)
outputs-are net sound =
    recursion_from_All (IsOutput net) (latch_outputs net)
    (λ i d within.
    let at = output-at net sound (latch_outputs net) refl i (get_or (latch_outputs net) i d) within (get_or_default (latch_outputs net) i 0 d within) in
    record { known = at.0; is = at.1 })

zip-by : (R : Layout → ℕ → Type 0) (f : ℕ → Layout) (numbers : List ℕ) → AllByRecursion (λ n. R (f n) n) numbers → AllZip R (map f numbers) numbers
zip-by R f [] all = tt
zip-by R f (n ∷ numbers) all = (all.0, zip-by R f numbers all.1)

-- what holds of the image of each output
pub each-output : (net : Net) → IsWired net → (f : ℕ → Layout) (Q : Layout → Type 0) → ((signal : ℕ) → IsOutput net signal → Q (f signal)) → All Q (map f (latch_outputs net))
each-output net sound f Q each =
    All-map Q f (latch_outputs net) (All-from_recursion (λ n. Q (f n)) (latch_outputs net) (each-weaker (IsOutput net) (λ n. Q (f n)) each (latch_outputs net) (outputs-are net sound)))

not-equal : (a b : ℕ) → nat_eq a b ≡ false → a ≡ b → ⊥
not-equal a b differ same = false≢true (sym differ ∙ eq-eqb a b same)

-- the variables of the codes

all-variables : (names : Scope) → names ≡ map (variable_at names) (range_with_len 0 (length names))
all-variables names =
    fill_by_all (variable_at names) names (length names) (record { name = []; values = [] }) refl
    (λ k below. sym (unwrap_or-slice_get names k (record { name = []; values = [] })))

pub states-scopes : (net : Net) (start : ℕ) → (map (λ spot. spot.scope) (map (own_spot net start) (latch_outputs net)) ≡ map (λ v. v ∷ []) (states_of net)) × (map (λ spot. spot.scope) (map (next_spot net start) (latch_outputs net)) ≡ map (λ v. v ∷ []) (states_of net))
states-scopes net start =
    let chosen = map-map (λ (v : Variable). v ∷ []) (variable_at net.names) (latch_outputs net) in
    (map-map (λ (spot : Layout). spot.scope) (own_spot net start) (latch_outputs net) ∙ sym chosen, map-map (λ (spot : Layout). spot.scope) (next_spot net start) (latch_outputs net) ∙ sym chosen)

module _ (net : Net) (joint : List Layout) (start : ℕ) (standing : StandsOn net joint start) where
  scope-of : (signal : ℕ) → (signal_spot Sync joint net start signal).scope ≡ variable_at net.names signal ∷ []
  scope-of signal =
      elim (cases_Bool (list_any (nat_eq signal) (letter_signals net))) [
        | inl is ↦ ap (λ (spot : Layout). spot.scope) (letter-is Sync joint net start signal is) ∙ standing.scope signal is
        | inr none ↦ ap (λ (spot : Layout). spot.scope) (own-is Sync joint net start signal none)
      ]

  pub signals-scopes : map (λ spot. spot.scope) (map (signal_spot Sync joint net start) (range_with_len 0 (length net.names))) ≡ map (λ v. v ∷ []) net.names
  signals-scopes =
      map-map (λ (spot : Layout). spot.scope) (signal_spot Sync joint net start) (range_with_len 0 (length net.names))
      ∙ (λ i. map (λ signal. scope-of signal i) (range_with_len 0 (length net.names)))
      ∙ sym (map-map (λ (v : Variable). v ∷ []) (variable_at net.names) (range_with_len 0 (length net.names)))
      ∙ ap (map (λ v. v ∷ [])) (sym (all-variables net.names))

  -- the spot of a signal, by its number
  pub spot-is : (signal : ℕ) → signal < length net.names → spot_at (map (signal_spot Sync joint net start) (range_with_len 0 (length net.names))) signal ≡ signal_spot Sync joint net start signal
  spot-is signal known = get_or-map-range_with_len (signal_spot Sync joint net start) 0 (length net.names) signal signal (record { scope = []; first = 0 }) known (omega arith)

  pub letters-at : IsWired net → map (signal_spot Sync joint net start) (letter_signals net) ≡ spots_at (map (signal_spot Sync joint net start) (range_with_len 0 (length net.names))) (letter_signals net)
  letters-at sound =
      same-images (signal_spot Sync joint net start) (spot_at (map (signal_spot Sync joint net start) (range_with_len 0 (length net.names)))) (λ signal. signal < length net.names)
      (λ signal known. sym (spot-is signal known)) (letter_signals net) (recursion_from_All (λ signal. signal < length net.names) (letter_signals net) (letters_known net sound))

  signal-ends : (signal : ℕ) → list_any (nat_eq signal) (letter_signals net) ≡ true → EndsBelow start (signal_spot Sync joint net start signal)
  signal-ends signal is = subst (λ (spot : Layout). EndsBelow start spot) (sym (letter-is Sync joint net start signal is)) (standing.ends signal is)

  signal-lies : (signal : ℕ) → list_any (nat_eq signal) (letter_signals net) ≡ false → LiesIn net start signal (signal_spot Sync joint net start signal)
  signal-lies signal none = subst (λ (spot : Layout). LiesIn net start signal spot) (sym (own-is Sync joint net start signal none)) (in-other net start signal none)

  pub signal-laid : (t : Table) → start + bits_in (own_scope net) ≤ t.levels → (signal : ℕ) → signal < length net.names → IsLaid (signal_spot Sync joint net start signal) t
  signal-laid t room signal known =
      elim (cases_Bool (list_any (nat_eq signal) (letter_signals net))) [
        | inl is ↦ ends-laid t start (signal_spot Sync joint net start signal) (omega (arith, room)) (signal-ends signal is)
        | inr none ↦ lies-laid net start t room signal (signal_spot Sync joint net start signal) known (signal-lies signal none)
      ]

  -- what lies among the levels of another signal
  other-beside : (i j : ℕ) (spot : Layout) → (i ≡ j → ⊥) → LiesIn net start j spot → AreBeside (signal_spot Sync joint net start i) spot
  other-beside i j spot differ lies =
      elim (cases_Bool (list_any (nat_eq i) (letter_signals net))) [
        | inl is ↦ joint-lies net start j (signal_spot Sync joint net start i) spot (signal-ends i is) lies
        | inr none ↦ lies-beside net start i j (signal_spot Sync joint net start i) spot differ (signal-lies i none) lies
      ]

  pub signals-beside : IsWired net → (i j : ℕ) → i < j → j < length net.names → AreBeside (signal_spot Sync joint net start i) (signal_spot Sync joint net start j)
  signals-beside sound i j less below =
      elim (cases_Bool (list_any (nat_eq j) (letter_signals net))) [
        | inl is_j ↦
            elim (cases_Bool (list_any (nat_eq i) (letter_signals net))) [
              | inl is_i ↦
                  subst (λ (a : Layout). AreBeside a (signal_spot Sync joint net start j)) (sym (letter-is Sync joint net start i is_i))
                  (subst (λ (b : Layout). AreBeside (spot_named joint (variable_at net.names i).name) b) (sym (letter-is Sync joint net start j is_j))
                  (standing.beside i j is_i is_j (names-differ net.names sound.known.names.different i j less below)))
              | inr none ↦
                  beside-turned (signal_spot Sync joint net start j) (signal_spot Sync joint net start i)
                  (joint-lies net start i (signal_spot Sync joint net start j) (signal_spot Sync joint net start i) (signal-ends j is_j) (signal-lies i none))
            ]
        | inr none ↦ other-beside i j (signal_spot Sync joint net start j) (λ same. omega (arith, same, less)) (signal-lies j none)
      ]

  -- the next value of a latch shares nothing with a signal
  pub next-beside : (signal output : ℕ) → IsOutput net output → AreBeside (signal_spot Sync joint net start signal) (next_spot net start output)
  next-beside signal output good =
      elim (cases_eq signal output) [
        | inr differ ↦ other-beside signal output (next_spot net start output) differ (in-next net start output good.is)
        | inl same ↦
            elim (cases_Bool (list_any (nat_eq signal) (letter_signals net))) [
              | inl is ↦ joint-lies net start output (signal_spot Sync joint net start signal) (next_spot net start output) (signal-ends signal is) (in-next net start output good.is)
              | inr none ↦
                  subst (λ (a : Layout). AreBeside a (next_spot net start output)) (sym (own-is Sync joint net start signal none ∙ ap (own_spot net start) same))
                  (states-beside net start output)
            ]
      ]

  -- the present value stands where the output does, or shares nothing with a signal where that is a letter
  pub present-of : (output : ℕ) → IsOutput net output → IsPresentOf (map (signal_spot Sync joint net start) (range_with_len 0 (length net.names))) (own_spot net start output) output
  present-of output good =
      elim (cases_Bool (list_any (nat_eq output) (letter_signals net))) [
        | inr none ↦ inl (sym (spot-is output good.known ∙ own-is Sync joint net start output none))
        | inl is ↦
            inr (all-range (AreApart (own_spot net start output)) (signal_spot Sync joint net start) (length net.names)
            (λ signal known. apart-beside (own_spot net start output) (signal_spot Sync joint net start signal)
            (beside-turned (signal_spot Sync joint net start signal) (own_spot net start output) (beside-present signal output is good))))
      ]
    where
      beside-present : (signal output : ℕ) → list_any (nat_eq output) (letter_signals net) ≡ true → IsOutput net output → AreBeside (signal_spot Sync joint net start signal) (own_spot net start output)
      beside-present signal output is good =
          elim (cases_Bool (list_any (nat_eq signal) (letter_signals net))) [
            | inl here ↦ joint-lies net start output (signal_spot Sync joint net start signal) (own_spot net start output) (signal-ends signal here) (in-present net start output good.is)
            | inr none ↦
                lies-beside net start signal output (signal_spot Sync joint net start signal) (own_spot net start output)
                (λ same. false≢true (sym none ∙ (ap (λ n. list_any (nat_eq n) (letter_signals net)) same ∙ is))) (signal-lies signal none) (in-present net start output good.is)
          ]

  pub outputs-placed : IsWired net → AllZip (IsPresentOf (map (signal_spot Sync joint net start) (range_with_len 0 (length net.names)))) (map (own_spot net start) (latch_outputs net)) (latch_outputs net)
  outputs-placed sound =
      zip-by (IsPresentOf (map (signal_spot Sync joint net start) (range_with_len 0 (length net.names)))) (own_spot net start) (latch_outputs net)
      (each-weaker (IsOutput net) (λ n. IsPresentOf (map (signal_spot Sync joint net start) (range_with_len 0 (length net.names))) (own_spot net start n) n) present-of (latch_outputs net) (outputs-are net sound))

  -- the letters share nothing with the states
  pub letter-states : IsWired net → (signal : ℕ) → list_any (nat_eq signal) (letter_signals net) ≡ true → All (AreApart (signal_spot Sync joint net start signal)) (map (own_spot net start) (latch_outputs net) ++ map (next_spot net start) (latch_outputs net))
  letter-states sound signal is =
      All-append (AreApart (signal_spot Sync joint net start signal)) (map (own_spot net start) (latch_outputs net)) (map (next_spot net start) (latch_outputs net))
      (each-output net sound (own_spot net start) (AreApart (signal_spot Sync joint net start signal))
      (λ output good. apart-beside (signal_spot Sync joint net start signal) (own_spot net start output) (joint-lies net start output (signal_spot Sync joint net start signal) (own_spot net start output) (signal-ends signal is) (in-present net start output good.is))))
      (each-output net sound (next_spot net start) (AreApart (signal_spot Sync joint net start signal))
      (λ output good. apart-beside (signal_spot Sync joint net start signal) (next_spot net start output) (joint-lies net start output (signal_spot Sync joint net start signal) (next_spot net start output) (signal-ends signal is) (in-next net start output good.is))))

-- the states among one another

module _ (net : Net) (sound : IsWired net) (start : ℕ) where
  pub states-apart : AllPairs AreApart (map (own_spot net start) (latch_outputs net) ++ map (next_spot net start) (latch_outputs net))
  states-apart =
      let distinct = once-distinct (latch_outputs net) (outputs-once net sound) in
      pairs-append AreApart (map (own_spot net start) (latch_outputs net)) (map (next_spot net start) (latch_outputs net))
      (pairs-distinct AreApart (own_spot net start) (IsOutput net)
      (λ a b differ one other. apart-beside (own_spot net start a) (own_spot net start b) (lies-beside net start a b (own_spot net start a) (own_spot net start b) (not-equal a b differ) (in-present net start a one.is) (in-present net start b other.is)))
      (latch_outputs net) distinct (outputs-are net sound))
      (pairs-distinct AreApart (next_spot net start) (IsOutput net)
      (λ a b differ one other. apart-beside (next_spot net start a) (next_spot net start b) (lies-beside net start a b (next_spot net start a) (next_spot net start b) (not-equal a b differ) (in-next net start a one.is) (in-next net start b other.is)))
      (latch_outputs net) distinct (outputs-are net sound))
      (each-output net sound (own_spot net start) (λ x. All (AreApart x) (map (next_spot net start) (latch_outputs net)))
      (λ a one. each-output net sound (next_spot net start) (AreApart (own_spot net start a))
      (λ b other. apart-beside (own_spot net start a) (next_spot net start b) (cross a b one other))))
    where
      cross : (a b : ℕ) → IsOutput net a → IsOutput net b → AreBeside (own_spot net start a) (next_spot net start b)
      cross a b one other =
          elim (cases_eq a b) [
            | inl same ↦ subst (λ (n : ℕ). AreBeside (own_spot net start a) (next_spot net start n)) same (states-beside net start a)
            | inr differ ↦ lies-beside net start a b (own_spot net start a) (next_spot net start b) differ (in-present net start a one.is) (in-next net start b other.is)
          ]

  pub states-laid : (t : Table) → start + bits_in (own_scope net) ≤ t.levels → AreLaid t (map (own_spot net start) (latch_outputs net) ++ map (next_spot net start) (latch_outputs net))
  states-laid t room =
      All-append (λ spot. IsLaid spot t) (map (own_spot net start) (latch_outputs net)) (map (next_spot net start) (latch_outputs net))
      (each-output net sound (own_spot net start) (λ spot. IsLaid spot t) (λ output good. lies-laid net start t room output (own_spot net start output) good.known (in-present net start output good.is)))
      (each-output net sound (next_spot net start) (λ spot. IsLaid spot t) (λ output good. lies-laid net start t room output (next_spot net start output) good.known (in-next net start output good.is)))
