-- The words of an automaton.
use Rattle.std.proofs.Common.{◌≡◌, ◌<◌, ℕ, Bool, false, not, List, [], ◌∷◌, map, length, Some, refl, sym, ap, ◌∙◌, get_or, take, drop, ◌++◌, ◌≤◌, arith}
use Rattle.std.proofs.lemmas.List.{get_or-map, length-map, drop_all, take_all, append-nil}
use Rattle.std.proofs.lemmas.List.Elements.{All-map}
use Rattle.node_table.specs.Table.{Bits, Table}
use Rattle.det_core.specs.Automata.{BitWord, AreLetters, State, state_at, target_of, accepts_from, has_word, IsDet, IsComplete, turned, states_of, TargetsBelow}
use Rattle.det_core.specs.declared.det.DetState.{DetState}
use Rattle.det_core.proofs.Moves.{goes}

pub turned-at : (det : List State) (k : ℕ) → k < length det → state_at (map turned det) k ≡ turned (state_at det k)
turned-at det k less = get_or-map turned det k (record { accepting = false; moves = [] }) (record { accepting = false; moves = [] }) less

module _ (t : Table) (letters : Bits → Bool) (det : List State) (is : IsDet det) (complete : IsComplete t letters det) where
  turned-from : (word : BitWord) (k : ℕ) → k < length det → AreLetters letters word → accepts_from t (map turned det) (Some k) word ≡ not (accepts_from t det (Some k) word)
  turned-from [] k less fits = ap (λ s. s.accepting) (turned-at det k less)
  turned-from (bits ∷ word) k less fits =
      let (j, to, within) = goes t (length det) bits (state_at det k).moves (is.targets k (record { accepting = false; moves = [] }) less) (complete k (record { accepting = false; moves = [] }) less bits fits.0) in
      ap (λ s. accepts_from t (map turned det) (target_of t s.moves bits) word) (turned-at det k less)
      ∙ ap (λ o. accepts_from t (map turned det) o word) to
      ∙ turned-from word j within fits.1
      ∙ ap (λ o. not (accepts_from t det o word)) (sym to)

  -- where each letter has a move in every state, the words of the one are those that the other hasn't
  pub turned-words : (word : BitWord) → AreLetters letters word → has_word t (map turned det) word ≡ not (has_word t det word)
  turned-words word fits = turned-from word 0 is.some fits

-- what is seen of the state at a place
pub held-at : (states : List DetState) (k : ℕ) (s : DetState) → k < length states → s ≡ get_or states k s → state_at (states_of states) k ≡ record { accepting = s.accepting; moves = s.moves.items }
held-at states k s less at = get_or-map (λ (s : DetState). record { accepting = s.accepting; moves = s.moves.items }) states k s (record { accepting = false; moves = [] }) less ∙ ap (λ (s : DetState). record { accepting = s.accepting; moves = s.moves.items }) (sym at)

pub targets-at : (det : List State) (k : ℕ) → IsDet det → k < length det → TargetsBelow (length det) (state_at det k).moves
targets-at det k is less = is.targets k (record { accepting = false; moves = [] }) less

-- the same in the code
abbrev pub flipped : DetState → DetState
flipped s = record { accepting = not s.accepting; moves = s.moves }

turned-each : (states : List DetState) → states_of (map flipped states) ≡ map turned (states_of states)
turned-each [] = refl
turned-each (s ∷ states) = ap (λ rest. record { accepting = not s.accepting; moves = s.moves.items } ∷ rest) (turned-each states)

-- once all states are gone through, the list that is written back is theirs
pub all-flipped : (whole states start : List DetState) (index len : ℕ) → start ≡ states → len ≡ length states → length whole ≡ length start → length start ≤ index → whole ≡ map flipped (take index start) ++ drop index start
    → states_of (take len (whole ++ drop (length whole) states)) ≡ map turned (states_of states)
all-flipped whole states start index len same is_len as_long past is =
    let long : length whole ≡ length states = as_long ∙ ap length same in
    let rest : drop (length whole) states ≡ [] = drop_all (length whole) states (omega (arith, long)) in
    let all : take index start ≡ start = take_all index start past in
    let none : drop index start ≡ [] = drop_all index start past in
    ap states_of
    (ap (λ l. take len (whole ++ l)) rest ∙ ap (take len) (append-nil whole) ∙ take_all len whole (omega (arith, long, is_len)) ∙ is
    ∙ (λ i. map flipped (all i) ++ none i) ∙ append-nil (map flipped start) ∙ ap (map flipped) same)
    ∙ turned-each states

pub turned-is : (det : List State) → IsDet det → IsDet (map turned det)
turned-is det is =
    let long = length-map det turned in
    record {
      some = omega (arith, long, is.some);
      targets = All-map (λ s. TargetsBelow (length (map turned det)) s.moves) turned det (λ k d within j m inside. let low = is.targets k d within j m inside in omega (arith, low, long));
    }

pub states-length : (states : List DetState) → length (states_of states) ≡ length states
states-length states = length-map {B = State} states (λ (s : DetState). record { accepting = s.accepting; moves = s.moves.items })
