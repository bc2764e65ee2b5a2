-- What a file has for itself, signal by signal.
use Rattle.std.proofs.Common.{◌≡◌, ◌+◌, ◌-◌, ◌<◌, ◌≤◌, ◌∙◌, ℕ, zero, suc, true, false, cond, nat_eq, List, [], ◌∷◌, length, get_or, ap, arith}
use Rattle.std.specs.List.{list_any}
use Rattle.std.proofs.lemmas.List.FromFn.{get_or-map-range_with_len, length-map-range_with_len}
use Rattle.name_table.specs.CodeBits.{bits_of, bits_in}
use Rattle.name_table.specs.ScopeVars.{variable_at}
use Rattle.net_model.specs.Words.{Scope}
use Rattle.net_model.specs.Conditions.{latch_outputs}
use Rattle.net_model.specs.NetLanguages.{letter_signals}
use Rattle.net_model.specs.Nets.{Net}
use Rattle.net_problem.specs.ProblemBits.{own_of, own_before, own_scope}
use Rattle.net_problem.proofs.BitSums.{own-next}
use Rattle.net_frame.specs.Frames.{own_level}
use Rattle.net_frame.specs.Making.{all_before}

pub before-length : (net : Net) → length (all_before net) ≡ length net.names
before-length net = length-map-range_with_len (λ signal. bits_in (own_before net signal)) 0 (length net.names)

pub before-at : (net : Net) (signal : ℕ) → signal < length net.names → get_or (all_before net) signal 0 ≡ bits_in (own_before net signal)
before-at net signal known = get_or-map-range_with_len (λ s. bits_in (own_before net s)) 0 (length net.names) signal signal 0 known (omega arith)

own-grows : (net : Net) (signal more : ℕ) → bits_in (own_before net signal) ≤ bits_in (own_before net (signal + more))
own-grows net signal zero =
    let same : signal ≡ signal + 0 = omega arith in
    let is = ap (λ s. bits_in (own_before net s)) same in
    omega (arith, is)
own-grows net signal (suc more) =
    let rest = own-grows net signal more in
    let next = own-next net (signal + more) in
    let same : signal + more + 1 ≡ signal + suc more = omega arith in
    let is = ap (λ s. bits_in (own_before net s)) same in
    omega (arith, rest, next, is)

-- what a signal has lies before what a later one has
pub own-behind : (net : Net) (signal later : ℕ) → signal < later → bits_in (own_before net signal) + bits_in (own_of net signal) ≤ bits_in (own_before net later)
own-behind net signal later less =
    let next = own-next net signal in
    let rest = own-grows net (signal + 1) (later - (signal + 1)) in
    let same : signal + 1 + (later - (signal + 1)) ≡ later = omega (arith, less) in
    let is = ap (λ s. bits_in (own_before net s)) same in
    omega (arith, next, rest, is)

pub own-within : (net : Net) (signal : ℕ) → signal < length net.names → bits_in (own_before net signal) + bits_in (own_of net signal) ≤ bits_in (own_scope net)
own-within net signal known = own-behind net signal (length net.names) known

-- a latch output has twice its bits
pub own-latch : (net : Net) (signal : ℕ) → list_any (nat_eq signal) (latch_outputs net) ≡ true → bits_in (own_of net signal) ≡ bits_of (variable_at net.names signal) + bits_of (variable_at net.names signal)
own-latch net signal is =
    let v = variable_at net.names signal in
    let P : Scope → Type 0 = λ scope. bits_in scope ≡ bits_of v + bits_of v in
    rw is (omega arith)

-- any other signal has them once, if it is no letter
pub own-other : (net : Net) (signal : ℕ) → list_any (nat_eq signal) (letter_signals net) ≡ false → bits_of (variable_at net.names signal) ≤ bits_in (own_of net signal)
own-other net signal none =
    let v = variable_at net.names signal in
    elim (list_any (nat_eq signal) (latch_outputs net)) as (λ b. bits_of v ≤ bits_in (cond b (v ∷ v ∷ []) (cond (list_any (nat_eq signal) (letter_signals net)) [] (v ∷ [])))) [
      | true ↦ omega arith
      | false ↦ rw none (omega arith)
    ]

-- the level at which a signal's own ones begin, as it is computed
pub record Levelled (net : Net) (start signal : ℕ) (before : List ℕ) : Type 0 where
  pub there : signal < length before
  pub is : start + get_or before signal 0 ≡ own_level net start signal
  pub low : start + get_or before signal 0 + bits_in (own_of net signal) ≤ 8192

pub levelled : (net : Net) (start signal : ℕ) (before : List ℕ) → before ≡ all_before net → signal < length net.names → start + bits_in (own_scope net) ≤ 8192 → Levelled net start signal before
levelled net start signal before are known room =
    let size = ap length are ∙ before-length net in
    let at = ap (λ levels. get_or levels signal 0) are ∙ before-at net signal known in
    let within = own-within net signal known in
    record { there = omega (arith, size, known); is = omega (arith, at); low = omega (arith, at, within, room) }
