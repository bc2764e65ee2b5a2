-- How many rows there are.
use Rattle.std.proofs.Common.{◌≡◌, ◌+◌, ◌-◌, ◌^◌, ◌<◌, ◌≤◌, ℕ, zero, suc, Bool, true, false, nat_eq, if◌then◌else◌, Some, List, [], ◌∷◌, ◌++◌, length, drop, min, refl, sym, ap, ◌∙◌, arith, length-append}
use Rattle.std.proofs.lemmas.Bool.{eqb-true}
use Rattle.std.proofs.lemmas.List.{length-map}
use Rattle.node_table.specs.Table.{Table, IsValid, lo_of, hi_of}
use Rattle.bdd_walk.specs.Paths.{Path, paths_of, behind}
use Rattle.bdd_walk.proofs.Nodes.{has-ends, same-some}
use Rattle.bdd_walk.proofs.Ways.{paths-node, paths-zero, paths-one}
use Rattle.mv_encoding.specs.Layouts.{Layout}
use Rattle.det_core.specs.declared.det.Move.{Move}
use Rattle.det_core.specs.Automata.{State, state_at}
use Rattle.aut_format.specs.declared.counts.Counts.{Counts}
use Rattle.aut_format.specs.Rows.{row_along, rows_of_move, rows_of_moves, rows_from}
use Rattle.aut_format.specs.Counts.{at_most_64_bits, paths_of_moves}
use Rattle.aut_format.specs.Memos.{count_of, AreRight}

-- sums that stay at the greatest value
pub sum-stays : (most a b : ℕ) → min (min a most + min b most) most ≡ min (a + b) most
sum-stays most a b = omega arith

-- the constants
pub constant-count : (t : Table) (r : ℕ) → r < 2 → r ≡ at_most_64_bits (length (paths_of t.nodes r))
constant-count t zero small = ap (λ paths. at_most_64_bits (length paths)) (sym (paths-zero t.nodes))
constant-count t (suc zero) small = ap (λ paths. at_most_64_bits (length paths)) (sym (paths-one t.nodes))
constant-count t (suc (suc r)) small = absurd (omega (arith, small))

behind-length : (level : ℕ) (low high : List Path) → length (behind level false low ++ behind level true high) ≡ length low + length high
behind-length level low high =
    let both = length-append (behind level false low) (behind level true high) in
    let first = length-map low (λ path. (level, false) ∷ path) in
    let second = length-map high (λ path. (level, true) ∷ path) in
    omega (arith, both, first, second)

-- a node has the paths of its ends
pub node-count : (t : Table) (r lo hi low high : ℕ) → IsValid t r → 2 ≤ r → lo_of t r ≡ Some lo → hi_of t r ≡ Some hi
    → low ≡ at_most_64_bits (length (paths_of t.nodes lo)) → high ≡ at_most_64_bits (length (paths_of t.nodes hi))
    → at_most_64_bits (low + high) ≡ at_most_64_bits (length (paths_of t.nodes r))
node-count t r lo hi low high valid node is_lo is_hi at_lo at_hi =
    let ends = has-ends t r lo hi valid node is_lo is_hi in
    let n = ends.held.node in
    (λ i. at_most_64_bits (at_lo i + at_hi i))
    ∙ sum-stays (2 ^ 64 - 1) (length (paths_of t.nodes lo)) (length (paths_of t.nodes hi))
    ∙ (λ i. at_most_64_bits (length (paths_of t.nodes (sym ends.lo_is i)) + length (paths_of t.nodes (sym ends.hi_is i))))
    ∙ ap at_most_64_bits (sym (behind-length n.level (paths_of t.nodes n.lo) (paths_of t.nodes n.hi)))
    ∙ ap (λ paths. at_most_64_bits (length paths)) (sym (paths-node t.levels t.nodes valid.table.nodes r n ends.held.is))

-- one count more is held
pub right-noted : (t : Table) (old new : Counts) (r count : ℕ) → AreRight t old → count ≡ at_most_64_bits (length (paths_of t.nodes r))
    → ((s : ℕ) → count_of new s ≡ (if nat_eq r s then Some count else count_of old s)) → AreRight t new
right-noted t old new r count right is noted s n held = by (nat_eq r s) refl
  where
    by : (b : Bool) → nat_eq r s ≡ b → n ≡ at_most_64_bits (length (paths_of t.nodes s))
    by true same =
        same-some n count (sym held ∙ noted s ∙ ap (λ b. if b then Some count else count_of old s) same)
        ∙ is
        ∙ ap (λ k. at_most_64_bits (length (paths_of t.nodes k))) (eqb-true r s same)
    by false other = right s n (sym (noted s ∙ ap (λ b. if b then Some count else count_of old s) other) ∙ held)

-- one move more
pub move-count : (t : Table) (moves : List Move) (k whole count more : ℕ) (m : Move) → drop k moves ≡ m ∷ drop (k + 1) moves
    → more ≡ at_most_64_bits (length (paths_of t.nodes m.guard))
    → at_most_64_bits (count + length (paths_of_moves t (drop k moves))) ≡ whole
    → at_most_64_bits (at_most_64_bits (count + more) + length (paths_of_moves t (drop (k + 1) moves))) ≡ whole
move-count t moves k whole count more m opens is kept =
    let split : length (paths_of_moves t (drop k moves)) ≡ length (paths_of t.nodes m.guard) + length (paths_of_moves t (drop (k + 1) moves)) =
    ap (λ ms. length (paths_of_moves t ms)) opens ∙ length-append (paths_of t.nodes m.guard) (paths_of_moves t (drop (k + 1) moves)) in
    stays (2 ^ 64 - 1) count more (length (paths_of t.nodes m.guard)) (length (paths_of_moves t (drop (k + 1) moves))) is
    ∙ ap (λ n. at_most_64_bits (count + n)) (sym split) ∙ kept
  where
    stays : (most count more p rest : ℕ) → more ≡ min p most → min (min (count + more) most + rest) most ≡ min (count + (p + rest)) most
    stays most count more p rest is = omega (arith, is)

-- the rows of moves are as many as their paths
pub rows-of-paths : (t : Table) (layout : Layout) (present : ℕ) (moves : List Move) → length (rows_of_moves t layout present moves) ≡ length (paths_of_moves t moves)
rows-of-paths t layout present [] = refl
rows-of-paths t layout present (m ∷ moves) =
    let both = length-append (rows_of_move t layout present m) (rows_of_moves t layout present moves) in
    let paths = length-append (paths_of t.nodes m.guard) (paths_of_moves t moves) in
    let here = length-map (paths_of t.nodes m.guard) (row_along layout present m.target) in
    let rest = rows-of-paths t layout present moves in
    omega (arith, both, paths, here, rest)

-- the states from one on
pub state-opens : (det : List State) (k : ℕ) → k < length det → drop k det ≡ state_at det k ∷ drop (k + 1) det
state-opens [] k within = absurd (omega (arith, within))
state-opens (s ∷ det) zero within = refl
state-opens (s ∷ det) (suc k) within =
    let next : suc (k + 1) ≡ suc k + 1 = omega arith in
    state-opens det k (omega (arith, within)) ∙ ap (λ n. state_at det k ∷ drop n (s ∷ det)) next

-- one state more
pub state-count : (t : Table) (layout : Layout) (det : List State) (k whole rows more : ℕ) (moves : List Move) → k < length det → moves ≡ (state_at det k).moves
    → more ≡ at_most_64_bits (length (paths_of_moves t moves))
    → at_most_64_bits (rows + length (rows_from t layout k (drop k det))) ≡ whole
    → at_most_64_bits (at_most_64_bits (rows + more) + length (rows_from t layout (k + 1) (drop (k + 1) det))) ≡ whole
state-count t layout det k whole rows more moves within lies is kept =
    let here = rows_of_moves t layout k (state_at det k).moves in
    let rest = rows_from t layout (k + 1) (drop (k + 1) det) in
    let split : length (rows_from t layout k (drop k det)) ≡ length here + length rest =
    ap (λ states. length (rows_from t layout k states)) (state-opens det k within) ∙ length-append here rest in
    let same : length (paths_of_moves t moves) ≡ length here = ap (λ ms. length (paths_of_moves t ms)) lies ∙ sym (rows-of-paths t layout k (state_at det k).moves) in
    stays (2 ^ 64 - 1) rows more (length here) (length rest) (is ∙ ap at_most_64_bits same)
    ∙ ap (λ n. at_most_64_bits (rows + n)) (sym split) ∙ kept
  where
    stays : (most count more p rest : ℕ) → more ≡ min p most → min (min (count + more) most + rest) most ≡ min (count + (p + rest)) most
    stays most count more p rest is = omega (arith, is)

pub smaller : (most n : ℕ) → min n most ≡ min most n
smaller most n = omega arith
