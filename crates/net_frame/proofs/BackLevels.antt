-- The levels that the maps of a network's latches take, and what is read through them.
use Rattle.std.proofs.Common.{◌≡◌, ◌==◌, ◌+◌, ◌^◌, ◌<◌, ◌||◌, ◌∙◌, inl, inr, ℕ, zero, suc, Bool, true, cond, nat_eq, List, [], ◌∷◌, ◌++◌, map, length, refl, sym, ap, arith}
use Rattle.std.specs.List.{list_any, flat_map, range_with_len}
use Rattle.std.proofs.lemmas.Bool.{false≢true, cases_Bool, or_cases, or_left, or_right, eqb-true}
use Rattle.std.proofs.lemmas.List.{map-append, get_or_default}
use Rattle.std.proofs.lemmas.List.Folds.{list_any-append, list_any_at, Any-from_list_any, flat_map-map}
use Rattle.std.proofs.lemmas.List.FromFn.{get_or-range_with_len, length-range_with_len}
use Rattle.name_table.specs.CodeBits.{bits_of, bits_in}
use Rattle.name_table.specs.ScopeVars.{variable_at}
use Rattle.name_table.specs.Variables.{Variable}
use Rattle.node_table.specs.Table.{Bits}
use Rattle.bdd_ops.specs.Levels.{is_in, sources, renamed}
use Rattle.bdd_ops.proofs.Members.{same-tests}
use Rattle.net_model.specs.Nets.{Net}
use Rattle.net_model.specs.Conditions.{latch_outputs}
use Rattle.net_model.specs.Outlines.{IsWired}
use Rattle.mv_encoding.specs.Layouts.{Layout, levels_of, number_at, number_of}
use Rattle.mv_encoding.specs.Spots.{all_levels, spelled}
use Rattle.net_frame.specs.Placing.{targets}
use Rattle.net_frame.specs.Frames.{own_level, own_spot, next_spot, back_at, latch_back, back_from}
use Rattle.net_frame.proofs.Among.{map-map}
use Rattle.net_frame.proofs.BackMaps.{read-back}
use Rattle.net_frame.proofs.Latched.{output-at}
use Rattle.net_frame.proofs.LetterSpots.{same-images}
use Rattle.net_frame.proofs.Standing.{IsOutput, outputs-are}

any-among : (p : ℕ → Bool) (numbers : List ℕ) (n : ℕ) → list_any (nat_eq n) numbers ≡ true → p n ≡ true → list_any p numbers ≡ true
any-among p [] n there holds = absurd (false≢true there)
any-among p (m ∷ numbers) n there holds =
    elim (or_cases (nat_eq n m) (list_any (nat_eq n) numbers) there) [
      | inl is ↦ or_left (p m) (list_any p numbers) (ap p (sym (eqb-true n m is)) ∙ holds)
      | inr later ↦ or_right (p m) (list_any p numbers) (any-among p numbers n later holds)
    ]

flat-in : (f : ℕ → List ℕ) (xs : List ℕ) (k : ℕ) → is_in (flat_map f xs) k ≡ list_any (λ x. is_in (f x) k) xs
flat-in f [] k = refl
flat-in f (x ∷ xs) k = list_any-append (λ l. l == k) (f x) (flat_map f xs) ∙ ap (λ b. is_in (f x) k || b) (flat-in f xs k)

map-flat : (side : (ℕ × ℕ) → ℕ) (f : ℕ → List (ℕ × ℕ)) (xs : List ℕ) → map side (flat_map f xs) ≡ flat_map (λ x. map side (f x)) xs
map-flat side f [] = refl
map-flat side f (x ∷ xs) = map-append side (f x) (flat_map f xs) ∙ ap (λ ls. map side (f x) ++ ls) (map-flat side f xs)

module _ (net : Net) (sound : IsWired net) (start : ℕ) (side : (ℕ × ℕ) → ℕ) (g : ℕ → Layout) (each : (output : ℕ) → map side (latch_back net start output) ≡ levels_of (g output)) where
  of-signal : (k signal : ℕ) → list_any (nat_eq signal) (latch_outputs net) ≡ true → is_in (map side (back_from net start signal)) k ≡ is_in (levels_of (g signal)) k
  of-signal k signal is = ap (λ b. is_in (map side (cond b (latch_back net start signal) [])) k) is ∙ ap (λ ls. is_in ls k) (each signal)

  forth : (k : ℕ) → list_any (λ s. is_in (map side (back_from net start s)) k) (range_with_len 0 (length net.names)) ≡ true → list_any (λ o. is_in (levels_of (g o)) k) (latch_outputs net) ≡ true
  forth k some =
      let any = Any-from_list_any (λ s. is_in (map side (back_from net start s)) k) (range_with_len 0 (length net.names)) some in
      elim (cases_Bool (list_any (nat_eq any.1) (latch_outputs net))) [
        | inl is ↦ any-among (λ o. is_in (levels_of (g o)) k) (latch_outputs net) any.1 is (sym (of-signal k any.1 is) ∙ any.4)
        | inr none ↦ absurd (false≢true (sym (ap (λ b. is_in (map side (cond b (latch_back net start any.1) [])) k) none) ∙ any.4))
      ]

  back : (k : ℕ) → list_any (λ o. is_in (levels_of (g o)) k) (latch_outputs net) ≡ true → list_any (λ s. is_in (map side (back_from net start s)) k) (range_with_len 0 (length net.names)) ≡ true
  back k some =
      let any = Any-from_list_any (λ o. is_in (levels_of (g o)) k) (latch_outputs net) some in
      let at = output-at net sound (latch_outputs net) refl any.0 any.1 any.2 (get_or_default (latch_outputs net) any.0 0 any.1 any.2 ∙ any.3) in
      let size = length-range_with_len 0 (length net.names) in
      let zero-on : 0 + any.1 ≡ any.1 = omega arith in
      let place = get_or-range_with_len 0 (length net.names) any.1 0 at.0 ∙ zero-on in
      list_any_at (λ s. is_in (map side (back_from net start s)) k) (range_with_len 0 (length net.names)) any.1 0 (omega (arith, size, at.0))
      (ap (λ s. is_in (map side (back_from net start s)) k) place ∙ of-signal k any.1 at.1 ∙ any.4)

  pub same-levels : (k : ℕ) → is_in (map side (flat_map (back_from net start) (range_with_len 0 (length net.names)))) k ≡ is_in (all_levels (map g (latch_outputs net))) k
  same-levels k =
      ap (λ ls. is_in ls k) (map-flat side (back_from net start) (range_with_len 0 (length net.names)))
      ∙ flat-in (λ s. map side (back_from net start s)) (range_with_len 0 (length net.names)) k
      ∙ same-tests (list_any (λ s. is_in (map side (back_from net start s)) k) (range_with_len 0 (length net.names))) (list_any (λ o. is_in (levels_of (g o)) k) (latch_outputs net)) (forth k) (back k)
      ∙ sym (ap (λ ls. is_in ls k) (flat_map-map levels_of g (latch_outputs net)) ∙ flat-in (λ o. levels_of (g o)) (latch_outputs net) k)

-- the sides of one latch's map
shifted : (a m n : ℕ) → map (λ k. a + k) (range_with_len m n) ≡ range_with_len (a + m) n
shifted a m zero = refl
shifted a m (suc n) =
    let next : a + (m + 1) ≡ a + m + 1 = omega arith in
    ap (λ ls. (a + m) ∷ ls) (shifted a (m + 1) n ∙ ap (λ first. range_with_len first n) next)

latch-sources : (v : Variable) (level : ℕ) → map (λ p. p.0) (back_at v level) ≡ range_with_len (level + bits_of v) (bits_in (v ∷ []))
latch-sources v level =
    let b = bits_of v in
    let first : level + b + 0 ≡ level + b = omega arith in
    let size : b ≡ b + 0 = omega arith in
    map-map (λ (p : ℕ × ℕ). p.0) (λ k. (level + b + k, level + k)) (range_with_len 0 b)
    ∙ shifted (level + b) 0 b ∙ (λ i. range_with_len (first i) (size i))

latch-targets : (v : Variable) (level : ℕ) → map (λ p. p.1) (back_at v level) ≡ range_with_len level (bits_in (v ∷ []))
latch-targets v level =
    let b = bits_of v in
    let first : level + 0 ≡ level = omega arith in
    let size : b ≡ b + 0 = omega arith in
    map-map (λ (p : ℕ × ℕ). p.1) (λ k. (level + b + k, level + k)) (range_with_len 0 b)
    ∙ shifted level 0 b ∙ (λ i. range_with_len (first i) (size i))

pub sources-next : (net : Net) → IsWired net → (start k : ℕ) → is_in (sources (flat_map (back_from net start) (range_with_len 0 (length net.names)))) k ≡ is_in (all_levels (map (next_spot net start) (latch_outputs net))) k
sources-next net sound start k =
    same-levels net sound start (λ p. p.0) (next_spot net start) (λ output. latch-sources (variable_at net.names output) (own_level net start output)) k

pub targets-present : (net : Net) → IsWired net → (start k : ℕ) → is_in (targets (flat_map (back_from net start) (range_with_len 0 (length net.names)))) k ≡ is_in (all_levels (map (own_spot net start) (latch_outputs net))) k
targets-present net sound start k =
    same-levels net sound start (λ p. p.1) (own_spot net start) (λ output. latch-targets (variable_at net.names output) (own_level net start output)) k

-- bits that are the same level by level spell one number
number-shift : (b l m : ℕ) (u w : Bits) → ((k : ℕ) → k < b → u (l + k) ≡ w (m + k)) → number_at l b u ≡ number_at m b w
number-shift zero l m u w same = refl
number-shift (suc b) l m u w same =
    let one : l ≡ l + 0 = omega arith in
    let other : m + 0 ≡ m = omega arith in
    let first : u l ≡ w m = ap u one ∙ same 0 (omega arith) ∙ ap w other in
    let rest = number-shift b (l + 1) (m + 1) u w
    (λ k below.
    let here : l + 1 + k ≡ l + (k + 1) = omega arith in
    let there : m + (k + 1) ≡ m + 1 + k = omega arith in
    ap u here ∙ same (k + 1) (omega (arith, below)) ∙ ap w there) in
    λ i. cond (first i) (2 ^ b) 0 + rest i

pub reads-present : (net : Net) → IsWired net → (start : ℕ) (bits : Bits) → spelled (map (next_spot net start) (latch_outputs net)) (renamed (flat_map (back_from net start) (range_with_len 0 (length net.names))) bits) ≡ spelled (map (own_spot net start) (latch_outputs net)) bits
reads-present net sound start bits =
    let through = renamed (flat_map (back_from net start) (range_with_len 0 (length net.names))) bits in
    map-map (λ (spot : Layout). number_of spot 0 through) (next_spot net start) (latch_outputs net)
    ∙ same-images (λ output. number_of (next_spot net start output) 0 through) (λ output. number_of (own_spot net start output) 0 bits) (IsOutput net)
    (λ output good.
    let v = variable_at net.names output in
    let level = own_level net start output in
    number-shift (bits_of v) (level + bits_of v + 0) (level + 0) through bits
    (λ k below.
    let one : level + bits_of v + 0 + k ≡ level + bits_of v + k = omega arith in
    let other : level + k ≡ level + 0 + k = omega arith in
    ap through one ∙ read-back net start bits output good.is good.known k below ∙ ap bits other))
    (latch_outputs net) (outputs-are net sound)
    ∙ sym (map-map (λ (spot : Layout). number_of spot 0 bits) (own_spot net start) (latch_outputs net))
