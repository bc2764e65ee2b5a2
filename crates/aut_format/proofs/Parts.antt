-- The literals of a path among some levels.
use Rattle.std.proofs.Common.{◌≡◌, ◌==◌, ◌&&◌, ◌||◌, ◌+◌, ◌-◌, ◌^◌, ◌*◌, ◌<◌, ◌≤◌, ℕ, zero, suc, Bool, true, false, not, if◌then◌else◌, List, [], ◌∷◌, ◌++◌, length, take, drop, min, codes, Some, refl, sym, ap, ◌∙◌, subst, inl, inr, arith, length-append}
use Rattle.std.specs.Prelude.{nat_lt, slice_get}
use Rattle.std.specs.Bool.{beq}
use Rattle.std.specs.List.{AllByRecursion, All}
use Rattle.std.specs.List.Sorted.{IsStrictlyIncreasing}
use Rattle.std.proofs.lemmas.Bool.{cond-true, eq-eqb, ne_eqb, ltb-true, lt-ltb, and_from, or_left, true≢false, cases_lt}
use Rattle.std.proofs.lemmas.List.{length-map}
use Rattle.std.proofs.lemmas.List.Elements.{filter-append}
use Rattle.std.proofs.lemmas.List.Kept.{AllPairs-from_increasing}
use Rattle.name_table.specs.CodeBits.{bits_of}
use Rattle.name_table.proofs.Powers.{twice, code_enough}
use Rattle.net_model.specs.Words.{Variable}
use Rattle.net_model.specs.Printed.{values_field, entry_field}
use Rattle.bdd_walk.specs.declared.paths.Lit.{Lit}
use Rattle.bdd_walk.specs.Paths.{Literal, Path, path_of, levels_on}
use Rattle.aut_format.specs.Rows.{allows_bit, numbers_along, values_below, entry_along, entries_along, RisesFrom, count_before}
use Rattle.aut_format.proofs.Literals.{above-head}

-- Rising levels, by recursion.

floor-weaker : (x : ℕ) (path : Path) → AllByRecursion (λ (l : Literal). x < l.0) path → AllByRecursion (λ (l : Literal). x + 1 ≤ l.0) path
floor-weaker x [] above = tt
floor-weaker x (l ∷ path) above = (omega (arith, above.0), floor-weaker x path above.1)

rises-by-recursion : (floor : ℕ) (path : Path) → AllByRecursion (λ (l : Literal). floor ≤ l.0) path → IsStrictlyIncreasing (levels_on path) → RisesFrom floor path
rises-by-recursion floor [] above rises = tt
rises-by-recursion floor (l ∷ path) above rises =
    let size = length-map path (λ (literal : Literal). literal.0) in
    let tail : IsStrictlyIncreasing (levels_on path) = λ k below. AllPairs-from_increasing (l.0 ∷ levels_on path) rises (suc k) (suc (k + 1)) 0 (omega arith) (omega (arith, below)) in
    let more = above-head l.0 path (λ i within. AllPairs-from_increasing (l.0 ∷ levels_on path) rises 0 (suc i) 0 (omega arith) (omega (arith, within, size))) in
    (above.0, rises-by-recursion (l.0 + 1) path (floor-weaker l.0 path more) tail)

from-zero : (path : Path) → AllByRecursion (λ (l : Literal). 0 ≤ l.0) path
from-zero [] = tt
from-zero (l ∷ path) = (omega arith, from-zero path)

pub all-rise : (paths : List Path) → All (λ path. IsStrictlyIncreasing (levels_on path)) paths → AllByRecursion (RisesFrom 0) paths
all-rise [] all = tt
all-rise (path ∷ paths) all =
    (rises-by-recursion 0 path (from-zero path) (all 0 path (omega arith)), all-rise paths (λ k d within. all (suc k) d (omega (arith, within))))

same-some : {X : Type 0} (x y : X) → Some x ≡ Some y → x ≡ y
same-some x y e = cc

-- the first of some paths
pub first-rises : (paths : List Path) (path : Path) → AllByRecursion (RisesFrom 0) paths → slice_get paths 0 ≡ Some path → RisesFrom 0 path
first-rises [] path all first = absurd (cc)
first-rises (p ∷ paths) path all first = subst (RisesFrom 0) (same-some p path first) all.0

-- The literals before a level, and those from it on.

rises-lower : (low lower : ℕ) (path : Path) → lower ≤ low → RisesFrom low path → RisesFrom lower path
rises-lower low lower [] less rise = tt
rises-lower low lower (l ∷ path) less rise = (omega (arith, less, rise.0), rise.1)

pub rest-rises : (path : Path) (low level : ℕ) → RisesFrom low path → RisesFrom level (drop (count_before path level) path)
rest-rises [] low level rise = tt
rest-rises (l ∷ path) low level rise = by (nat_lt l.0 level) refl (rest-rises path (l.0 + 1) level rise.1)
  where
    by : (b : Bool) → nat_lt l.0 level ≡ b → RisesFrom level (drop (count_before path level) path) → RisesFrom level (drop (if b then suc (count_before path level) else 0) (l ∷ path))
    by true less rest = rest
    by false more rest = elim (cases_lt l.0 level) [
      | inl less ↦ absurd (true≢false (sym (lt-ltb l.0 level less) ∙ more))
      | inr above ↦ (above, rise.1)
    ]

-- a path past a level asks nothing there
past-allows : (path : Path) (low k : ℕ) (bit : Bool) → RisesFrom low path → k < low → allows_bit path k bit ≡ true
past-allows [] low k bit rise less = refl
past-allows (l ∷ path) low k bit rise less =
    and_from (not (l.0 == k) || beq l.1 bit) (allows_bit path k bit)
    (or_left (not (l.0 == k)) (beq l.1 bit) (ap not (ne_eqb l.0 k (λ e. omega (arith, e, less, rise.0)))))
    (past-allows path (l.0 + 1) k bit rise.1 (omega (arith, less, rise.0)))

-- from a level on the path asks what is left of it asks
pub left-asks : (path : Path) (level k : ℕ) (bit : Bool) → level ≤ k → allows_bit (drop (count_before path level) path) k bit ≡ allows_bit path k bit
left-asks [] level k bit low = refl
left-asks (l ∷ path) level k bit low = by (nat_lt l.0 level) refl (left-asks path level k bit low)
  where
    by : (b : Bool) → nat_lt l.0 level ≡ b → allows_bit (drop (count_before path level) path) k bit ≡ allows_bit path k bit → allows_bit (drop (if b then suc (count_before path level) else 0) (l ∷ path)) k bit ≡ allows_bit (l ∷ path) k bit
    by true less rest =
        let apart : (l.0 == k) ≡ false = ne_eqb l.0 k (λ e. omega (arith, e, low, ltb-true l.0 level less)) in
        rest ∙ ap (λ x. (not x || beq l.1 bit) && allows_bit path k bit) (sym apart)
    by false more rest = refl

-- before a level, what stands before it
pub front-asks : (path : Path) (low level k : ℕ) (bit : Bool) → RisesFrom low path → k < level → allows_bit (take (count_before path level) path) k bit ≡ allows_bit path k bit
front-asks [] low level k bit rise less = refl
front-asks (l ∷ path) low level k bit rise less = by (nat_lt l.0 level) refl (front-asks path (l.0 + 1) level k bit rise.1 less)
  where
    by : (b : Bool) → nat_lt l.0 level ≡ b → allows_bit (take (count_before path level) path) k bit ≡ allows_bit path k bit → allows_bit (take (if b then suc (count_before path level) else 0) (l ∷ path)) k bit ≡ allows_bit (l ∷ path) k bit
    by true is rest = ap (λ x. (not (l.0 == k) || beq l.1 bit) && x) rest
    by false more rest = elim (cases_lt l.0 level) [
      | inl under ↦ absurd (true≢false (sym (lt-ltb l.0 level under) ∙ more))
      | inr above ↦ sym (past-allows (l ∷ path) level k bit (above, rise.1) less)
    ]

-- So an entry is that of the literals at its levels.
numbers-same : (p q : Path) (level b base : ℕ) → ((k : ℕ) (bit : Bool) → level ≤ k → k < level + b → allows_bit p k bit ≡ allows_bit q k bit) → numbers_along p level b base ≡ numbers_along q level b base
numbers-same p q level zero base same = refl
numbers-same p q level (suc b) base same =
    let low = same level false (omega arith) (omega arith) in
    let high = same level true (omega arith) (omega arith) in
    let lows = numbers-same p q (level + 1) b base (λ k bit from to. same k bit (omega (arith, from)) (omega (arith, to))) in
    let highs = numbers-same p q (level + 1) b (base + 2 ^ b) (λ k bit from to. same k bit (omega (arith, from)) (omega (arith, to))) in
    λ i. (if low i then lows i else []) ++ (if high i then highs i else [])

pub entry-same : (p q : Path) (level : ℕ) (v : Variable) → ((k : ℕ) (bit : Bool) → level ≤ k → k < level + bits_of v → allows_bit p k bit ≡ allows_bit q k bit) → entry_along p level v ≡ entry_along q level v
entry-same p q level v same = ap (values_below (length v.values)) (numbers-same p q level (bits_of v) 0 same)

pub entries-same : (p q : Path) (level : ℕ) (scope : List Variable) → ((k : ℕ) (bit : Bool) → level ≤ k → allows_bit p k bit ≡ allows_bit q k bit) → entries_along p level scope ≡ entries_along q level scope
entries-same p q level [] same = refl
entries-same p q level (v ∷ scope) same =
    let here = entry-same p q level v (λ k bit from to. same k bit from) in
    let rest = entries-same p q (level + bits_of v) scope (λ k bit from. same k bit (omega (arith, from))) in
    λ i. here i ∷ rest i

-- the paths of the code
pub taken : (lits : List Lit) (n : ℕ) → path_of (take n lits) ≡ take n (path_of lits)
taken [] zero = refl
taken [] (suc n) = refl
taken (l ∷ lits) zero = refl
taken (l ∷ lits) (suc n) = ap (λ path. (l.level, l.value) ∷ path) (taken lits n)

pub dropped : (lits : List Lit) (n : ℕ) → path_of (drop n lits) ≡ drop n (path_of lits)
dropped [] zero = refl
dropped [] (suc n) = refl
dropped (l ∷ lits) zero = refl
dropped (l ∷ lits) (suc n) = dropped lits n

-- A path that asks nothing leaves every value.
one-number : (count base : ℕ) (b : Bool) → nat_lt base count ≡ b → length (if b then base ∷ [] else []) ≡ min 1 (count - base)
one-number count base true less = let is = ltb-true base count less in omega (arith, is)
one-number count base false more = elim (cases_lt base count) [
  | inl under ↦ absurd (true≢false (sym (lt-ltb base count under) ∙ more))
  | inr above ↦ omega (arith, above)
]

free-numbers : (count level b base : ℕ) → length (values_below count (numbers_along [] level b base)) ≡ min (2 ^ b) (count - base)
free-numbers count level zero base = one-number count base (nat_lt base count) refl
free-numbers count level (suc b) base =
    let lows = numbers_along [] (level + 1) b base in
    let highs = numbers_along [] (level + 1) b (base + 2 ^ b) in
    let both = ap length (filter-append (λ value. nat_lt value count) lows highs) ∙ length-append (values_below count lows) (values_below count highs) in
    let low = free-numbers count (level + 1) b base in
    let high = free-numbers count (level + 1) b (base + 2 ^ b) in
    halves (2 ^ suc b) (2 ^ b) (count - base) (count - (base + 2 ^ b)) _ _ _ both low high (twice b) (less count base (2 ^ b))
  where
    less : (count base half : ℕ) → count - (base + half) ≡ (count - base) - half
    less count base half = omega arith

    halves : (whole half more rest all low high : ℕ) → all ≡ low + high → low ≡ min half more → high ≡ min half rest → whole ≡ 2 * half → rest ≡ more - half → all ≡ min whole more
    halves whole half more rest all low high both at_low at_high two is = omega (arith, both, at_low, at_high, two, is)

pub free-entry : (level : ℕ) (v : Variable) → length (entry_along [] level v) ≡ length v.values
free-entry level v =
    let enough = code_enough (length v.values) in
    let size = free-numbers (length v.values) level (bits_of v) 0 in
    omega (arith, enough, size)

pub free-field : (lits : List Lit) (level : ℕ) (v : Variable) → length lits ≡ 0 → entry_field v (entry_along (path_of lits) level v) ≡ codes "-"
free-field [] level v none =
    cond-true (length (entry_along [] level v) == length v.values) (codes "-") (values_field v (entry_along [] level v)) (eq-eqb (length (entry_along [] level v)) (length v.values) (free-entry level v))
free-field (l ∷ lits) level v none = absurd (omega (arith, none))

-- the literals that are left of a path from a level on
pub record IsLeft (path left : Path) (level : ℕ) : Type 0 where
  pub rises : RisesFrom level left
  pub asks : (k : ℕ) (bit : Bool) → level ≤ k → allows_bit left k bit ≡ allows_bit path k bit

pub left-start : (lits left : List Lit) (level : ℕ) → RisesFrom 0 (path_of lits) → left ≡ drop (count_before (path_of lits) level) lits → IsLeft (path_of lits) (path_of left) level
left-start lits left level rise is =
    let same : path_of left ≡ drop (count_before (path_of lits) level) (path_of lits) = ap path_of is ∙ dropped lits (count_before (path_of lits) level) in
    record {
      rises = subst (RisesFrom level) (sym same) (rest-rises (path_of lits) 0 level rise);
      asks = λ k bit low. ap (λ path. allows_bit path k bit) same ∙ left-asks (path_of lits) level k bit low;
    }

pub left-on : (path : Path) (left more : List Lit) (level end : ℕ) → IsLeft path (path_of left) level → level ≤ end → more ≡ drop (count_before (path_of left) end) left → IsLeft path (path_of more) end
left-on path left more level end before less is =
    let same : path_of more ≡ drop (count_before (path_of left) end) (path_of left) = ap path_of is ∙ dropped left (count_before (path_of left) end) in
    record {
      rises = subst (RisesFrom end) (sym same) (rest-rises (path_of left) level end before.rises);
      asks = λ k bit low. ap (λ path. allows_bit path k bit) same ∙ left-asks (path_of left) end k bit low ∙ before.asks k bit (omega (arith, less, low));
    }

pub here-asks : (path : Path) (left here : List Lit) (level end : ℕ) → IsLeft path (path_of left) level → here ≡ take (count_before (path_of left) end) left → (k : ℕ) (bit : Bool) → level ≤ k → k < end → allows_bit (path_of here) k bit ≡ allows_bit path k bit
here-asks path left here level end before is k bit low high =
    ap (λ lits. allows_bit (path_of lits) k bit) is
    ∙ ap (λ path. allows_bit path k bit) (taken left (count_before (path_of left) end))
    ∙ front-asks (path_of left) level end k bit before.rises high
    ∙ before.asks k bit low
