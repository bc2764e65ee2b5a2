-- Bits along a path, and the values of a row.
use Rattle.std.proofs.Common.{◌≡◌, ◌==◌, ◌&&◌, ◌||◌, ◌+◌, ◌^◌, ◌<◌, ◌≤◌, ℕ, zero, suc, Bool, true, false, if◌then◌else◌, List, [], ◌∷◌, ◌++◌, length, refl, sym, ap, ◌∙◌, arith, zero-add}
use Rattle.std.specs.Prelude.{nat_lt}
use Rattle.std.specs.List.{list_any}
use Rattle.std.proofs.lemmas.Bool.{eq-eqb, ne_eqb, lt-ltb, ltb-true, or_from, true≢false}
use Rattle.std.proofs.lemmas.List.Folds.{list_any-append}
use Rattle.name_table.proofs.Powers.{twice}
use Rattle.name_table.specs.CodeBits.{bits_of, bits_in}
use Rattle.net_model.specs.Words.{Scope, IsLetter}
use Rattle.net_model.specs.Listings.{allows}
use Rattle.net_model.specs.Printed.{RisesBelow}
use Rattle.node_table.specs.Table.{Bits}
use Rattle.mv_encoding.specs.Layouts.{number_at, numbers_at}
use Rattle.mv_encoding.proofs.Spelling.{number-below}
use Rattle.bdd_walk.specs.Paths.{Path}
use Rattle.aut_format.specs.Rows.{allows_bit, numbers_along, values_below, entries_along}

-- the path asks for no other bits among so many levels from this one on
abbrev pub along : Path → ℕ → ℕ → Bits → Bool
along path level zero bits = true
along path level (suc b) bits = allows_bit path level (bits level) && along path (level + 1) b bits

-- weaker bounds
pub rises-from : (low lower high : ℕ) (ks : List ℕ) → lower ≤ low → RisesBelow low high ks → RisesBelow lower high ks
rises-from low lower high [] less rise = tt
rises-from low lower high (k ∷ ks) less rise = (omega (arith, rise.0), rise.1, rise.2)

rises-to : (low high higher : ℕ) (ks : List ℕ) → high ≤ higher → RisesBelow low high ks → RisesBelow low higher ks
rises-to low high higher [] more rise = tt
rises-to low high higher (k ∷ ks) more rise = (rise.0, omega (arith, rise.1), rises-to (k + 1) high higher ks more rise.2)

rises-append : (low mid high : ℕ) (xs ys : List ℕ) → low ≤ mid → mid ≤ high → RisesBelow low mid xs → RisesBelow mid high ys → RisesBelow low high (xs ++ ys)
rises-append low mid high [] ys up on rise more = rises-from mid low high ys up more
rises-append low mid high (k ∷ xs) ys up on rise more = (rise.0, omega (arith, rise.1, on), rises-append (k + 1) mid high xs ys (omega (arith, rise.1)) on rise.2 more)

rises-if : (b : Bool) (low high : ℕ) (ks : List ℕ) → RisesBelow low high ks → RisesBelow low high (if b then ks else [])
rises-if true low high ks rise = rise
rises-if false low high ks rise = tt

pub numbers-rise : (path : Path) (level b base : ℕ) → RisesBelow base (base + 2 ^ b) (numbers_along path level b base)
numbers-rise path level zero base = (omega arith, omega arith, tt)
numbers-rise path level (suc b) base =
    let half = twice b in
    let lows = rises-if (allows_bit path level false) base (base + 2 ^ b) (numbers_along path (level + 1) b base) (numbers-rise path (level + 1) b base) in
    let highs = rises-if (allows_bit path level true) (base + 2 ^ b) (base + 2 ^ b + 2 ^ b) (numbers_along path (level + 1) b (base + 2 ^ b)) (numbers-rise path (level + 1) b (base + 2 ^ b)) in
    rises-to base (base + 2 ^ b + 2 ^ b) (base + 2 ^ suc b) (numbers_along path level (suc b) base) (omega (arith, half))
    (rises-append base (base + 2 ^ b) (base + 2 ^ b + 2 ^ b) _ _ (omega arith) (omega arith) lows highs)

-- what is out of the bounds isn't there
pub out-below : (low high a : ℕ) (ks : List ℕ) → a < low → RisesBelow low high ks → list_any (λ v. v == a) ks ≡ false
out-below low high a [] less rise = refl
out-below low high a (k ∷ ks) less rise = or_from (k == a) (list_any (λ v. v == a) ks) (ne_eqb k a (λ e. omega (arith, less, rise.0, e))) (out-below (k + 1) high a ks (omega (arith, less, rise.0)) rise.2)

pub out-above : (low high a : ℕ) (ks : List ℕ) → high ≤ a → RisesBelow low high ks → list_any (λ v. v == a) ks ≡ false
out-above low high a [] more rise = refl
out-above low high a (k ∷ ks) more rise = or_from (k == a) (list_any (λ v. v == a) ks) (ne_eqb k a (λ e. omega (arith, more, rise.1, e))) (out-above (k + 1) high a ks more rise.2)

any-if : (b : Bool) (a : ℕ) (ks : List ℕ) → list_any (λ v. v == a) (if b then ks else []) ≡ (b && list_any (λ v. v == a) ks)
any-if true a ks = refl
any-if false a ks = refl

or-front : (x y z : Bool) → x ≡ z → y ≡ false → (x || y) ≡ z
or-front true y z e f = e
or-front false y z e f = f ∙ e

or-back : (x y z : Bool) → x ≡ false → y ≡ z → (x || y) ≡ z
or-back true y z e f = absurd (true≢false e)
or-back false y z e f = f

-- the number that bits spell is one of those along a path exactly where the path asks for no other bits
pub number-along : (path : Path) (level b base a : ℕ) (bits : Bits) → a ≡ base + number_at level b bits → list_any (λ v. v == a) (numbers_along path level b base) ≡ along path level b bits
number-along path level zero base a bits is = or-front (base == a) false true (eq-eqb base a (omega (arith, is))) refl
number-along path level (suc b) base a bits is =
    let small = number-below b (level + 1) bits in
    let lows = numbers_along path (level + 1) b base in
    let highs = numbers_along path (level + 1) b (base + 2 ^ b) in
    let split = list_any-append (λ v. v == a) (if allows_bit path level false then lows else []) (if allows_bit path level true then highs else []) in
    let low_rise = rises-if (allows_bit path level false) base (base + 2 ^ b) lows (numbers-rise path (level + 1) b base) in
    let high_rise = rises-if (allows_bit path level true) (base + 2 ^ b) (base + 2 ^ b + 2 ^ b) highs (numbers-rise path (level + 1) b (base + 2 ^ b)) in
    split ∙ by (bits level) is small low_rise high_rise (number-along path (level + 1) b base a bits) (number-along path (level + 1) b (base + 2 ^ b) a bits)
  where
    rest : ℕ
    rest = number_at (level + 1) b bits

    low : List ℕ
    low = numbers_along path (level + 1) b base

    high : List ℕ
    high = numbers_along path (level + 1) b (base + 2 ^ b)

    by : (bit : Bool) → a ≡ base + ((if bit then 2 ^ b else 0) + rest) → rest < 2 ^ b
        → RisesBelow base (base + 2 ^ b) (if allows_bit path level false then low else [])
        → RisesBelow (base + 2 ^ b) (base + 2 ^ b + 2 ^ b) (if allows_bit path level true then high else [])
        → (a ≡ base + rest → list_any (λ v. v == a) low ≡ along path (level + 1) b bits)
        → (a ≡ base + 2 ^ b + rest → list_any (λ v. v == a) high ≡ along path (level + 1) b bits)
        → (list_any (λ v. v == a) (if allows_bit path level false then low else []) || list_any (λ v. v == a) (if allows_bit path level true then high else [])) ≡ (allows_bit path level bit && along path (level + 1) b bits)
    by false at less lows highs in_low in_high =
        or-front _ _ _
        (any-if (allows_bit path level false) a low ∙ ap (λ x. allows_bit path level false && x) (in_low (omega (arith, at))))
        (out-below (base + 2 ^ b) (base + 2 ^ b + 2 ^ b) a _ (omega (arith, at, less)) highs)
    by true at less lows highs in_low in_high =
        or-back _ _ _
        (out-above base (base + 2 ^ b) a _ (omega (arith, at)) lows)
        (any-if (allows_bit path level true) a high ∙ ap (λ x. allows_bit path level true && x) (in_high (omega (arith, at))))

-- the numbers that are values
pub values-rise : (low high count : ℕ) (ks : List ℕ) → RisesBelow low high ks → RisesBelow low count (values_below count ks)
values-rise low high count [] rise = tt
values-rise low high count (k ∷ ks) rise = by (nat_lt k count) refl (values-rise (k + 1) high count ks rise.2)
  where
    by : (b : Bool) → nat_lt k count ≡ b → RisesBelow (k + 1) count (values_below count ks) → RisesBelow low count (if b then k ∷ values_below count ks else values_below count ks)
    by true less more = (rise.0, ltb-true k count less, more)
    by false less more = rises-from (k + 1) low count (values_below count ks) (omega (arith, rise.0)) more

pub value-kept : (count a : ℕ) (ks : List ℕ) → a < count → list_any (λ v. v == a) (values_below count ks) ≡ list_any (λ v. v == a) ks
value-kept count a [] less = refl
value-kept count a (k ∷ ks) less = by (nat_lt k count) refl (value-kept count a ks less)
  where
    by : (b : Bool) → nat_lt k count ≡ b → list_any (λ v. v == a) (values_below count ks) ≡ list_any (λ v. v == a) ks → list_any (λ v. v == a) (if b then k ∷ values_below count ks else values_below count ks) ≡ ((k == a) || list_any (λ v. v == a) ks)
    by true is rest = ap (λ x. (k == a) || x) rest
    by false is rest = rest ∙ sym (or-back (k == a) (list_any (λ v. v == a) ks) (list_any (λ v. v == a) ks) (ne_eqb k a (λ e. true≢false (sym (lt-ltb k count (omega (arith, less, e))) ∙ is))) refl)

along-append : (path : Path) (level b c : ℕ) (bits : Bits) → along path level (b + c) bits ≡ (along path level b bits && along path (level + b) c bits)
along-append path level zero c bits =
    let same : level ≡ level + 0 = omega arith in
    ap (λ n. along path level n bits) (zero-add c) ∙ ap (λ l. along path l c bits) same
along-append path level (suc b) c bits =
    let same : level + 1 + b ≡ level + suc b = omega arith in
    let more : suc b + c ≡ suc (b + c) = omega arith in
    ap (λ n. along path level n bits) more
    ∙ ap (λ x. allows_bit path level (bits level) && x) (along-append path (level + 1) b c bits ∙ ap (λ l. along path (level + 1) b bits && along path l c bits) same)
    ∙ sym (and-assoc (allows_bit path level (bits level)) (along path (level + 1) b bits) (along path (level + suc b) c bits))
  where
    and-assoc : (x y z : Bool) → ((x && y) && z) ≡ (x && (y && z))
    and-assoc true y z = refl
    and-assoc false y z = refl

-- The entries along a path allow the letter that bits spell exactly where the path asks for no other bits.
pub letter-along : (path : Path) (level : ℕ) (scope : Scope) (bits : Bits) → IsLetter scope (numbers_at scope level bits) → allows (entries_along path level scope) (numbers_at scope level bits) ≡ along path level (bits_in scope) bits
letter-along path level [] bits is = refl
letter-along path level (v ∷ scope) bits is =
    let number = number_at level (bits_of v) bits in
    let here = value-kept (length v.values) number (numbers_along path level (bits_of v) 0) is.0 ∙ number-along path level (bits_of v) 0 number bits (sym (zero-add number)) in
    let there = letter-along path (level + bits_of v) scope bits is.1 in
    (λ i. here i && there i) ∙ sym (along-append path level (bits_of v) (bits_in scope) bits)
