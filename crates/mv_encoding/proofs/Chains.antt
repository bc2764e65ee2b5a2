-- One node more on a chain of codes.
use Rattle.std.proofs.Common.{◌≡◌, ◌==◌, ◌&&◌, ◌+◌, ◌-◌, ◌*◌, ◌^◌, ◌<◌, ◌≤◌, ◌∙◌, ℕ, zero, suc, Bool, true, false, if◌then◌else◌, sym, ap, arith}
use Rattle.std.specs.Prelude.{nat_lt}
use Rattle.std.proofs.lemmas.Bool.{eqb-true, eq-eqb, ne_eqb, ltb-true, lt-ltb, le-ltb}
use Rattle.node_table.specs.Table.{Bits, Table, value_at, IsConstant, IsValid, Grows, Makes}
use Rattle.bdd_ops.specs.Recursion.{StandsBelow}
use Rattle.bdd_ops.proofs.Members.{same-tests}
use Rattle.name_table.proofs.Powers.{twice}
use Rattle.mv_encoding.specs.Layouts.{number_at}
use Rattle.mv_encoding.proofs.Spelling.{number-first, number-below}

-- half the number of codes
pub two-halves : (b : ℕ) → 0 < b → 2 ^ b ≡ 2 * 2 ^ (b - 1)
two-halves zero some = absurd (omega (arith, some))
two-halves (suc b) some = let e : suc b - 1 ≡ b = omega arith in rw e (twice b)

-- whether a first bit and a rest spell a number
same-above : (half m n : ℕ) → (half + m == half + n) ≡ (m == n)
same-above half m n =
    same-tests (half + m == half + n) (m == n)
    (λ e. let is = eqb-true (half + m) (half + n) e in eq-eqb m n (omega (arith, is)))
    (λ e. let is = eqb-true m n e in eq-eqb (half + m) (half + n) (omega (arith, is)))

same-below : (m n : ℕ) → (0 + m == 0 + n) ≡ (m == n)
same-below m n = same-above 0 m n

pub spells : (half m n : ℕ) (x bit : Bool) → m < half → n < half → ((if x then half else 0) + m == (if bit then half else 0) + n) ≡ (if x then (if bit then m == n else false) else (if bit then false else m == n))
spells half m n true true p q = same-above half m n
spells half m n true false p q = ne_eqb (half + m) (0 + n) (λ e. omega (arith, e, p, q))
spells half m n false true p q = ne_eqb (0 + m) (half + n) (λ e. omega (arith, e, p, q))
spells half m n false false p q = same-below m n

-- whether a first bit and a rest spell a number below an end
pub below-low : (half m end : ℕ) (x r : Bool) → end ≤ half → (if x then false else nat_lt m end && r) ≡ (nat_lt ((if x then half else 0) + m) end && r)
below-low half m end true r few = ap (λ t. t && r) (sym (le-ltb (half + m) end (omega (arith, few))))
below-low half m end false r few = let same : m ≡ 0 + m = omega arith in ap (λ n. nat_lt n end && r) same

pub below-high : (half m end : ℕ) (x r : Bool) → m < half → half < end → (if x then nat_lt m (end - half) && r else r) ≡ (nat_lt ((if x then half else 0) + m) end && r)
below-high half m end true r small more =
    ap (λ t. t && r)
    (same-tests (nat_lt m (end - half)) (nat_lt (half + m) end)
    (λ e. let is = ltb-true m (end - half) e in lt-ltb (half + m) end (omega (arith, is, more)))
    (λ e. let is = ltb-true (half + m) end e in lt-ltb m (end - half) (omega (arith, is, more))))
below-high half m end false r small more = ap (λ t. t && r) (sym (lt-ltb (0 + m) end (omega (arith, small, more))))

zero-later : {t a : Table} {low : ℕ} → IsConstant t false low → Grows t a → (b : Bits) → value_at a low b ≡ false
zero-later {t} {a} {low} constant grow b = grow.value low constant.valid.held b ∙ constant.value b

-- the codes of a number, by its first bit
pub spelled : (level bits number rest : ℕ) (bit : Bool) (below : Bits → Bool) → 0 < bits → rest < 2 ^ (bits - 1) → number ≡ (if bit then 2 ^ (bits - 1) else 0) + rest → ((b : Bits) → below b ≡ (number_at (level + 1) (bits - 1) b == rest)) → (b : Bits) → (if b level then (if bit then below b else false) else (if bit then false else below b)) ≡ (number_at level bits b == number)
spelled level bits number rest bit below some small sum same b =
    (λ i. if b level then (if bit then same b i else false) else (if bit then false else same b i))
    ∙ sym (spells (2 ^ (bits - 1)) (number_at (level + 1) (bits - 1) b) rest (b level) bit (number-below (bits - 1) (level + 1) b) small)
    ∙ (λ i. sym (number-first level bits b some) i == sym sum i)

-- the values of the node on the way to a number, by its first bit
pub high-value : {t a : Table} {low below : ℕ} (level bits number rest : ℕ) (bit : Bool) → bit ≡ true → 0 < bits → rest < 2 ^ (bits - 1) → number ≡ (if bit then 2 ^ (bits - 1) else 0) + rest → IsConstant t false low → Grows t a → StandsBelow a (level + 1) below (λ b. number_at (level + 1) (bits - 1) b == rest) → (b : Bits) → (if b level then value_at a below b else value_at a low b) ≡ (number_at level bits b == number)
high-value {t} {a} {low} {below} level bits number rest bit is some small sum constant grow stands b =
    (λ i. if b level then value_at a below b else zero-later constant grow b i)
    ∙ spelled level bits number rest true (value_at a below) some small (sum ∙ ap (λ x. (if x then 2 ^ (bits - 1) else 0) + rest) is) stands.value b

pub low-value : {t a : Table} {low below : ℕ} (level bits number rest : ℕ) (bit : Bool) → bit ≡ false → 0 < bits → rest < 2 ^ (bits - 1) → number ≡ (if bit then 2 ^ (bits - 1) else 0) + rest → IsConstant t false low → Grows t a → StandsBelow a (level + 1) below (λ b. number_at (level + 1) (bits - 1) b == rest) → (b : Bits) → (if b level then value_at a low b else value_at a below b) ≡ (number_at level bits b == number)
low-value {t} {a} {low} {below} level bits number rest bit is some small sum constant grow stands b =
    (λ i. if b level then zero-later constant grow b i else value_at a below b)
    ∙ spelled level bits number rest false (value_at a below) some small (sum ∙ ap (λ x. (if x then 2 ^ (bits - 1) else 0) + rest) is) stands.value b

-- the codes below an end, by the half of the codes in which it lies
pub half-value : {t a : Table} {low below : ℕ} (level bits end rest : ℕ) → 0 < bits → end ≤ 2 ^ (bits - 1) → IsConstant t false low → Grows t a → StandsBelow a (level + 1) below (λ b. nat_lt (number_at (level + 1) (bits - 1) b) end && value_at t rest b) → (b : Bits) → (if b level then value_at a low b else value_at a below b) ≡ (nat_lt (number_at level bits b) end && value_at t rest b)
half-value {t} {a} {low} {below} level bits end rest some few constant grow stands b =
    (λ i. if b level then zero-later constant grow b i else stands.value b i)
    ∙ below-low (2 ^ (bits - 1)) (number_at (level + 1) (bits - 1) b) end (b level) (value_at t rest b) few
    ∙ (λ i. nat_lt (sym (number-first level bits b some) i) end && value_at t rest b)

pub more-value : {t a : Table} {below : ℕ} (level bits end rest : ℕ) → 0 < bits → 2 ^ (bits - 1) < end → IsValid t rest → Grows t a → StandsBelow a (level + 1) below (λ b. nat_lt (number_at (level + 1) (bits - 1) b) (end - 2 ^ (bits - 1)) && value_at t rest b) → (b : Bits) → (if b level then value_at a below b else value_at a rest b) ≡ (nat_lt (number_at level bits b) end && value_at t rest b)
more-value {t} {a} {below} level bits end rest some more valid grow stands b =
    (λ i. if b level then stands.value b i else grow.value rest valid.held b i)
    ∙ below-high (2 ^ (bits - 1)) (number_at (level + 1) (bits - 1) b) end (b level) (value_at t rest b) (number-below (bits - 1) (level + 1) b) more
    ∙ (λ i. nat_lt (sym (number-first level bits b some) i) end && value_at t rest b)

-- a node with these values stands for them
pub stands-made : {a new : Table} {level lo hi r : ℕ} (meaning : Bits → Bool) → ((b : Bits) → (if b level then value_at a hi b else value_at a lo b) ≡ meaning b) → Makes a new level lo hi r → StandsBelow new level r meaning
stands-made meaning is made = record { valid = made.valid; top = made.top; value = λ b. made.value b ∙ is b }
