-- The codes of letters.
use Rattle.std.proofs.Common.{◌≡◌, ◌==◌, ◌&&◌, ◌↔◌, ◌+◌, ◌-◌, ◌^◌, ◌<◌, ◌≤◌, ◌⊎◌, ◌∙◌, ℕ, zero, suc, Bool, true, false, if◌then◌else◌, List, [], ◌∷◌, ◌++◌, length, get_or, take, drop, refl, sym, ap, inl, inr, arith, zero-add}
use Rattle.std.proofs.lemmas.List.{take_more}
use Rattle.std.specs.Prelude.{nat_lt}
use Rattle.std.specs.List.{range_with_len}
use Rattle.std.proofs.lemmas.Bool.{cases_lt, eqb-true, eq-eqb, ltb-true, lt-ltb, le-ltb, and_parts, and_from, false≢true}
use Rattle.name_table.specs.ScopeVars.{variable_at}
use Rattle.name_table.proofs.Powers.{code_enough}
use Rattle.net_model.specs.Words.{Variable, Scope, Letter, IsLetter}
use Rattle.node_table.specs.Table.{Bits, Table, value_at}
use Rattle.bdd_ops.specs.Levels.{SameAt}
use Rattle.bdd_ops.specs.Meaning.{StandsFor}
use Rattle.bdd_ops.specs.Recursion.{StandsBelow}
use Rattle.mv_encoding.specs.declared.field.Field.{Field}
use Rattle.name_table.specs.CodeBits.{bits_of, bits_in}
use Rattle.mv_encoding.specs.Layouts.{Layout, bits_before, number_at, numbers_at, number_of, numbers_of, is_letter}
use Rattle.mv_encoding.specs.Sets.{StandsForSet, layout_of, HasCode}
use Rattle.mv_encoding.specs.Fields.{field_at, level_of, is_letter_from}
use Rattle.mv_encoding.proofs.Places.{before-next, drop-next, take-next}
use Rattle.mv_encoding.proofs.Ranges.{in-range, range-in}
use Rattle.mv_encoding.proofs.Spelling.{number-same, bits-same, some-bits}

-- bits that agree have the same numbers
pub numbers-same : (scope : Scope) (level : ℕ) (u v : Bits) → ((k : ℕ) → level ≤ k → k < level + bits_in scope → u k ≡ v k) → numbers_at scope level u ≡ numbers_at scope level v
numbers-same [] level u v same = refl
numbers-same (x ∷ scope) level u v same =
    let first = number-same (bits_of x) level u v (λ k low high. same k low (omega (arith, high))) in
    let rest = numbers-same scope (level + bits_of x) u v (λ k low high. same k (omega (arith, low)) (omega (arith, high))) in
    λ i. first i ∷ rest i

same-parts : (m n : ℕ) (xs ys : List ℕ) → m ∷ xs ≡ n ∷ ys → (m ≡ n) × (xs ≡ ys)
same-parts m n xs ys e = (cc, cc)

-- and bits with the same numbers agree
pub codes-same : (scope : Scope) (level : ℕ) (u v : Bits) → numbers_at scope level u ≡ numbers_at scope level v → (k : ℕ) → level ≤ k → k < level + bits_in scope → u k ≡ v k
codes-same [] level u v same k low high = absurd (omega (arith, low, high))
codes-same (x ∷ scope) level u v same k low high =
    let parts = same-parts (number_at level (bits_of x) u) (number_at level (bits_of x) v) (numbers_at scope (level + bits_of x) u) (numbers_at scope (level + bits_of x) v) same in
    elim (cases_lt k (level + bits_of x)) [
      | inl here ↦ bits-same (bits_of x) level u v parts.0 k low here
      | inr later ↦ codes-same scope (level + bits_of x) u v parts.1 k later (omega (arith, high))
    ]

-- bits have the same numbers exactly where they agree at the levels
pub one-code : (scope : Scope) (first : ℕ) (u v : Bits) → (numbers_at scope first u ≡ numbers_at scope first v) ↔ SameAt (range_with_len first (bits_in scope)) u v
one-code scope first u v = (
  λ same k member. let at = range-in (bits_in scope) first k member in codes-same scope first u v same k at.0 at.1,
  λ same. numbers-same scope first u v (λ k low high. same k (in-range (bits_in scope) first k low high)),
)

-- some bits up to a level, and others from there on
abbrev joined : ℕ → Bits → Bits → Bits
joined level u v k = if nat_lt k level then u k else v k

-- each letter has a code
pub some-code : (scope : Scope) (level : ℕ) (letter : Letter) → IsLetter scope letter → (bits : Bits) × (numbers_at scope level bits ≡ letter)
some-code [] level [] is = (λ k. false, refl)
some-code [] level (a ∷ letter) is = absurd is
some-code (v ∷ scope) level [] is = absurd is
some-code (v ∷ scope) level (a ∷ letter) is =
    let enough = code_enough (length v.values) in
    let mid : ℕ = level + bits_of v in
    let first = some-bits (bits_of v) level a (omega (arith, is.0, enough)) in
    let rest = some-code scope mid letter is.1 in
    let here = number-same (bits_of v) level (joined mid first.0 rest.0) first.0
    (λ k low high. ap (λ t. if t then first.0 k else rest.0 k) (lt-ltb k mid high)) ∙ first.1 in
    let there = numbers-same scope mid (joined mid first.0 rest.0) rest.0
    (λ k low high. ap (λ t. if t then first.0 k else rest.0 k) (le-ltb k mid low)) ∙ rest.1 in
    (joined mid first.0 rest.0, λ i. here i ∷ there i)

-- the test of a letter decides it
pub letter-test : (scope : Scope) (letter : Letter) → (is_letter scope letter ≡ true) ↔ IsLetter scope letter
letter-test [] [] = (λ test. tt, λ is. refl)
letter-test [] (a ∷ letter) = (λ test. false≢true test, λ is. absurd is)
letter-test (v ∷ scope) [] = (λ test. false≢true test, λ is. absurd is)
letter-test (v ∷ scope) (a ∷ letter) =
    let rest = letter-test scope letter in (
      λ test. let parts = and_parts (nat_lt a (length v.values)) (is_letter scope letter) test in (ltb-true a (length v.values) parts.0, rest.0 parts.1),
      λ is. and_from (nat_lt a (length v.values)) (is_letter scope letter) (lt-ltb a (length v.values) is.0) (rest.1 is.1),
    )

-- the numbers of two scopes, one after the other
pub numbers-append : (front back : Scope) (level : ℕ) (bits : Bits) → numbers_at (front ++ back) level bits ≡ numbers_at front level bits ++ numbers_at back (level + bits_in front) bits
numbers-append [] back level bits = let same : level ≡ level + 0 = omega arith in ap (λ l. numbers_at back l bits) same
numbers-append (v ∷ front) back level bits =
    let same : level + bits_of v + bits_in front ≡ level + (bits_of v + bits_in front) = omega arith in
    let rest = numbers-append front back (level + bits_of v) bits in
    ap (λ ns. number_at level (bits_of v) bits ∷ ns) (rest ∙ ap (λ l. numbers_at front (level + bits_of v) bits ++ numbers_at back l bits) same)

-- a letter has a value for each variable, and it is one of the variable's
pub letter-length : (scope : Scope) (letter : Letter) → IsLetter scope letter → length letter ≡ length scope
letter-length [] [] is = refl
letter-length [] (a ∷ letter) is = absurd is
letter-length (v ∷ scope) [] is = absurd is
letter-length (v ∷ scope) (a ∷ letter) is = ap suc (letter-length scope letter is.1)

pub letter-value : (scope : Scope) (letter : Letter) (var d : ℕ) → IsLetter scope letter → var < length scope → get_or letter var d < length (variable_at scope var).values
letter-value [] [] var d is known = absurd (omega (arith, known))
letter-value [] (a ∷ letter) var d is known = absurd is
letter-value (v ∷ scope) [] var d is known = absurd is
letter-value (v ∷ scope) (a ∷ letter) zero d is known = is.0
letter-value (v ∷ scope) (a ∷ letter) (suc var) d is known = letter-value scope letter var d is.1 (omega (arith, known))

-- the code of the variables so far, and of one more
pub code-next : (scope : Scope) (letter : Letter) (var d : ℕ) (u v : Bits) → IsLetter scope letter → var < length scope → numbers_at (take var scope) 0 u ≡ take var letter → ((k : ℕ) → (k < bits_before scope var) ⊎ (bits_before scope var + bits_of (variable_at scope var) ≤ k) → v k ≡ u k) → number_at (bits_before scope var) (bits_of (variable_at scope var)) v ≡ get_or letter var d → numbers_at (take (var + 1) scope) 0 v ≡ take (var + 1) letter
code-next scope letter var d u v is known so_far kept new =
    let size = letter-length scope letter is in
    let x : Variable = variable_at scope var in
    ap (λ vs. numbers_at vs 0 v) (take-next scope var known)
    ∙ numbers-append (take var scope) (x ∷ []) 0 v
    ∙ (λ i. numbers-same (take var scope) 0 v u (λ k low high. kept k (inl (omega (arith, high)))) i ++ numbers_at (x ∷ []) (zero-add (bits_before scope var) i) v)
    ∙ (λ i. so_far i ++ new i ∷ [])
    ∙ sym (take_more letter var d (omega (arith, size, known)))

-- and what is 0 behind them
pub rest-next : (scope : Scope) (var : ℕ) (u v : Bits) → var < length scope → ((k : ℕ) → bits_before scope var ≤ k → u k ≡ false) → ((k : ℕ) → (k < bits_before scope var) ⊎ (bits_before scope var + bits_of (variable_at scope var) ≤ k) → v k ≡ u k) → (k : ℕ) → bits_before scope (var + 1) ≤ k → v k ≡ false
rest-next scope var u v known zeroes kept k past =
    let next = before-next scope var known in
    kept k (inr (omega (arith, next, past))) ∙ zeroes k (omega (arith, next, past))

-- the letters from a variable on, by its number and those behind it
pub letter-from : (layout : Layout) (var : ℕ) → var < length layout.scope → (bits : Bits) → is_letter_from layout var bits ≡ (nat_lt (number_at (level_of layout var) (bits_of (variable_at layout.scope var)) bits) (length (variable_at layout.scope var).values) && is_letter_from layout (var + 1) bits)
letter-from layout var known bits =
    let next = before-next layout.scope var known in
    let x : Variable = variable_at layout.scope var in
    let later : level_of layout var + bits_of x ≡ level_of layout (var + 1) = omega (arith, next) in
    ap (λ vs. is_letter vs (numbers_at vs (level_of layout var) bits)) (drop-next layout.scope var known)
    ∙ ap (λ l. nat_lt (number_at (level_of layout var) (bits_of x) bits) (length x.values) && is_letter (drop (var + 1) layout.scope) (numbers_at (drop (var + 1) layout.scope) l bits)) later

-- the value of the letters from a variable on, by that of those behind it
pub valid-value : {t : Table} {codes : ℕ} (layout : Layout) (var next level : ℕ) (field : Field) → var < length layout.scope → next ≡ var + 1 → level ≡ level_of layout var → field ≡ field_at layout.scope var → StandsBelow t (level_of layout next) codes (is_letter_from layout next) → (b : Bits) → (nat_lt (number_at level field.bits b) field.values && value_at t codes b) ≡ is_letter_from layout var b
valid-value {t} {codes} layout var next level field known after at is behind b =
    (λ i. nat_lt (number_at (at i) (is i).bits b) (is i).values && behind.value b i)
    ∙ ap (λ n. nat_lt (number_at (level_of layout var) (bits_of (variable_at layout.scope var)) b) (length (variable_at layout.scope var).values) && is_letter_from layout n b) after
    ∙ sym (letter-from layout var known b)

-- and the diagram
pub valid-next : {t new : Table} {codes r : ℕ} (layout : Layout) (var next level : ℕ) (field : Field) → var < length layout.scope → next ≡ var + 1 → level ≡ level_of layout var → field ≡ field_at layout.scope var → StandsBelow t (level_of layout next) codes (is_letter_from layout next) → StandsBelow new level r (λ b. nat_lt (number_at level field.bits b) field.values && value_at t codes b) → StandsBelow new (level_of layout var) r (is_letter_from layout var)
valid-next {t} {new} {codes} {r} layout var next level field known after at is behind made = record {
  valid = made.valid;
  top = omega (arith, at, made.top);
  value = λ b. made.value b ∙ valid-value layout var next level field known after at is behind b;
}

-- no bits spell the one value that there is
pub no-bits-value : (b level value values : ℕ) (bits : Bits) → b ≡ 0 → value < values → values ≤ 2 ^ b → (number_at level b bits == value) ≡ true
no-bits-value zero level value values bits none small enough = eq-eqb 0 value (omega (arith, small, enough))
no-bits-value (suc b) level value values bits none small enough = absurd (omega (arith, none))

-- and the letter of such values
pub no-bits-letter : (scope : Scope) (level : ℕ) (bits : Bits) → bits_in scope ≡ 0 → ((var : ℕ) → var < length scope → 0 < length (variable_at scope var).values) → is_letter scope (numbers_at scope level bits) ≡ true
no-bits-letter [] level bits none some = refl
no-bits-letter (v ∷ scope) level bits none some =
    let here : bits_of v ≡ 0 = omega (arith, none) in
    let number : number_at level (bits_of v) bits ≡ 0 = ap (λ b. number_at level b bits) here in
    let first = some 0 (omega arith) in
    and_from (nat_lt (number_at level (bits_of v) bits) (length v.values)) (is_letter scope (numbers_at scope (level + bits_of v) bits))
    (lt-ltb (number_at level (bits_of v) bits) (length v.values) (omega (arith, number, first)))
    (no-bits-letter scope (level + bits_of v) bits (omega (arith, none)) (λ var known. some (suc var) (omega (arith, known))))

-- numbers that are read at two places
number-shift : (b a c : ℕ) (u v : Bits) → ((k : ℕ) → k < b → u (a + k) ≡ v (c + k)) → number_at a b u ≡ number_at c b v
number-shift zero a c u v same = refl
number-shift (suc b) a c u v same =
    let from : a ≡ a + 0 = omega arith in
    let to : c + 0 ≡ c = omega arith in
    let here : u a ≡ v c = ap u from ∙ same 0 (omega arith) ∙ ap v to in
    let rest = number-shift b (a + 1) (c + 1) u v (λ k low.
    let left : a + 1 + k ≡ a + (k + 1) = omega arith in
    let right : c + (k + 1) ≡ c + 1 + k = omega arith in
    ap u left ∙ same (k + 1) (omega (arith, low)) ∙ ap v right) in
    λ i. (if here i then 2 ^ b else 0) + rest i

numbers-shift : (scope : Scope) (a c : ℕ) (u v : Bits) → ((k : ℕ) → k < bits_in scope → u (a + k) ≡ v (c + k)) → numbers_at scope a u ≡ numbers_at scope c v
numbers-shift [] a c u v same = refl
numbers-shift (x ∷ scope) a c u v same =
    let first = number-shift (bits_of x) a c u v (λ k low. same k (omega (arith, low))) in
    let rest = numbers-shift scope (a + bits_of x) (c + bits_of x) u v (λ k low.
    let left : a + bits_of x + k ≡ a + (bits_of x + k) = omega arith in
    let right : c + (bits_of x + k) ≡ c + bits_of x + k = omega arith in
    ap u left ∙ same (bits_of x + k) (omega (arith, low)) ∙ ap v right) in
    λ i. first i ∷ rest i

-- bits have the numbers of a code exactly where they have its bits
pub code-laid : (layout : Layout) (letter : Letter) (code : ℕ → Bool) → numbers_at layout.scope 0 code ≡ letter → (bits : Bits) → HasCode layout code bits ↔ (numbers_of layout bits ≡ letter)
code-laid layout letter code is bits = (
  λ has. numbers-shift layout.scope layout.first 0 bits code (λ k low. let zeroes : k ≡ 0 + k = omega arith in has k low ∙ ap code zeroes) ∙ is,
  λ same k low.
      let v : Bits = λ j. code (j - layout.first) in
      let there : numbers_at layout.scope layout.first v ≡ numbers_at layout.scope 0 code = numbers-shift layout.scope layout.first 0 v code (λ j below. let back : layout.first + j - layout.first ≡ 0 + j = omega arith in ap code back) in
      let last : layout.first + k - layout.first ≡ k = omega arith in
      codes-same layout.scope layout.first bits v (same ∙ sym is ∙ sym there) (layout.first + k) (omega arith) (omega (arith, low)) ∙ ap code last,
)

-- the set of all letters
pub set-of-letters : (t : Table) (layout : Layout) (r : ℕ) → StandsFor t r (λ bits. is_letter layout.scope (numbers_of layout bits)) → StandsForSet t layout r (λ letter. Unit {0})
set-of-letters t layout r s = record {
  valid = s.valid;
  depends = λ u v same. s.value u ∙ ap (is_letter layout.scope) ((one-code layout.scope layout.first u v).1 same) ∙ sym (s.value v);
  found = λ bits is. ((letter-test layout.scope (numbers_of layout bits)).0 (sym (s.value bits) ∙ is), tt);
  holds = λ bits letter member. s.value bits ∙ (letter-test layout.scope (numbers_of layout bits)).1 letter;
}

-- the set of one value of a variable
pub set-of-value : (t : Table) (layout : Layout) (var value r : ℕ) → value < length (variable_at layout.scope var).values → StandsFor t r (λ bits. number_of layout var bits == value) → StandsForSet t (layout_of layout var) r (λ letter. letter ≡ value ∷ [])
set-of-value t layout var value r small s = record {
  valid = s.valid;
  depends = λ u v same.
      let numbers = (one-code (layout_of layout var).scope (layout_of layout var).first u v).1 same in
      let number = (same-parts (number_of layout var u) (number_of layout var v) [] [] numbers).0 in
      s.value u ∙ ap (λ n. n == value) number ∙ sym (s.value v);
  found = λ bits is.
      let number : number_of layout var bits ≡ value = eqb-true (number_of layout var bits) value (sym (s.value bits) ∙ is) in
      ((omega (arith, number, small), tt), ap (λ n. n ∷ []) number);
  holds = λ bits letter member. s.value bits ∙ eq-eqb (number_of layout var bits) value (same-parts (number_of layout var bits) value [] [] member).0;
}

-- so many values, and each one of its variable's, are a letter
pub letter-from-values : (scope : Scope) (letter : Letter) → length letter ≡ length scope → ((var : ℕ) → var < length scope → get_or letter var 0 < length (variable_at scope var).values) → IsLetter scope letter
letter-from-values [] [] size values = tt
letter-from-values [] (a ∷ letter) size values = absurd (omega (arith, size))
letter-from-values (v ∷ scope) [] size values = absurd (omega (arith, size))
letter-from-values (v ∷ scope) (a ∷ letter) size values =
    (values 0 (omega arith), letter-from-values scope letter (omega (arith, size)) (λ var known. values (suc var) (omega (arith, known))))
