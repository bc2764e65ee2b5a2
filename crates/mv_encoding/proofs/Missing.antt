-- Where a node of a chain of codes was wanted and not made, no ref has the value of the chain, nor that of the letters.
use Rattle.std.proofs.Common.{◌≡◌, ◌==◌, ◌&&◌, ◌+◌, ◌-◌, ◌^◌, ◌<◌, ◌≤◌, ◌∙◌, ℕ, zero, suc, Bool, true, false, if◌then◌else◌, Result, Err, OnErr, length, drop, refl, sym, ap, subst, inl, inr, arith}
use Rattle.std.specs.Prelude.{nat_lt}
use Rattle.std.proofs.lemmas.Bool.{cases_lt, eq-eqb, ne_eqb, lt-ltb}
use Rattle.name_table.specs.CodeBits.{bits_of, bits_in}
use Rattle.name_table.specs.ScopeVars.{variable_at}
use Rattle.net_model.specs.Words.{Variable}
use Rattle.node_table.specs.Table.{Bits, Table, value_at, top_of, IsConstant, IsValid, IsRefused, Grows}
use Rattle.node_table.proofs.Nodes.{level-constant}
use Rattle.node_table.proofs.Canonical.{changed, value-below}
use Rattle.node_table.proofs.Growth.{valid-grows}
use Rattle.bdd_ops.specs.Meaning.{IsMissing}
use Rattle.bdd_ops.proofs.Hiding.{changed-at}
use Rattle.bdd_ops.proofs.Missing.{missing-same, missing-cofactor, refused-missing}
use Rattle.mv_encoding.specs.Layouts.{Layout, number_at, numbers_at, numbers_of, is_letter}
use Rattle.mv_encoding.specs.Fields.{level_of, is_letter_from}
use Rattle.mv_encoding.proofs.Places.{before-next, before-within}
use Rattle.mv_encoding.proofs.Letters.{numbers-same, letter-from}
use Rattle.mv_encoding.proofs.Spelling.{number-same, number-first, number-below}
use Rattle.mv_encoding.proofs.Chains.{spelled, below-low, below-high}

-- what holds of an error that is known
pub at-err : {T E : Type 0} (result : Result T E) (e : E) (P : Type 0) → result ≡ Err e → OnErr result P → P
at-err {T} {E} result e P is fact = let Q : Result T E → Type 0 = λ r. OnErr r P in subst Q is fact

-- the constant 0 of an older space is held, below a level that exists
pub zero-held : {t a : Table} {r : ℕ} (level : ℕ) → IsConstant t false r → Grows t a → level < a.levels → IsValid a r × (level < top_of a r)
zero-held {t} {a} {r} level constant grow exists =
    let low = level-constant a.levels a.nodes r (omega (arith, constant.number)) in
    (valid-grows t a grow r constant.valid, omega (arith, low, exists))

-- `mk` was refused
pub node-missing : {a new : Table} {level lo hi : ℕ} (meaning : Bits → Bool) → IsValid a lo × (level < top_of a lo) → IsValid a hi × (level < top_of a hi) → ((b : Bits) → (if b level then value_at a hi b else value_at a lo b) ≡ meaning b) → new ≡ a → IsRefused a (record { level = level; lo = lo; hi = hi }) → IsMissing new meaning
node-missing {a} {new} {level} {lo} {hi} meaning low high is same refused =
    let P : Table → Type 0 = λ s. IsMissing s meaning in
    subst P (sym same) (missing-same a (λ b. if b level then value_at a hi b else value_at a lo b) meaning is (refused-missing low.0 high.0 low.1 high.1 refused))

changed-other : (b : Bits) (level : ℕ) (bit : Bool) (k : ℕ) → level + 1 ≤ k → changed b level bit k ≡ b k
changed-other b level bit k low = ap (λ t. if t then bit else b k) (ne_eqb k level (λ e. omega (arith, low, e)))

-- what is left of a meaning once its first bit is fixed is missing, and so is the meaning
first-missing : (t : Table) (level : ℕ) → level < t.levels → (bit : Bool) (meaning left : Bits → Bool) → ((u v : Bits) → ((k : ℕ) → level ≤ k → u k ≡ v k) → meaning u ≡ meaning v) → ((u v : Bits) → ((k : ℕ) → level + 1 ≤ k → u k ≡ v k) → left u ≡ left v) → ((b : Bits) → b level ≡ bit → left b ≡ meaning b) → IsMissing t left → IsMissing t meaning
first-missing t level exists bit meaning left below free is missing =
    missing-cofactor t level exists bit meaning left below
    (λ b. free b (changed b level bit) (λ k low. sym (changed-other b level bit k low)) ∙ is (changed b level bit) (changed-at b level bit))
    missing

-- the codes of a number
pub number-missing : (t : Table) (level bits number rest : ℕ) (bit : Bool) → level < t.levels → 0 < bits → rest < 2 ^ (bits - 1) → number ≡ (if bit then 2 ^ (bits - 1) else 0) + rest → IsMissing t (λ b. number_at (level + 1) (bits - 1) b == rest) → IsMissing t (λ b. number_at level bits b == number)
number-missing t level bits number rest bit exists some small sum missing =
    first-missing t level exists bit (λ b. number_at level bits b == number) (λ b. number_at (level + 1) (bits - 1) b == rest)
    (λ u v same. ap (λ n. n == number) (number-same bits level u v (λ k low high. same k low)))
    (λ u v same. ap (λ n. n == rest) (number-same (bits - 1) (level + 1) u v (λ k low high. same k low)))
    (λ b at.
    by bit (number_at (level + 1) (bits - 1) b == rest)
    ∙ ap (λ x. if x then (if bit then number_at (level + 1) (bits - 1) b == rest else false) else (if bit then false else number_at (level + 1) (bits - 1) b == rest)) (sym at)
    ∙ spelled level bits number rest bit (λ v. number_at (level + 1) (bits - 1) v == rest) some small sum (λ v. refl) b)
    missing
  where
    by : (x left : Bool) → left ≡ (if x then (if x then left else false) else (if x then false else left))
    by true left = refl
    by false left = refl

-- the codes below an end, by the half of the codes in which it lies
module _ (s t : Table) (level bits end rest : ℕ) (valid : IsValid t rest) (below : level + bits ≤ top_of t rest) (exists : level < s.levels) (some : 0 < bits) where
  abbrev codes : ℕ → Bits → Bool
  codes last b = nat_lt (number_at (level + 1) (bits - 1) b) last && value_at t rest b

  reads : (from : ℕ) → from ≤ level + bits → (u v : Bits) → ((k : ℕ) → from ≤ k → u k ≡ v k) → value_at t rest u ≡ value_at t rest v
  reads from low u v same = value-below t.levels t.nodes valid.table.nodes rest valid.held u v (λ k under. same k (omega (arith, low, below, under)))

  whole : (u v : Bits) → ((k : ℕ) → level ≤ k → u k ≡ v k) → (nat_lt (number_at level bits u) end && value_at t rest u) ≡ (nat_lt (number_at level bits v) end && value_at t rest v)
  whole u v same =
      let number = number-same bits level u v (λ k low high. same k low) in
      let other = reads level (omega arith) u v same in
      λ i. nat_lt (number i) end && other i

  free : (last : ℕ) (u v : Bits) → ((k : ℕ) → level + 1 ≤ k → u k ≡ v k) → codes last u ≡ codes last v
  free last u v same =
      let number = number-same (bits - 1) (level + 1) u v (λ k low high. same k low) in
      let other = reads (level + 1) (omega (arith, some)) u v same in
      λ i. nat_lt (number i) last && other i

  pub half-missing : end ≤ 2 ^ (bits - 1) → IsMissing s (codes end) → IsMissing s (λ b. nat_lt (number_at level bits b) end && value_at t rest b)
  half-missing few missing =
      first-missing s level exists false (λ b. nat_lt (number_at level bits b) end && value_at t rest b) (codes end) whole (free end)
      (λ b at.
      ap (λ x. if x then false else codes end b) (sym at)
      ∙ below-low (2 ^ (bits - 1)) (number_at (level + 1) (bits - 1) b) end (b level) (value_at t rest b) few
      ∙ (λ i. nat_lt (sym (number-first level bits b some) i) end && value_at t rest b))
      missing

  pub more-missing : 2 ^ (bits - 1) < end → IsMissing s (codes (end - 2 ^ (bits - 1))) → IsMissing s (λ b. nat_lt (number_at level bits b) end && value_at t rest b)
  more-missing more missing =
      first-missing s level exists true (λ b. nat_lt (number_at level bits b) end && value_at t rest b) (codes (end - 2 ^ (bits - 1))) whole (free (end - 2 ^ (bits - 1)))
      (λ b at.
      ap (λ x. if x then codes (end - 2 ^ (bits - 1)) b else value_at t rest b) (sym at)
      ∙ below-high (2 ^ (bits - 1)) (number_at (level + 1) (bits - 1) b) end (b level) (value_at t rest b) (number-below (bits - 1) (level + 1) b) more
      ∙ (λ i. nat_lt (sym (number-first level bits b some) i) end && value_at t rest b))
      missing

-- the bits with n of them at 0, from a level on
abbrev zeroed : ℕ → ℕ → Bits → Bits
zeroed level zero b = b
zeroed level (suc n) b = changed (zeroed (level + 1) n b) level false

zeroed-above : (n level : ℕ) (b : Bits) (k : ℕ) → level + n ≤ k → zeroed level n b k ≡ b k
zeroed-above zero level b k low = refl
zeroed-above (suc n) level b k low =
    changed-other (zeroed (level + 1) n b) level false k (omega (arith, low)) ∙ zeroed-above n (level + 1) b k (omega (arith, low))

number-zeroed : (n level : ℕ) (b : Bits) → number_at level n (zeroed level n b) ≡ 0
number-zeroed zero level b = refl
number-zeroed (suc n) level b =
    let z : Bits = zeroed (level + 1) n b in
    let first = changed-at z level false in
    let rest : number_at (level + 1) n (changed z level false) ≡ 0 = number-same n (level + 1) (changed z level false) z (λ k low high. changed-other z level false k low) ∙ number-zeroed n (level + 1) b in
    λ i. (if first i then 2 ^ n else 0) + rest i

changed-agrees : (level : ℕ) (bit : Bool) (u v : Bits) → ((k : ℕ) → level + 1 ≤ k → u k ≡ v k) → (k : ℕ) → level ≤ k → changed u level bit k ≡ changed v level bit k
changed-agrees level bit u v same k low =
    elim (cases_lt level k) [
      | inl less ↦ λ i. if k == level then bit else same k (omega (arith, less)) i
      | inr more ↦
          let is : (k == level) ≡ true = eq-eqb k level (omega (arith, low, more)) in
          ap (λ x. if x then bit else u k) is ∙ sym (ap (λ x. if x then bit else v k) is)
    ]

-- what is left of a meaning once n of its bits are 0 is missing, and so is the meaning
zeroed-missing : (t : Table) (n level : ℕ) → level + n ≤ t.levels → (meaning left : Bits → Bool) → ((u v : Bits) → ((k : ℕ) → level ≤ k → u k ≡ v k) → meaning u ≡ meaning v) → ((b : Bits) → left b ≡ meaning (zeroed level n b)) → IsMissing t left → IsMissing t meaning
zeroed-missing t zero level within meaning left below is missing = missing-same t left meaning is missing
zeroed-missing t (suc n) level within meaning left below is missing =
    let mid : Bits → Bool = λ b. meaning (changed b level false) in
    missing-cofactor t level (omega (arith, within)) false meaning mid below (λ b. refl)
    (zeroed-missing t n (level + 1) (omega (arith, within)) mid left (λ u v same. below (changed u level false) (changed v level false) (changed-agrees level false u v same)) is missing)

-- the letters from a variable on are missing, and so are those from the first on
module _ (t : Table) (layout : Layout) (laid : layout.first + bits_in layout.scope ≤ t.levels) (some : (var : ℕ) → var < length layout.scope → 0 < length (variable_at layout.scope var).values) where
  before-missing : (var : ℕ) → var < length layout.scope → IsMissing t (is_letter_from layout (var + 1)) → IsMissing t (is_letter_from layout var)
  before-missing var known missing =
      let x : Variable = variable_at layout.scope var in
      let level : ℕ = level_of layout var in
      let within = before-within layout.scope var known in
      let next = before-next layout.scope var known in
      let few = some var known in
      zeroed-missing t (bits_of x) level (omega (arith, laid, within)) (is_letter_from layout var) (is_letter_from layout (var + 1))
      (λ u v same. ap (is_letter (drop var layout.scope)) (numbers-same (drop var layout.scope) level u v (λ k low high. same k low)))
      (λ b.
      let z : Bits = zeroed level (bits_of x) b in
      let number = number-zeroed (bits_of x) level b in
      let value : nat_lt (number_at level (bits_of x) z) (length x.values) ≡ true = lt-ltb (number_at level (bits_of x) z) (length x.values) (omega (arith, number, few)) in
      ap (is_letter (drop (var + 1) layout.scope)) (numbers-same (drop (var + 1) layout.scope) (level_of layout (var + 1)) b z (λ k low high. sym (zeroed-above (bits_of x) level b k (omega (arith, low, next)))))
      ∙ (λ i. sym value i && is_letter_from layout (var + 1) z)
      ∙ sym (letter-from layout var known z))
      missing

  from-missing : (var : ℕ) → var ≤ length layout.scope → IsMissing t (is_letter_from layout var) → IsMissing t (is_letter_from layout 0)
  from-missing zero known missing = missing
  from-missing (suc var) known missing =
      let next : suc var ≡ var + 1 = omega arith in
      let P : ℕ → Type 0 = λ v. IsMissing t (is_letter_from layout v) in
      from-missing var (omega (arith, known)) (before-missing var (omega (arith, known)) (subst P next missing))

  pub letters-missing : (var : ℕ) → var ≤ length layout.scope → IsMissing t (is_letter_from layout var) → IsMissing t (λ b. is_letter layout.scope (numbers_of layout b))
  letters-missing var known missing =
      let first : layout.first + 0 ≡ layout.first = omega arith in
      missing-same t (is_letter_from layout 0) (λ b. is_letter layout.scope (numbers_of layout b))
      (λ b. ap (λ l. is_letter layout.scope (numbers_at layout.scope l b)) first)
      (from-missing var known missing)
