-- Codes that stand apart.
use Rattle.std.proofs.Common.{◌≡◌, ◌==◌, ◌∙◌, ◌||◌, ◌↔◌, ◌+◌, ◌<◌, ◌≤◌, ℕ, suc, Bool, true, false, if◌then◌else◌, List, [], ◌∷◌, ◌++◌, length, refl, sym, ap, arith, subst}
use Rattle.std.specs.Prelude.{All}
use Rattle.std.specs.List.{AllPairs, range_with_len}
use Rattle.std.proofs.lemmas.Bool.{and_parts, and_from, false≢true}
use Rattle.std.proofs.Math.Bool.{or-true}
use Rattle.std.proofs.lemmas.List.Folds.{list_any-append}
use Rattle.name_table.specs.ScopeVars.{variable_at}
use Rattle.name_table.specs.CodeBits.{bits_of, bits_in}
use Rattle.name_table.proofs.Powers.{code_enough}
use Rattle.net_model.specs.Words.{Variable, Scope, IsLetter}
use Rattle.node_table.specs.Table.{Bits}
use Rattle.bdd_ops.specs.Levels.{is_in, SameAt, SameOutside}
use Rattle.mv_encoding.specs.Layouts.{Layout, number_at, numbers_at, number_of, numbers_of, levels_of, is_letter}
use Rattle.mv_encoding.specs.Spots.{spot_of, IsSpot, AreSpots, variables_at, all_levels, spelled, spell_values, AreApart}
use Rattle.mv_encoding.proofs.Letters.{one-code, letter-test}
use Rattle.mv_encoding.proofs.Ranges.{in-range}
use Rattle.mv_encoding.proofs.Spelling.{number-same, some-bits}

head : {X : Type 0} (P : X → Type 0) (x : X) (xs : List X) → All P (x ∷ xs) → P x
head P x xs all = all 0 x (omega arith)

tail : {X : Type 0} (P : X → Type 0) (x : X) (xs : List X) → All P (x ∷ xs) → All P xs
tail P x xs all k d within = all (suc k) d (omega (arith, within))

pairs-head : {X : Type 0} (R : X → X → Type 0) (x : X) (xs : List X) → AllPairs R (x ∷ xs) → All (R x) xs
pairs-head R x xs pairs k d within = pairs 0 (suc k) d (omega arith) (omega (arith, within))

pairs-tail : {X : Type 0} (R : X → X → Type 0) (x : X) (xs : List X) → AllPairs R (x ∷ xs) → AllPairs R xs
pairs-tail R x xs pairs i j d less within = pairs (suc i) (suc j) d (omega (arith, less)) (omega (arith, within))

-- the number at a spot is that of its one variable
pub one-number : (v : Variable) (first : ℕ) (bits : Bits) → number_of (spot_of v first) 0 bits ≡ number_at first (bits_of v) bits
one-number v first bits = let same : first + 0 ≡ first = omega arith in ap (λ l. number_at l (bits_of v) bits) same

one-bits : (v : Variable) → bits_in (v ∷ []) ≡ bits_of v
one-bits v = omega arith

-- the level is one of the spot's
spot-in : (v : Variable) (first k : ℕ) → first ≤ k → k < first + bits_of v → is_in (levels_of (spot_of v first)) k ≡ true
spot-in v first k low high = in-range (bits_in (v ∷ [])) first k low (omega (arith, high))

-- bits that agree at the levels of a spot spell one number there
pub spot-same : (spot : Layout) → IsSpot spot → (u v : Bits) → SameAt (levels_of spot) u v → number_of spot 0 u ≡ number_of spot 0 v
spot-same spot is u v same =
    let P : Scope → Type 0 = λ scope. SameAt (range_with_len spot.first (bits_in scope)) u v → number_of (record { scope = scope; first = spot.first }) 0 u ≡ number_of (record { scope = scope; first = spot.first }) 0 v in
    let at : P (is.0 ∷ []) = λ agree.
    one-number is.0 spot.first u
    ∙ number-same (bits_of is.0) spot.first u v (λ k low high. agree k (spot-in is.0 spot.first k low high))
    ∙ sym (one-number is.0 spot.first v) in
    subst P (sym is.1) at same

-- and bits that spell one number there agree at its levels
pub spot-back : (spot : Layout) → IsSpot spot → (u v : Bits) → number_of spot 0 u ≡ number_of spot 0 v → SameAt (levels_of spot) u v
spot-back spot is u v same =
    let P : Scope → Type 0 = λ scope. number_of (record { scope = scope; first = spot.first }) 0 u ≡ number_of (record { scope = scope; first = spot.first }) 0 v → SameAt (range_with_len spot.first (bits_in scope)) u v in
    let at : P (is.0 ∷ []) = λ e.
    let one = sym (one-number is.0 spot.first u) ∙ e ∙ one-number is.0 spot.first v in
    (one-code (is.0 ∷ []) spot.first u v).0 (λ i. one i ∷ []) in
    subst P (sym is.1) at same

-- each value of a spot's variable has a code
pub spot-code : (spot : Layout) → IsSpot spot → (a : ℕ) → a < length (variable_at spot.scope 0).values → (bits : Bits) × (number_of spot 0 bits ≡ a)
spot-code spot is a below =
    let P : Scope → Type 0 = λ scope. a < length (variable_at scope 0).values → (bits : Bits) × (number_of (record { scope = scope; first = spot.first }) 0 bits ≡ a) in
    let at : P (is.0 ∷ []) = λ few.
    let enough = code_enough (length is.0.values) in
    let code = some-bits (bits_of is.0) spot.first a (omega (arith, few, enough)) in
    (code.0, one-number is.0 spot.first code.0 ∙ code.1) in
    subst P (sym is.1) at below

-- the number at a spot is a value exactly where the test says so
pub spot-value : (spot : Layout) → IsSpot spot → (bits : Bits) → (is_letter spot.scope (numbers_of spot bits) ≡ true) ↔ (number_of spot 0 bits < length (variable_at spot.scope 0).values)
spot-value spot is bits =
    let P : Scope → Type 0 = λ scope. (is_letter scope (numbers_at scope spot.first bits) ≡ true) ↔ (number_of (record { scope = scope; first = spot.first }) 0 bits < length (variable_at scope 0).values) in
    let one = one-number is.0 spot.first bits in
    let test = letter-test (is.0 ∷ []) (number_at spot.first (bits_of is.0) bits ∷ []) in
    let at : P (is.0 ∷ []) = (
      λ yes. subst (λ n. n < length is.0.values) (sym one) (test.0 yes).0,
      λ below. test.1 (subst (λ n. n < length is.0.values) one below, tt),
    ) in
    subst P (sym is.1) at

in-front : (xs ys : List ℕ) (k : ℕ) → is_in xs k ≡ true → is_in (xs ++ ys) k ≡ true
in-front xs ys k is = rw (list_any-append (λ l. l == k) xs ys) (rw is refl)

in-back : (xs ys : List ℕ) (k : ℕ) → is_in ys k ≡ true → is_in (xs ++ ys) k ≡ true
in-back xs ys k is = rw (list_any-append (λ l. l == k) xs ys) (rw is (or-true (is_in xs k)))

-- bits that agree at the levels of all spots spell the same numbers
pub spelled-same : (spots : List Layout) → AreSpots spots → (u v : Bits) → SameAt (all_levels spots) u v → spelled spots u ≡ spelled spots v
spelled-same [] are u v same = refl
spelled-same (spot ∷ spots) are u v same =
    let here = spot-same spot (head IsSpot spot spots are) u v (λ k member. same k (in-front (levels_of spot) (all_levels spots) k member)) in
    let rest = spelled-same spots (tail IsSpot spot spots are) u v (λ k member. same k (in-back (levels_of spot) (all_levels spots) k member)) in
    λ i. here i ∷ rest i

both-parts : (m n : ℕ) (xs ys : List ℕ) → m ∷ xs ≡ n ∷ ys → (m ≡ n) × (xs ≡ ys)
both-parts m n xs ys e = (cc, cc)

one-of : (a b : Bool) → (a || b) ≡ true → a ≡ false → b ≡ true
one-of true b is out = absurd (false≢true (sym out))
one-of false b is out = is

-- and bits that spell the same numbers agree there
pub spelled-back : (spots : List Layout) → AreSpots spots → (u v : Bits) → spelled spots u ≡ spelled spots v → SameAt (all_levels spots) u v
spelled-back [] are u v same k member = absurd (false≢true member)
spelled-back (spot ∷ spots) are u v same k member =
    let parts = both-parts (number_of spot 0 u) (number_of spot 0 v) (spelled spots u) (spelled spots v) same in
    let either = sym (list_any-append (λ l. l == k) (levels_of spot) (all_levels spots)) ∙ member in
    elim (is_in (levels_of spot) k) as (λ b. is_in (levels_of spot) k ≡ b → u k ≡ v k) [
      | true ↦ λ here. spot-back spot (head IsSpot spot spots are) u v parts.0 k here
      | false ↦ λ out. spelled-back spots (tail IsSpot spot spots are) u v parts.1 k (one-of (is_in (levels_of spot) k) (is_in (all_levels spots) k) either out)
    ] refl

-- a level of spots that stand apart from this one is none of this one
out-of : (spot : Layout) (spots : List Layout) → All (AreApart spot) spots → (k : ℕ) → is_in (all_levels spots) k ≡ true → is_in (levels_of spot) k ≡ false
out-of spot [] apart k member = absurd (false≢true member)
out-of spot (other ∷ spots) apart k member =
    let either = sym (list_any-append (λ l. l == k) (levels_of other) (all_levels spots)) ∙ member in
    elim (is_in (levels_of spot) k) as (λ b. is_in (levels_of spot) k ≡ b → is_in (levels_of spot) k ≡ false) [
      | true ↦ λ is.
          let not-other = head (AreApart spot) other spots apart k is in
          out-of spot spots (tail (AreApart spot) other spots apart) k (one-of (is_in (levels_of other) k) (is_in (all_levels spots) k) either not-other)
      | false ↦ λ is. is
    ] refl

-- values are written at spots that stand apart, and all other bits stay
pub written : (spots : List Layout) → AreSpots spots → AllPairs AreApart spots → (values : List ℕ) → IsLetter (variables_at spots) values → (bits : Bits) → (u : Bits) × (spelled spots u ≡ values) × SameOutside (all_levels spots) u bits
written [] are apart [] is bits = (bits, refl, λ k out. refl)
written [] are apart (a ∷ values) is bits = absurd is
written (spot ∷ spots) are apart [] is bits = absurd is
written (spot ∷ spots) are apart (a ∷ values) is bits =
    let one = head IsSpot spot spots are in
    let more = tail IsSpot spot spots are in
    let away = pairs-head AreApart spot spots apart in
    let rest = written spots more (pairs-tail AreApart spot spots apart) values is.1 bits in
    let code = spot-code spot one a is.0 in
    let u : Bits = λ k. if is_in (levels_of spot) k then code.0 k else rest.0 k in
    let here = spot-same spot one u code.0 (λ k member. ap (λ b. if b then code.0 k else rest.0 k) member) ∙ code.1 in
    let there = spelled-same spots more u rest.0 (λ k member. ap (λ b. if b then code.0 k else rest.0 k) (out-of spot spots away k member)) ∙ rest.1 in (
      u,
      (λ i. here i ∷ there i),
      λ k out.
          let none = both-out (is_in (levels_of spot) k) (is_in (all_levels spots) k) (sym (list_any-append (λ l. l == k) (levels_of spot) (all_levels spots)) ∙ out) in
          ap (λ b. if b then code.0 k else rest.0 k) none.0 ∙ rest.2 k none.1,
    )
  where
    both-out : (a b : Bool) → (a || b) ≡ false → (a ≡ false) × (b ≡ false)
    both-out true b is = absurd (false≢true (sym is))
    both-out false b is = (refl, is)

-- the numbers at spots are values exactly where the test says so
pub values-test : (spots : List Layout) → AreSpots spots → (bits : Bits) → (spell_values spots bits ≡ true) ↔ IsLetter (variables_at spots) (spelled spots bits)
values-test [] are bits = (λ yes. tt, λ is. refl)
values-test (spot ∷ spots) are bits =
    let here = spot-value spot (head IsSpot spot spots are) bits in
    let rest = values-test spots (tail IsSpot spot spots are) bits in
    let first : Bool = is_letter spot.scope (numbers_of spot bits) in (
      λ yes. let parts = and_parts first (spell_values spots bits) yes in (here.0 parts.0, rest.0 parts.1),
      λ is. and_from first (spell_values spots bits) (here.1 is.0) (rest.1 is.1),
    )
