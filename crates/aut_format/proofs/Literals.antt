-- The literals of a diagram's paths.
use Rattle.std.proofs.Common.{◌≡◌, ◌==◌, ◌||◌, ◌+◌, ◌<◌, ◌≤◌, ℕ, zero, suc, Bool, true, false, not, if◌then◌else◌, List, [], ◌∷◌, ◌++◌, length, map, get_or, refl, sym, ap, ◌∙◌, subst, inl, inr, arith}
use Rattle.std.specs.Bool.{beq}
use Rattle.std.specs.List.{AllByRecursion}
use Rattle.std.specs.List.Sorted.{IsStrictlyIncreasing}
use Rattle.std.proofs.lemmas.Bool.{cases_eq, eq-eqb, ne_eqb, and_parts, and_from, or_left, or_right, false≢true, true≢false}
use Rattle.std.proofs.lemmas.List.{length-map}
use Rattle.std.proofs.lemmas.List.Kept.{AllPairs-from_increasing}
use Rattle.node_table.specs.Table.{Bits, Table, IsValid}
use Rattle.node_table.proofs.Nodes.{node-held}
use Rattle.node_table.proofs.Ends.{tells}
use Rattle.bdd_ops.specs.Levels.{is_in}
use Rattle.bdd_ops.specs.Meaning.{DependsOn}
use Rattle.bdd_ops.proofs.Renamed.{top-in, end-depends}
use Rattle.bdd_walk.specs.Paths.{Literal, Path, Follows, levels_on, behind, paths_of}
use Rattle.bdd_walk.proofs.Ways.{paths-node, paths-zero, paths-one}
use Rattle.aut_format.specs.Rows.{allows_bit}
use Rattle.aut_format.proofs.Along.{along}

-- what holds of all elements of lists that are joined, or made from others
pub all-append : {X : Type 0} (P : X → Type 0) (xs ys : List X) → AllByRecursion P xs → AllByRecursion P ys → AllByRecursion P (xs ++ ys)
all-append P [] ys front back = back
all-append P (x ∷ xs) ys front back = (front.0, all-append P xs ys front.1 back)

pub all-map : {X Y : Type 0} (P : X → Type 0) (Q : Y → Type 0) (f : X → Y) → ((x : X) → P x → Q (f x)) → (xs : List X) → AllByRecursion P xs → AllByRecursion Q (map f xs)
all-map P Q f step [] each = tt
all-map P Q f step (x ∷ xs) each = (step x each.0, all-map P Q f step xs each.1)

-- Bits that follow a path are what it asks for.

bit-same : (x y : Bool) → beq x y ≡ true → x ≡ y
bit-same true true e = refl
bit-same true false e = absurd (false≢true e)
bit-same false true e = absurd (false≢true e)
bit-same false false e = refl

same-bit : (x y : Bool) → x ≡ y → beq x y ≡ true
same-bit true true e = refl
same-bit true false e = absurd (true≢false e)
same-bit false true e = absurd (false≢true e)
same-bit false false e = refl

allows-followed : (path : Path) (bits : Bits) (k : ℕ) → Follows path bits → allows_bit path k (bits k) ≡ true
allows-followed [] bits k follows = refl
allows-followed (l ∷ path) bits k follows =
    and_from (not (l.0 == k) || beq l.1 (bits k)) (allows_bit path k (bits k))
    (elim (cases_eq l.0 k) [
      | inl is ↦ or_right (not (l.0 == k)) (beq l.1 (bits k)) (same-bit l.1 (bits k) (sym follows.0 ∙ ap bits is))
      | inr differ ↦ or_left (not (l.0 == k)) (beq l.1 (bits k)) (ap not (ne_eqb l.0 k differ))
    ])
    (allows-followed path bits k follows.1)

along-each : (path : Path) (level b : ℕ) (bits : Bits) → ((k : ℕ) → allows_bit path k (bits k) ≡ true) → along path level b bits ≡ true
along-each path level zero bits each = refl
along-each path level (suc b) bits each = and_from (allows_bit path level (bits level)) (along path (level + 1) b bits) (each level) (along-each path (level + 1) b bits each)

pub followed-along : (path : Path) (level b : ℕ) (bits : Bits) → Follows path bits → along path level b bits ≡ true
followed-along path level b bits follows = along-each path level b bits (λ k. allows-followed path bits k follows)

along-tail : (l : Literal) (path : Path) (level b : ℕ) (bits : Bits) → along (l ∷ path) level b bits ≡ true → along path level b bits ≡ true
along-tail l path level zero bits is = refl
along-tail l path level (suc b) bits is =
    let parts = and_parts (allows_bit (l ∷ path) level (bits level)) (along (l ∷ path) (level + 1) b bits) is in
    let here = and_parts (not (l.0 == level) || beq l.1 (bits level)) (allows_bit path level (bits level)) parts.0 in
    and_from (allows_bit path level (bits level)) (along path (level + 1) b bits) here.1 (along-tail l path (level + 1) b bits parts.1)

along-head : (l : Literal) (path : Path) (level b : ℕ) (bits : Bits) → along (l ∷ path) level b bits ≡ true → level ≤ l.0 → l.0 < level + b → bits l.0 ≡ l.1
along-head l path level zero bits is low high = absurd (omega (arith, low, high))
along-head l path level (suc b) bits is low high =
    let parts = and_parts (allows_bit (l ∷ path) level (bits level)) (along (l ∷ path) (level + 1) b bits) is in
    let here = and_parts (not (l.0 == level) || beq l.1 (bits level)) (allows_bit path level (bits level)) parts.0 in
    elim (cases_eq l.0 level) [
      | inl at ↦ asked (l.0 == level) (eq-eqb l.0 level at) here.0 at
      | inr differ ↦ along-head l path (level + 1) b bits parts.1 (omega (arith, low, differ)) (omega (arith, high))
    ]
  where
    asked : (b : Bool) → b ≡ true → (not b || beq l.1 (bits level)) ≡ true → l.0 ≡ level → bits l.0 ≡ l.1
    asked true e is at = ap bits at ∙ sym (bit-same l.1 (bits level) is)
    asked false e is at = absurd (false≢true e)

-- the levels of the path are among these
abbrev pub LevelsIn : ℕ → ℕ → Path → Type 0
LevelsIn first n path = AllByRecursion (λ (l : Literal). (first ≤ l.0) × (l.0 < first + n)) path

pub along-followed : (path : Path) (level b : ℕ) (bits : Bits) → LevelsIn level b path → along path level b bits ≡ true → Follows path bits
along-followed [] level b bits within is = tt
along-followed (l ∷ path) level b bits within is =
    (along-head l path level b bits is within.0.0 within.0.1, along-followed path level b bits within.1 (along-tail l path level b bits is))

-- Some bits follow a path.

-- those that it asks for
abbrev pub own_bits : Path → Bits
own_bits [] k = false
own_bits (l ∷ path) k = if k == l.0 then l.1 else own_bits path k

pub above-head : (x : ℕ) (path : Path) → ((i : ℕ) → i < length path → x < get_or (levels_on path) i 0) → AllByRecursion (λ (l : Literal). x < l.0) path
above-head x [] each = tt
above-head x (l ∷ path) each = (each 0 (omega arith), above-head x path (λ i within. each (suc i) (omega (arith, within))))

follows-past : (x : ℕ) (b : Bool) (bits : Bits) (path : Path) → AllByRecursion (λ (l : Literal). x < l.0) path → Follows path bits → Follows path (λ k. if k == x then b else bits k)
follows-past x b bits [] above follows = tt
follows-past x b bits (l ∷ path) above follows =
    (ap (λ is. if is then b else bits l.0) (ne_eqb l.0 x (λ e. omega (arith, e, above.0))) ∙ follows.0, follows-past x b bits path above.1 follows.1)

pub follows-own : (path : Path) → IsStrictlyIncreasing (levels_on path) → Follows path (own_bits path)
follows-own [] rises = tt
follows-own (l ∷ path) rises =
    let size = length-map path (λ (literal : Literal). literal.0) in
    let tail : IsStrictlyIncreasing (levels_on path) = λ k below. AllPairs-from_increasing (l.0 ∷ levels_on path) rises (suc k) (suc (k + 1)) 0 (omega arith) (omega (arith, below)) in
    let above = above-head l.0 path (λ i within. AllPairs-from_increasing (l.0 ∷ levels_on path) rises 0 (suc i) 0 (omega arith) (omega (arith, within, size))) in
    (ap (λ is. if is then l.1 else own_bits path l.0) (eq-eqb l.0 l.0 refl), follows-past l.0 l.1 (own_bits path) path above (follows-own path tail))

-- The paths of a diagram ask for bits at the levels alone that it depends on.

abbrev pub AskWithin : List ℕ → List Path → Type 0
AskWithin levels paths = AllByRecursion (λ path. AllByRecursion (λ (l : Literal). is_in levels l.0 ≡ true) path) paths

module _ (t : Table) (levels : List ℕ) where
  one-more : (level : ℕ) (bit : Bool) (paths : List Path) → is_in levels level ≡ true → AskWithin levels paths → AskWithin levels (behind level bit paths)
  one-more level bit paths here all =
      all-map (λ path. AllByRecursion (λ (l : Literal). is_in levels l.0 ≡ true) path) (λ path. AllByRecursion (λ (l : Literal). is_in levels l.0 ≡ true) path) (λ path. (level, bit) ∷ path) (λ path rest. (here, rest)) paths all

  pub paths-within : (n r : ℕ) → r ≤ n → IsValid t r → DependsOn t levels r → AskWithin levels (paths_of t.nodes r)
  paths-within n zero less valid depends = subst (AskWithin levels) (sym (paths-zero t.nodes)) tt
  paths-within n (suc zero) less valid depends = subst (AskWithin levels) (sym (paths-one t.nodes)) (tt, tt)
  paths-within zero (suc (suc r)) less valid depends = absurd (omega (arith, less))
  paths-within (suc n) (suc (suc r)) less valid depends =
      let f : ℕ = suc (suc r) in
      let h = node-held t.levels t.nodes valid.table.nodes f (omega arith) valid.held in
      let told = tells t valid.table f h.node h.is in
      let here : is_in levels h.node.level ≡ true = ap (is_in levels) (sym told.top) ∙ top-in t levels f valid depends (omega arith) in
      let lo = paths-within n h.node.lo (omega (arith, less, h.lo_older)) told.lo.valid (end-depends t levels f valid depends false h.node.lo told.lo) in
      let hi = paths-within n h.node.hi (omega (arith, less, h.hi_older)) told.hi.valid (end-depends t levels f valid depends true h.node.hi told.hi) in
      subst (AskWithin levels) (sym (paths-node t.levels t.nodes valid.table.nodes f h.node h.is))
      (all-append (λ path. AllByRecursion (λ (l : Literal). is_in levels l.0 ≡ true) path) (behind h.node.level false (paths_of t.nodes h.node.lo)) (behind h.node.level true (paths_of t.nodes h.node.hi))
      (one-more h.node.level false (paths_of t.nodes h.node.lo) here lo) (one-more h.node.level true (paths_of t.nodes h.node.hi) here hi))
