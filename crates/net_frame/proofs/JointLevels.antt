-- The codes of joint variables.
use Rattle.std.proofs.Common.{◌≡◌, ◌+◌, ◌≤◌, ◌||◌, ◌∙◌, ℕ, suc, true, false, not, cond, List, [], ◌∷◌, length, refl, sym, ap, arith}
use Rattle.std.specs.Prelude.{All}
use Rattle.std.specs.List.{list_any, AllByRecursion}
use Rattle.std.specs.Str.{bytes_eq}
use Rattle.std.proofs.lemmas.Bool.{false≢true, and_parts, or_parts}
use Rattle.std.proofs.lemmas.List.Elements.{All-from_recursion}
use Rattle.name_table.specs.CodeBits.{bits_of, bits_in}
use Rattle.name_table.specs.ScopeVars.{variable_at}
use Rattle.name_table.specs.Variables.{Variable, names_of, are_different}
use Rattle.name_table.proofs.Apart.{bytes_eq_flip, not_true}
use Rattle.net_model.specs.Words.{Scope}
use Rattle.net_model.specs.Topologies.{is_named, variable_named}
use Rattle.mv_encoding.specs.Layouts.{Layout}
use Rattle.mv_encoding.specs.Spots.{IsSpot, AreSpots, spot_of}
use Rattle.net_frame.specs.Frames.{level_in, joint_spot, added, joint_spots}
use Rattle.net_frame.specs.Making.{added_bits, has_spot}

-- X's variable lies among X's levels
pub level-within : (x : Scope) (first : ℕ) (name : List ℕ) → is_named x name ≡ true → level_in x first name + bits_of (variable_named x name) ≤ first + bits_in x
level-within [] first name there = absurd (false≢true there)
level-within (v ∷ x) first name there =
    elim (bytes_eq v.name name) as (λ b. (b || is_named x name) ≡ true → cond b first (level_in x (first + bits_of v) name) + bits_of (cond b v (variable_named x name)) ≤ first + (bits_of v + bits_in x)) [
      | true ↦ λ e. omega arith
      | false ↦ λ e. let rest = level-within x (first + bits_of v) name e in omega (arith, rest)
    ] there

pub level-low : (x : Scope) (first : ℕ) (name : List ℕ) → first ≤ level_in x first name
level-low [] first name = omega arith
level-low (v ∷ x) first name =
    let rest = level-low x (first + bits_of v) name in
    elim (bytes_eq v.name name) as (λ b. first ≤ cond b first (level_in x (first + bits_of v) name))
    [ true ↦ omega arith | false ↦ omega (arith, rest) ]

-- the codes are those of single variables

pub joint-scope : (x : Scope) (first next : ℕ) (v : Variable) → (joint_spot x first next v).scope ≡ v ∷ []
joint-scope x first next v =
    elim (is_named x v.name) as (λ b. (cond b (spot_of v (level_in x first v.name)) (spot_of v next)).scope ≡ v ∷ [])
    [ true ↦ refl | false ↦ refl ]

spots-by : (x : Scope) (first next : ℕ) (joint : Scope) → AllByRecursion IsSpot (joint_spots x first next joint)
spots-by x first next [] = tt
spots-by x first next (v ∷ joint) = ((v, joint-scope x first next v), spots-by x first (next + added x v) joint)

pub joint-are-spots : (x : Scope) (first next : ℕ) (joint : Scope) → AreSpots (joint_spots x first next joint)
joint-are-spots x first next joint = All-from_recursion IsSpot (joint_spots x first next joint) (spots-by x first next joint)

pub joint-length : (x : Scope) (first next : ℕ) (joint : Scope) → length (joint_spots x first next joint) ≡ length joint
joint-length x first next [] = refl
joint-length x first next (v ∷ joint) = ap suc (joint-length x first (next + added x v) joint)

pub joint-has : (x : Scope) (first next : ℕ) (joint : Scope) (name : List ℕ) → has_spot (joint_spots x first next joint) name ≡ is_named joint name
joint-has x first next [] name = refl
joint-has x first next (v ∷ joint) name =
    let here = ap (λ scope. bytes_eq (variable_at scope 0).name name) (joint-scope x first next v) in
    let rest = joint-has x first (next + added x v) joint name in
    λ i. here i || rest i

-- they lie below the level behind them all

-- X's variables among others
pub record Shares (x joint : Scope) : Type 0 where
  pub same : (name : List ℕ) → is_named x name ≡ true → variable_named x name ≡ variable_named joint name

abbrev pub EndsBelow : ℕ → Layout → Type 0
EndsBelow end spot = spot.first + bits_in spot.scope ≤ end

pub joint-below : (x : Scope) (first next end : ℕ) (v : Variable) → (is_named x v.name ≡ true → variable_named x v.name ≡ v) → first + bits_in x ≤ next → next + added x v ≤ end → EndsBelow end (joint_spot x first next v)
joint-below x first next end v same behind room =
    elim (is_named x v.name) as (λ b. is_named x v.name ≡ b → next + cond b 0 (bits_of v) ≤ end → EndsBelow end (cond b (spot_of v (level_in x first v.name)) (spot_of v next))) [
      | true ↦ λ is e.
          let within = level-within x first v.name is in
          let bits = ap bits_of (same is) in
          omega (arith, within, bits, behind, e)
      | false ↦ λ is e. omega (arith, e)
    ] refl room

all-below : (x : Scope) (first next end : ℕ) (joint : Scope) → AllByRecursion (λ v. is_named x v.name ≡ true → variable_named x v.name ≡ v) joint → first + bits_in x ≤ next → next + added_bits x joint ≤ end → AllByRecursion (EndsBelow end) (joint_spots x first next joint)
all-below x first next end [] same behind room = tt
all-below x first next end (v ∷ joint) same behind room =
    (joint-below x first next end v same.0 behind (omega (arith, room)), all-below x first (next + added x v) end joint same.1 (omega (arith, behind)) (omega (arith, room)))

pub joint-all-below : (x : Scope) (first next end : ℕ) (joint : Scope) → AllByRecursion (λ v. is_named x v.name ≡ true → variable_named x v.name ≡ v) joint → first + bits_in x ≤ next → next + added_bits x joint ≤ end → All (EndsBelow end) (joint_spots x first next joint)
joint-all-below x first next end joint same behind room =
    All-from_recursion (EndsBelow end) (joint_spots x first next joint) (all-below x first next end joint same behind room)

-- without X's variables
pub joint-none : (joint : Scope) → added_bits [] joint ≡ bits_in joint
joint-none [] = refl
joint-none (v ∷ joint) = let rest = joint-none joint in omega (arith, rest)

-- X's bits and those of the other joint variables are those of all joint variables

-- who is none of the variables adds what it added
added-other : (x joint : Scope) (v : Variable) → list_any (bytes_eq v.name) (names_of joint) ≡ false → added_bits (v ∷ x) joint ≡ added_bits x joint
added-other x [] v none = refl
added-other x (w ∷ joint) v none =
    let parts = or_parts (bytes_eq v.name w.name) (list_any (bytes_eq v.name) (names_of joint)) none in
    let here : added (v ∷ x) w ≡ added x w = ap (λ b. cond (b || is_named x w.name) 0 (bits_of w)) parts.0 in
    let rest = added-other x joint v parts.1 in
    omega (arith, here, rest)

-- a variable more of X is one less of the others
pub added-one : (x joint : Scope) (v : Variable) → are_different (names_of joint) ≡ true → is_named joint v.name ≡ true → variable_named joint v.name ≡ v → is_named x v.name ≡ false → bits_of v + added_bits (v ∷ x) joint ≡ added_bits x joint
added-one x [] v different there same fresh = absurd (false≢true there)
added-one x (w ∷ joint) v different there same fresh =
    let parts = and_parts (not (list_any (bytes_eq w.name) (names_of joint))) (are_different (names_of joint)) different in
    elim (bytes_eq w.name v.name) as (λ b. bytes_eq w.name v.name ≡ b → (b || is_named joint v.name) ≡ true → cond b w (variable_named joint v.name) ≡ v → bits_of v + (added (v ∷ x) w + added_bits (v ∷ x) joint) ≡ added x w + added_bits x joint) [
      | true ↦ λ is e found.
          let none : list_any (bytes_eq v.name) (names_of joint) ≡ false =
          ap (λ u. list_any (bytes_eq u.name) (names_of joint)) (sym found) ∙ not_true (list_any (bytes_eq w.name) (names_of joint)) parts.0 in
          let rest = added-other x joint v none in
          let turned : bytes_eq v.name w.name ≡ true = bytes_eq_flip v.name w.name ∙ is in
          let here : added (v ∷ x) w ≡ 0 = ap (λ b. cond (b || is_named x w.name) 0 (bits_of w)) turned in
          let before : added x w ≡ bits_of w = ap (λ b. cond b 0 (bits_of w)) (ap (λ u. is_named x u.name) found ∙ fresh) in
          let size = ap bits_of found in
          omega (arith, rest, here, before, size)
      | false ↦ λ is e found.
          let rest = added-one x joint v parts.1 e found fresh in
          let turned : bytes_eq v.name w.name ≡ false = bytes_eq_flip v.name w.name ∙ is in
          let here : added (v ∷ x) w ≡ added x w = ap (λ b. cond (b || is_named x w.name) 0 (bits_of w)) turned in
          omega (arith, rest, here)
    ] refl there same
