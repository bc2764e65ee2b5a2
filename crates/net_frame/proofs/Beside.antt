-- Codes that stand one before the other, and so apart.
use Rattle.std.proofs.Common.{◌≡◌, ◌+◌, ◌≤◌, ◌||◌, ◌∙◌, ◌⊎◌, inl, inr, ℕ, Bool, true, false, cond, List, [], ◌∷◌, refl, sym, ap, subst, arith}
use Rattle.std.specs.List.{AllByRecursion}
use Rattle.std.specs.Str.{bytes_eq}
use Rattle.std.proofs.lemmas.Bool.{false≢true, false_from_ne_true, cases_Bool}
use Rattle.std.proofs.lemmas.Slice.Eq.{bytes_eq-Decides}
use Rattle.name_table.specs.CodeBits.{bits_of, bits_in}
use Rattle.name_table.specs.ScopeVars.{variable_at}
use Rattle.name_table.specs.Variables.{Variable}
use Rattle.net_model.specs.Words.{Scope}
use Rattle.net_model.specs.Topologies.{is_named, variable_named}
use Rattle.mv_encoding.specs.Layouts.{Layout}
use Rattle.mv_encoding.specs.Spots.{AreApart, spot_of}
use Rattle.mv_encoding.proofs.Ranges.{range-in}
use Rattle.net_frame.specs.Frames.{level_in, joint_spot, added, joint_spots, spot_named}
use Rattle.net_frame.proofs.JointLevels.{level-within, level-low, joint-scope}

-- one ends where the other begins, or before
abbrev pub AreBeside : Layout → Layout → Type 0
AreBeside a b = (a.first + bits_in a.scope ≤ b.first) ⊎ (b.first + bits_in b.scope ≤ a.first)

pub beside-turned : (a b : Layout) → AreBeside a b → AreBeside b a
beside-turned a b (inl before) = inr before
beside-turned a b (inr behind) = inl behind

pub apart-beside : (a b : Layout) → AreBeside a b → AreApart a b
apart-beside a b beside k here =
    false_from_ne_true _ (λ there.
    let low = range-in (bits_in a.scope) a.first k here in
    let high = range-in (bits_in b.scope) b.first k there in
    elim beside [ inl before ↦ omega (arith, low.0, low.1, high.0, high.1, before) | inr behind ↦ omega (arith, low.0, low.1, high.0, high.1, behind) ])

-- different variables of X
pub level-apart : (x : Scope) (first : ℕ) (n m : List ℕ) → bytes_eq n m ≡ false → is_named x n ≡ true → is_named x m ≡ true → (level_in x first n + bits_of (variable_named x n) ≤ level_in x first m) ⊎ (level_in x first m + bits_of (variable_named x m) ≤ level_in x first n)
level-apart [] first n m differ of_n of_m = absurd (false≢true of_n)
level-apart (v ∷ x) first n m differ of_n of_m =
    elim (bytes_eq v.name n) as (λ b. bytes_eq v.name n ≡ b → (b || is_named x n) ≡ true → (cond b first (level_in x (first + bits_of v) n) + bits_of (cond b v (variable_named x n)) ≤ level_in (v ∷ x) first m) ⊎ (level_in (v ∷ x) first m + bits_of (variable_named (v ∷ x) m) ≤ cond b first (level_in x (first + bits_of v) n))) [
      | true ↦ λ is_n e.
          elim (bytes_eq v.name m) as (λ b. bytes_eq v.name m ≡ b → (first + bits_of v ≤ cond b first (level_in x (first + bits_of v) m)) ⊎ (cond b first (level_in x (first + bits_of v) m) + bits_of (cond b v (variable_named x m)) ≤ first)) [
            | true ↦ λ is_m.
                let same : n ≡ m = sym ((bytes_eq-Decides v.name n).0 is_n) ∙ (bytes_eq-Decides v.name m).0 is_m in
                absurd (false≢true (sym differ ∙ (bytes_eq-Decides n m).1 same))
            | false ↦ λ is_m. inl (level-low x (first + bits_of v) m)
          ] refl
      | false ↦ λ is_n e.
          elim (bytes_eq v.name m) as (λ b. bytes_eq v.name m ≡ b → (b || is_named x m) ≡ true → (level_in x (first + bits_of v) n + bits_of (variable_named x n) ≤ cond b first (level_in x (first + bits_of v) m)) ⊎ (cond b first (level_in x (first + bits_of v) m) + bits_of (cond b v (variable_named x m)) ≤ level_in x (first + bits_of v) n)) [
            | true ↦ λ is_m f. inr (level-low x (first + bits_of v) n)
            | false ↦ λ is_m f. level-apart x (first + bits_of v) n m differ e f
          ] refl of_m
    ] refl of_n

-- X's variables are the joint ones of the same name
abbrev pub AreShared : Scope → Scope → Type 0
AreShared x joint = AllByRecursion (λ v. is_named x v.name ≡ true → variable_named x v.name ≡ v) joint

-- where the code of a name stands: in X's letter, or from `next` on
pub record StandsAt (x : Scope) (first next : ℕ) (name : List ℕ) (spot : Layout) : Type 0 where
  pub shared : is_named x name ≡ true → (spot.first ≡ level_in x first name) × (bits_in spot.scope ≡ bits_of (variable_named x name))
  pub other : is_named x name ≡ false → next ≤ spot.first

pub stands-first : (x : Scope) (first next : ℕ) (v : Variable) → (is_named x v.name ≡ true → variable_named x v.name ≡ v) → StandsAt x first next v.name (joint_spot x first next v)
stands-first x first next v same =
    elim (is_named x v.name) as (λ b. is_named x v.name ≡ b → StandsAt x first next v.name (cond b (spot_of v (level_in x first v.name)) (spot_of v next))) [
      | true ↦ λ is. record { shared = λ there. (refl, (let bits = ap bits_of (same is) in omega (arith, bits))); other = λ none. absurd (false≢true (sym none ∙ is)) }
      | false ↦ λ is. record { shared = λ there. absurd (false≢true (sym is ∙ there)); other = λ none. omega arith }
    ] refl

stands-later : (x : Scope) (first next more : ℕ) (name : List ℕ) (spot : Layout) → StandsAt x first (next + more) name spot → StandsAt x first next name spot
stands-later x first next more name spot stands = record { shared = stands.shared; other = λ none. let low = stands.other none in omega (arith, low) }

pub stands-named : (x : Scope) (first next : ℕ) (joint : Scope) (name : List ℕ) → AreShared x joint → is_named joint name ≡ true → StandsAt x first next name (spot_named (joint_spots x first next joint) name)
stands-named x first next [] name same there = absurd (false≢true there)
stands-named x first next (v ∷ joint) name same there =
    let scope = joint-scope x first next v in
    let spot = joint_spot x first next v in
    let test : bytes_eq (variable_at spot.scope 0).name name ≡ bytes_eq v.name name = ap (λ vars. bytes_eq (variable_at vars 0).name name) scope in
    elim (bytes_eq v.name name) as (λ b. bytes_eq v.name name ≡ b → (b || is_named joint name) ≡ true → StandsAt x first next name (spot_named (joint_spots x first next (v ∷ joint)) name)) [
      | true ↦ λ is e.
          let found : spot_named (joint_spots x first next (v ∷ joint)) name ≡ spot = ap (λ b. cond b spot (spot_named (joint_spots x first (next + added x v) joint) name)) (test ∙ is) in
          let here = stands-first x first next v same.0 in
          subst (λ (s : Layout). StandsAt x first next name s) (sym found)
          (subst (λ (n : List ℕ). StandsAt x first next n spot) ((bytes_eq-Decides v.name name).0 is) here)
      | false ↦ λ is e.
          let found : spot_named (joint_spots x first next (v ∷ joint)) name ≡ spot_named (joint_spots x first (next + added x v) joint) name = ap (λ b. cond b spot (spot_named (joint_spots x first (next + added x v) joint) name)) (test ∙ is) in
          let rest = stands-named x first (next + added x v) joint name same.1 e in
          subst (λ (s : Layout). StandsAt x first next name s) (sym found) (stands-later x first next (added x v) name (spot_named (joint_spots x first (next + added x v) joint) name) rest)
    ] refl there

-- a variable before a later one
one-beside : (x : Scope) (first next end : ℕ) (v : Variable) (m : List ℕ) (spot : Layout) → bytes_eq v.name m ≡ false → (is_named x v.name ≡ true → variable_named x v.name ≡ v) → first + bits_in x ≤ next → StandsAt x first (next + added x v) m spot → (is_named x m ≡ true → level_in x first m + bits_of (variable_named x m) ≤ first + bits_in x) → AreBeside (joint_spot x first next v) spot
one-beside x first next end v m spot differ same behind stands within =
    elim (is_named x v.name) as (λ b. is_named x v.name ≡ b → next + cond b 0 (bits_of v) ≡ next + added x v → AreBeside (cond b (spot_of v (level_in x first v.name)) (spot_of v next)) spot) [
      | true ↦ λ is e.
          elim (cases_Bool (is_named x m)) [
            | inl of_m ↦
                let at = stands.shared of_m in
                let bits = ap bits_of (same is) in
                elim (level-apart x first v.name m differ is of_m) [
                  | inl before ↦ inl (omega (arith, before, at.0, bits))
                  | inr after ↦ inr (omega (arith, after, at.0, at.1))
                ]
            | inr none ↦
                let low = stands.other none in
                let in_x = level-within x first v.name is in
                let bits = ap bits_of (same is) in
                inl (omega (arith, low, in_x, bits, behind))
          ]
      | false ↦ λ is e.
          elim (cases_Bool (is_named x m)) [
            | inl of_m ↦
                let at = stands.shared of_m in
                let ends = within of_m in
                inr (omega (arith, at.0, at.1, ends, behind))
            | inr none ↦ let low = stands.other none in inl (omega (arith, low, e))
          ]
    ] refl refl

-- different joint variables
pub joint-beside : (x : Scope) (first next : ℕ) (joint : Scope) (n m : List ℕ) → bytes_eq n m ≡ false → AreShared x joint → first + bits_in x ≤ next → is_named joint n ≡ true → is_named joint m ≡ true → AreBeside (spot_named (joint_spots x first next joint) n) (spot_named (joint_spots x first next joint) m)
joint-beside x first next [] n m differ same behind of_n of_m = absurd (false≢true of_n)
joint-beside x first next (v ∷ joint) n m differ same behind of_n of_m =
    let scope = joint-scope x first next v in
    let spot = joint_spot x first next v in
    let spots = joint_spots x first (next + added x v) joint in
    let test = λ (name : List ℕ). let is : bytes_eq (variable_at spot.scope 0).name name ≡ bytes_eq v.name name = ap (λ vars. bytes_eq (variable_at vars 0).name name) scope in is in
    let within = λ (name : List ℕ) (is : is_named x name ≡ true). let low : level_in x first name + bits_of (variable_named x name) ≤ first + bits_in x = level-within x first name is in low in
    let by : AreBeside (cond (bytes_eq v.name n) spot (spot_named spots n)) (cond (bytes_eq v.name m) spot (spot_named spots m)) =
    elim (bytes_eq v.name n) as (λ b. bytes_eq v.name n ≡ b → (b || is_named joint n) ≡ true → AreBeside (cond b spot (spot_named spots n)) (cond (bytes_eq v.name m) spot (spot_named spots m))) [
      | true ↦ λ is_n e.
          elim (bytes_eq v.name m) as (λ c. bytes_eq v.name m ≡ c → (c || is_named joint m) ≡ true → AreBeside spot (cond c spot (spot_named spots m))) [
            | true ↦ λ is_m f.
                let equal : n ≡ m = sym ((bytes_eq-Decides v.name n).0 is_n) ∙ (bytes_eq-Decides v.name m).0 is_m in
                absurd (false≢true (sym differ ∙ (bytes_eq-Decides n m).1 equal))
            | false ↦ λ is_m f.
                one-beside x first next 0 v m (spot_named spots m) is_m same.0 behind (stands-named x first (next + added x v) joint m same.1 f) (within m)
          ] refl of_m
      | false ↦ λ is_n e.
          elim (bytes_eq v.name m) as (λ c. bytes_eq v.name m ≡ c → (c || is_named joint m) ≡ true → AreBeside (spot_named spots n) (cond c spot (spot_named spots m))) [
            | true ↦ λ is_m f.
                beside-turned spot (spot_named spots n) (one-beside x first next 0 v n (spot_named spots n) is_n same.0 behind (stands-named x first (next + added x v) joint n same.1 e) (within n))
            | false ↦ λ is_m f. joint-beside x first (next + added x v) joint n m differ same.1 (omega (arith, behind)) e f
          ] refl of_m
    ] refl of_n in
    subst (λ (b : Bool). AreBeside (cond b spot (spot_named spots n)) (spot_named (spot ∷ spots) m)) (sym (test n))
    (subst (λ (c : Bool). AreBeside (cond (bytes_eq v.name n) spot (spot_named spots n)) (cond c spot (spot_named spots m))) (sym (test m)) by)
