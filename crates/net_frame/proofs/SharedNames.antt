-- The letters of F and S among the joint variables.
use Rattle.std.proofs.Common.{◌≡◌, ◌||◌, ◌&&◌, ◌∙◌, ℕ, Bool, true, false, not, cond, List, [], ◌∷◌, ◌++◌, None, refl, sym, ap, inl, inr}
use Rattle.std.specs.Prelude.{filter}
use Rattle.std.specs.List.{AllByRecursion}
use Rattle.std.specs.Str.{bytes_eq}
use Rattle.std.proofs.lemmas.Bool.{false≢true, or_left, or_right, cases_Bool, not-false}
use Rattle.std.proofs.lemmas.List.Elements.{All-from_recursion}
use Rattle.std.proofs.lemmas.List.Folds.{list_any-append}
use Rattle.std.proofs.lemmas.Slice.Eq.{bytes_eq-Decides}
use Rattle.name_table.specs.Variables.{Variable, names_of, are_different, are_same}
use Rattle.name_table.proofs.Shown.{are_same-Decides}
use Rattle.net_model.specs.Words.{Scope}
use Rattle.net_model.specs.Topologies.{is_named, variable_named, joint_scope}
use Rattle.net_model.specs.Problems.{NameRefusal, refused_if, has_other_domain, domain_refusal, DomainDiffers}
use Rattle.net_problem.proofs.Refused.{both_none}
use Rattle.net_problem.proofs.ScopesGood.{named_so}
use Rattle.net_frame.specs.Frames.{AreJoint}
use Rattle.net_frame.proofs.JointNames.{each-named}

front-named : (f rest : Scope) (name : List ℕ) → is_named f name ≡ true → is_named (f ++ rest) name ≡ true
front-named f rest name there = list_any-append (λ v. bytes_eq v.name name) f rest ∙ or_left (is_named f name) (is_named rest name) there

front-same : (f rest : Scope) (name : List ℕ) → is_named f name ≡ true → variable_named (f ++ rest) name ≡ variable_named f name
front-same [] rest name there = absurd (false≢true there)
front-same (v ∷ f) rest name there =
    elim (bytes_eq v.name name) as (λ b. (b || is_named f name) ≡ true → cond b v (variable_named (f ++ rest) name) ≡ cond b v (variable_named f name))
    [ true ↦ λ e. refl | false ↦ λ e. front-same f rest name e ] there

behind-named : (f rest : Scope) (name : List ℕ) → is_named f name ≡ false → is_named (f ++ rest) name ≡ is_named rest name
behind-named f rest name none = list_any-append (λ v. bytes_eq v.name name) f rest ∙ ap (λ b. b || is_named rest name) none

behind-same : (f rest : Scope) (name : List ℕ) → is_named f name ≡ false → variable_named (f ++ rest) name ≡ variable_named rest name
behind-same [] rest name none = refl
behind-same (v ∷ f) rest name none =
    elim (bytes_eq v.name name) as (λ b. (b || is_named f name) ≡ false → cond b v (variable_named (f ++ rest) name) ≡ variable_named rest name)
    [ true ↦ λ e. absurd (false≢true (sym e)) | false ↦ λ e. behind-same f rest name e ] none

abbrev new_of : Scope → Scope → Scope
new_of f s = filter (λ v. not (is_named f v.name)) s

kept-both : (f s : Scope) (name : List ℕ) → is_named f name ≡ false → (is_named (new_of f s) name ≡ is_named s name) × (variable_named (new_of f s) name ≡ variable_named s name)
kept-both f [] name none = (refl, refl)
kept-both f (v ∷ s) name none =
    let rest = kept-both f s name none in
    elim (bytes_eq v.name name) as (λ b. bytes_eq v.name name ≡ b → (is_named (cond (not (is_named f v.name)) (v ∷ new_of f s) (new_of f s)) name ≡ (b || is_named s name)) × (variable_named (cond (not (is_named f v.name)) (v ∷ new_of f s) (new_of f s)) name ≡ cond b v (variable_named s name))) [
      | true ↦ λ is.
          let fresh : is_named f v.name ≡ false = ap (is_named f) ((bytes_eq-Decides v.name name).0 is) ∙ none in
          let kept : cond (not (is_named f v.name)) (v ∷ new_of f s) (new_of f s) ≡ v ∷ new_of f s = ap (λ b. cond (not b) (v ∷ new_of f s) (new_of f s)) fresh in (
            ap (λ vars. is_named vars name) kept ∙ ap (λ b. b || is_named (new_of f s) name) is,
            ap (λ vars. variable_named vars name) kept ∙ ap (λ b. cond b v (variable_named (new_of f s) name)) is,
          )
      | false ↦ λ is.
          elim (is_named f v.name) as (λ b. (is_named (cond (not b) (v ∷ new_of f s) (new_of f s)) name ≡ is_named s name) × (variable_named (cond (not b) (v ∷ new_of f s) (new_of f s)) name ≡ variable_named s name)) [
            | true ↦ rest
            | false ↦ (ap (λ b. b || is_named (new_of f s) name) is ∙ rest.0, ap (λ b. cond b v (variable_named (new_of f s) name)) is ∙ rest.1)
          ]
    ] refl

-- each variable is named in its own list
named-more : (v : Variable) (all vars : Scope) → AllByRecursion (λ w. is_named all w.name ≡ true) vars → AllByRecursion (λ w. is_named (v ∷ all) w.name ≡ true) vars
named-more v all [] are = tt
named-more v all (w ∷ vars) are = (or_right (bytes_eq v.name w.name) (is_named all w.name) are.0, named-more v all vars are.1)

self-named : (vars : Scope) → AllByRecursion (λ v. is_named vars v.name ≡ true) vars
self-named [] = tt
self-named (v ∷ vars) = (or_left (bytes_eq v.name v.name) (is_named vars v.name) ((bytes_eq-Decides v.name v.name).1 refl), named-more v vars vars (self-named vars))

abbrev IsVariableOf : Scope → Variable → Type 0
IsVariableOf vars v = (is_named vars v.name ≡ true) × (variable_named vars v.name ≡ v)

both-hold : (P Q R : Variable → Type 0) → ((v : Variable) → P v → Q v → R v) → (vars : Scope) → AllByRecursion P vars → AllByRecursion Q vars → AllByRecursion R vars
both-hold P Q R both [] p q = tt
both-hold P Q R both (v ∷ vars) p q = (both v p.0 q.0, both-hold P Q R both vars p.1 q.1)

pub joint-has-f : (f s : Scope) → are_different (names_of f) ≡ true → AreJoint (joint_scope f s) f
joint-has-f f s different =
    All-from_recursion (IsVariableOf (joint_scope f s)) f
    (both-hold (λ v. is_named f v.name ≡ true) (λ v. variable_named f v.name ≡ v) (IsVariableOf (joint_scope f s))
    (λ v there is. (front-named f (new_of f s) v.name there, front-same f (new_of f s) v.name there ∙ is))
    f (self-named f) (each-named f different))

-- a variable of both is one
refused-none : (b : Bool) (r : NameRefusal) → refused_if b r ≡ None → b ≡ false
refused-none true r none = cc
refused-none false r none = refl

one-domain : (f s : Scope) (name : List ℕ) → domain_refusal f s ≡ None → is_named f name ≡ true → is_named s name ≡ true → variable_named f name ≡ variable_named s name
one-domain [] s name none in_f in_s = absurd (false≢true in_f)
one-domain (v ∷ f) s name none in_f in_s =
    let parts = both_none (refused_if (has_other_domain s v.name v.values) (DomainDiffers v.name)) (domain_refusal f s) none in
    elim (bytes_eq v.name name) as (λ b. bytes_eq v.name name ≡ b → (b || is_named f name) ≡ true → cond b v (variable_named f name) ≡ variable_named s name) [
      | true ↦ λ is e.
          let same : v.name ≡ name = (bytes_eq-Decides v.name name).0 is in
          let other : not (are_same v.values (variable_named s name).values) ≡ false =
          ap (λ n. not (are_same v.values (variable_named s n).values)) (sym same)
          ∙ ap (λ b. b && not (are_same v.values (variable_named s v.name).values)) (sym (ap (is_named s) same ∙ in_s))
          ∙ refused-none (has_other_domain s v.name v.values) (DomainDiffers v.name) parts.0 in
          let values : v.values ≡ (variable_named s name).values = (are_same-Decides v.values (variable_named s name).values _ refl).0 (not-false (are_same v.values (variable_named s name).values) other) in
          let named : v.name ≡ (variable_named s name).name = same ∙ sym (named_so s name in_s) in
          λ i. record { name = named i; values = values i }
      | false ↦ λ is e. one-domain f s name parts.1 e in_s
    ] refl in_f

joint-has-one : (f s : Scope) → domain_refusal f s ≡ None → (v : Variable) → is_named s v.name ≡ true → variable_named s v.name ≡ v → IsVariableOf (joint_scope f s) v
joint-has-one f s none v there is =
    elim (cases_Bool (is_named f v.name)) [
      | inl in_f ↦ (front-named f (new_of f s) v.name in_f, front-same f (new_of f s) v.name in_f ∙ one-domain f s v.name none in_f there ∙ is)
      | inr fresh ↦
          let kept = kept-both f s v.name fresh in
          (behind-named f (new_of f s) v.name fresh ∙ kept.0 ∙ there, behind-same f (new_of f s) v.name fresh ∙ kept.1 ∙ is)
    ]

pub joint-has-s : (f s : Scope) → domain_refusal f s ≡ None → are_different (names_of s) ≡ true → AreJoint (joint_scope f s) s
joint-has-s f s none different =
    All-from_recursion (IsVariableOf (joint_scope f s)) s
    (both-hold (λ v. is_named s v.name ≡ true) (λ v. variable_named s v.name ≡ v) (IsVariableOf (joint_scope f s)) (joint-has-one f s none)
    s (self-named s) (each-named s different))
