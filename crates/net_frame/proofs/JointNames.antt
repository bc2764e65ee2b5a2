-- X's variables among the joint ones.
use Rattle.std.proofs.Common.{◌≡◌, ◌+◌, ◌||◌, ◌∙◌, ℕ, true, false, not, cond, List, [], ◌∷◌, map, refl, sym, ap, arith}
use Rattle.std.specs.List.{list_any, list_all, AllByRecursion}
use Rattle.std.specs.Str.{bytes_eq}
use Rattle.std.proofs.lemmas.Bool.{false≢true, and_parts, or_parts}
use Rattle.std.proofs.lemmas.Slice.Eq.{bytes_eq-Decides}
use Rattle.name_table.specs.CodeBits.{bits_in}
use Rattle.name_table.specs.Variables.{Variable, names_of, are_different}
use Rattle.name_table.proofs.Apart.{bytes_eq_flip, not_true}
use Rattle.net_model.specs.Words.{Scope}
use Rattle.net_model.specs.Topologies.{is_named, variable_named}
use Rattle.net_problem.proofs.ScopesGood.{named_so}
use Rattle.net_frame.specs.Making.{added_bits}
use Rattle.net_frame.proofs.JointLevels.{joint-none, added-one}

-- each variable is the one of its name
still-named : (v : Variable) (all vars : Scope) → list_any (bytes_eq v.name) (names_of vars) ≡ false → AllByRecursion (λ w. variable_named all w.name ≡ w) vars → AllByRecursion (λ w. variable_named (v ∷ all) w.name ≡ w) vars
still-named v all [] none are = tt
still-named v all (w ∷ vars) none are =
    let parts = or_parts (bytes_eq v.name w.name) (list_any (bytes_eq v.name) (names_of vars)) none in
    (ap (λ b. cond b v (variable_named all w.name)) parts.0 ∙ are.0, still-named v all vars parts.1 are.1)

pub each-named : (vars : Scope) → are_different (names_of vars) ≡ true → AllByRecursion (λ v. variable_named vars v.name ≡ v) vars
each-named [] different = tt
each-named (v ∷ vars) different =
    let parts = and_parts (not (list_any (bytes_eq v.name) (names_of vars))) (are_different (names_of vars)) different in
    let here = ap (λ b. cond b v (variable_named vars v.name)) ((bytes_eq-Decides v.name v.name).1 refl) in
    (here, still-named v vars vars (not_true (list_any (bytes_eq v.name) (names_of vars)) parts.0) (each-named vars parts.1))

pub chosen-named : (joint : Scope) (names : List (List ℕ)) (name : List ℕ) → list_all (is_named joint) names ≡ true → is_named (map (variable_named joint) names) name ≡ list_any (bytes_eq name) names
chosen-named joint [] name all = refl
chosen-named joint (n ∷ names) name all =
    let parts = and_parts (is_named joint n) (list_all (is_named joint) names) all in
    let here = ap (λ m. bytes_eq m name) (named_so joint n parts.0) ∙ bytes_eq_flip n name in
    let rest = chosen-named joint names name parts.1 in
    λ i. here i || rest i

-- X's variable of a name is the joint one
pub chosen-same : (joint : Scope) (names : List (List ℕ)) (name : List ℕ) → list_all (is_named joint) names ≡ true → is_named (map (variable_named joint) names) name ≡ true → variable_named (map (variable_named joint) names) name ≡ variable_named joint name
chosen-same joint [] name all there = absurd (false≢true there)
chosen-same joint (n ∷ names) name all there =
    let parts = and_parts (is_named joint n) (list_all (is_named joint) names) all in
    let v = variable_named joint n in
    elim (bytes_eq v.name name) as (λ b. bytes_eq v.name name ≡ b → (b || is_named (map (variable_named joint) names) name) ≡ true → cond b v (variable_named (map (variable_named joint) names) name) ≡ variable_named joint name) [
      | true ↦ λ is e. ap (variable_named joint) (sym (named_so joint n parts.0) ∙ (bytes_eq-Decides v.name name).0 is)
      | false ↦ λ is e. chosen-same joint names name parts.1 e
    ] refl there

same-by : (joint : Scope) (names : List (List ℕ)) (vars : Scope) → list_all (is_named joint) names ≡ true → AllByRecursion (λ v. variable_named joint v.name ≡ v) vars → AllByRecursion (λ v. is_named (map (variable_named joint) names) v.name ≡ true → variable_named (map (variable_named joint) names) v.name ≡ v) vars
same-by joint names [] all are = tt
same-by joint names (v ∷ vars) all are = ((λ there. chosen-same joint names v.name all there ∙ are.0), same-by joint names vars all are.1)

pub x-same : (joint : Scope) (names : List (List ℕ)) → are_different (names_of joint) ≡ true → list_all (is_named joint) names ≡ true → AllByRecursion (λ v. is_named (map (variable_named joint) names) v.name ≡ true → variable_named (map (variable_named joint) names) v.name ≡ v) joint
x-same joint names different all = same-by joint names joint all (each-named joint different)

-- X's bits and those of the other joint variables are those of all
pub x-counted : (joint : Scope) (names : List (List ℕ)) → are_different (names_of joint) ≡ true → list_all (is_named joint) names ≡ true → are_different names ≡ true → bits_in (map (variable_named joint) names) + added_bits (map (variable_named joint) names) joint ≡ bits_in joint
x-counted joint [] different all apart = let none = joint-none joint in omega (arith, none)
x-counted joint (n ∷ names) different all apart =
    let parts = and_parts (is_named joint n) (list_all (is_named joint) names) all in
    let fresh = and_parts (not (list_any (bytes_eq n) names)) (are_different names) apart in
    let x = map (variable_named joint) names in
    let v = variable_named joint n in
    let so = named_so joint n parts.0 in
    let there : is_named joint v.name ≡ true = ap (is_named joint) so ∙ parts.0 in
    let same : variable_named joint v.name ≡ v = ap (variable_named joint) so in
    let none : is_named x v.name ≡ false = ap (is_named x) so ∙ chosen-named joint names n parts.1 ∙ not_true (list_any (bytes_eq n) names) fresh.0 in
    let more = added-one x joint v different there same none in
    let rest = x-counted joint names different parts.1 fresh.1 in
    omega (arith, more, rest)
