-- Few actions: those of a file's variables, those of both files, and those of X.
use Rattle.std.proofs.Common.{◌≡◌, ◌≤◌, ℕ, zero, suc, true, List, [], ◌∷◌, length, arith}
use Rattle.std.specs.Prelude.{not, filter}
use Rattle.std.specs.List.{AllByRecursion, list_all}
use Rattle.std.proofs.lemmas.List.{length-append}
use Rattle.std.proofs.lemmas.List.Sums.{length-filter, count_by-le-length}
use Rattle.name_table.specs.ScopeVars.{variable_at, chosen_of}
use Rattle.name_table.specs.Variables.{is_in, are_different}
use Rattle.net_model.specs.Words.{Scope}
use Rattle.net_model.specs.Parts.{actions_of}
use Rattle.net_model.specs.Topologies.{joint_actions}
use Rattle.net_problem.specs.Building.{known_in, joint_in}
use Rattle.net_model.specs.declared.class.Mode.{Mode}
use Rattle.net_model.specs.declared.class.Mode.TheVariants.{Sync, Parallel}
use Rattle.net_problem.proofs.Joined.{known_few}

-- no variable has too many values
abbrev pub AreSmall : Scope → Type 0
AreSmall vars = AllByRecursion (λ v. length v.values ≤ 65536) vars

small_at : (vars : Scope) (k : ℕ) → AreSmall vars → length (variable_at vars k).values ≤ 65536
small_at [] k small = omega arith
small_at (v ∷ vars) zero small = small.0
small_at (v ∷ vars) (suc k) small = small_at vars k small.1

pub chosen_few : (vars : Scope) (numbers : List ℕ) → AreSmall vars → length (actions_of (chosen_of vars numbers)) ≤ 65536
chosen_few vars [] small = omega arith
chosen_few vars (k ∷ numbers) small = small_at vars k small

pub joint_actions_few : (f s : List (List ℕ)) → length f ≤ 65536 → length s ≤ 65536 → length (joint_actions f s) ≤ 131072
joint_actions_few f s few more =
    let kept = filter (λ action. not (is_in f action)) s in
    let both = length-append f kept in
    let counted = length-filter (λ action. not (is_in f action)) s in
    let fewer = count_by-le-length (λ action. not (is_in f action)) s in
    omega (arith, both, counted, fewer, few, more)

pub joint_in_few : (mode : Mode) (f s : Scope) → mode ≡ Parallel → length (actions_of f) ≤ 65536 → length (actions_of s) ≤ 65536 → length (actions_of (joint_in mode f s)) ≤ 131072
joint_in_few Sync f s is few more = cc
joint_in_few Parallel f s is few more = joint_actions_few (actions_of f) (actions_of s) few more

-- names that are known in parallel mode are no more than the actions
pub acting_few : (mode : Mode) (joint : Scope) (names : List (List ℕ)) → mode ≡ Parallel → list_all (is_in (known_in mode joint)) names ≡ true → are_different names ≡ true → length (actions_of joint) ≤ 131072 → length names ≤ 131072
acting_few Sync joint names is known different few = cc
acting_few Parallel joint names is known different few =
    let fewer = known_few (actions_of joint) names different known in
    omega (arith, fewer, few)
