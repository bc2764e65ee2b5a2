-- The joint variables and those of X are scopes, and the problem has just these.
use Rattle.std.proofs.Common.{◌≡◌, ◌≤◌, ◌||◌, ℕ, true, false, List, [], ◌∷◌, ◌++◌, length, map, None, refl, ◌∙◌, ap, subst, arith}
use Rattle.std.specs.Prelude.{if◌then◌else◌}
use Rattle.std.specs.List.{list_all}
use Rattle.std.specs.Str.{bytes_eq}
use Rattle.std.proofs.lemmas.Bool.{false≢true, and_parts}
use Rattle.std.proofs.lemmas.List.{length-map}
use Rattle.std.proofs.lemmas.Slice.Eq.{bytes_eq-Decides}
use Rattle.name_table.specs.Variables.{names_of, is_in, are_different, IsScope}
use Rattle.net_model.specs.Words.{Scope}
use Rattle.net_model.specs.Topologies.{is_named, variable_named, topology_by}
use Rattle.net_model.specs.Problems.{File, file_letters, file_refusal, names_known, list_refusal, first_refusal, IsRefusal}
use Rattle.net_problem.specs.Building.{known_in, joint_in, x_in, names_refusal}
use Rattle.net_model.specs.declared.refusal.NameRefusal as declared_refusal
use Rattle.net_model.specs.declared.class.Mode.{Mode}
use Rattle.net_model.specs.declared.class.Mode.TheVariants.{Sync, Parallel}
use Rattle.net_problem.proofs.NamesKnown.{all_both, known_named}
use Rattle.net_problem.proofs.Joined.{joint_names_different, joint_few, known_few, different_both}
use Rattle.net_problem.proofs.Refused.{both_none, refused_later, names_taken}

-- the joint variables

pub joint_good : (mode : Mode) (f s : Scope) → are_different (names_of f) ≡ true → are_different (names_of s) ≡ true → length f ≤ 4096 → length s ≤ 4096 → IsScope (joint_in mode f s)
joint_good Sync f s first second few more = record {
  few = let size = joint_few f s in omega (arith, size, few, more);
  different = joint_names_different f s first second;
}
joint_good Parallel f s first second few more = record { few = omega arith; different = refl }

-- names of X

-- names that are not refused are known and different
pub names_good : (mode : Mode) (known ins outs : List (List ℕ)) → names_refusal mode known ins outs ≡ None → (list_all (is_in known) (ins ++ outs) ≡ true) × (are_different (ins ++ outs) ≡ true)
names_good mode known ins outs none =
    let parts = both_none (list_refusal mode known [] [] ins) (list_refusal mode known [] ins outs) none in
    let inputs = names_taken mode known [] ins parts.0 in
    let outputs = names_taken mode known ins outs parts.1 in
    (all_both (is_in known) ins outs inputs.all_known outputs.all_known, different_both ins outs inputs.different outputs.different outputs.apart)

-- the variable of a name that is there has this name
pub named_so : (vars : Scope) (name : List ℕ) → is_named vars name ≡ true → (variable_named vars name).name ≡ name
named_so [] name there = absurd (false≢true there)
named_so (v ∷ vars) name there =
    elim (bytes_eq v.name name) as (λ b. bytes_eq v.name name ≡ b → (b || is_named vars name) ≡ true → (if b then v else variable_named vars name).name ≡ name) [
      | true ↦ λ is e. (bytes_eq-Decides v.name name).0 is
      | false ↦ λ is e. named_so vars name e
    ] refl there

all_named_so : (vars : Scope) (names : List (List ℕ)) → list_all (is_named vars) names ≡ true → names_of (map (variable_named vars) names) ≡ names
all_named_so vars [] all = refl
all_named_so vars (name ∷ names) all =
    let parts = and_parts (is_named vars name) (list_all (is_named vars) names) all in
    let first = named_so vars name parts.0 in
    let rest = all_named_so vars names parts.1 in
    λ i. first i ∷ rest i

pub x_good : (mode : Mode) (joint : Scope) (names : List (List ℕ)) → IsScope joint → list_all (is_in (known_in mode joint)) names ≡ true → are_different names ≡ true → IsScope (x_in mode joint names)
x_good Sync joint names good known different =
    let named = known_named joint names known in
    let fewer = known_few (names_of joint) names different known in
    let size = length-map names (variable_named joint) in
    let all = length-map joint (λ v. v.name) in
    record {
      few = omega (arith, fewer, size, all, good.few);
      different = ap are_different (all_named_so joint names named) ∙ different;
    }
x_good Parallel joint names good known different = record { few = omega arith; different = refl }

-- the problem

pub known_same : (mode : Mode) (f s : File) → known_in mode (joint_in mode (file_letters f) (file_letters s)) ≡ names_known mode f s
known_same Sync f s = refl
known_same Parallel f s = refl

pub topology_same : (mode : Mode) (f s : Scope) (ins outs : List (List ℕ)) → record { mode = mode; joint = joint_in mode f s; f = f; s = s; x = x_in mode (joint_in mode f s) (ins ++ outs); inputs = length ins } ≡ topology_by mode f s ins outs
topology_same Sync f s ins outs = refl
topology_same Parallel f s ins outs = refl

-- a refusal of the names is that of the problem, where the files are not refused
pub names_refused : (r : declared_refusal.NameRefusal) (mode : Mode) (f s : File) (joint : Scope) (ins outs : List (List ℕ)) → joint ≡ joint_in mode (file_letters f) (file_letters s) → file_refusal mode f s ≡ None → IsRefusal r (names_refusal mode (known_in mode joint) ins outs) → IsRefusal r (first_refusal mode f s ins outs)
names_refused r mode f s joint ins outs is none refused =
    let known : known_in mode joint ≡ names_known mode f s = ap (known_in mode) is ∙ known_same mode f s in
    refused_later r (file_refusal mode f s) (names_refusal mode (names_known mode f s) ins outs) none
    (subst (λ (names : List (List ℕ)). IsRefusal r (names_refusal mode names ins outs)) known refused)
