use Rattle.std.proofs.Common.{◌≡◌, ◌<◌, ◌≤◌, ◌⊎◌, ℕ, zero, suc, Bool, true, false, not, List, [], ◌∷◌, ◌++◌, length, map, filter, Option, Some, None, cond, refl, sym, ap, subst, ◌∙◌, arith, codes, inl, inr}
use Rattle.std.specs.Prelude.{nat_eq, All}
use Rattle.std.specs.List.{AllByRecursion, list_any}
use Rattle.std.specs.Str.{bytes_eq}
use Rattle.std.specs.Fmt.{digits}
use Rattle.std.proofs.lemmas.Bool.{false≢true, or_cases}
use Rattle.std.proofs.lemmas.Slice.Eq.{bytes_eq-Decides}
use Rattle.name_table.specs.Variables.{names_of, is_in, are_different, numbers}
use Rattle.name_table.proofs.Apart.{IsDomain-numbers}
use Rattle.name_table.proofs.Numbered.{length_numbers}
use Rattle.name_table.specs.ScopeVars.{variable_at, chosen_of}
use Rattle.net_model.specs.Words.{Variable, Scope}
use Rattle.net_model.specs.Nets.{Net}
use Rattle.net_model.specs.NetLanguages.{is_automaton, other_outputs, letter_signals, letters_of}
use Rattle.net_model.specs.SoundNets.{IsSound}
use Rattle.net_model.specs.Written.{IsTextValue, IsTextVariable}
use Rattle.net_model.specs.Machines.{IsColumn}
use Rattle.net_model.specs.Equation.{Topology}
use Rattle.net_model.specs.Printed.{IsPrintedVariable}
use Rattle.net_model.specs.Topologies.{is_named, variable_named, joint_scope, topology_by}
use Rattle.aut_format.specs.Rows.{HaveTextNames}
use Rattle.net_model.specs.Problems.{File, NetFile, MachineFile, Problem, IsBuilt, IsSoundFile, file_letters, NameRefusal, UnknownName, RepeatedName, InBoth, ReservedName, or_else, refused_if, name_refusal, list_refusal, first_refusal, file_refusal, is_reserved}
use Rattle.net_model.specs.declared.class.Mode.{Mode}
use Rattle.net_model.specs.declared.class.Mode.TheVariants.{Sync, Parallel}
use Rattle.net_problem.specs.Building.{names_refusal}
use Rattle.net_problem.proofs.ScopesGood.{names_good}
use Rattle.solution_text.specs.Names.{IsFreeName}

-- Names that make a problem.

-- where none comes first, neither comes
neither : (first other : Option NameRefusal) → or_else first other ≡ None → (first ≡ None) × (other ≡ None)
neither None other e = (refl, e)
neither (Some refusal) other e = cc

not_refused : (b : Bool) (refusal : NameRefusal) → refused_if b refusal ≡ None → b ≡ false
not_refused true refusal e = cc
not_refused false refusal e = refl

-- a name that is known and free
pub record IsGoodName (known : List (List ℕ)) (name : List ℕ) : Type 0 where
  pub known_is : is_in known name ≡ true
  pub free : IsFreeName name

not_false : (b : Bool) → not b ≡ false → b ≡ true
not_false true e = refl
not_false false e = absurd (false≢true (sym e))

reserved_here : (name : List ℕ) → name ≡ codes "CS" → is_reserved Sync name ≡ true
reserved_here name is = ap (is_reserved Sync) is

reserved_next : (name : List ℕ) → name ≡ codes "NS" → is_reserved Sync name ≡ true
reserved_next name is = ap (is_reserved Sync) is

reserved_acc : (name : List ℕ) → name ≡ codes "Acc" → is_reserved Sync name ≡ true
reserved_acc name is = ap (is_reserved Sync) is

free_name : (name : List ℕ) → is_reserved Sync name ≡ false → IsFreeName name
free_name name none = record {
  not_present = λ is. absurd (false≢true (sym none ∙ reserved_here name is));
  not_next = λ is. absurd (false≢true (sym none ∙ reserved_next name is));
  not_accepting = λ is. absurd (false≢true (sym none ∙ reserved_acc name is));
}

good_name : (known before others : List (List ℕ)) (name : List ℕ) → name_refusal Sync known before others name ≡ None → IsGoodName known name
good_name known before others name none =
    let unknown = refused_if (not (is_in known name)) (UnknownName name) in
    let repeated = refused_if (is_in before name) (RepeatedName name) in
    let both = refused_if (is_in others name) (InBoth name) in
    let reserved = refused_if (is_reserved Sync name) (ReservedName name) in
    let one = neither unknown (or_else repeated (or_else both reserved)) none in
    let two = neither repeated (or_else both reserved) one.1 in
    let three = neither both reserved two.1 in
    record {
      known_is = not_false (is_in known name) (not_refused (not (is_in known name)) (UnknownName name) one.0);
      free = free_name name (not_refused (is_reserved Sync name) (ReservedName name) three.1);
    }

good_list : (known before others names : List (List ℕ)) → list_refusal Sync known before others names ≡ None → AllByRecursion (IsGoodName known) names
good_list known before others [] none = tt
good_list known before others (name ∷ names) none =
    let parts = neither (name_refusal Sync known before others name) (list_refusal Sync known (before ++ name ∷ []) others names) none in
    (good_name known before others name parts.0, good_list known (before ++ name ∷ []) others names parts.1)

all_append : (known xs ys : List (List ℕ)) → AllByRecursion (IsGoodName known) xs → AllByRecursion (IsGoodName known) ys → AllByRecursion (IsGoodName known) (xs ++ ys)
all_append known [] ys h k = k
all_append known (x ∷ xs) ys h k = (h.0, all_append known xs ys h.1 k)

-- the names of a problem
pub good_names : (f s : File) (ins outs : List (List ℕ)) → first_refusal Sync f s ins outs ≡ None → AllByRecursion (IsGoodName (names_of (joint_scope (file_letters f) (file_letters s)))) (ins ++ outs)
good_names f s ins outs none =
    let known = names_of (joint_scope (file_letters f) (file_letters s)) in
    let first = list_refusal Sync known [] [] ins in
    let second = list_refusal Sync known [] ins outs in
    let lists = (neither (file_refusal Sync f s) (or_else first second) none).1 in
    let parts = neither first second lists in
    all_append known ins outs (good_list known [] [] ins parts.0) (good_list known [] ins outs parts.1)

-- the variables of these names

name_found : (joint : Scope) (name : List ℕ) → (variable_named joint name).name ≡ name
name_found [] name = refl
name_found (v ∷ joint) name =
    elim (bytes_eq v.name name) as (λ b. bytes_eq v.name name ≡ b → (cond b v (variable_named joint name)).name ≡ name) [
      | true ↦ λ e. (bytes_eq-Decides v.name name).0 e
      | false ↦ λ e. name_found joint name
    ] refl

pub names_found : (joint : Scope) (names : List (List ℕ)) → names_of (map (variable_named joint) names) ≡ names
names_found joint [] = refl
names_found joint (name ∷ names) = ap (λ n. n ∷ names_of (map (variable_named joint) names)) (name_found joint name) ∙ ap (λ ns. name ∷ ns) (names_found joint names)

-- what holds of the joint variables holds of one that is found
variable_found : (P : Variable → Type 0) (joint : Scope) (name : List ℕ) → AllByRecursion P joint → is_in (names_of joint) name ≡ true → P (variable_named joint name)
variable_found P [] name all known = absurd (false≢true known)
variable_found P (v ∷ joint) name all known =
    elim (bytes_eq v.name name) as (λ b. bytes_eq v.name name ≡ b → P (cond b v (variable_named joint name))) [
      | true ↦ λ e. all.0
      | false ↦ λ e. variable_found P joint name all.1 (elsewhere e (or_cases (bytes_eq name v.name) (is_in (names_of joint) name) known))
    ] refl
  where
    elsewhere : bytes_eq v.name name ≡ false → (bytes_eq name v.name ≡ true) ⊎ (is_in (names_of joint) name ≡ true) → is_in (names_of joint) name ≡ true
    elsewhere e (inl here) =
        let same : bytes_eq v.name name ≡ true = (bytes_eq-Decides v.name name).1 (sym ((bytes_eq-Decides name v.name).0 here)) in
        absurd (false≢true (sym e ∙ same))
    elsewhere e (inr there) = there

pub variables_found : (P : Variable → Type 0) (joint : Scope) (names : List (List ℕ)) → AllByRecursion P joint → AllByRecursion (IsGoodName (names_of joint)) names → AllByRecursion P (map (variable_named joint) names)
variables_found P joint [] all good = tt
variables_found P joint (name ∷ names) all good = (variable_found P joint name all good.0.known_is, variables_found P joint names all good.1)

pub free_names : (known names : List (List ℕ)) → AllByRecursion (IsGoodName known) names → AllByRecursion IsFreeName names
free_names known [] good = tt
free_names known (name ∷ names) good = (good.0.free, free_names known names good.1)

-- the joint variables of sound files

at_place : (P : Variable → Type 0) (vars : Scope) (k : ℕ) → AllByRecursion P vars → k < length vars → P (variable_at vars k)
at_place P [] k all below = absurd (omega arith)
at_place P (v ∷ vars) zero all below = all.0
at_place P (v ∷ vars) (suc k) all below = at_place P vars k all.1 (omega arith)

by_recursion : {X : Type 0} (P : X → Type 0) (xs : List X) → All P xs → AllByRecursion P xs
by_recursion P [] all = tt
by_recursion P (x ∷ xs) all = (all 0 x (omega arith), by_recursion P xs (λ k d below. all (suc k) d (omega arith)))

kept_all : {X : Type 0} (P : X → Type 0) (p : X → Bool) (xs : List X) → AllByRecursion P xs → AllByRecursion P (filter p xs)
kept_all P p [] all = tt
kept_all P p (x ∷ xs) all =
    elim (p x) as (λ b. AllByRecursion P (cond b (x ∷ filter p xs) (filter p xs))) [ true ↦ (all.0, kept_all P p xs all.1) | false ↦ kept_all P p xs all.1 ]

joined_all : {X : Type 0} (P : X → Type 0) (xs ys : List X) → AllByRecursion P xs → AllByRecursion P ys → AllByRecursion P (xs ++ ys)
joined_all P [] ys h k = k
joined_all P (x ∷ xs) ys h k = (h.0, joined_all P xs ys h.1 k)

chosen_all : (P : Variable → Type 0) (vars : Scope) (signals : List ℕ) → AllByRecursion P vars → AllByRecursion (λ signal. signal < length vars) signals → AllByRecursion P (chosen_of vars signals)
chosen_all P vars [] all known = tt
chosen_all P vars (signal ∷ signals) all known = (at_place P vars signal all known.0, chosen_all P vars signals all known.1)

abbrev IsKnownIn : Net → ℕ → Type 0
IsKnownIn net signal = signal < length net.names

-- a variable of a text that has no more values than a file may give
abbrev IsFileVariable : Variable → Type 0
IsFileVariable v = IsTextVariable v × (length v.values ≤ 65536)

both_all : (vars : Scope) → AllByRecursion IsTextVariable vars → AllByRecursion (λ v. length v.values ≤ 65536) vars → AllByRecursion IsFileVariable vars
both_all [] text few = tt
both_all (v ∷ vars) text few = ((text.0, few.0), both_all vars text.1 few.1)

letters_text : (net : Net) → IsSound net → AllByRecursion IsFileVariable (letters_of net)
letters_text net sound =
    let inputs = by_recursion (IsKnownIn net) net.inputs sound.known.inputs in
    let outputs = by_recursion (IsKnownIn net) net.outputs sound.known.outputs in
    let others = kept_all (IsKnownIn net) (λ signal. not (list_any (nat_eq signal) net.inputs)) net.outputs outputs in
    let both = joined_all (IsKnownIn net) net.inputs (other_outputs net) inputs others in
    let signals : AllByRecursion (IsKnownIn net) (letter_signals net) =
    elim (is_automaton net) as (λ b. AllByRecursion (IsKnownIn net) (cond b net.inputs (net.inputs ++ other_outputs net))) [ true ↦ inputs | false ↦ both ] in
    chosen_all IsFileVariable net.names (letter_signals net) (both_all net.names sound.names sound.known.names.small) signals

-- the columns of a machine

digits_text : AllByRecursion IsTextValue (numbers 2)
unfolding digits
digits_text = (record { word = refl; name_is = refl }, (record { word = refl; name_is = refl }, tt))

column_text : (v : Variable) → IsColumn v → IsFileVariable v
column_text v is =
    let size = ap length is.values ∙ length_numbers 2 in (
      record {
        name = is.name;
        values = subst (AllByRecursion IsTextValue) (sym is.values) digits_text;
        some = omega (arith, size);
        different = ap are_different is.values ∙ (IsDomain-numbers 2 (omega arith) (omega arith)).different;
      },
      omega (arith, size),
    )

columns_text : (columns : Scope) → AllByRecursion IsColumn columns → AllByRecursion IsFileVariable columns
columns_text [] each = tt
columns_text (v ∷ columns) each = (column_text v each.0, columns_text columns each.1)

file_text : (file : File) → IsSoundFile file → AllByRecursion IsFileVariable (file_letters file)
file_text (NetFile net) sound = letters_text net sound
file_text (MachineFile machine) sound = joined_all IsFileVariable machine.inputs machine.outputs (columns_text machine.inputs sound.inputs.each) (columns_text machine.outputs sound.outputs.each)

joint_text : (f s : File) → IsSoundFile f → IsSoundFile s → AllByRecursion IsFileVariable (joint_scope (file_letters f) (file_letters s))
joint_text f s f_sound s_sound =
    joined_all IsFileVariable (file_letters f) _ (file_text f f_sound)
    (kept_all IsFileVariable (λ (v : Variable). not (is_named (file_letters f) v.name)) (file_letters s) (file_text s s_sound))

-- variables of a text with free names are variables of printed automata
printed_variables : (vars : Scope) → AllByRecursion IsFileVariable vars → AllByRecursion IsFreeName (names_of vars) → AllByRecursion IsPrintedVariable vars
printed_variables [] file free = tt
printed_variables (v ∷ vars) file free = (
  record {
    text = file.0.0;
    few = let small = file.0.1 in omega (arith, small);
    not_present = free.0.not_present;
    not_next = free.0.not_next;
    not_accepting = free.0.not_accepting;
  },
  printed_variables vars file.1 free.1,
)

-- X's variables
x_names : (f s : File) (ins outs : List (List ℕ)) → IsSoundFile f → IsSoundFile s → first_refusal Sync f s ins outs ≡ None → HaveTextNames (map (variable_named (joint_scope (file_letters f) (file_letters s))) (ins ++ outs))
x_names f s ins outs f_sound s_sound none =
    let joint = joint_scope (file_letters f) (file_letters s) in
    let good = good_names f s ins outs none in
    let lists = (neither (file_refusal Sync f s) (names_refusal Sync (names_of joint) ins outs) none).1 in
    record {
      vars = printed_variables (map (variable_named joint) (ins ++ outs)) (variables_found IsFileVariable joint (ins ++ outs) (joint_text f s f_sound s_sound) good)
          (subst (AllByRecursion IsFreeName) (sym (names_found joint (ins ++ outs))) (free_names (names_of joint) (ins ++ outs) good));
      different = ap are_different (names_found joint (ins ++ outs)) ∙ (names_good Sync (names_of joint) ins outs lists).1;
    }

names_by : (mode : Mode) (f s : File) (ins outs : List (List ℕ)) → mode ≡ Sync → IsSoundFile f → IsSoundFile s → first_refusal mode f s ins outs ≡ None → HaveTextNames (topology_by mode (file_letters f) (file_letters s) ins outs).x
names_by Sync f s ins outs sync f_sound s_sound none = x_names f s ins outs f_sound s_sound none
names_by Parallel f s ins outs sync f_sound s_sound none = cc

pub problem_names : (problem : Problem) → IsBuilt problem → problem.topology.mode ≡ Sync → HaveTextNames problem.topology.x
problem_names problem built sync =
    let is : problem.topology ≡ topology_by problem.topology.mode (file_letters problem.f) (file_letters problem.s) built.ins built.outs = ap (λ (p : Problem). p.topology) built.scopes in
    subst (λ (t : Topology). HaveTextNames t.x) (sym is) (names_by problem.topology.mode problem.f problem.s built.ins built.outs sync built.f_sound built.s_sound built.accepted)
