use Rattle.std.specs.Prelude.{◌≡◌, ◌<◌, ◌==◌, ◌&&◌, ℕ, Bool, true, false, not, List, [], ◌∷◌, ◌++◌, length, Option, Some, None, codes}
use Rattle.name_table.specs.Variables.{names_of, is_in, are_same}
use Rattle.net_model.specs.Words.{Scope}
use Rattle.net_model.specs.Parts.{actions_of}
use Rattle.net_model.specs.Equation.{Topology}
use Rattle.net_model.specs.Topologies.{is_named, variable_named, joint_scope, joint_actions, topology_by}
pub use Rattle.net_model.specs.Files.{File, NetFile, MachineFile, file_of, IsSoundFile, file_letters, has_one_variable}
use Rattle.net_model.specs.declared.class.Mode.{Mode}
use Rattle.net_model.specs.declared.class.Mode.TheVariants.{Sync, Parallel}
use Rattle.net_model.specs.declared.refusal.Slot.{Slot}
use Rattle.net_model.specs.declared.refusal.Slot.TheVariants.{F, S}
use Rattle.net_model.specs.declared.refusal.NameRefusal as declared_refusal
use Rattle.net_model.specs.declared.refusal.NameRefusal.TheVariants as refusals

-- The problem that two files and two lists of names make, and why names make none.

-- a problem as plain data: its files, and the scopes of its equation
pub record Problem : Type 0 where
  pub f : File
  pub s : File
  pub topology : Topology

-- these files with these scopes
abbrev pub problem_with : Mode → File → File → Scope → Scope → ℕ → Problem
problem_with mode f s joint x inputs = record {
  f = f;
  s = s;
  topology = record { mode = mode; joint = joint; f = file_letters f; s = file_letters s; x = x; inputs = inputs };
}

-- the problem of these files, for an X with these names
abbrev pub problem_of : Mode → File → File → List (List ℕ) → List (List ℕ) → Problem
problem_of mode f s ins outs = record { f = f; s = s; topology = topology_by mode (file_letters f) (file_letters s) ins outs }

-- why names are refused
pub data NameRefusal : Type 0 where
  UnknownName : (name : List ℕ) → NameRefusal
  RepeatedName : (name : List ℕ) → NameRefusal
  InBoth : (name : List ℕ) → NameRefusal
  ReservedName : (name : List ℕ) → NameRefusal
  DomainDiffers : (name : List ℕ) → NameRefusal
  NotOneVariable : Slot → NameRefusal
  LettersDiffer : (name : List ℕ) → NameRefusal

-- the first refusal, where there is one, before another
abbrev pub or_else : Option NameRefusal → Option NameRefusal → Option NameRefusal
or_else (Some refusal) other = Some refusal
or_else None other = other

abbrev pub refused_if : Bool → NameRefusal → Option NameRefusal
refused_if true refusal = Some refusal
refused_if false refusal = None

-- a variable of F that S has with another domain
abbrev pub has_other_domain : Scope → List ℕ → List (List ℕ) → Bool
has_other_domain s name values = is_named s name && not (are_same values (variable_named s name).values)

-- the first variable of F, in its order, that has two domains
abbrev pub domain_refusal : Scope → Scope → Option NameRefusal
domain_refusal [] s = None
domain_refusal (v ∷ f) s =
    or_else (refused_if (has_other_domain s v.name v.values) (DomainDiffers v.name)) (domain_refusal f s)

-- a file without the one variable of parallel mode
abbrev pub variable_refusal : Slot → File → Option NameRefusal
variable_refusal slot file = refused_if (not (has_one_variable file)) (NotOneVariable slot)

-- the files alone: in parallel mode each has one variable; else a variable of both has one domain
abbrev pub file_refusal : Mode → File → File → Option NameRefusal
file_refusal Sync f s = domain_refusal (file_letters f) (file_letters s)
file_refusal Parallel f s = or_else (variable_refusal F f) (variable_refusal S s)

-- the names that X may have: those of variables, or the actions
abbrev pub names_known : Mode → File → File → List (List ℕ)
names_known Sync f s = names_of (joint_scope (file_letters f) (file_letters s))
names_known Parallel f s = joint_actions (actions_of (file_letters f)) (actions_of (file_letters s))

-- a name that automaton files use themselves; actions may have it
abbrev pub is_reserved : Mode → List ℕ → Bool
is_reserved Sync name = is_in (codes "CS" ∷ codes "NS" ∷ codes "Acc" ∷ []) name
is_reserved Parallel name = false

-- the fault of a name of a list, where these are known, these stand before it in its list, and these in the other one
abbrev pub name_refusal : Mode → List (List ℕ) → List (List ℕ) → List (List ℕ) → List ℕ → Option NameRefusal
name_refusal mode known before others name =
    or_else (refused_if (not (is_in known name)) (UnknownName name))
    (or_else (refused_if (is_in before name) (RepeatedName name))
    (or_else (refused_if (is_in others name) (InBoth name)) (refused_if (is_reserved mode name) (ReservedName name))))

-- that of the first name of a list that has one
abbrev pub list_refusal : Mode → List (List ℕ) → List (List ℕ) → List (List ℕ) → List (List ℕ) → Option NameRefusal
list_refusal mode known before others [] = None
list_refusal mode known before others (name ∷ names) =
    or_else (name_refusal mode known before others name) (list_refusal mode known (before ++ name ∷ []) others names)

-- why there is no problem: the files first, then the names of the inputs, then those of the outputs
abbrev pub first_refusal : Mode → File → File → List (List ℕ) → List (List ℕ) → Option NameRefusal
first_refusal mode f s ins outs =
    or_else (file_refusal mode f s)
    (or_else (list_refusal mode (names_known mode f s) [] [] ins) (list_refusal mode (names_known mode f s) [] ins outs))

-- the answer is the refusal that comes first; want of memory is free
abbrev pub IsRefusal : declared_refusal.NameRefusal → Option NameRefusal → Type 0
IsRefusal (refusals.UnknownName name) first = first ≡ Some (UnknownName name.items)
IsRefusal (refusals.RepeatedName name) first = first ≡ Some (RepeatedName name.items)
IsRefusal (refusals.InBoth name) first = first ≡ Some (InBoth name.items)
IsRefusal (refusals.ReservedName name) first = first ≡ Some (ReservedName name.items)
IsRefusal (refusals.DomainDiffers name) first = first ≡ Some (DomainDiffers name.items)
IsRefusal (refusals.NotOneVariable slot) first = first ≡ Some (NotOneVariable slot)
IsRefusal (refusals.LettersDiffer name) first = first ≡ Some (LettersDiffer name.items)
IsRefusal refusals.Memory first = Unit {0}

-- what every problem keeps: its files are sound, and its scopes are those of some names that are not refused
pub record IsBuilt (problem : Problem) : Type 0 where
  pub f_sound : IsSoundFile problem.f
  pub s_sound : IsSoundFile problem.s
  pub ins : List (List ℕ)
  pub outs : List (List ℕ)
  pub some : problem.topology.mode ≡ Parallel → 0 < length (ins ++ outs)
  pub accepted : first_refusal problem.topology.mode problem.f problem.s ins outs ≡ None
  pub scopes : problem ≡ problem_of problem.topology.mode problem.f problem.s ins outs
