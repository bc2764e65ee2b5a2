use Rattle.std.specs.Prelude.{ℕ, List, [], map, Option}
use Rattle.name_table.specs.Variables.{names_of}
use Rattle.net_model.specs.Words.{Scope}
use Rattle.net_model.specs.Parts.{actions_of}
use Rattle.net_model.specs.Topologies.{variable_named, joint_scope, joint_actions, acting}
use Rattle.net_model.specs.Problems.{NameRefusal, or_else, list_refusal}
use Rattle.net_model.specs.declared.class.Mode.{Mode}
use Rattle.net_model.specs.declared.class.Mode.TheVariants.{Sync, Parallel}

-- What a problem is built of.

-- the names that X may have, by the joint scope: those of its variables, or its actions
abbrev pub known_in : Mode → Scope → List (List ℕ)
known_in Sync joint = names_of joint
known_in Parallel joint = actions_of joint

-- the joint scope of files with these letters
abbrev pub joint_in : Mode → Scope → Scope → Scope
joint_in Sync f s = joint_scope f s
joint_in Parallel f s = acting (joint_actions (actions_of f) (actions_of s))

-- X's scope, for these names
abbrev pub x_in : Mode → Scope → List (List ℕ) → Scope
x_in Sync joint names = map (variable_named joint) names
x_in Parallel joint names = acting names

-- why names can't be X's, where these are known: those of the inputs first
abbrev pub names_refusal : Mode → List (List ℕ) → List (List ℕ) → List (List ℕ) → Option NameRefusal
names_refusal mode known ins outs = or_else (list_refusal mode known [] [] ins) (list_refusal mode known [] ins outs)
