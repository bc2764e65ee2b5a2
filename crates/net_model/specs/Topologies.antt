use Rattle.std.specs.Prelude.{ℕ, Bool, not, List, [], ◌∷◌, ◌++◌, length, map, filter, if◌then◌else◌, codes}
use Rattle.std.specs.Str.{bytes_eq}
use Rattle.std.specs.List.{list_any}
use Rattle.name_table.specs.Variables.{is_in}
use Rattle.net_model.specs.Words.{Variable, Scope}
use Rattle.net_model.specs.Parts.{actions_of}
use Rattle.net_model.specs.Equation.{Topology}
use Rattle.net_model.specs.declared.class.Mode.{Mode}
use Rattle.net_model.specs.declared.class.Mode.TheVariants.{Sync, Parallel}

-- some variable of the scope has this name
abbrev pub is_named : Scope → List ℕ → Bool
is_named scope name = list_any (λ v. bytes_eq v.name name) scope

-- the variable of this name; one without values where there is none
abbrev pub variable_named : Scope → List ℕ → Variable
variable_named [] name = record { name = name; values = [] }
variable_named (v ∷ scope) name = if bytes_eq v.name name then v else variable_named scope name

-- F's variables in their order, then those of S that F doesn't have
abbrev pub joint_scope : Scope → Scope → Scope
joint_scope f s = f ++ filter (λ v. not (is_named f v.name)) s

-- the synchronous equation of F and S for an X with these inputs and outputs
abbrev pub sync_topology : Scope → Scope → List (List ℕ) → List (List ℕ) → Topology
sync_topology f s ins outs = record {
  mode = Sync;
  joint = joint_scope f s;
  f = f;
  s = s;
  x = map (variable_named (joint_scope f s)) (ins ++ outs);
  inputs = length ins;
}

-- F's actions in their order, then those of S that F doesn't have
abbrev pub joint_actions : List (List ℕ) → List (List ℕ) → List (List ℕ)
joint_actions f s = f ++ filter (λ action. not (is_in f action)) s

-- the letters of parallel mode: one variable, whose values are actions
abbrev pub acting : List (List ℕ) → Scope
acting actions = record { name = codes "act"; values = actions } ∷ []

-- the parallel equation of F and S for an X with these input and output actions
abbrev pub parallel_topology : Scope → Scope → List (List ℕ) → List (List ℕ) → Topology
parallel_topology f s ins outs = record {
  mode = Parallel;
  joint = acting (joint_actions (actions_of f) (actions_of s));
  f = f;
  s = s;
  x = acting (ins ++ outs);
  inputs = length ins;
}

-- the equation of F and S, which have these letters
abbrev pub topology_by : Mode → Scope → Scope → List (List ℕ) → List (List ℕ) → Topology
topology_by Sync f s ins outs = sync_topology f s ins outs
topology_by Parallel f s ins outs = parallel_topology f s ins outs
