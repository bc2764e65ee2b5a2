use Rattle.std.specs.Prelude.{ℕ, List, [], ◌∷◌, map, if◌then◌else◌, Option, Some, None, slice_index_or, position}
use Rattle.std.specs.Str.{bytes_eq}
use Rattle.net_model.specs.Words.{Scope, Letter, Word}
use Rattle.net_model.specs.declared.class.Mode.{Mode}
use Rattle.net_model.specs.declared.class.Mode.TheVariants.{Sync, Parallel}

-- the value that a letter over the scope gives to the variable of this name
abbrev pub value_of : Scope → Letter → List ℕ → ℕ
value_of (v ∷ scope) (a ∷ letter) name = if bytes_eq v.name name then a else value_of scope letter name
value_of [] letter name = 0
value_of (v ∷ scope) [] name = 0

-- the part of a joint letter on a scope: the values of the scope's variables, found by name
abbrev pub letter_part : Scope → Scope → Letter → Letter
letter_part joint scope letter = map (λ v. value_of joint letter v.name) scope

-- the synchronous part keeps every position
abbrev pub sync_part : Scope → Scope → Word → Word
sync_part joint scope word = map (letter_part joint scope) word

-- the actions of a scope of parallel mode: the value names of its one variable
abbrev pub actions_of : Scope → List (List ℕ)
actions_of [] = []
actions_of (v ∷ scope) = v.values

-- where an action of the joint scope stands among the actions of a scope, if it is one of them
abbrev pub action_part : Scope → Scope → ℕ → Option ℕ
action_part joint scope a = position (bytes_eq (slice_index_or (actions_of joint) a [])) (actions_of scope)

abbrev pub with_action : Option ℕ → Word → Word
with_action None word = word
with_action (Some k) word = (k ∷ []) ∷ word

-- the parallel part keeps the actions that are the scope's, in their order, each by its place there
abbrev pub parallel_part : Scope → Scope → Word → Word
parallel_part joint scope [] = []
parallel_part joint scope ([] ∷ word) = parallel_part joint scope word
parallel_part joint scope ((a ∷ letter) ∷ word) = with_action (action_part joint scope a) (parallel_part joint scope word)

-- the part of a joint word on a scope
abbrev pub part_by : Mode → Scope → Scope → Word → Word
part_by Sync joint scope word = sync_part joint scope word
part_by Parallel joint scope word = parallel_part joint scope word
