-- The values at the ends of latches and the numbers of a machine's states are states.
use Rattle.std.proofs.Common.{◌≡◌, ◌<◌, ℕ, zero, suc, List, [], ◌∷◌, length, map, get_or, All, refl, sym, subst, arith}
use Rattle.std.proofs.lemmas.List.Elements.{All-head, All-tail}
use Rattle.name_table.specs.ScopeVars.{chosen_of}
use Rattle.net_model.specs.Words.{Scope, Letter, IsLetter}
use Rattle.net_model.specs.Nets.{Net, Latch}
use Rattle.net_model.specs.Spellings.{domain_at}
use Rattle.net_model.specs.Tables.{values_at}
use Rattle.net_model.specs.NetLanguages.{states_of, IsInitial, Steps}
use Rattle.net_model.specs.SoundNets.{IsSound}
use Rattle.net_model.specs.Machines.{Machine}
use Rattle.net_model.specs.Files.{File, NetFile, MachineFile, IsSoundFile}
use Rattle.net_model.specs.Outlines.{outline_of, outline}
use Rattle.net_model.proofs.Outlined.{outline-states}
use Rattle.name_table.proofs.Numbered.{length_numbers}
use Rattle.net_relation.specs.Relations.{StepsOf, IsInitialOf}

pub value-below : (names : Scope) (valuation : Letter) (k : ℕ) → IsLetter names valuation → k < length names → get_or valuation k 0 < length (domain_at names k)
value-below [] valuation k over known = absurd (omega (arith, known))
value-below (v ∷ names) [] k over known = absurd over
value-below (v ∷ names) (a ∷ valuation) zero over known = over.0
value-below (v ∷ names) (a ∷ valuation) (suc k) over known = value-below names valuation k over.1 (omega (arith, known))

-- an end of a latch that is known and has as many values as its output
pub record IsEndOf (names : Scope) (end : Latch → ℕ) (latch : Latch) : Type 0 where
  pub known : end latch < length names
  pub same : length (domain_at names (end latch)) ≡ length (domain_at names latch.output)

ends-letter : (names : Scope) (valuation : Letter) (end : Latch → ℕ) (latches : List Latch) → IsLetter names valuation → All (IsEndOf names end) latches → IsLetter (chosen_of names (map (λ latch. latch.output) latches)) (values_at valuation (map end latches))
ends-letter names valuation end [] over all = tt
ends-letter names valuation end (latch ∷ latches) over all =
    let first : IsEndOf names end latch = All-head (IsEndOf names end) latch latches all in
    let below = value-below names valuation (end latch) over first.known in
    (omega (arith, below, first.same), ends-letter names valuation end latches over (All-tail (IsEndOf names end) latch latches all))

module _ (net : Net) (sound : IsSound net) where
  outputs-are : All (IsEndOf net.names (λ latch. latch.output)) net.latches
  outputs-are k d within = let ends = sound.known.latches k d within in record { known = ends 1 0 (omega arith); same = refl }

  inputs-are : All (IsEndOf net.names (λ latch. latch.input)) net.latches
  inputs-are k d within = let ends = sound.known.latches k d within in record { known = ends 0 0 (omega arith); same = sound.conditions.latches k d within }

  net-initial : (q : List ℕ) → IsInitial net q → IsLetter (states_of net) q
  net-initial q is = subst (IsLetter (states_of net)) is.state (ends-letter net.names is.valuation (λ latch. latch.output) net.latches is.values outputs-are)

  net-state : (q : List ℕ) (a : Letter) (r : List ℕ) → Steps net q a r → IsLetter (states_of net) q
  net-state q a r is = subst (IsLetter (states_of net)) is.state (ends-letter net.names is.valuation (λ latch. latch.output) net.latches is.values outputs-are)

  net-next : (q : List ℕ) (a : Letter) (r : List ℕ) → Steps net q a r → IsLetter (states_of net) r
  net-next q a r is = subst (IsLetter (states_of net)) is.next (ends-letter net.names is.valuation (λ latch. latch.input) net.latches is.values inputs-are)

-- a number of a state is the value of the variable of states
numbered-letter : (machine : Machine) (q : ℕ) → q < machine.states → IsLetter (states_of (outline_of machine)) (q ∷ [])
numbered-letter machine q low =
    subst (λ (scope : Scope). IsLetter scope (q ∷ [])) (sym (outline-states machine))
    (let long = length_numbers machine.states in omega (arith, low, long), tt)

pub initial-letter : (file : File) → IsSoundFile file → (q : List ℕ) → IsInitialOf file q → IsLetter (states_of (outline file)) q
initial-letter (NetFile net) sound q is = net-initial net sound q is
initial-letter (MachineFile machine) sound q is = subst (IsLetter (states_of (outline_of machine))) (sym is) (numbered-letter machine machine.reset sound.reset)

pub state-letter : (file : File) → IsSoundFile file → (q : List ℕ) (a : Letter) (r : List ℕ) → StepsOf file q a r → IsLetter (states_of (outline file)) q
state-letter (NetFile net) sound q a r is = net-state net sound q a r is
state-letter (MachineFile machine) sound q a r is = subst (IsLetter (states_of (outline_of machine))) (sym is.from_is) (numbered-letter machine is.from is.step.present)

pub next-letter : (file : File) → IsSoundFile file → (q : List ℕ) (a : Letter) (r : List ℕ) → StepsOf file q a r → IsLetter (states_of (outline file)) r
next-letter (NetFile net) sound q a r is = net-next net sound q a r is
next-letter (MachineFile machine) sound q a r is = subst (IsLetter (states_of (outline_of machine))) (sym is.to_is) (numbered-letter machine is.to is.step.next)
