-- A machine on its spots: its one part is its steps, and a cube the state in which it starts.
use Rattle.std.proofs.Common.{◌≡◌, ◌∙◌, ◌&&◌, ◌==◌, ◌+◌, ◌<◌, ℕ, Bool, true, List, [], ◌∷◌, ◌++◌, length, map, get_or, refl, sym, ap, arith, subst}
use Rattle.std.specs.Prelude.{All}
use Rattle.std.specs.List.{list_any}
use Rattle.std.proofs.lemmas.Bool.{and_parts, and_from, eq-eqb, eqb-true}
use Rattle.std.proofs.lemmas.List.Elements.{All-append}
use Rattle.std.proofs.lemmas.List.Folds.{list_all-append}
use Rattle.name_table.specs.ScopeVars.{variable_at}
use Rattle.name_table.proofs.Numbered.{length_numbers}
use Rattle.net_model.specs.Words.{Variable, Scope, IsLetter}
use Rattle.net_model.specs.Nets.{Net}
use Rattle.net_model.specs.NetLanguages.{states_of}
use Rattle.net_model.specs.Machines.{Machine, MachineSteps, machine_letters, row_leads, IsSoundMachine}
use Rattle.net_model.specs.Files.{MachineFile}
use Rattle.net_model.specs.Outlines.{state_variable, outline_of}
use Rattle.net_model.proofs.Outlined.{outline-wired, outline-letters, outline-states}
use Rattle.node_table.specs.Table.{Bits, Table as Nodes, value_at}
use Rattle.bdd_ops.specs.Meaning.{StandsFor}
use Rattle.mv_encoding.specs.Layouts.{Layout, IsLaid, is_letter, numbers_of, number_of}
use Rattle.mv_encoding.specs.Spots.{IsSpot, AreSpots, AreLaid, variables_at, spelled, spell_values, spot_at, StandsForValues}
use Rattle.mv_encoding.proofs.Apart.{spelled-same, values-test}
use Rattle.machine_parts.specs.MachineParts.{machine_value, IsMachineLaid}
use Rattle.net_frame.specs.Placing.{FileSpots, IsPlaced}
use Rattle.part_relation.specs.Steps.{StandsForSteps}
use Rattle.net_relation.specs.Relations.{AreFor, all_mean, step_code, MovesOf, spells_value}
use Rattle.net_relation.proofs.Spelled.{spots-of}
use Rattle.net_relation.proofs.Added.{are-all, are-valid}
use Rattle.net_relation.proofs.PlacedNet.{scope-at, spots-long, wired-are, wired-laid, wired-variables}

-- the only spot of a variable
one-spot : (spots : List Layout) (v : Variable) → map (λ spot. spot.scope) spots ≡ map (λ w. w ∷ []) (v ∷ []) → (spots ≡ spot_at spots 0 ∷ []) × ((spot_at spots 0).scope ≡ v ∷ [])
one-spot [] v are = let long = spots-long [] (v ∷ []) are in absurd (omega (arith, long))
one-spot (spot ∷ []) v are = (refl, scope-at (spot ∷ []) (v ∷ []) are 0 (omega arith))
one-spot (spot ∷ other ∷ spots) v are = let long = spots-long (spot ∷ other ∷ spots) (v ∷ []) are in absurd (omega (arith, long))

module _ (t : Nodes) (machine : Machine) (spots : FileSpots) (sound : IsSoundMachine machine) (placed : IsPlaced t (outline_of machine) spots) where
  abbrev present : Layout
  present = spot_at spots.present 0

  abbrev next : Layout
  next = spot_at spots.next 0

  abbrev all : List Layout
  all = spots.letters ++ present ∷ next ∷ []

  states : (scopes : List Scope) → scopes ≡ map (λ v. v ∷ []) (states_of (outline_of machine)) → scopes ≡ map (λ v. v ∷ []) (state_variable machine.states ∷ [])
  states scopes are = are ∙ ap (map (λ v. v ∷ [])) (outline-states machine)

  pub present-one : (spots.present ≡ present ∷ []) × (present.scope ≡ state_variable machine.states ∷ [])
  present-one = one-spot spots.present (state_variable machine.states) (states _ placed.present)

  pub next-one : (spots.next ≡ next ∷ []) × (next.scope ≡ state_variable machine.states ∷ [])
  next-one = one-spot spots.next (state_variable machine.states) (states _ placed.next)

  pub present-are : AreSpots spots.present
  present-are = (spots-of spots.present (states_of (outline_of machine)) placed.present).0

  next-are : AreSpots spots.next
  next-are = (spots-of spots.next (states_of (outline_of machine)) placed.next).0

  letters-are : AreSpots spots.letters
  letters-are = wired-are t (outline_of machine) spots (outline-wired machine sound) placed

  pub some-present : 0 < length spots.present
  some-present = let one = ap length present-one.0 in omega (arith, one)

  pub some-next : 0 < length spots.next
  some-next = let one = ap length next-one.0 in omega (arith, one)

  both : spots.present ++ spots.next ≡ present ∷ next ∷ []
  both = λ i. present-one.0 i ++ next-one.0 i

  all-are : AreSpots all
  all-are = All-append IsSpot spots.letters (present ∷ next ∷ []) letters-are (subst AreSpots both (All-append IsSpot spots.present spots.next present-are next-are))

  pub size : (spot : Layout) → spot.scope ≡ state_variable machine.states ∷ [] → length (variable_at spot.scope 0).values ≡ machine.states
  size spot scope = ap (λ (s : Scope). length (variable_at s 0).values) scope ∙ length_numbers machine.states

  letters-variables : variables_at spots.letters ≡ machine_letters machine
  letters-variables = wired-variables t (outline_of machine) spots (outline-wired machine sound) placed ∙ outline-letters (MachineFile machine)

  pub machine-laid : IsMachineLaid t spots.letters present next machine
  machine-laid = record {
    spots = all-are;
    laid = All-append (λ spot. IsLaid spot t) spots.letters (present ∷ next ∷ []) (wired-laid t (outline_of machine) spots (outline-wired machine sound) placed) (subst (AreLaid t) both placed.states_laid);
    letters = letters-variables;
    present_states = size present present-one.1;
    next_states = size next next-one.1;
  }

  -- the values of all spots
  parted : (bits : Bits) → spell_values all bits ≡ (spell_values spots.letters bits && (spells_value present bits && (spells_value next bits && true)))
  parted bits = list_all-append (λ spot. is_letter spot.scope (numbers_of spot bits)) spots.letters (present ∷ next ∷ [])

  spelled-one : (spots' : List Layout) (spot : Layout) → spots' ≡ spot ∷ [] → (bits : Bits) → spelled spots' bits ≡ number_of spot 0 bits ∷ []
  spelled-one spots' spot is bits = ap (λ l. spelled l bits) is

  -- the number at the spot of a state, and that it is one of a state
  below : (spot : Layout) (spots' : List Layout) → spots' ≡ spot ∷ [] → AreSpots spots' → spot.scope ≡ state_variable machine.states ∷ [] → (bits : Bits) → spells_value spot bits ≡ true → number_of spot 0 bits < machine.states
  below spot spots' is are scope bits value =
      let letter = (values-test (spot ∷ []) (subst AreSpots is are) bits).0 (and_from (spells_value spot bits) true value refl) in
      let low = letter.0 in
      let long = size spot scope in
      omega (arith, low, long)

  spells : (spot : Layout) (spots' : List Layout) → spots' ≡ spot ∷ [] → AreSpots spots' → spot.scope ≡ state_variable machine.states ∷ [] → (bits : Bits) → number_of spot 0 bits < machine.states → spells_value spot bits ≡ true
  spells spot spots' is are scope bits low =
      let long = size spot scope in
      (and_parts (spells_value spot bits) true ((values-test (spot ∷ []) (subst AreSpots is are) bits).1 (omega (arith, low, long), tt))).0

  found : (bits : Bits) → machine_value spots.letters present next machine bits ≡ true → MovesOf machine (spelled spots.present bits) (spelled spots.letters bits) (spelled spots.next bits)
  found bits is =
      let parts = and_parts (spell_values all bits) _ is in
      let halves = and_parts (spell_values spots.letters bits) _ (sym (parted bits) ∙ parts.0) in
      let ends = and_parts (spells_value present bits) _ halves.1 in
      let last = and_parts (spells_value next bits) true ends.1 in
      record {
        from = number_of present 0 bits;
        to = number_of next 0 bits;
        from_is = spelled-one spots.present present present-one.0 bits;
        to_is = spelled-one spots.next next next-one.0 bits;
        step = record {
          present = below present spots.present present-one.0 present-are present-one.1 bits ends.0;
          letter = subst (λ (scope : Scope). IsLetter scope (spelled spots.letters bits)) letters-variables ((values-test spots.letters letters-are bits).0 halves.0);
          next = below next spots.next next-one.0 next-are next-one.1 bits last.0;
          row = parts.1;
        };
      }

  first : (x y : ℕ) → x ∷ [] ≡ y ∷ [] → x ≡ y
  first x y is = ap (λ l. get_or l 0 0) is

  holds : (bits : Bits) → MovesOf machine (spelled spots.present bits) (spelled spots.letters bits) (spelled spots.next bits) → machine_value spots.letters present next machine bits ≡ true
  holds bits move =
      let from : number_of present 0 bits ≡ move.from = first (number_of present 0 bits) move.from (sym (spelled-one spots.present present present-one.0 bits) ∙ move.from_is) in
      let to : number_of next 0 bits ≡ move.to = first (number_of next 0 bits) move.to (sym (spelled-one spots.next next next-one.0 bits) ∙ move.to_is) in
      let low = move.step.present in
      let low' = move.step.next in
      let here = spells present spots.present present-one.0 present-are present-one.1 bits (omega (arith, from, low)) in
      let there = spells next spots.next next-one.0 next-are next-one.1 bits (omega (arith, to, low')) in
      let letters = (values-test spots.letters letters-are bits).1 (subst (λ (scope : Scope). IsLetter scope (spelled spots.letters bits)) (sym letters-variables) move.step.letter) in
      and_from (spell_values all bits) _
      (parted bits ∙ and_from (spell_values spots.letters bits) _ letters (and_from (spells_value present bits) _ here (and_from (spells_value next bits) true there refl)))
      ((λ i. list_any (row_leads (from i) (spelled spots.letters bits) (to i)) machine.rows) ∙ move.step.row)

  -- the part stands for the steps
  pub machine-related : (s : Nodes) (parts : List ℕ) → AreFor s parts (machine_value spots.letters present next machine ∷ []) → StandsForSteps s parts (step_code spots) (MovesOf machine)
  machine-related s parts are = record {
    valid = are-valid s parts (machine_value spots.letters present next machine ∷ []) are;
    found = λ bits is. found bits (and_parts (machine_value spots.letters present next machine bits) true (sym (are-all s parts (machine_value spots.letters present next machine ∷ []) are bits) ∙ is)).0;
    holds = λ bits step. (bits, (λ k member. refl), are-all s parts (machine_value spots.letters present next machine ∷ []) are bits ∙ and_from (machine_value spots.letters present next machine bits) true (holds bits step) refl);
  }

  -- and a cube for the state in which it starts
  pub machine-starts : (s : Nodes) (r : ℕ) → StandsFor s r (λ bits. number_of present 0 bits == machine.reset) → StandsForValues s spots.present r (λ q. q ≡ machine.reset ∷ [])
  machine-starts s r stands = record {
    valid = stands.valid;
    depends = λ u v same.
        let numbers = first (number_of present 0 u) (number_of present 0 v) (sym (spelled-one spots.present present present-one.0 u) ∙ spelled-same spots.present present-are u v same ∙ spelled-one spots.present present present-one.0 v) in
        stands.value u ∙ ap (λ n. n == machine.reset) numbers ∙ sym (stands.value v);
    found = λ bits is.
        let number = eqb-true (number_of present 0 bits) machine.reset (sym (stands.value bits) ∙ is) in
        let low = sound.reset in
        let long = length_numbers machine.states in
        let start : spelled spots.present bits ≡ machine.reset ∷ [] = spelled-one spots.present present present-one.0 bits ∙ ap (λ n. n ∷ []) number in
        let variables : variables_at spots.present ≡ state_variable machine.states ∷ [] = (spots-of spots.present (states_of (outline_of machine)) placed.present).1 ∙ outline-states machine in (
          subst (λ (scope : Scope). IsLetter scope (spelled spots.present bits)) (sym variables) (subst (IsLetter (state_variable machine.states ∷ [])) (sym start) (omega (arith, low, long), tt)),
          start,
        );
    holds = λ bits letter start.
        stands.value bits ∙ eq-eqb (number_of present 0 bits) machine.reset (first (number_of present 0 bits) machine.reset (sym (spelled-one spots.present present present-one.0 bits) ∙ start));
  }
