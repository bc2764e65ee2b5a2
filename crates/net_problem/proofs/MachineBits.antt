-- The bits of a machine: twice those of its state.
use Rattle.std.proofs.Common.{◌≡◌, ◌+◌, ◌*◌, ◌<◌, ◌≤◌, ◌++◌, ◌||◌, ◌∙◌, ℕ, zero, suc, Bool, true, false, cond, List, [], ◌∷◌, length, nat_eq, refl, sym, ap, arith, zero-add}
use Rattle.std.specs.Prelude.{if◌then◌else◌}
use Rattle.std.specs.List.{list_any, range_with_len}
use Rattle.std.proofs.lemmas.Bool.{eq-eqb}
use Rattle.std.proofs.lemmas.List.{append-nil}
use Rattle.std.proofs.lemmas.List.FromFn.{length-range_with_len, get_or-range_with_len}
use Rattle.std.proofs.lemmas.List.Folds.{list_any_at}
use Rattle.name_table.specs.Variables.{numbers}
use Rattle.name_table.specs.CodeBits.{bits_of, bits_in, code_bits}
use Rattle.name_table.specs.ScopeVars.{variable_at}
use Rattle.name_table.proofs.Numbered.{length_numbers}
use Rattle.net_model.specs.Words.{Variable, Scope}
use Rattle.net_model.specs.Conditions.{latch_outputs}
use Rattle.net_model.specs.NetLanguages.{letter_signals}
use Rattle.net_model.specs.Machines.{Machine, machine_letters}
use Rattle.net_model.specs.Outlines.{state_variable, outline_of}
use Rattle.net_model.proofs.Outlined.{not-equal, names-long, last-variable}
use Rattle.net_problem.specs.ProblemBits.{own_of, own_before, own_scope}
use Rattle.net_problem.proofs.BitSums.{own-suc}

in-numbers : (j n : ℕ) → j < n → list_any (nat_eq j) (range_with_len 0 n) ≡ true
in-numbers j n below =
    let size = length-range_with_len 0 n in
    list_any_at (nat_eq j) (range_with_len 0 n) j 0 (omega (arith, size, below)) (ap (nat_eq j) (get_or-range_with_len 0 n j 0 below ∙ zero-add j) ∙ eq-eqb j j refl)

module _ (machine : Machine) where
  abbrev columns : ℕ
  columns = length (machine_letters machine)

  -- a column has no bits of its own
  column-own : (j : ℕ) → j < columns → own_of (outline_of machine) j ≡ []
  column-own j below =
      let no_state : list_any (nat_eq j) (latch_outputs (outline_of machine)) ≡ false = ap (λ b. b || false) (not-equal j columns below) in
      let letter : list_any (nat_eq j) (letter_signals (outline_of machine)) ≡ true = ap (list_any (nat_eq j)) (append-nil (range_with_len 0 columns)) ∙ in-numbers j columns below in
      rw (no_state, letter) refl

  columns-own : (k : ℕ) → k ≤ columns → own_before (outline_of machine) k ≡ []
  columns-own zero low = refl
  columns-own (suc k) low = own-suc (outline_of machine) k ∙ (λ i. columns-own k (omega (arith, low)) i ++ column-own k (omega (arith, low)) i)

  state-own : own_of (outline_of machine) columns ≡ state_variable machine.states ∷ state_variable machine.states ∷ []
  state-own =
      let is_state : list_any (nat_eq columns) (latch_outputs (outline_of machine)) ≡ true = ap (λ b. b || false) (eq-eqb columns columns refl) in
      let v = last-variable (machine_letters machine) (state_variable machine.states) in
      rw is_state (λ i. v i ∷ v i ∷ [])

  pub machine-bits : bits_in (own_scope (outline_of machine)) ≡ 2 * code_bits machine.states
  machine-bits =
      let long = names-long machine in
      let same : length (outline_of machine).names ≡ suc columns = omega (arith, long) in
      let scope : own_scope (outline_of machine) ≡ state_variable machine.states ∷ state_variable machine.states ∷ [] =
      ap (own_before (outline_of machine)) same
      ∙ own-suc (outline_of machine) columns
      ∙ (λ i. columns-own columns (omega arith) i ++ state-own i) in
      let states : code_bits (length (numbers machine.states)) ≡ code_bits machine.states = ap code_bits (length_numbers machine.states) in
      let all = ap bits_in scope in
      omega (arith, all, states)
