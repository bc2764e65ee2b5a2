-- The signals of a machine: they can be names of a table, and each is driven once.
use Rattle.std.proofs.Common.{◌≡◌, ◌≤◌, ◌<◌, ◌+◌, ◌++◌, ◌||◌, ℕ, zero, suc, Bool, true, false, List, [], ◌∷◌, map, length, get_or, nat_eq, count_by, All, zero-add, refl, sym, ap, ◌∙◌, subst, length-append, arith}
use Rattle.std.specs.Str.{bytes_eq}
use Rattle.std.specs.List.{AllByRecursion, range_with_len}
use Rattle.std.proofs.lemmas.Bool.{false≢true, eqb-true}
use Rattle.std.proofs.lemmas.List.{map-append, append-nil}
use Rattle.std.proofs.lemmas.List.FromFn.{length-range_with_len, get_or-range_with_len}
use Rattle.name_table.specs.Variables.{Variable, names_of, is_in, are_different, numbers, IsTable}
use Rattle.name_table.proofs.Apart.{different_push}
use Rattle.name_table.proofs.Numbered.{length_numbers}
use Rattle.net_model.specs.Written.{IsTextName, is_word}
use Rattle.net_model.specs.Machines.{Machine, machine_letters, IsColumn, IsSoundMachine}
use Rattle.net_model.specs.Outlines.{state_variable}
use Rattle.name_table.specs.ScopeVars.{variable_at}
use Rattle.net_model.specs.Nets.{Latch, Net}
use Rattle.net_model.specs.NetLanguages.{letter_signals, letters_of, states_of}
use Rattle.net_model.specs.SoundNets.{HasKnownSignals}
use Rattle.net_model.specs.Files.{File, NetFile, MachineFile, IsSoundFile, file_letters}
use Rattle.net_model.specs.Outlines.{outline_of, outline, IsWired}
use Rattle.net_model.proofs.Counting.{range-suc}
use Rattle.net_model.proofs.Letters.{counted_first, wired_of}
use Rattle.net_model.proofs.Taken.{first-table}

-- the name of a column is a word, and so it isn't empty
named : (name : List ℕ) → IsTextName name → bytes_eq [] name ≡ false
named [] is = absurd (false≢true is.word)
named (b ∷ name) is = refl

no-empty : (columns : List Variable) → AllByRecursion IsColumn columns → is_in (names_of columns) [] ≡ false
no-empty [] each = refl
no-empty (v ∷ columns) each = λ i. named v.name each.0.name i || no-empty columns each.1 i

both : (inputs outputs : List Variable) → AllByRecursion IsColumn inputs → AllByRecursion IsColumn outputs → AllByRecursion IsColumn (inputs ++ outputs)
both [] outputs first second = second
both (v ∷ inputs) outputs first second = (first.0, both inputs outputs first.1 second)

small : (columns : List Variable) (states : ℕ) → AllByRecursion IsColumn columns → states ≤ 65536 → AllByRecursion (λ v. length v.values ≤ 65536) (columns ++ state_variable states ∷ [])
small [] states each few = (let size = length_numbers states in omega (arith, few, size), tt)
small (v ∷ columns) states each few =
    let size = ap length each.0.values ∙ length_numbers 2 in
    (omega (arith, size), small columns states each.1 few)

module _ (machine : Machine) (sound : IsSoundMachine machine) where
  columns : AllByRecursion IsColumn (machine_letters machine)
  columns = both machine.inputs machine.outputs sound.inputs.each sound.outputs.each

  pub few-letters : length (machine_letters machine) ≤ 512
  few-letters = let long = length-append machine.inputs machine.outputs in let first = sound.inputs.few in let second = sound.outputs.few in omega (arith, long, first, second)

  pub machine-table : IsTable (machine_letters machine ++ state_variable machine.states ∷ [])
  machine-table = record {
    few = let long = length-append (machine_letters machine) (state_variable machine.states ∷ []) in let few = few-letters in omega (arith, few, long);
    different =
        ap are_different (map-append (λ v. v.name) (machine_letters machine) (state_variable machine.states ∷ []))
        ∙ different_push (names_of (machine_letters machine)) [] sound.different (no-empty (machine_letters machine) columns);
    small = small (machine_letters machine) machine.states columns sound.few;
  }

  pub letters-table : IsTable (machine_letters machine)
  letters-table = first-table (machine_letters machine) (state_variable machine.states ∷ []) machine-table

  pub inputs-table : IsTable machine.inputs
  inputs-table = first-table machine.inputs machine.outputs letters-table

-- numbers that follow one another are different

pub not-equal : (k n : ℕ) → k < n → nat_eq k n ≡ false
not-equal k n less = pick (nat_eq k n) refl
  where
    pick : (b : Bool) → nat_eq k n ≡ b → nat_eq k n ≡ false
    pick false is = is
    pick true is = let same = eqb-true k n is in absurd (omega (arith, less, same))

none-before : (k first n : ℕ) → k < first → count_by (nat_eq k) (range_with_len first n) ≡ 0
none-before k first zero less = refl
none-before k first (suc n) less =
    let here = counted_first k first (range_with_len (first + 1) n) false (not-equal k first less) in
    let rest = none-before k (first + 1) n (omega (arith, less)) in
    omega (arith, here, rest)

counted-once : (k first n : ℕ) → count_by (nat_eq k) (range_with_len first n) ≤ 1
counted-once k first zero = omega arith
counted-once k first (suc n) = pick (counted-once k (first + 1) n) (nat_eq k first) refl
  where
    pick : count_by (nat_eq k) (range_with_len (first + 1) n) ≤ 1 → (b : Bool) → nat_eq k first ≡ b → count_by (nat_eq k) (range_with_len first (suc n)) ≤ 1
    pick rest true is =
        let same = eqb-true k first is in
        let here = counted_first k first (range_with_len (first + 1) n) true is in
        let none = none-before k (first + 1) n (omega (arith, same)) in
        omega (arith, here, none)
    pick rest false is =
        let here = counted_first k first (range_with_len (first + 1) n) false is in
        omega (arith, here, rest)

pub in-range : (n k d : ℕ) → k < length (range_with_len 0 n) → get_or (range_with_len 0 n) k d < n
in-range n k d within =
    let size = length-range_with_len 0 n in
    let is = get_or-range_with_len 0 n k d (omega (arith, within, size)) in
    omega (arith, is, within, size)

-- the signals of a machine

pub names-long : (machine : Machine) → length (outline_of machine).names ≡ length (machine_letters machine) + 1
names-long machine = length-append (machine_letters machine) (state_variable machine.states ∷ [])

module _ (machine : Machine) (sound : IsSoundMachine machine) where
  known : HasKnownSignals (outline_of machine)
  known = record {
    names = machine-table machine sound;
    inputs = λ k d within. let low = in-range (length (machine_letters machine)) k d within in let long = names-long machine in omega (arith, low, long);
    outputs = λ k d within. absurd (omega (arith, within));
    tables = λ k d within. absurd (omega (arith, within));
    latches = λ k d within. both-known k d within;
    resets = λ k d within. absurd (omega (arith, within));
  }
    where
      state-known : length (machine_letters machine) < length (outline_of machine).names
      state-known = let long = names-long machine in omega (arith, long)

      twice : (i e : ℕ) → i < 2 → get_or (length (machine_letters machine) ∷ length (machine_letters machine) ∷ []) i e < length (outline_of machine).names
      twice zero e inside = state-known
      twice (suc zero) e inside = state-known
      twice (suc (suc i)) e inside = absurd (omega (arith, inside))

      both-known : (k : ℕ) (d : Latch) → k < 1 → All (λ signal. signal < length (outline_of machine).names) ((get_or ((outline_of machine).latches) k d).input ∷ (get_or ((outline_of machine).latches) k d).output ∷ [])
      both-known zero d within = twice
      both-known (suc k) d within = absurd (omega (arith, within))

  pub outline-wired : IsWired (outline_of machine)
  outline-wired = record {
    known = known;
    outputs_once = λ k. omega arith;
    once = λ k.
        subst (λ (signals : List ℕ). count_by (nat_eq k) signals ≤ 1)
        (range-suc (length (machine_letters machine)) 0 ∙ ap (λ n. range_with_len 0 (length (machine_letters machine)) ++ n ∷ []) (zero-add (length (machine_letters machine))))
        (counted-once k 0 (suc (length (machine_letters machine))));
  }

-- its states are the values of one variable

pub last-variable : (vars : List Variable) (v : Variable) → variable_at (vars ++ v ∷ []) (length vars) ≡ v
last-variable [] v = refl
last-variable (w ∷ vars) v = last-variable vars v

pub outline-states : (machine : Machine) → states_of (outline_of machine) ≡ state_variable machine.states ∷ []
outline-states machine = λ i. last-variable (machine_letters machine) (state_variable machine.states) i ∷ []

-- its letters are the columns

shifted : (f : ℕ → Variable) (a n : ℕ) → map f (range_with_len (a + 1) n) ≡ map (λ k. f (suc k)) (range_with_len a n)
shifted f a zero = refl
shifted f a (suc n) = let same : a + 1 ≡ suc a = omega arith in λ i. f (same i) ∷ shifted f (a + 1) n i

chosen-front : (vars more : List Variable) → map (variable_at (vars ++ more)) (range_with_len 0 (length vars)) ≡ vars
chosen-front [] more = refl
chosen-front (v ∷ vars) more = ap (λ (rest : List Variable). v ∷ rest) (shifted (variable_at (v ∷ (vars ++ more))) 0 (length vars) ∙ chosen-front vars more)

pub outline-letters : (file : File) → letters_of (outline file) ≡ file_letters file
outline-letters (NetFile net) = refl
outline-letters (MachineFile machine) =
    ap (λ signals. map (variable_at (outline_of machine).names) signals) (append-nil (range_with_len 0 (length (machine_letters machine))))
    ∙ chosen-front (machine_letters machine) (state_variable machine.states ∷ [])

pub file-wired : (file : File) → IsSoundFile file → IsWired (outline file)
file-wired (NetFile net) sound = wired_of net sound
file-wired (MachineFile machine) sound = outline-wired machine sound
