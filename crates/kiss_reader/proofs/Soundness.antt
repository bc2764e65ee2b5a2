-- The machine of a text that stands within its limits is sound.
use Rattle.std.proofs.Common.{◌≡◌, ◌<◌, ◌≤◌, ◌++◌, ℕ, true, false, List, [], ◌∷◌, length, map, Option, Some, None, if◌then◌else◌, refl, sym, ◌∙◌, ap, subst, arith}
use Rattle.std.specs.Prelude.{is_some, unwrap_or, decimal}
use Rattle.std.specs.List.{AllByRecursion, flat_map}
use Rattle.std.proofs.lemmas.Bool.{false≢true}
use Rattle.std.proofs.lemmas.List.{length-map, map-append}
use Rattle.std.proofs.lemmas.List.FromFn.{length-map-range_with_len}
use Rattle.std.proofs.lemmas.Option.{slice_get_within}
use Rattle.name_table.specs.Variables.{names_of, place_of, are_different}
use Rattle.name_table.proofs.Found.{present}
use Rattle.net_model.specs.Forms.{Name}
use Rattle.net_model.specs.Written.{IsTextName}
use Rattle.net_model.specs.KissForms.{KissForm, InputsWidth, OutputsWidth, CountLine, ResetState, InputNames, OutputNames, StepRow, LastLine}
use Rattle.net_model.specs.KissTexts.{input_width, output_width, input_names_given, output_names_given, input_names, output_names, reset_given, is_every_state, columns_named, states_in, state_in, state_said, reset_said, bit_of, kiss_rows_on, machine_said}
use Rattle.net_model.specs.Machines.{Machine, IsColumn, AreColumns, IsKnownState, IsKissRow, IsSoundMachine}
use Rattle.kiss_reader.specs.Read.{names_or}
use Rattle.kiss_reader.proofs.Columned.{names_back}
use Rattle.kiss_reader.proofs.ColumnNames.{IsFront, x_front, z_front, numbers_names}
use Rattle.kiss_reader.proofs.Widths.{Fits, AllFit, IsWide, HaveColumns, have_inputs, have_outputs, has_row, widths_given}

-- columns

length_columns : (names : List Name) → length (columns_named names) ≡ length names
length_columns names = length-map names _

columns_are : (names : List Name) → AllByRecursion IsTextName names → AllByRecursion IsColumn (columns_named names)
columns_are [] h = tt
columns_are (name ∷ names) h = (record { name = h.0; values = refl }, columns_are names h.1)

-- names for so many columns
record AreFor (n : ℕ) (names : List Name) : Type 0 where
  count : length names ≡ n
  are : AllByRecursion IsTextName names

names_for : (front : ℕ) (width : Option ℕ) (given : Option (List Name)) (n : ℕ) → IsFront front → HaveColumns width given → width ≡ Some n → AreFor n (names_or given (front ∷ []) width)
names_for front width None n f h is =
    let same : unwrap_or width 0 ≡ n = ap (λ w. unwrap_or w 0) is in
    record {
      count = length-map-range_with_len (λ k. (front ∷ []) ++ decimal k) 0 (unwrap_or width 0) ∙ same;
      are = numbers_names front (unwrap_or width 0) f (subst (λ (m : ℕ). m ≤ 256) (sym same) (h.counted n is).1);
    }
names_for front width (Some names) n f h is =
    let are = h.named names refl in
    let wide = sym are.wide ∙ is in
    record { count = (let same : length names ≡ n = cc in same); are = are.are }

pub few_names : (front : ℕ) (width : Option ℕ) (given : Option (List Name)) → IsFront front → HaveColumns width given → length (names_or given (front ∷ []) width) ≤ 256
few_names front None None f h = omega arith
few_names front None (Some names) f h = let wide = (h.named names refl).wide in cc
few_names front (Some n) given f h = subst (λ (m : ℕ). m ≤ 256) (sym (names_for front (Some n) given n f h refl).count) (h.counted n refl).1

are_columns : (names : List Name) (n : ℕ) → AreFor n names → (0 < n) × (n ≤ 256) → AreColumns (columns_named names)
are_columns names n h counted =
    let size = length_columns names ∙ h.count in
    record {
      each = columns_are names h.are;
      some = subst (λ (m : ℕ). 0 < m) (sym size) counted.0;
      few = subst (λ (m : ℕ). m ≤ 256) (sym size) counted.1;
    }

-- states and rows

place_below : (states : List Name) (word : Name) → 0 < length states → unwrap_or (place_of states word) 0 < length states
place_below states word some =
    elim (place_of states word) as (λ place. place_of states word ≡ place → unwrap_or place 0 < length states) [
      | None ↦ λ is. some
      | Some k ↦ λ is. slice_get_within states k word (present states word k is)
    ] refl

known_state : (states : List Name) (word : Name) → 0 < length states → IsKnownState (length states) (state_said states word)
known_state states word some =
    elim (is_every_state word) as (λ b. IsKnownState (length states) (if b then None else Some (state_in states word))) [
      | true ↦ tt
      | false ↦ place_below states word some
    ]

known_reset : (states : List Name) (given : Option Name) → 0 < length states → reset_said states given < length states
known_reset states None some = some
known_reset states (Some name) some = place_below states name some

-- of a machine with so many columns and these states
record IsFor (machine : Machine) (ins outs : Option ℕ) (states : List Name) : Type 0 where
  input : ins ≡ Some (length machine.inputs)
  output : outs ≡ Some (length machine.outputs)
  states_are : machine.states ≡ length states
  some : 0 < length states

as_wide : (width : Option ℕ) (pattern : Name) (n : ℕ) → width ≡ Some n → width ≡ Some (length pattern) → length (map bit_of pattern) ≡ n
as_wide width pattern n is wide =
    let both = sym wide ∙ is in
    let same : length pattern ≡ n = cc in
    length-map pattern bit_of ∙ same

row_sound : (machine : Machine) (ins outs : Option ℕ) (states : List Name) (input present next output : Name) → IsFor machine ins outs states → IsWide ins outs input output →
    IsKissRow machine (record { input = map bit_of input; present = state_said states present; next = state_said states next; output = map bit_of output })
row_sound machine ins outs states input present next output h wide = record {
  input = as_wide ins input (length machine.inputs) h.input wide.ins_are;
  present = subst (λ (n : ℕ). IsKnownState n (state_said states present)) (sym h.states_are) (known_state states present h.some);
  next = subst (λ (n : ℕ). IsKnownState n (state_said states next)) (sym h.states_are) (known_state states next h.some);
  output = as_wide outs output (length machine.outputs) h.output wide.outs_are;
}

rows_sound : (machine : Machine) (ins outs : Option ℕ) (states : List Name) (text : List KissForm) → IsFor machine ins outs states → AllByRecursion (Fits ins outs) text → AllByRecursion (IsKissRow machine) (flat_map (kiss_rows_on states) text)
rows_sound machine ins outs states [] h fits = tt
rows_sound machine ins outs states ((InputsWidth count) ∷ text) h fits = rows_sound machine ins outs states text h fits.1
rows_sound machine ins outs states ((OutputsWidth count) ∷ text) h fits = rows_sound machine ins outs states text h fits.1
rows_sound machine ins outs states (CountLine ∷ text) h fits = rows_sound machine ins outs states text h fits.1
rows_sound machine ins outs states ((ResetState name) ∷ text) h fits = rows_sound machine ins outs states text h fits.1
rows_sound machine ins outs states ((InputNames names) ∷ text) h fits = rows_sound machine ins outs states text h fits.1
rows_sound machine ins outs states ((OutputNames names) ∷ text) h fits = rows_sound machine ins outs states text h fits.1
rows_sound machine ins outs states ((StepRow input present next output) ∷ text) h fits =
    (row_sound machine ins outs states input present next output h fits.0, rows_sound machine ins outs states text h fits.1)
rows_sound machine ins outs states (LastLine ∷ text) h fits = rows_sound machine ins outs states text h fits.1

-- the whole machine

the_number : (width : Option ℕ) → is_some width ≡ true → (n : ℕ) × (width ≡ Some n)
the_number None h = absurd (false≢true h)
the_number (Some n) h = (n, refl)

letters_different : (ins outs : List Name) → are_different (ins ++ outs) ≡ true → are_different (names_of (columns_named ins ++ columns_named outs)) ≡ true
letters_different ins outs h =
    ap are_different (map-append (λ v. v.name) (columns_named ins) (columns_named outs) ∙ (λ i. names_back ins i ++ names_back outs i)) ∙ h

for_width : (width : Option ℕ) (names : List Name) (n : ℕ) → width ≡ Some n → AreFor n names → width ≡ Some (length (columns_named names))
for_width width names n is h = is ∙ ap Some (sym (length_columns names ∙ h.count))

pub sound_machine : (text : List KissForm) → AllFit text text → are_different (input_names text ++ output_names text) ≡ true → 0 < length (states_in text) → length (states_in text) ≤ 65536 → IsSoundMachine (machine_said text)
sound_machine text fits different some few =
    let widths = widths_given (input_width text) (output_width text) text fits (has_row text some) in
    let ins = the_number (input_width text) widths.0 in
    let outs = the_number (output_width text) widths.1 in
    let inputs = have_inputs text fits in
    let outputs = have_outputs text fits in
    let ins_are = names_for 120 (input_width text) (input_names_given text) ins.0 x_front inputs ins.1 in
    let outs_are = names_for 122 (output_width text) (output_names_given text) outs.0 z_front outputs outs.1 in
    record {
      inputs = are_columns (input_names text) ins.0 ins_are (inputs.counted ins.0 ins.1);
      outputs = are_columns (output_names text) outs.0 outs_are (outputs.counted outs.0 outs.1);
      different = letters_different (input_names text) (output_names text) different;
      reset = known_reset (states_in text) (reset_given text) some;
      few = few;
      rows = rows_sound (machine_said text) (input_width text) (output_width text) (states_in text) text
          (record {
            input = for_width (input_width text) (input_names text) ins.0 ins.1 ins_are;
            output = for_width (output_width text) (output_names text) outs.0 outs.1 outs_are;
            states_are = refl;
            some = some;
          }) fits;
    }
