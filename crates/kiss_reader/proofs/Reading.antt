-- What both passes find together is the fault of the text, and what they read is its machine.
use Rattle.std.proofs.Common.{◌≡◌, ◌||◌, ◌++◌, ℕ, Bool, true, not, List, [], ◌∷◌, length, map, Some, None, Result, Ok, Err, if◌then◌else◌, refl, sym, ◌∙◌, ap, subst, arith}
use Rattle.std.specs.Prelude.{unwrap_or, codes, IfOk}
use Rattle.std.specs.Option.{option_map}
use Rattle.std.specs.List.{flat_map, filter_map}
use Rattle.std.proofs.lemmas.Bool.{false≢true}
use Rattle.lex_core.specs.LogicalLines.{LogicalLine, logical_lines}
use Rattle.name_table.specs.ScopeVars.{variables_of}
use Rattle.name_table.specs.Variables.{names_of, are_different}
use Rattle.name_table.specs.declared.scope_var.ScopeVar.{ScopeVar}
use Rattle.net_model.specs.declared.machine.Machine as declared_machine
use Rattle.net_model.specs.declared.text_fault.TextFault.{TextFault}
use Rattle.net_model.specs.declared.text_fault.TextFault.TheVariants.{At}
use Rattle.net_model.specs.declared.text_fault.TextKind.{TextKind}
use Rattle.net_model.specs.declared.text_fault.TextKind.TheVariants as kinds
use Rattle.net_model.specs.Faults.{Finds}
use Rattle.net_model.specs.Forms.{Name, words_of}
use Rattle.net_model.specs.KissForms.{KissForm, kiss_directive_of, kiss_shape_of, kiss_said_by}
use Rattle.net_model.specs.KissTexts.{input_width, output_width, input_names_given, output_names_given, input_names, output_names, is_step, opens_machine, forms_stand, numbered_names, columns_named, states_in, reset_said, kiss_rows_on, machine_said, kiss_text_in, StandsForMachine}
use Rattle.net_model.specs.Machines.{Machine, IsSoundMachine, machine_of}
use Rattle.net_model.proofs.OneNet.{one_machine}
use Rattle.blifmv_lines.specs.Said.{texts}
use Rattle.kiss_reader.specs.declared.first_pass.Read.{Read}
use Rattle.kiss_reader.specs.KissFaults.{is_unknown_word, is_row_word, begins_with_directive, begins_machine, first_line, first_of, form_fault, text_fault, kiss_fault, IsWithinLimits}
use Rattle.kiss_reader.specs.Above.{nothing_above, place_of, fault_from}
use Rattle.kiss_reader.specs.Header.{header_said, given_in}
use Rattle.kiss_reader.specs.Read.{names_or, inputs_in, outputs_in, repeats_in, machine_read, IsSmall, IsRead}
use Rattle.kiss_reader.specs.SecondPass.{rows_fault}
use Rattle.kiss_reader.proofs.Columned.{names_back}
use Rattle.kiss_reader.proofs.ColumnNames.{x_front, z_front}
use Rattle.kiss_reader.proofs.Kept.{places_are, headers_are}
use Rattle.kiss_reader.proofs.Lined.{lines_have_words}
use Rattle.kiss_reader.proofs.Passing.{shape_directive, row_word, known_word, not_false}
use Rattle.kiss_reader.proofs.Standing.{lines_stand, text_said, nothing_within}
use Rattle.kiss_reader.proofs.Agreeing.{same_fault}
use Rattle.kiss_reader.proofs.Rowed.{repeats, same_rows, has_states, no_repeats, reset_known}
use Rattle.kiss_reader.proofs.Widths.{AllFit, text_fits, have_inputs, have_outputs}
use Rattle.kiss_reader.proofs.Soundness.{few_names, sound_machine}

-- columns as they are made

pub same_repeats : (read : Read) (inputs outputs items_in items_out : List ScopeVar) (ins outs : ℕ) (different : Bool)
    → ins ≡ unwrap_or read.place.inputs 0 → outs ≡ unwrap_or read.place.outputs 0
    → variables_of inputs ≡ columns_named (unwrap_or (option_map (λ names. texts names.items) read.header.inputs) (numbered_names (codes "x") ins))
    → variables_of outputs ≡ columns_named (unwrap_or (option_map (λ names. texts names.items) read.header.outputs) (numbered_names (codes "z") outs))
    → items_in ≡ inputs → items_out ≡ outputs
    → different ≡ are_different (names_of (variables_of items_in) ++ names_of (variables_of items_out))
    → not different ≡ repeats_in read
same_repeats read inputs outputs items_in items_out ins outs different ins_are outs_are inputs_are outputs_are items_in_are items_out_are is =
    let ins_names : names_of (variables_of items_in) ≡ inputs_in read =
    ap (λ vs. names_of (variables_of vs)) items_in_are ∙ (ap names_of inputs_are ∙ (names_back _
    ∙ ap (λ n. unwrap_or (option_map (λ names. texts names.items) read.header.inputs) (numbered_names (codes "x") n)) ins_are)) in
    let outs_names : names_of (variables_of items_out) ≡ outputs_in read =
    ap (λ vs. names_of (variables_of vs)) items_out_are ∙ (ap names_of outputs_are ∙ (names_back _
    ∙ ap (λ n. unwrap_or (option_map (λ names. texts names.items) read.header.outputs) (numbered_names (codes "z") n)) outs_are)) in
    ap not is ∙ (λ i. not (are_different (ins_names i ++ outs_names i)))

-- without a fault the columns are different
pub come_different : (inputs outputs items_in items_out : List ScopeVar) (different : Bool) (states : List Name) (lines : List LogicalLine)
    → items_in ≡ inputs → items_out ≡ outputs
    → different ≡ are_different (names_of (variables_of items_in) ++ names_of (variables_of items_out))
    → states ≡ states_in (filter_map kiss_said_by lines) → rows_fault (not different) states 0 lines ≡ None
    → are_different (names_of (variables_of inputs) ++ names_of (variables_of outputs)) ≡ true
come_different inputs outputs items_in items_out different states lines ins outs is states_are none =
    (λ i. are_different (names_of (variables_of (sym ins i)) ++ names_of (variables_of (sym outs i))))
    ∙ (sym is ∙ not_false different (no_repeats (not different) states lines none states_are))

-- what was read

read_place : (text : List KissForm) (read : Read) → IsRead text read → read.place ≡ place_of text
read_place text read h = h.place ∙ places_are [] text

read_header : (text : List KissForm) (read : Read) → IsRead text read → header_said read.header ≡ given_in text
read_header text read h = h.header ∙ headers_are [] text

read_inputs : (text : List KissForm) (read : Read) → IsRead text read → inputs_in read ≡ input_names text
read_inputs text read h = λ i. names_or (read_header text read h i).inputs (codes "x") (read_place text read h i).inputs

read_outputs : (text : List KissForm) (read : Read) → IsRead text read → outputs_in read ≡ output_names text
read_outputs text read h = λ i. names_or (read_header text read h i).outputs (codes "z") (read_place text read h i).outputs

read_machine : (text : List KissForm) (read : Read) → IsRead text read → machine_read read text ≡ machine_said text
read_machine text read h = λ i. record {
  inputs = columns_named (read_inputs text read h i);
  outputs = columns_named (read_outputs text read h i);
  states = length (h.states i);
  reset = reset_said (h.states i) (read_header text read h i).reset;
  rows = flat_map (kiss_rows_on (h.states i)) text;
}

read_fault : (text : List KissForm) (read : Read) (lines : List LogicalLine) → IsRead text read → rows_fault (repeats_in read) read.states 0 lines ≡ rows_fault (repeats text) (states_in text) 0 lines
read_fault text read lines h = λ i. rows_fault (not (are_different (read_inputs text read h i ++ read_outputs text read h i))) (h.states i) 0 lines

-- how the text begins

begins_form : (words : List Name) (form : KissForm) → kiss_shape_of words ≡ Some form → begins_with_directive words ≡ not (is_step form)
begins_form [] form h = cc
begins_form (first ∷ words) form h =
    ap (λ directive. not (is_unknown_word directive || is_row_word directive)) (shape_directive (kiss_directive_of first) first words form h)
    ∙ (λ i. not (known_word form i || row_word form i))

pub same_begin : (lines : List LogicalLine) (text : List KissForm) → map kiss_said_by lines ≡ map Some text → begins_machine lines ≡ opens_machine text
same_begin [] [] h = refl
same_begin [] (form ∷ text) h = cc
same_begin (line ∷ lines) [] h = cc
same_begin (line ∷ lines) (form ∷ text) h =
    let first : kiss_said_by line ≡ Some form = cc in
    begins_form (words_of line) form first

-- a text without a fault of the first pass

pub same_pass : (text forms : List KissForm) (lines : List LogicalLine) → begins_machine lines ≡ true → map kiss_said_by lines ≡ map Some forms → text_fault text [] lines ≡ rows_fault (repeats text) (states_in text) 0 lines
same_pass text forms [] begins says = absurd (false≢true begins)
same_pass text forms (line ∷ lines) begins says = same_rows text [] 0 line lines forms says refl

pub record HasForms (bytes : List ℕ) : Type 0 where
  pub begins : begins_machine (logical_lines bytes) ≡ true
  pub says : map kiss_said_by (logical_lines bytes) ≡ map Some (kiss_text_in bytes)
  pub stand : forms_stand [] (kiss_text_in bytes) ≡ true
  pub within : IsWithinLimits (kiss_text_in bytes)
  pub fault : kiss_fault bytes ≡ rows_fault (repeats (kiss_text_in bytes)) (states_in (kiss_text_in bytes)) 0 (logical_lines bytes)

pub has_forms : (bytes : List ℕ) → begins_machine (logical_lines bytes) ≡ true → form_fault [] (logical_lines bytes) ≡ None → HasForms bytes
has_forms bytes begins none =
    let lines = logical_lines bytes in
    let text = kiss_text_in bytes in
    let found = lines_stand [] lines (lines_have_words bytes) nothing_within none in
    let same : found.0 ≡ text = sym (text_said lines found.0 found.1.lines_say) in
    let says : map kiss_said_by lines ≡ map Some text = found.1.lines_say ∙ ap (map Some) same in
    record {
      begins = begins;
      says = says;
      stand = subst (λ (t : List KissForm). forms_stand [] t ≡ true) same found.1.stand;
      within = subst IsWithinLimits same found.1.within;
      fault = (λ i. if begins i then first_of (none i) (text_fault text [] lines) else Some (At (first_line lines) kinds.NoModel))
          ∙ same_pass text text lines begins says;
    }

-- and without one of the second pass it stands for its machine
pub stands_machine : (bytes : List ℕ) → HasForms bytes → kiss_fault bytes ≡ None → StandsForMachine bytes (machine_said (kiss_text_in bytes))
stands_machine bytes h none =
    let lines = logical_lines bytes in
    let text = kiss_text_in bytes in
    let faultless = sym h.fault ∙ none in
    record {
      text = text;
      lines = h.says;
      begins = sym (same_begin lines text h.says) ∙ h.begins;
      stand = h.stand;
      columns = not_false _ (no_repeats (repeats text) (states_in text) lines faultless refl);
      states = has_states (repeats text) (states_in text) 0 lines faultless;
      reset = reset_known (repeats text) (states_in text) 0 lines faultless;
      says = refl;
    }

all_fit : (bytes : List ℕ) → HasForms bytes → AllFit (kiss_text_in bytes) (kiss_text_in bytes)
all_fit bytes h = text_fits bytes (kiss_text_in bytes) h.says h.stand h.within.columns

pub sound_said : (bytes : List ℕ) → HasForms bytes → kiss_fault bytes ≡ None → IsSoundMachine (machine_said (kiss_text_in bytes))
sound_said bytes h none =
    let lines = logical_lines bytes in
    let text = kiss_text_in bytes in
    let faultless = sym h.fault ∙ none in
    sound_machine text (all_fit bytes h) (not_false _ (no_repeats (repeats text) (states_in text) lines faultless refl))
    (has_states (repeats text) (states_in text) 0 lines faultless) h.within.values

-- what is known of what the first pass read

pub record IsKnown (bytes : List ℕ) (read : Read) : Type 0 where
  pub small : IsSmall read
  pub forms : HasForms bytes
  pub fault : rows_fault (repeats_in read) read.states 0 (logical_lines bytes) ≡ kiss_fault bytes
  pub machine : machine_read read (kiss_text_in bytes) ≡ machine_said (kiss_text_in bytes)

pub known_read : (bytes : List ℕ) (read : Read) → begins_machine (logical_lines bytes) ≡ true → fault_from nothing_above [] [] (logical_lines bytes) ≡ None → IsRead (kiss_text_in bytes) read → IsKnown bytes read
known_read bytes read begins none h =
    let lines = logical_lines bytes in
    let text = kiss_text_in bytes in
    let forms = has_forms bytes begins (same_fault [] lines (lines_have_words bytes) ∙ none) in
    let fits = all_fit bytes forms in
    let few_inputs = few_names 120 (input_width text) (input_names_given text) x_front (have_inputs text fits) in
    let few_outputs = few_names 122 (output_width text) (output_names_given text) z_front (have_outputs text fits) in
    let ins = ap length (read_inputs text read h) in
    let outs = ap length (read_outputs text read h) in
    record {
      small = record {
        states = h.few;
        inputs = omega (arith, few_inputs, ins);
        outputs = omega (arith, few_outputs, outs);
      };
      forms = forms;
      fault = read_fault text read lines h ∙ sym forms.fault;
      machine = read_machine text read h;
    }

-- what the second pass answers

module _ (bytes : List ℕ) (read : Read) (known : IsKnown bytes read) where
  pub machine_found : (result : Result declared_machine.Machine TextFault) → Finds result (rows_fault (repeats_in read) read.states 0 (logical_lines bytes)) → Finds result (kiss_fault bytes)
  machine_found result h = subst (Finds result) known.fault h

  pub machine_stands : (result : Result declared_machine.Machine TextFault) → Finds result (rows_fault (repeats_in read) read.states 0 (logical_lines bytes))
      → IfOk result (λ machine. machine_of machine ≡ machine_read read (kiss_text_in bytes)) → IfOk result (λ machine. StandsForMachine bytes (machine_of machine))
  machine_stands (Ok machine) h is = subst (StandsForMachine bytes) (sym (is ∙ known.machine)) (stands_machine bytes known.forms (sym known.fault ∙ h))
  machine_stands (Err fault) h is = tt

  pub machine_only : (result : Result declared_machine.Machine TextFault) → Finds result (rows_fault (repeats_in read) read.states 0 (logical_lines bytes))
      → IfOk result (λ machine. machine_of machine ≡ machine_read read (kiss_text_in bytes)) → IfOk result (λ machine. (other : Machine) → StandsForMachine bytes other → machine_of machine ≡ other)
  machine_only (Ok machine) h is = λ other stands. one_machine bytes (machine_of machine) other (machine_stands (Ok machine) h is) stands
  machine_only (Err fault) h is = tt

  pub machine_sound : (result : Result declared_machine.Machine TextFault) → Finds result (rows_fault (repeats_in read) read.states 0 (logical_lines bytes))
      → IfOk result (λ machine. machine_of machine ≡ machine_read read (kiss_text_in bytes)) → IfOk result (λ machine. IsSoundMachine (machine_of machine))
  machine_sound (Ok machine) h is = subst IsSoundMachine (sym (is ∙ known.machine)) (sound_said bytes known.forms (sym known.fault ∙ h))
  machine_sound (Err fault) h is = tt

-- a fault of the first pass is that of the text
pub form_found : (bytes : List ℕ) (n : ℕ) (kind : TextKind) → begins_machine (logical_lines bytes) ≡ true → fault_from nothing_above [] [] (logical_lines bytes) ≡ Some (At n kind) → kiss_fault bytes ≡ Some (At n kind)
form_found bytes n kind begins is =
    let lines = logical_lines bytes in
    let found : form_fault [] lines ≡ Some (At n kind) = same_fault [] lines (lines_have_words bytes) ∙ is in
    (λ i. if begins i then first_of (found i) (text_fault (kiss_text_in bytes) [] lines) else Some (At (first_line lines) kinds.NoModel))
