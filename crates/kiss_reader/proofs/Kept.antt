-- The lines above, as the first pass keeps them, are those that the definitions go by.
use Rattle.std.proofs.Common.{◌≡◌, ◌+◌, ◌||◌, ◌++◌, ℕ, Bool, true, false, nat_lt, List, [], ◌∷◌, Option, Some, None, refl, sym, ◌∙◌, ap, zero-add, arith}
use Rattle.std.specs.Prelude.{is_some}
use Rattle.std.specs.List.{list_any, flat_map}
use Rattle.std.proofs.lemmas.Bool.Decides.{nat_tests}
use Rattle.std.proofs.lemmas.List.{append_assoc}
use Rattle.std.proofs.lemmas.List.Concat.{flat_map-append}
use Rattle.std.proofs.lemmas.List.Folds.{list_any-append}
use Rattle.net_model.specs.Forms.{Name}
use Rattle.net_model.specs.NetTexts.{distinct}
use Rattle.net_model.specs.KissForms.{KissForm, InputsWidth, OutputsWidth, CountLine, ResetState, InputNames, OutputNames, StepRow, LastLine}
use Rattle.net_model.specs.KissTexts.{input_width, output_width, reset_given, input_names_given, output_names_given, is_step, is_last, states_on, states_in}
use Rattle.kiss_reader.specs.KissFaults.{column_names_on, column_names_in, rows_in}
use Rattle.kiss_reader.specs.Header.{or_first, input_width_on, output_width_on, reset_on, input_names_on, output_names_on, header_behind, headers_from, given_in}
use Rattle.kiss_reader.specs.Above.{columns_behind, states_behind, rows_on, place_behind, places_from, place_of}
use Rattle.kiss_reader.proofs.Names.{distinct_append}

-- what the first of the lines gives that gives it

or_nothing : {T : Type 0} (first : Option T) → or_first first None ≡ first
or_nothing None = refl
or_nothing (Some x) = refl

or_regroup : {T : Type 0} (first second third : Option T) → or_first first (or_first second third) ≡ or_first (or_first first second) third
or_regroup None second third = refl
or_regroup (Some x) second third = refl

some_or : {T : Type 0} (first second : Option T) → is_some (or_first first second) ≡ (is_some first || is_some second)
some_or None second = refl
some_or (Some x) second = refl

module _ {T : Type 0} (given : List KissForm → Option T) (on : KissForm → Option T) (none : given [] ≡ None) (first : (form : KissForm) (text : List KissForm) → given (form ∷ text) ≡ or_first (on form) (given text)) where
  given_append : (text more : List KissForm) → given (text ++ more) ≡ or_first (given text) (given more)
  given_append [] more = sym (ap (λ o. or_first o (given more)) none)
  given_append (form ∷ text) more =
      first form (text ++ more)
      ∙ (ap (or_first (on form)) (given_append text more)
      ∙ (or_regroup (on form) (given text) (given more) ∙ sym (ap (λ o. or_first o (given more)) (first form text))))

  given_with : (text : List KissForm) (form : KissForm) → given (text ++ form ∷ []) ≡ or_first (given text) (on form)
  given_with text form =
      given_append text (form ∷ []) ∙ ap (or_first (given text)) (first form [] ∙ (ap (or_first (on form)) none ∙ or_nothing (on form)))

first_input_width : (form : KissForm) (text : List KissForm) → input_width (form ∷ text) ≡ or_first (input_width_on form) (input_width text)
first_input_width (InputsWidth count) text = refl
first_input_width (OutputsWidth count) text = refl
first_input_width CountLine text = refl
first_input_width (ResetState name) text = refl
first_input_width (InputNames names) text = refl
first_input_width (OutputNames names) text = refl
first_input_width (StepRow input present next output) text = refl
first_input_width LastLine text = refl

first_output_width : (form : KissForm) (text : List KissForm) → output_width (form ∷ text) ≡ or_first (output_width_on form) (output_width text)
first_output_width (InputsWidth count) text = refl
first_output_width (OutputsWidth count) text = refl
first_output_width CountLine text = refl
first_output_width (ResetState name) text = refl
first_output_width (InputNames names) text = refl
first_output_width (OutputNames names) text = refl
first_output_width (StepRow input present next output) text = refl
first_output_width LastLine text = refl

first_reset : (form : KissForm) (text : List KissForm) → reset_given (form ∷ text) ≡ or_first (reset_on form) (reset_given text)
first_reset (InputsWidth count) text = refl
first_reset (OutputsWidth count) text = refl
first_reset CountLine text = refl
first_reset (ResetState name) text = refl
first_reset (InputNames names) text = refl
first_reset (OutputNames names) text = refl
first_reset (StepRow input present next output) text = refl
first_reset LastLine text = refl

first_input_names : (form : KissForm) (text : List KissForm) → input_names_given (form ∷ text) ≡ or_first (input_names_on form) (input_names_given text)
first_input_names (InputsWidth count) text = refl
first_input_names (OutputsWidth count) text = refl
first_input_names CountLine text = refl
first_input_names (ResetState name) text = refl
first_input_names (InputNames names) text = refl
first_input_names (OutputNames names) text = refl
first_input_names (StepRow input present next output) text = refl
first_input_names LastLine text = refl

first_output_names : (form : KissForm) (text : List KissForm) → output_names_given (form ∷ text) ≡ or_first (output_names_on form) (output_names_given text)
first_output_names (InputsWidth count) text = refl
first_output_names (OutputsWidth count) text = refl
first_output_names CountLine text = refl
first_output_names (ResetState name) text = refl
first_output_names (InputNames names) text = refl
first_output_names (OutputNames names) text = refl
first_output_names (StepRow input present next output) text = refl
first_output_names LastLine text = refl

pub input_width_append : (text more : List KissForm) → input_width (text ++ more) ≡ or_first (input_width text) (input_width more)
input_width_append text more = given_append input_width input_width_on refl first_input_width text more

pub input_width_with : (text : List KissForm) (form : KissForm) → input_width (text ++ form ∷ []) ≡ or_first (input_width text) (input_width_on form)
input_width_with text form = given_with input_width input_width_on refl first_input_width text form

pub output_width_append : (text more : List KissForm) → output_width (text ++ more) ≡ or_first (output_width text) (output_width more)
output_width_append text more = given_append output_width output_width_on refl first_output_width text more

pub output_width_with : (text : List KissForm) (form : KissForm) → output_width (text ++ form ∷ []) ≡ or_first (output_width text) (output_width_on form)
output_width_with text form = given_with output_width output_width_on refl first_output_width text form

pub reset_append : (text more : List KissForm) → reset_given (text ++ more) ≡ or_first (reset_given text) (reset_given more)
reset_append text more = given_append reset_given reset_on refl first_reset text more

pub reset_with : (text : List KissForm) (form : KissForm) → reset_given (text ++ form ∷ []) ≡ or_first (reset_given text) (reset_on form)
reset_with text form = given_with reset_given reset_on refl first_reset text form

pub input_names_append : (text more : List KissForm) → input_names_given (text ++ more) ≡ or_first (input_names_given text) (input_names_given more)
input_names_append text more = given_append input_names_given input_names_on refl first_input_names text more

pub input_names_with : (text : List KissForm) (form : KissForm) → input_names_given (text ++ form ∷ []) ≡ or_first (input_names_given text) (input_names_on form)
input_names_with text form = given_with input_names_given input_names_on refl first_input_names text form

pub output_names_append : (text more : List KissForm) → output_names_given (text ++ more) ≡ or_first (output_names_given text) (output_names_given more)
output_names_append text more = given_append output_names_given output_names_on refl first_output_names text more

pub output_names_with : (text : List KissForm) (form : KissForm) → output_names_given (text ++ form ∷ []) ≡ or_first (output_names_given text) (output_names_on form)
output_names_with text form = given_with output_names_given output_names_on refl first_output_names text form

-- rows and the end

pub first_rows : (form : KissForm) (text : List KissForm) → rows_in (form ∷ text) ≡ rows_on form + rows_in text
first_rows (InputsWidth count) text = sym (zero-add (rows_in text))
first_rows (OutputsWidth count) text = sym (zero-add (rows_in text))
first_rows CountLine text = sym (zero-add (rows_in text))
first_rows (ResetState name) text = sym (zero-add (rows_in text))
first_rows (InputNames names) text = sym (zero-add (rows_in text))
first_rows (OutputNames names) text = sym (zero-add (rows_in text))
first_rows (StepRow input present next output) text = omega arith
first_rows LastLine text = sym (zero-add (rows_in text))

pub rows_append : (text more : List KissForm) → rows_in (text ++ more) ≡ rows_in text + rows_in more
rows_append [] more = sym (zero-add (rows_in more))
rows_append (form ∷ text) more =
    let rest = rows_append text more in
    let whole = first_rows form (text ++ more) in
    let front = first_rows form text in
    omega (arith, rest, whole, front)

pub rows_with : (text : List KissForm) (form : KissForm) → rows_in (text ++ form ∷ []) ≡ rows_in text + rows_on form
rows_with text form =
    let all = rows_append text (form ∷ []) in
    let one = first_rows form [] in
    omega (arith, all, one)

or_no : (b : Bool) → (b || false) ≡ b
or_no true = refl
or_no false = refl

pub any_with : (p : KissForm → Bool) (text : List KissForm) (form : KissForm) → list_any p (text ++ form ∷ []) ≡ (list_any p text || p form)
any_with p text form = list_any-append p text (form ∷ []) ∙ ap (λ b. list_any p text || b) (or_no (p form))

some_rows : (n : ℕ) → nat_lt 0 (n + 1) ≡ true
some_rows n = grind (arith, nat_tests)

pub stepped : (text : List KissForm) → list_any is_step text ≡ nat_lt 0 (rows_in text)
stepped [] = refl
stepped ((InputsWidth count) ∷ text) = stepped text
stepped ((OutputsWidth count) ∷ text) = stepped text
stepped (CountLine ∷ text) = stepped text
stepped ((ResetState name) ∷ text) = stepped text
stepped ((InputNames names) ∷ text) = stepped text
stepped ((OutputNames names) ∷ text) = stepped text
stepped ((StepRow input present next output) ∷ text) = sym (some_rows (rows_in text))
stepped (LastLine ∷ text) = stepped text

-- names

module _ (on : KissForm → List Name) where
  pub names_append : (text more : List KissForm) → distinct [] (flat_map on (text ++ more)) ≡ distinct (distinct [] (flat_map on text)) (flat_map on more)
  names_append text more = ap (distinct []) (flat_map-append on text more) ∙ distinct_append [] (flat_map on text) (flat_map on more)

no_more : (names : List Name) → names ++ [] ≡ names
no_more [] = refl
no_more (name ∷ names) = ap (λ ns. name ∷ ns) (no_more names)

pub columns_with : (text : List KissForm) (form : KissForm) → column_names_in (text ++ form ∷ []) ≡ columns_behind (column_names_in text) form
columns_with text form =
    names_append column_names_on text (form ∷ []) ∙ ap (distinct (column_names_in text)) (no_more (column_names_on form))

pub states_with : (text : List KissForm) (form : KissForm) → states_in (text ++ form ∷ []) ≡ states_behind (states_in text) form
states_with text form =
    names_append states_on text (form ∷ []) ∙ ap (distinct (states_in text)) (no_more (states_on form))

pub no_more_forms : (text : List KissForm) → text ++ [] ≡ text
no_more_forms [] = refl
no_more_forms (form ∷ text) = ap (λ fs. form ∷ fs) (no_more_forms text)

-- the whole place

pub place_with : (text : List KissForm) (form : KissForm) → place_of (text ++ form ∷ []) ≡ place_behind (place_of text) form
place_with text form = λ i. record {
  inputs = input_width_with text form i;
  outputs = output_width_with text form i;
  has_reset = (ap is_some (reset_with text form) ∙ some_or (reset_given text) (reset_on form)) i;
  has_inputs = (ap is_some (input_names_with text form) ∙ some_or (input_names_given text) (input_names_on form)) i;
  has_outputs = (ap is_some (output_names_with text form) ∙ some_or (output_names_given text) (output_names_on form)) i;
  rows = rows_with text form i;
  ended = any_with is_last text form i;
}

pub places_are : (above text : List KissForm) → places_from (place_of above) text ≡ place_of (above ++ text)
places_are above [] = ap place_of (sym (no_more_forms above))
places_are above (form ∷ text) =
    ap (λ place. places_from place text) (sym (place_with above form))
    ∙ (places_are (above ++ form ∷ []) text ∙ ap place_of (append_assoc above (form ∷ []) text))

header_with : (text : List KissForm) (form : KissForm) → given_in (text ++ form ∷ []) ≡ header_behind (given_in text) form
header_with text form = λ i. record {
  reset = reset_with text form i;
  inputs = input_names_with text form i;
  outputs = output_names_with text form i;
}

pub headers_are : (above text : List KissForm) → headers_from (given_in above) text ≡ given_in (above ++ text)
headers_are above [] = ap given_in (sym (no_more_forms above))
headers_are above (form ∷ text) =
    ap (λ given. headers_from given text) (sym (header_with above form))
    ∙ (headers_are (above ++ form ∷ []) text ∙ ap given_in (append_assoc above (form ∷ []) text))
