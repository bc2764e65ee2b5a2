-- A text whose lines have no fault says what its lines say.
use Rattle.std.proofs.Common.{◌≡◌, ◌||◌, ◌&&◌, ◌++◌, ℕ, Bool, true, false, not, List, [], ◌∷◌, map, slice_get, Option, Some, None, unwrap_or, if◌then◌else◌, refl, sym, ◌∙◌, ap, subst}
use Rattle.std.specs.Option.{option_map}
use Rattle.std.specs.List.{list_any, list_all, filter_map, cons_option}
use Rattle.std.proofs.lemmas.Bool.{false≢true}
use Rattle.std.proofs.lemmas.List.{append_assoc}
use Rattle.std.proofs.lemmas.List.Folds.{list_any-append}
use Rattle.std.proofs.lemmas.Slice.Eq.{bytes_eq-Decides}
use Rattle.lex_core.specs.LogicalLines.{TextWord, LogicalLine, logical_lines}
use Rattle.name_table.specs.Variables.{is_in, are_different, are_same}
use Rattle.name_table.proofs.Shown.{are_same-Decides}
use Rattle.net_model.specs.declared.directive.Directive.{Directive}
use Rattle.net_model.specs.declared.directive.Directive.TheVariants as directives
use Rattle.net_model.specs.declared.text_fault.TextFault.{TextFault}
use Rattle.net_model.specs.declared.text_fault.TextFault.TheVariants.{At}
use Rattle.net_model.specs.declared.text_fault.TextKind.{TextKind}
use Rattle.net_model.specs.declared.text_fault.TextKind.TheVariants.{UnknownDirective, BadCount, NoModel, Hierarchy, BadName, BadDomain}
use Rattle.net_model.specs.declared.text_fault.Which.{Which}
use Rattle.net_model.specs.Forms.{Name, Form, ModelLine, InputsLine, OutputsLine, DomainsLine, TableLine, ResetLine, LatchLine, DefaultLine, EndLine, RowLine, is_mark, directive_of, shape_of, shape_by, model_shape, apart, words_of, said_by, has_names}
use Rattle.net_model.specs.NetTexts.{domain_given, domain_in, has_domains, is_model, is_end, ends_once, text_in, variables_in, LinesSay}
use Rattle.blifmv_names.specs.declared.place.Place.{Place}
use Rattle.blifmv_names.specs.Signals.{Signal, AreSignals, names_of, given_in, with_mentions, signals_behind, signals_from, agrees, variables_of}
use Rattle.net_model.specs.Words.{Scope}
use Rattle.net_model.specs.Faults.{fault_or}
use Rattle.blifmv_names.specs.LineFaults.{is_instance_word, is_model_word, is_unknown, is_misfit, is_second_default, limit_on, is_clashing, kind_of_names, limit_or, kind_of_form, kind_of_shape, kind_of_words, place_behind, fault_behind, first_fault, nothing_above, first_line, begins_model, begins_model_words, line_fault}
use Rattle.blifmv_names.proofs.Gathered.{AreThere, domain_with, domain_behind, given_all_mentioned, variables_from}

-- tests

pub if_none : {T : Type 0} (b : Bool) (kind : T) (more : Option T) → (if b then Some kind else more) ≡ None → (b ≡ false) × (more ≡ None)
if_none true kind more h = cc
if_none false kind more h = (refl, h)

no_limit : (limit : Option Which) (kind : Option TextKind) → limit_or limit kind ≡ None → kind ≡ None
no_limit None kind h = h
no_limit (Some which) kind h = cc

pub no_fault : (kind : Option TextKind) (line : ℕ) (later : Option TextFault) → fault_or kind line later ≡ None → (kind ≡ None) × (later ≡ None)
no_fault None line later h = (refl, h)
no_fault (Some kind) line later h = cc

not_false : (b : Bool) → not b ≡ false → b ≡ true
not_false true h = refl
not_false false h = cc

pub neither : (a b : Bool) → (a || b) ≡ false → (a ≡ false) × (b ≡ false)
neither true b h = absurd (false≢true (sym h))
neither false b h = (refl, h)

-- one line

good_form : (place : Place) (signals : List Signal) (form : Form) → kind_of_form place signals form ≡ None → kind_of_names place signals form ≡ None
good_form place signals form h =
    let width = if_none (is_misfit place.width form) _ _ h in
    let default = if_none (is_second_default place.width form) _ _ width.1 in
    no_limit (limit_on place signals form) (kind_of_names place signals form) default.1

shaped : (place : Place) (signals : List Signal) (directive : Directive) (shape : Option Form) → kind_of_shape place signals directive shape ≡ None → (form : Form) × (shape ≡ Some form) × (kind_of_names place (with_mentions signals form) form ≡ None)
shaped place signals directive None h =
    elim (is_instance_word directive) as (λ b. (if b then Some Hierarchy else Some BadCount) ≡ None → (form : Form) × (None ≡ Some form) × (kind_of_names place (with_mentions signals form) form ≡ None)) [
      | true ↦ λ e. cc
      | false ↦ λ e. cc
    ] h
shaped place signals directive (Some form) h = (form, refl, good_form place (with_mentions signals form) form h)

model_form : (words : List Name) (form : Form) → model_shape words ≡ Some form → is_model form ≡ true
model_form [] form h = let e : ModelLine [] ≡ form = cc in subst (λ (f : Form). is_model f ≡ true) e refl
model_form (name ∷ []) form h =
    elim (list_any is_mark (name ∷ [])) as (λ b. (if b then None else Some (ModelLine (name ∷ []))) ≡ Some form → is_model form ≡ true) [
      | true ↦ λ e. cc
      | false ↦ λ e. let same : ModelLine (name ∷ []) ≡ form = cc in subst (λ (f : Form). is_model f ≡ true) same refl
    ] h
model_form (name ∷ word ∷ words) form h = cc

model_said : (directive : Directive) (first : Name) (words : List Name) (form : Form) → is_model_word directive ≡ true → shape_by directive first words ≡ Some form → is_model form ≡ true
model_said directives.Model first words form is h = model_form words form h
model_said directives.Inputs first words form is h = absurd (false≢true is)
model_said directives.Outputs first words form is h = absurd (false≢true is)
model_said directives.Domains first words form is h = absurd (false≢true is)
model_said directives.Table first words form is h = absurd (false≢true is)
model_said directives.Reset first words form is h = absurd (false≢true is)
model_said directives.Latch first words form is h = absurd (false≢true is)
model_said directives.Default first words form is h = absurd (false≢true is)
model_said directives.Instance first words form is h = absurd (false≢true is)
model_said directives.End first words form is h = absurd (false≢true is)
model_said directives.Unknown first words form is h = absurd (false≢true is)
model_said directives.Row first words form is h = absurd (false≢true is)

-- a line without a fault: what it says, that nothing is wrong with its names, and that it is a model's line where the end
-- stands above
record IsGood (place : Place) (signals : List Signal) (words : List Name) : Type 0 where
  form : Form
  shape : shape_of words ≡ Some form
  names : kind_of_names place (with_mentions signals form) form ≡ None
  model : place.ended ≡ true → is_model form ≡ true

ended_known : (ended model end : Bool) (unknown : Bool) → (unknown || ((ended && not model) || end)) ≡ false → ended ≡ true → model ≡ true
ended_known ended model end unknown h is =
    let inner = (neither unknown _ h).1 in
    let left = (neither (ended && not model) end inner).0 in
    not_false model (sym (ap (λ b. b && not model) is) ∙ left)

good_words : (place : Place) (signals : List Signal) (words : List Name) → kind_of_words place signals words ≡ None → IsGood place signals words
good_words place signals [] h = cc
good_words place signals (first ∷ words) h =
    let parts = if_none (is_unknown place (directive_of first) (first ∷ words)) UnknownDirective _ h in
    let found = shaped place signals (directive_of first) (shape_of (first ∷ words)) parts.1 in
    record {
      form = found.0;
      shape = found.1;
      names = found.2;
      model = λ ended. model_said (directive_of first) first words found.0 (ended_known place.ended (is_model_word (directive_of first)) _ _ parts.0 ended) found.1;
    }

-- the domains of a line

are_there : (front names : List Name) → AreThere (front ++ names) names
are_there front [] = tt
are_there front (name ∷ names) = (
  rw list_any-append (rw ((bytes_eq-Decides name name).1 refl) (or_true (is_in front name))),
  subst (λ (had : List Name). AreThere had names) (append_assoc front (name ∷ []) names) (are_there (front ++ name ∷ []) names),
)
  where
    or_true : (b : Bool) → (b || true) ≡ true
    or_true true = refl
    or_true false = refl

-- a name that has no other domain than this has it in the whole text
same_domain : (domain : List Name) (o : Option (List Name)) (later : List Name) → agrees domain o ≡ true → are_same domain (unwrap_or o domain) ≡ true
same_domain domain None later h = (are_same-Decides domain domain _ refl).1 refl
same_domain domain (Some had) later h = h

all_same : (domain : List Name) (had names : List Name) (given : Name → Option (List Name)) (whole : Name → List Name) → AreThere had names → ((name : Name) → is_in had name ≡ true → whole name ≡ unwrap_or (given name) domain) → list_any (λ name. not (agrees domain (given name))) names ≡ false → list_all (λ name. are_same domain (whole name)) names ≡ true
all_same domain had [] given whole there is h = refl
all_same domain had (name ∷ names) given whole there is h =
    let parts = neither (not (agrees domain (given name))) _ h in
    let more = all_same domain had names given whole there.1 is parts.1 in
    let here : are_same domain (whole name) ≡ true = ap (are_same domain) (is name there.0) ∙ same_domain domain (given name) [] (not_false _ parts.0) in
    rw (here, more) refl

good_domains : (place : Place) (signals : List Signal) (form : Form) (text : List Form) (whole : Name → List Name) → kind_of_names place (with_mentions signals form) form ≡ None → ((name : Name) → whole name ≡ domain_with signals (form ∷ text) name) → has_domains whole form ≡ true
good_domains place signals (ModelLine names) text whole h is = refl
good_domains place signals (InputsLine names) text whole h is = refl
good_domains place signals (OutputsLine names) text whole h is = refl
good_domains place signals (DomainsLine names count values) text whole h is =
    let form = DomainsLine names count values in
    let model = if_none (is_model form && place.begun) Hierarchy _ h in
    let spelled = if_none (not (has_names form)) BadName _ model.1 in
    let clash = (if_none (is_clashing (with_mentions signals form) form) BadDomain None spelled.1).0 in
    let parts = neither (not (are_different values)) _ clash in
    let domain = domain_given count values in
    let at : (name : Name) → is_in names name ≡ true → whole name ≡ unwrap_or (given_in (with_mentions signals form) name) domain =
    (λ name there. is name ∙ (ap (λ b. unwrap_or (given_in signals name) (unwrap_or (if b then Some domain else None) (domain_in text name))) there
    ∙ ap (λ o. unwrap_or o domain) (sym (given_all_mentioned signals names name)))) in
    let same = all_same domain names names (given_in (with_mentions signals form)) whole (are_there [] names) at parts.1 in
    rw (not_false _ parts.0, same) refl
good_domains place signals (TableLine ins outs) text whole h is = refl
good_domains place signals (ResetLine ins outs) text whole h is = refl
good_domains place signals (LatchLine input output) text whole h is = refl
good_domains place signals (DefaultLine words) text whole h is = refl
good_domains place signals EndLine text whole h is = refl
good_domains place signals (RowLine words) text whole h is = refl

-- the lines behind that of the model

pub record Says (place : Place) (whole : Name → List Name) (lines : List LogicalLine) (text : List Form) : Type 0 where
  pub said : map said_by lines ≡ map Some text
  pub spelled : list_all has_names text ≡ true
  pub models : list_all (λ line. not (is_model line)) text ≡ true
  pub ended : place.ended ≡ true → text ≡ []
  pub ends : ends_once text ≡ true
  pub domains : list_all (has_domains whole) text ≡ true

ends_cons : (form : Form) (text : List Form) → (is_end form ≡ true → text ≡ []) → ends_once text ≡ true → ends_once (form ∷ text) ≡ true
ends_cons form [] last ends = refl
ends_cons form (next ∷ text) last ends =
    elim (is_end form) as (λ b. (b ≡ true → next ∷ text ≡ []) → (not b && ends_once (next ∷ text)) ≡ true) [
      | true ↦ λ e. let none : next ∷ text ≡ [] = e refl in cc
      | false ↦ λ e. ends
    ] last

or_right : (a b : Bool) → b ≡ true → (a || b) ≡ true
or_right true b h = refl
or_right false b h = h

lines_say : (lines : List LogicalLine) (place : Place) (signals : List Signal) (whole : Name → List Name) → place.begun ≡ true → first_fault place signals lines ≡ None → ((name : Name) → whole name ≡ domain_with signals (filter_map said_by lines) name) → Says place whole lines (filter_map said_by lines)
lines_say [] place signals whole begun h is = record { said = refl; spelled = refl; models = refl; ended = λ e. refl; ends = refl; domains = refl }
lines_say (line ∷ lines) place signals whole begun h is =
    let words = apart (words_of line) in
    let parts = no_fault (kind_of_words place signals words) line.number _ h in
    let good = good_words place signals words parts.0 in
    let form = good.form in
    let rest : first_fault (place_behind place form) (signals_behind signals form) lines ≡ None =
    sym (ap (fault_behind (λ p s. first_fault p s lines) place signals) good.shape) ∙ parts.1 in
    let text = filter_map said_by lines in
    let whole_text : filter_map said_by (line ∷ lines) ≡ form ∷ text = ap (λ o. cons_option o text) good.shape in
    let is' : (name : Name) → whole name ≡ domain_with signals (form ∷ text) name = (λ name. is name ∙ ap (λ t. domain_with signals t name) whole_text) in
    let more = lines_say lines (place_behind place form) (signals_behind signals form) whole (ap (λ b. b || is_model form) begun) rest (λ name. is' name ∙ sym (domain_behind signals form text name)) in
    let second = if_none (is_model form && place.begun) Hierarchy _ good.names in
    let not_model : is_model form ≡ false = and_left (is_model form) place.begun begun second.0 in
    let spelled = if_none (not (has_names form)) BadName _ second.1 in
    let names : has_names form ≡ true = not_false _ spelled.0 in
    let domains : has_domains whole form ≡ true = good_domains place signals form text whole good.names is' in
    subst (λ (t : List Form). Says place whole (line ∷ lines) t) (sym whole_text) (record {
      said = (λ i. good.shape i ∷ more.said i);
      spelled = rw (names, more.spelled) refl;
      models = rw (not_model, more.models) refl;
      ended = λ e. absurd (false≢true (sym not_model ∙ good.model e));
      ends = ends_cons form text (λ e. more.ended (or_right place.ended (is_end form) e)) more.ends;
      domains = rw (domains, more.domains) refl;
    })
  where
    and_left : (a b : Bool) → b ≡ true → (a && b) ≡ false → a ≡ false
    and_left true b e h = absurd (false≢true (sym h ∙ e))
    and_left false b e h = refl

-- the whole text

begins : (words : List Name) → begins_model_words words ≡ true → (first : Name) × (rest : List Name) × (words ≡ first ∷ rest) × (is_model_word (directive_of first) ≡ true)
begins [] h = absurd (false≢true h)
begins (first ∷ rest) h = (first, rest, refl, h)

good_model : (whole : Name → List Name) (form : Form) → is_model form ≡ true → has_domains whole form ≡ true
good_model whole (ModelLine names) h = refl
good_model whole (InputsLine names) h = refl
good_model whole (OutputsLine names) h = refl
good_model whole (DomainsLine names count values) h = absurd (false≢true h)
good_model whole (TableLine ins outs) h = refl
good_model whole (ResetLine ins outs) h = refl
good_model whole (LatchLine input output) h = refl
good_model whole (DefaultLine words) h = refl
good_model whole EndLine h = refl
good_model whole (RowLine words) h = refl

not_end : (form : Form) → is_model form ≡ true → is_end form ≡ false
not_end (ModelLine names) h = refl
not_end (InputsLine names) h = refl
not_end (OutputsLine names) h = refl
not_end (DomainsLine names count values) h = refl
not_end (TableLine ins outs) h = refl
not_end (ResetLine ins outs) h = refl
not_end (LatchLine input output) h = refl
not_end (DefaultLine words) h = refl
not_end EndLine h = absurd (false≢true h)
not_end (RowLine words) h = refl

text_said : (bytes : List ℕ) (lines : List LogicalLine) → logical_lines bytes ≡ lines → begins_model lines ≡ true → first_fault nothing_above [] lines ≡ None → LinesSay bytes (filter_map said_by lines)
text_said bytes [] is start h = absurd (false≢true start)
text_said bytes (line ∷ lines) is start h =
    let words = apart (words_of line) in
    let front = begins (words_of line) start in
    let parts = no_fault (kind_of_words nothing_above [] words) line.number _ h in
    let good = good_words nothing_above [] words parts.0 in
    let form = good.form in
    let apart_is : words ≡ apart (front.0 ∷ front.1) = ap apart front.2 in
    let shape : shape_of (apart (front.0 ∷ front.1)) ≡ Some form = ap shape_of (sym apart_is) ∙ good.shape in
    let model : is_model form ≡ true = model_said (directive_of front.0) front.0 _ form front.3 shape in
    let rest : first_fault (place_behind nothing_above form) (signals_behind [] form) lines ≡ None =
    sym (ap (fault_behind (λ p s. first_fault p s lines) nothing_above []) good.shape) ∙ parts.1 in
    let text = filter_map said_by lines in
    let whole = domain_in (form ∷ text) in
    let whole_text : filter_map said_by (line ∷ lines) ≡ form ∷ text = ap (λ o. cons_option o text) good.shape in
    let more = lines_say lines (place_behind nothing_above form) (signals_behind [] form) whole model rest (λ name. sym (domain_behind [] form text name)) in
    let spelled = if_none (not (has_names form)) BadName _ (if_none (is_model form && false) Hierarchy _ good.names).1 in
    let names : has_names form ≡ true = not_false _ spelled.0 in
    subst (λ (t : List Form). LinesSay bytes t) (sym whole_text) (record {
      lines = ap (map said_by) is ∙ (λ i. good.shape i ∷ more.said i);
      spelled = rw (names, more.spelled) refl;
      begins = rw (model, more.models) refl;
      ends = ends_cons form text (λ e. more.ended e) more.ends;
      domains = rw (good_model whole form model, more.domains) refl;
    })

-- a text without a fault of the lines says what its lines say
pub text_says : (bytes : List ℕ) → line_fault bytes ≡ None → LinesSay bytes (text_in bytes)
text_says bytes h =
    elim (begins_model (logical_lines bytes)) as (λ b. begins_model (logical_lines bytes) ≡ b → (if b then first_fault nothing_above [] (logical_lines bytes) else Some (At (first_line (logical_lines bytes)) NoModel)) ≡ None → LinesSay bytes (text_in bytes)) [
      | true ↦ λ start none. text_said bytes (logical_lines bytes) refl start none
      | false ↦ λ start none. cc
    ] refl h

-- its signals are its variables
pub names_said : (bytes : List ℕ) (signals : List Signal) (names : Scope) → AreSignals signals → signals ≡ signals_from [] (text_in bytes) → names ≡ variables_of signals → names ≡ variables_in (text_in bytes)
names_said bytes signals names are is named =
    named
    ∙ (ap variables_of is
    ∙ variables_from (text_in bytes) (ap (λ s. are_different (names_of s)) (sym is) ∙ are.different))

pub no_line_fault : (bytes : List ℕ) → begins_model (logical_lines bytes) ≡ true → first_fault nothing_above [] (logical_lines bytes) ≡ None → line_fault bytes ≡ None
no_line_fault bytes begins none = ap (λ b. if b then first_fault nothing_above [] (logical_lines bytes) else Some (At (first_line (logical_lines bytes)) NoModel)) begins ∙ none

-- the first word of a line
pub first_word : (words : List TextWord) (word : Name) → Some word ≡ option_map (λ w. w.bytes) (slice_get words 0) → begins_model_words (map (λ w. w.bytes) words) ≡ is_model_word (directive_of word)
first_word [] word h = cc
first_word (w ∷ words) word h = let is : word ≡ w.bytes = cc in ap (λ n. is_model_word (directive_of n)) (sym is)

pub no_word : (words : List TextWord) → None ≡ option_map (λ w. w.bytes) (slice_get words 0) → begins_model_words (map (λ w. w.bytes) words) ≡ false
no_word [] h = refl
no_word (w ∷ words) h = cc
