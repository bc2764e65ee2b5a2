-- No bytes stand for a network and for a machine: their first words differ.
use Rattle.std.proofs.Common.{◌≡◌, ◌||◌, ◌++◌, ◌-◌, ℕ, Bool, true, false, List, [], ◌∷◌, map, length, take, drop, codes, Option, Some, None, if◌then◌else◌, refl, sym, ◌∙◌, ap, subst}
use Rattle.std.specs.Str.{bytes_eq}
use Rattle.std.specs.List.{list_any}
use Rattle.std.proofs.lemmas.Bool.{false≢true, and_parts}
use Rattle.std.proofs.lemmas.Slice.Eq.{bytes_eq-Decides}
use Rattle.lex_core.specs.LogicalLines.{LogicalLine, logical_lines}
use Rattle.net_model.specs.declared.directive.Directive.{Directive}
use Rattle.net_model.specs.declared.directive.Directive.TheVariants as directives
use Rattle.net_model.specs.Forms.{Name, Form, ModelLine, InputsLine, OutputsLine, DomainsLine, TableLine, ResetLine, LatchLine, DefaultLine, EndLine, RowLine, is_mark, is_comma, begins_with, directive_of, has_count, unmarked, latch_shape, end_shape, domains_shape, values_shape, columns_shape, table_shape, before_arrow, behind_arrow, shape_by, shape_of, apart, words_of, said_by}
use Rattle.net_model.specs.NetTexts.{is_model, is_model_word, begins_model_words, opens_model, StandsForNet}
use Rattle.net_model.specs.Nets.{Net}
use Rattle.net_model.specs.Machines.{Machine}
use Rattle.net_model.specs.KissForms.{KissForm, kiss_shape_of, kiss_said_by}
use Rattle.net_model.specs.KissTexts.{StandsForMachine}

-- the first word of a line of a model

unmarked_not : (words : List Name) (line form : Form) → is_model line ≡ false → unmarked words line ≡ Some form → is_model form ≡ false
unmarked_not words line form not_model h =
    elim (list_any is_mark words) as (λ b. (if b then None else Some line) ≡ Some form → is_model form ≡ false) [
      | true ↦ λ e. cc
      | false ↦ λ e. let same : line ≡ form = cc in subst (λ (f : Form). is_model f ≡ false) same not_model
    ] h

values_not : (names : List Name) (count : Name) (values : List Name) (form : Form) → values_shape names count values ≡ Some form → is_model form ≡ false
values_not names count values form h =
    elim (has_count count values) as (λ b. (if b then unmarked values (DomainsLine names count values) else None) ≡ Some form → is_model form ≡ false) [
      | true ↦ λ e. unmarked_not values (DomainsLine names count values) form refl e
      | false ↦ λ e. cc
    ] h

domains_not : (words names : List Name) (form : Form) → domains_shape names words ≡ Some form → is_model form ≡ false
domains_not [] names form h = cc
domains_not (name ∷ []) names form h = cc
domains_not (name ∷ word ∷ words) names form h =
    let more = domains_not words (names ++ name ∷ []) form in
    elim (is_mark name) as (λ b. (if b then None else (if is_comma word then domains_shape (names ++ name ∷ []) words else values_shape (names ++ name ∷ []) word words)) ≡ Some form → is_model form ≡ false) [
      | true ↦ λ e. cc
      | false ↦ λ e.
          elim (is_comma word) as (λ b. (if b then domains_shape (names ++ name ∷ []) words else values_shape (names ++ name ∷ []) word words) ≡ Some form → is_model form ≡ false) [
            | true ↦ λ f. more f
            | false ↦ λ f. values_not (names ++ name ∷ []) word words form f
          ] e
    ] h

columns_not : (line : List Name → List Name → Form) (ins outs : List Name) (form : Form) → ((i o : List Name) → is_model (line i o) ≡ false) → columns_shape line ins outs ≡ Some form → is_model form ≡ false
columns_not line ins [] form not_model h = cc
columns_not line ins (out ∷ outs) form not_model h = unmarked_not (ins ++ out ∷ outs) (line ins (out ∷ outs)) form (not_model ins (out ∷ outs)) h

table_not : (line : List Name → List Name → Form) (words : List Name) (behind : Option (List Name)) (form : Form) → ((i o : List Name) → is_model (line i o) ≡ false) → table_shape line words behind ≡ Some form → is_model form ≡ false
table_not line words None form not_model h = columns_not line (take (length words - 1) words) (drop (length words - 1) words) form not_model h
table_not line words (Some outs) form not_model h = columns_not line (before_arrow words) outs form not_model h

latch_not : (words : List Name) (form : Form) → latch_shape words ≡ Some form → is_model form ≡ false
latch_not [] form h = cc
latch_not (input ∷ []) form h = cc
latch_not (input ∷ output ∷ []) form h = unmarked_not (input ∷ output ∷ []) (LatchLine input output) form refl h
latch_not (input ∷ output ∷ word ∷ words) form h = cc

end_not : (words : List Name) (form : Form) → end_shape words ≡ Some form → is_model form ≡ false
end_not [] form h = let same : EndLine ≡ form = cc in subst (λ (f : Form). is_model f ≡ false) same refl
end_not (word ∷ words) form h = cc

model_only : (directive : Directive) (first : Name) (words : List Name) (form : Form) → shape_by directive first words ≡ Some form → is_model form ≡ true → is_model_word directive ≡ true
model_only directives.Model first words form h is = refl
model_only directives.Inputs first words form h is = sym (unmarked_not words (InputsLine words) form refl h) ∙ is
model_only directives.Outputs first words form h is = sym (unmarked_not words (OutputsLine words) form refl h) ∙ is
model_only directives.Domains first words form h is = sym (domains_not words [] form h) ∙ is
model_only directives.Table first words form h is = sym (table_not TableLine words (behind_arrow words) form (λ i o. refl) h) ∙ is
model_only directives.Reset first words form h is = sym (table_not ResetLine words (behind_arrow words) form (λ i o. refl) h) ∙ is
model_only directives.Latch first words form h is = sym (latch_not words form h) ∙ is
model_only directives.Default first words form h is = let same : DefaultLine words ≡ form = cc in ap is_model same ∙ is
model_only directives.Instance first words form h is = cc
model_only directives.End first words form h is = sym (end_not words form h) ∙ is
model_only directives.Unknown first words form h is = cc
model_only directives.Row first words form h is = let same : RowLine (first ∷ words) ≡ form = cc in ap is_model same ∙ is

pub model_begins : (words : List Name) (form : Form) → shape_of (apart words) ≡ Some form → is_model form ≡ true → begins_model_words words ≡ true
model_begins [] form h is = cc
model_begins (first ∷ words) form h is = model_only (directive_of first) first _ form h is

-- where it isn't `.model`, it opens no model

neither : (b : Bool) (x y : Directive) → is_model_word x ≡ false → is_model_word y ≡ false → is_model_word (if b then x else y) ≡ false
neither true x y first second = first
neither false x y first second = second

pub model_word : (word : Name) → is_model_word (directive_of word) ≡ true → word ≡ codes ".model"
model_word word opens =
    elim (bytes_eq word (codes ".model")) as (λ b. bytes_eq word (codes ".model") ≡ b → is_model_word (if b then directives.Model else rest) ≡ true → word ≡ codes ".model") [
      | true ↦ λ is h. (bytes_eq-Decides word (codes ".model")).0 is
      | false ↦ λ is h. absurd (false≢true (sym none ∙ h))
    ] refl opens
  where
    begun : Directive
    begun = if begins_with 46 word then directives.Unknown else directives.Row

    ended : Directive
    ended = if bytes_eq word (codes ".end") then directives.End else begun

    instanced : Directive
    instanced = if bytes_eq word (codes ".subckt") then directives.Instance else ended

    defaulted : Directive
    defaulted = if bytes_eq word (codes ".default") || bytes_eq word (codes ".def") then directives.Default else instanced

    latched : Directive
    latched = if bytes_eq word (codes ".latch") then directives.Latch else defaulted

    reset : Directive
    reset = if bytes_eq word (codes ".reset") || bytes_eq word (codes ".r") then directives.Reset else latched

    tabled : Directive
    tabled = if bytes_eq word (codes ".table") || bytes_eq word (codes ".names") then directives.Table else reset

    valued : Directive
    valued = if bytes_eq word (codes ".mv") then directives.Domains else tabled

    put_out : Directive
    put_out = if bytes_eq word (codes ".outputs") then directives.Outputs else valued

    rest : Directive
    rest = if bytes_eq word (codes ".inputs") then directives.Inputs else put_out

    none : is_model_word rest ≡ false
    none =
        neither (bytes_eq word (codes ".inputs")) directives.Inputs put_out refl
        (neither (bytes_eq word (codes ".outputs")) directives.Outputs valued refl
        (neither (bytes_eq word (codes ".mv")) directives.Domains tabled refl
        (neither (bytes_eq word (codes ".table") || bytes_eq word (codes ".names")) directives.Table reset refl
        (neither (bytes_eq word (codes ".reset") || bytes_eq word (codes ".r")) directives.Reset latched refl
        (neither (bytes_eq word (codes ".latch")) directives.Latch defaulted refl
        (neither (bytes_eq word (codes ".default") || bytes_eq word (codes ".def")) directives.Default instanced refl
        (neither (bytes_eq word (codes ".subckt")) directives.Instance ended refl
        (neither (bytes_eq word (codes ".end")) directives.End begun refl
        (neither (begins_with 46 word) directives.Unknown directives.Row refl refl)))))))))

-- a machine's text has no line that begins so
no_machine_line : (words : List Name) (form : KissForm) → begins_model_words words ≡ true → kiss_shape_of words ≡ Some form → ⊥
no_machine_line [] form opens shape = false≢true opens
no_machine_line (first ∷ words) form opens shape =
    let is : first ≡ codes ".model" = model_word first opens in
    let none : kiss_shape_of (codes ".model" ∷ words) ≡ None = refl in
    let shape' : kiss_shape_of (codes ".model" ∷ words) ≡ Some form = subst (λ (n : Name). kiss_shape_of (n ∷ words) ≡ Some form) is shape in
    let no : None ≡ Some form = sym none ∙ shape' in
    cc

first_line : (lines : List LogicalLine) (text : List Form) (said : List KissForm) → map said_by lines ≡ map Some text → opens_model text ≡ true → map kiss_said_by lines ≡ map Some said → ⊥
first_line [] [] said nets opens machines = false≢true opens
first_line [] (form ∷ text) said nets opens machines = cc
first_line (line ∷ lines) [] said nets opens machines = false≢true opens
first_line (line ∷ lines) (form ∷ text) [] nets opens machines = cc
first_line (line ∷ lines) (form ∷ text) (kiss ∷ said) nets opens machines =
    let shape : said_by line ≡ Some form = cc in
    let kiss_shape : kiss_said_by line ≡ Some kiss = cc in
    no_machine_line (words_of line) kiss (model_begins (words_of line) form shape (and_parts (is_model form) _ opens).0) kiss_shape

pub no_machine : (bytes : List ℕ) (net : Net) (machine : Machine) → StandsForNet bytes net → StandsForMachine bytes machine → ⊥
no_machine bytes net machine stands also = first_line (logical_lines bytes) stands.text also.text stands.lines.lines stands.lines.begins also.lines
