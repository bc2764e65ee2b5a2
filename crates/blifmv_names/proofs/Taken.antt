-- What a line that is taken was found to be.
use Rattle.std.proofs.Common.{◌≡◌, ◌≤◌, ◌&&◌, ◌++◌, ◌-◌, ℕ, Bool, true, false, not, List, [], ◌∷◌, length, take, drop, Option, Some, None, if◌then◌else◌, nat_lt, refl, sym, ◌∙◌, ap, subst, arith}
use Rattle.std.specs.List.{list_any}
use Rattle.std.proofs.lemmas.Bool.Decides.{nat_tests}
use Rattle.std.proofs.lemmas.List.{length-map}
use Rattle.net_model.specs.declared.directive.Directive.{Directive}
use Rattle.net_model.specs.declared.directive.Directive.TheVariants as directives
use Rattle.net_model.specs.declared.text_fault.TextKind.{TextKind}
use Rattle.net_model.specs.declared.text_fault.TextKind.TheVariants.{RowWidth, TwiceDefault, Hierarchy, BadName, BadDomain}
use Rattle.net_model.specs.declared.text_fault.Which.TheVariants.{Signals}
use Rattle.net_model.specs.Forms.{Name, Form, ModelLine, InputsLine, OutputsLine, DomainsLine, TableLine, ResetLine, LatchLine, DefaultLine, EndLine, RowLine, is_mark, is_comma, directive_of, has_count, unmarked, model_shape, latch_shape, end_shape, domains_shape, values_shape, columns_shape, table_shape, before_arrow, behind_arrow, shape_by, shape_of, has_names}
use Rattle.net_model.specs.NetTexts.{mentions, is_model}
use Rattle.blifmv_names.specs.declared.place.Place.{Place}
use Rattle.blifmv_names.specs.declared.place.Width.{Width}
use Rattle.blifmv_names.specs.Signals.{Signal, names_of, gives, with_mentions, signals_behind}
use Rattle.blifmv_names.specs.LineFaults.{kind_of_form, kind_of_rows, kind_of_spelling, kind_of_names, limit_on, limit_of_line, limit_or, is_misfit, is_second_default, is_clashing, IsCounted, IsGiven, MentionsAre}
use Rattle.blifmv_names.proofs.Gathered.{names_behind, names_all_mentioned}

-- the kind of a line whose rows are right and whose counts are within their limits is one of its names
rows_right : (width : Option Width) (form : Form) (more : Option TextKind) → None ≡ kind_of_rows width form → (if is_misfit width form then Some RowWidth else (if is_second_default width form then Some TwiceDefault else more)) ≡ more
rows_right width form more h =
    elim (is_misfit width form) as (λ b. None ≡ (if b then Some RowWidth else (if is_second_default width form then Some TwiceDefault else None)) → (if b then Some RowWidth else (if is_second_default width form then Some TwiceDefault else more)) ≡ more) [
      | true ↦ λ e. cc
      | false ↦ λ e.
          elim (is_second_default width form) as (λ b. None ≡ (if b then Some TwiceDefault else None) → (if b then Some TwiceDefault else more) ≡ more) [
            | true ↦ λ f. cc
            | false ↦ λ f. refl
          ] e
    ] h

not_many : (signals : List Signal) → length signals ≤ 4096 → nat_lt 4096 (length signals) ≡ false
not_many signals few = grind (arith, nat_tests)

spelled_first : (place : Place) (signals : List Signal) (form : Form) (kind : TextKind) → Some kind ≡ kind_of_spelling place form → kind_of_names place signals form ≡ Some kind
spelled_first place signals form kind h =
    elim (is_model form && place.begun) as (λ b. Some kind ≡ (if b then Some Hierarchy else (if not (has_names form) then Some BadName else None)) → (if b then Some Hierarchy else (if not (has_names form) then Some BadName else (if is_clashing signals form then Some BadDomain else None))) ≡ Some kind) [
      | true ↦ λ e. sym e
      | false ↦ λ e.
          elim (not (has_names form)) as (λ b. Some kind ≡ (if b then Some BadName else None) → (if b then Some BadName else (if is_clashing signals form then Some BadDomain else None)) ≡ Some kind) [
            | true ↦ λ f. sym f
            | false ↦ λ f. cc
          ] e
    ] h

pub spelling_fault : (place : Place) (signals mentioned : List Signal) (form : Form) (kind : TextKind) (few : Bool) → None ≡ kind_of_rows place.width form → few ≡ true → MentionsAre signals mentioned few → None ≡ limit_of_line place.rows form → Some kind ≡ kind_of_spelling place form → kind_of_form place signals form ≡ Some kind
spelling_fault place signals mentioned form kind few rows is h limit spelled =
    let are : (mentioned ≡ signals) × (length signals ≤ 4096) = subst (MentionsAre signals mentioned) is h in
    rows_right place.width form (limit_or (limit_on place signals form) (kind_of_names place signals form)) rows
    ∙ ((λ i. limit_or (if not_many signals are.1 i then Some Signals else sym limit i) (kind_of_names place signals form))
    ∙ spelled_first place signals form kind spelled)

-- as many signals stand behind a line as it mentions
same_length : (signals more : List Signal) → names_of signals ≡ names_of more → length signals ≡ length more
same_length signals more h = sym (length-map signals (λ s. s.name)) ∙ (ap length h ∙ length-map more (λ s. s.name))

pub few_behind : (old mentioned now : List Signal) (form : Form) (few given : Bool) → few ≡ true → MentionsAre (with_mentions old form) mentioned few → given ≡ true → IsGiven mentioned now form given → length now ≤ 4096
few_behind old mentioned now form few given is h is' h' =
    let are : (mentioned ≡ with_mentions old form) × (length (with_mentions old form) ≤ 4096) = subst (MentionsAre (with_mentions old form) mentioned) is h in
    let gave : (is_clashing mentioned form ≡ false) × (now ≡ gives form mentioned) = subst (IsGiven mentioned now form) is' h' in
    let now_is : now ≡ signals_behind old form = gave.1 ∙ ap (gives form) are.0 in
    let size : length (signals_behind old form) ≡ length (with_mentions old form) =
    same_length (signals_behind old form) (with_mentions old form) (names_behind old form ∙ sym (names_all_mentioned old (mentions form))) in
    subst (λ (s : List Signal). length s ≤ 4096) (sym now_is) (subst (λ (n : ℕ). n ≤ 4096) (sym size) are.1)

-- a line of domains has as many values as it says

no_form : (form : Form) → None ≡ Some form → IsCounted form
no_form form h = cc

unmarked_counted : (words : List Name) (line form : Form) → IsCounted line → unmarked words line ≡ Some form → IsCounted form
unmarked_counted words line form counted h =
    elim (list_any is_mark words) as (λ b. (if b then None else Some line) ≡ Some form → IsCounted form) [
      | true ↦ λ e. no_form form e
      | false ↦ λ e. let is : line ≡ form = cc in subst IsCounted is counted
    ] h

values_counted : (names : List Name) (count : Name) (values : List Name) (form : Form) → values_shape names count values ≡ Some form → IsCounted form
values_counted names count values form h =
    elim (has_count count values) as (λ b. has_count count values ≡ b → (if b then unmarked values (DomainsLine names count values) else None) ≡ Some form → IsCounted form) [
      | true ↦ λ is e. unmarked_counted values (DomainsLine names count values) form is e
      | false ↦ λ is e. no_form form e
    ] refl h

domains_counted : (names words : List Name) (form : Form) → domains_shape names words ≡ Some form → IsCounted form
domains_counted names [] form h = no_form form h
domains_counted names (name ∷ []) form h = no_form form h
domains_counted names (name ∷ word ∷ words) form h =
    let more = domains_counted (names ++ name ∷ []) words form in
    elim (is_mark name) as (λ b. (if b then None else (if is_comma word then domains_shape (names ++ name ∷ []) words else values_shape (names ++ name ∷ []) word words)) ≡ Some form → IsCounted form) [
      | true ↦ λ e. no_form form e
      | false ↦ λ e.
          elim (is_comma word) as (λ b. (if b then domains_shape (names ++ name ∷ []) words else values_shape (names ++ name ∷ []) word words) ≡ Some form → IsCounted form) [
            | true ↦ λ f. more f
            | false ↦ λ f. values_counted (names ++ name ∷ []) word words form f
          ] e
    ] h

columns_counted : (line : List Name → List Name → Form) (ins outs : List Name) (form : Form) → ((ins outs : List Name) → IsCounted (line ins outs)) → columns_shape line ins outs ≡ Some form → IsCounted form
columns_counted line ins [] form counted h = no_form form h
columns_counted line ins (out ∷ outs) form counted h = unmarked_counted (ins ++ out ∷ outs) (line ins (out ∷ outs)) form (counted ins (out ∷ outs)) h

table_counted : (line : List Name → List Name → Form) (words : List Name) (behind : Option (List Name)) (form : Form) → ((ins outs : List Name) → IsCounted (line ins outs)) → table_shape line words behind ≡ Some form → IsCounted form
table_counted line words None form counted h = columns_counted line (take (length words - 1) words) (drop (length words - 1) words) form counted h
table_counted line words (Some outs) form counted h = columns_counted line (before_arrow words) outs form counted h

exactly : (line form : Form) → IsCounted line → Some line ≡ Some form → IsCounted form
exactly line form counted h = let is : line ≡ form = cc in subst IsCounted is counted

model_counted : (words : List Name) (form : Form) → model_shape words ≡ Some form → IsCounted form
model_counted [] form h = exactly (ModelLine []) form tt h
model_counted (name ∷ []) form h = unmarked_counted (name ∷ []) (ModelLine (name ∷ [])) form tt h
model_counted (name ∷ word ∷ words) form h = no_form form h

latch_counted : (words : List Name) (form : Form) → latch_shape words ≡ Some form → IsCounted form
latch_counted [] form h = no_form form h
latch_counted (input ∷ []) form h = no_form form h
latch_counted (input ∷ output ∷ []) form h = unmarked_counted (input ∷ output ∷ []) (LatchLine input output) form tt h
latch_counted (input ∷ output ∷ word ∷ words) form h = no_form form h

end_counted : (words : List Name) (form : Form) → end_shape words ≡ Some form → IsCounted form
end_counted [] form h = exactly EndLine form tt h
end_counted (word ∷ words) form h = no_form form h

shape_counted : (directive : Directive) (first : Name) (words : List Name) (form : Form) → shape_by directive first words ≡ Some form → IsCounted form
shape_counted directives.Model first words form h = model_counted words form h
shape_counted directives.Inputs first words form h = unmarked_counted words (InputsLine words) form tt h
shape_counted directives.Outputs first words form h = unmarked_counted words (OutputsLine words) form tt h
shape_counted directives.Domains first words form h = domains_counted [] words form h
shape_counted directives.Table first words form h = table_counted TableLine words (behind_arrow words) form (λ ins outs. tt) h
shape_counted directives.Reset first words form h = table_counted ResetLine words (behind_arrow words) form (λ ins outs. tt) h
shape_counted directives.Latch first words form h = latch_counted words form h
shape_counted directives.Default first words form h = exactly (DefaultLine words) form tt h
shape_counted directives.Instance first words form h = no_form form h
shape_counted directives.End first words form h = end_counted words form h
shape_counted directives.Unknown first words form h = no_form form h
shape_counted directives.Row first words form h = exactly (RowLine (first ∷ words)) form tt h

pub counted : (words : List Name) (form : Form) → shape_of words ≡ Some form → IsCounted form
counted [] form h = no_form form h
counted (first ∷ words) form h = shape_counted (directive_of first) first words form h
