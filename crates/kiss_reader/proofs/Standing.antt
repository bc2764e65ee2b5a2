-- A text without a fault of the first pass stands within its limits.
use Rattle.std.proofs.Common.{◌≡◌, ◌≤◌, ◌||◌, ◌++◌, ℕ, true, not, List, [], ◌∷◌, map, Option, Some, None, refl, sym, ◌∙◌, ap, subst, append_assoc, arith}
use Rattle.std.specs.List.{list_any, filter_map, cons_option}
use Rattle.std.proofs.lemmas.Bool.{and_from}
use Rattle.lex_core.specs.LogicalLines.{LogicalLine}
use Rattle.net_model.specs.declared.text_fault.TextFault.{TextFault}
use Rattle.net_model.specs.declared.text_fault.TextKind.{TextKind}
use Rattle.net_model.specs.Faults.{fault_or}
use Rattle.net_model.specs.Forms.{Name, words_of}
use Rattle.net_model.specs.KissForms.{KissForm, kiss_said_by}
use Rattle.net_model.specs.KissTexts.{is_last, form_stands, forms_stand}
use Rattle.kiss_reader.specs.KissFaults.{has_many_columns, kind_of_words, fault_behind, form_fault, IsWithinLimits}
use Rattle.kiss_reader.proofs.Lined.{HaveWords}
use Rattle.kiss_reader.proofs.Kept.{rows_with, any_with, no_more_forms}
use Rattle.kiss_reader.proofs.Agreeing.{some_words}
use Rattle.kiss_reader.proofs.Passing.{Passes, passes, good_stands}

pub no_fault : (kind : Option TextKind) (line : ℕ) (later : Option TextFault) → fault_or kind line later ≡ None → (kind ≡ None) × (later ≡ None)
no_fault None line later h = (refl, h)
no_fault (Some kind) line later h = cc

-- lines that say this text, which can stand below those above, and is within the limits with them
pub record Stands (above : List KissForm) (lines : List LogicalLine) (text : List KissForm) : Type 0 where
  pub lines_say : map kiss_said_by lines ≡ map Some text
  pub stand : forms_stand above text ≡ true
  pub within : IsWithinLimits (above ++ text)

within_with : (above : List KissForm) (words : List Name) (form : KissForm) → IsWithinLimits above → Passes above words form → IsWithinLimits (above ++ form ∷ [])
within_with above words form had h = record {
  signals = h.signals;
  values = h.values;
  columns = any_with has_many_columns above form ∙ ((λ i. had.columns i || h.columns i));
  rows = subst (λ (n : ℕ). n ≤ 1000000) (sym (rows_with above form)) (h.rows had.rows);
}

stands_with : (above : List KissForm) (line : LogicalLine) (lines : List LogicalLine) (form : KissForm) (text : List KissForm) → Passes above (words_of line) form → Stands (above ++ form ∷ []) lines text → Stands above (line ∷ lines) (form ∷ text)
stands_with above line lines form text h rest = record {
  lines_say = λ i. h.says i ∷ rest.lines_say i;
  stand = and_from (not (list_any is_last above)) _ (ap not h.before_end) (and_from (form_stands above form) _ (good_stands above form h.good) rest.stand);
  within = subst IsWithinLimits (append_assoc above (form ∷ []) text) rest.within;
}

pub lines_stand : (above : List KissForm) (lines : List LogicalLine) → HaveWords lines → IsWithinLimits above → form_fault above lines ≡ None → (text : List KissForm) × Stands above lines text
lines_stand above [] h within none = ([], record { lines_say = refl; stand = refl; within = subst IsWithinLimits (sym (no_more_forms above)) within })
lines_stand above (line ∷ lines) h within none =
    let parts = no_fault (kind_of_words above (words_of line)) line.number _ none in
    let found = passes above (words_of line) (some_words line.words h.0) parts.0 in
    let form = found.0 in
    let later : form_fault (above ++ form ∷ []) lines ≡ None
    = ap (fault_behind (λ above'. form_fault above' lines) above) (sym found.1.says) ∙ parts.1 in
    let rest = lines_stand (above ++ form ∷ []) lines h.1 (within_with above (words_of line) form within found.1) later in
    (form ∷ rest.0, stands_with above line lines form rest.0 found.1 rest.1)

-- the text of lines that all say something
pub text_said : (lines : List LogicalLine) (text : List KissForm) → map kiss_said_by lines ≡ map Some text → filter_map kiss_said_by lines ≡ text
text_said [] [] h = refl
text_said [] (form ∷ text) h = cc
text_said (line ∷ lines) [] h = cc
text_said (line ∷ lines) (form ∷ text) h =
    let first : kiss_said_by line ≡ Some form = cc in
    let rest : map kiss_said_by lines ≡ map Some text = cc in
    let more = text_said lines text rest in
    (λ i. cons_option (first i) (more i))

pub nothing_within : IsWithinLimits []
nothing_within = record { signals = omega arith; values = omega arith; columns = refl; rows = omega arith }
