-- The words that stand on the lines of a text at the places of names.
use Rattle.std.proofs.Common.{◌≡◌, ◌<◌, ◌-◌, ◌&&◌, ◌++◌, ℕ, zero, suc, true, false, List, [], ◌∷◌, length, map, take, drop, Option, Some, None, if◌then◌else◌, nat_lt, codes, refl, subst, arith}
use Rattle.std.specs.List.{AllByRecursion, list_any, list_all, flat_map}
use Rattle.std.proofs.lemmas.Bool.{and_parts, or_right, ltb-true, lt-ltb}
use Rattle.lex_core.specs.LogicalLines.{TextWord, LogicalLine, logical_lines}
use Rattle.lex_core.specs.TextWords.{is_word_byte, is_word, is_text_word, AreTextWords}
use Rattle.lex_core.proofs.Made.{words_made}
use Rattle.net_model.specs.declared.directive.Directive.{Directive}
use Rattle.net_model.specs.declared.directive.Directive.TheVariants as directives
use Rattle.net_model.specs.Forms.{Name, Form, ModelLine, InputsLine, OutputsLine, DomainsLine, TableLine, ResetLine, LatchLine, is_mark, is_comma, is_arrow, begins_with_arrow, directive_of, parted, parts_arrows, apart, unmarked, model_shape, latch_shape, end_shape, has_count, values_shape, domains_shape, before_arrow, behind_arrow, columns_shape, table_shape, shape_by, shape_of, words_of, said_by}
use Rattle.net_model.specs.NetTexts.{mentions, LinesSay}

abbrev IsTextWord : Name → Type 0
IsTextWord word = is_text_word word ≡ true

-- words of a text
abbrev Come : List Name → Type 0
Come words = AllByRecursion IsTextWord words

come_append : (words more : List Name) → Come words → Come more → Come (words ++ more)
come_append [] more h k = k
come_append (word ∷ words) more h k = (h.0, come_append words more h.1 k)

come_take : (n : ℕ) (words : List Name) → Come words → Come (take n words)
come_take zero words h = tt
come_take (suc n) [] h = tt
come_take (suc n) (word ∷ words) h = (h.0, come_take n words h.1)

come_drop : (n : ℕ) (words : List Name) → Come words → Come (drop n words)
come_drop zero words h = h
come_drop (suc n) [] h = tt
come_drop (suc n) (word ∷ words) h = come_drop n words h.1

-- the words of a line, with arrows apart

-- what stands behind an arrow is a word still
behind_two : (word : Name) → 2 < length word → IsTextWord word → IsTextWord (drop 2 word)
behind_two [] long h = absurd (omega arith)
behind_two (a ∷ []) long h = absurd (omega arith)
behind_two (a ∷ b ∷ []) long h = absurd (omega arith)
behind_two (a ∷ b ∷ c ∷ word) long h =
    let bytes = and_parts (nat_lt 0 (length (a ∷ b ∷ c ∷ word))) (list_all is_word_byte (a ∷ b ∷ c ∷ word)) h in
    let behind_one = and_parts (is_word_byte a) (list_all is_word_byte (b ∷ c ∷ word)) bytes.1 in
    let rest = and_parts (is_word_byte b) (list_all is_word_byte (c ∷ word)) behind_one.1 in
    or_right _ (is_word (c ∷ word)) (rw (rest.1, lt-ltb 0 (length (c ∷ word)) (omega arith)) refl)

come_parted : (word : Name) → IsTextWord word → Come (parted word)
come_parted word h =
    elim (begins_with_arrow word && nat_lt 2 (length word)) as (λ b. (begins_with_arrow word && nat_lt 2 (length word)) ≡ b → Come (if b then codes "->" ∷ drop 2 word ∷ [] else word ∷ [])) [
      | true ↦ λ is. (refl, (behind_two word (ltb-true 2 (length word) (and_parts (begins_with_arrow word) (nat_lt 2 (length word)) is).1) h, tt))
      | false ↦ λ is. (h, tt)
    ] refl

come_all_parted : (words : List Name) → Come words → Come (flat_map parted words)
come_all_parted [] h = tt
come_all_parted (word ∷ words) h = come_append (parted word) (flat_map parted words) (come_parted word h.0) (come_all_parted words h.1)

come_apart : (words : List Name) → Come words → Come (apart words)
come_apart [] h = tt
come_apart (first ∷ words) h =
    (h.0, elim (parts_arrows (directive_of first)) as (λ b. Come (if b then flat_map parted words else words)) [ true ↦ come_all_parted words h.1 | false ↦ h.1 ])

come_words : (words : List TextWord) → AreTextWords words → Come (map (λ word. word.bytes) words)
come_words [] h = tt
come_words (word ∷ words) h = (h.0, come_words words h.1)

-- the form of a line

-- of a line that gives a domain: its count is one, and the names of its values are words
abbrev IsGiven : Form → Type 0
IsGiven (DomainsLine names count values) = Come values × (has_count count values ≡ true)
IsGiven _ = Unit {0}

-- what stands on a line at the places of names are words
pub record IsWritten (form : Form) : Type 0 where
  pub names : Come (mentions form)
  pub given : IsGiven form

abbrev IfWritten : Option Form → Type 0
IfWritten None = Unit {0}
IfWritten (Some form) = IsWritten form

unmarked_written : (words : List Name) (form : Form) → IsWritten form → IfWritten (unmarked words form)
unmarked_written words form h =
    elim (list_any is_mark words) as (λ b. IfWritten (if b then None else Some form)) [ true ↦ tt | false ↦ h ]

model_written : (words : List Name) → IfWritten (model_shape words)
model_written [] = record { names = tt; given = tt }
model_written (name ∷ []) = unmarked_written (name ∷ []) (ModelLine (name ∷ [])) (record { names = tt; given = tt })
model_written (name ∷ word ∷ words) = tt

latch_written : (words : List Name) → Come words → IfWritten (latch_shape words)
latch_written [] h = tt
latch_written (input ∷ []) h = tt
latch_written (input ∷ output ∷ []) h = unmarked_written (input ∷ output ∷ []) (LatchLine input output) (record { names = h; given = tt })
latch_written (input ∷ output ∷ word ∷ words) h = tt

end_written : (words : List Name) → IfWritten (end_shape words)
end_written [] = record { names = tt; given = tt }
end_written (word ∷ words) = tt

values_written : (names : List Name) (count : Name) (values : List Name) → Come names → Come values → IfWritten (values_shape names count values)
values_written names count values h k =
    elim (has_count count values) as (λ b. has_count count values ≡ b → IfWritten (if b then unmarked values (DomainsLine names count values) else None)) [
      | true ↦ λ is. unmarked_written values (DomainsLine names count values) (record { names = h; given = (k, is) })
      | false ↦ λ is. tt
    ] refl

domains_written : (names words : List Name) → Come names → Come words → IfWritten (domains_shape names words)
domains_written names [] h k = tt
domains_written names (name ∷ []) h k = tt
domains_written names (name ∷ word ∷ words) h k =
    let longer = come_append names (name ∷ []) h (k.0, tt) in
    elim (is_mark name) as (λ m. IfWritten (if m then None else (if is_comma word then domains_shape (names ++ name ∷ []) words else values_shape (names ++ name ∷ []) word words))) [
      | true ↦ tt
      | false ↦ elim (is_comma word) as (λ c. IfWritten (if c then domains_shape (names ++ name ∷ []) words else values_shape (names ++ name ∷ []) word words)) [
        | true ↦ domains_written (names ++ name ∷ []) words longer k.1.1
        | false ↦ values_written (names ++ name ∷ []) word words longer k.1.1
      ]
    ]

come_before : (words : List Name) → Come words → Come (before_arrow words)
come_before [] h = tt
come_before (word ∷ words) h =
    elim (is_arrow word) as (λ b. Come (if b then [] else word ∷ before_arrow words)) [ true ↦ tt | false ↦ (h.0, come_before words h.1) ]

abbrev IfCome : Option (List Name) → Type 0
IfCome None = Unit {0}
IfCome (Some words) = Come words

come_behind : (words : List Name) → Come words → IfCome (behind_arrow words)
come_behind [] h = tt
come_behind (word ∷ words) h =
    elim (is_arrow word) as (λ b. IfCome (if b then Some words else behind_arrow words)) [ true ↦ h.1 | false ↦ come_behind words h.1 ]

module _ (line : List Name → List Name → Form) (written : (ins outs : List Name) → Come (ins ++ outs) → IsWritten (line ins outs)) where
  columns_written : (ins outs : List Name) → Come ins → Come outs → IfWritten (columns_shape line ins outs)
  columns_written ins [] h k = tt
  columns_written ins (out ∷ outs) h k =
      unmarked_written (ins ++ out ∷ outs) (line ins (out ∷ outs)) (written ins (out ∷ outs) (come_append ins (out ∷ outs) h k))

  table_written : (words : List Name) (outs : Option (List Name)) → Come words → IfCome outs → IfWritten (table_shape line words outs)
  table_written words None h k =
      columns_written (take (length words - 1) words) (drop (length words - 1) words) (come_take (length words - 1) words h) (come_drop (length words - 1) words h)
  table_written words (Some outs) h k = columns_written (before_arrow words) outs (come_before words h) k

shape_written : (directive : Directive) (first : Name) (words : List Name) → Come words → IfWritten (shape_by directive first words)
shape_written directives.Model first words h = model_written words
shape_written directives.Inputs first words h = unmarked_written words (InputsLine words) (record { names = h; given = tt })
shape_written directives.Outputs first words h = unmarked_written words (OutputsLine words) (record { names = h; given = tt })
shape_written directives.Domains first words h = domains_written [] words tt h
shape_written directives.Table first words h =
    table_written TableLine (λ ins outs k. record { names = k; given = tt }) words (behind_arrow words) h (come_behind words h)
shape_written directives.Reset first words h =
    table_written ResetLine (λ ins outs k. record { names = k; given = tt }) words (behind_arrow words) h (come_behind words h)
shape_written directives.Latch first words h = latch_written words h
shape_written directives.Default first words h = record { names = tt; given = tt }
shape_written directives.Instance first words h = tt
shape_written directives.End first words h = end_written words
shape_written directives.Unknown first words h = tt
shape_written directives.Row first words h = record { names = tt; given = tt }

words_written : (words : List Name) → Come words → IfWritten (shape_of words)
words_written [] h = tt
words_written (first ∷ words) h = shape_written (directive_of first) first words h.1

said_written : (line : LogicalLine) → AreTextWords line.words → IfWritten (said_by line)
said_written line h = words_written (apart (words_of line)) (come_apart (words_of line) (come_words line.words h))

-- all lines

forms_written : (lines : List LogicalLine) (text : List Form) → AllByRecursion (λ (line : LogicalLine). AreTextWords line.words) lines → map said_by lines ≡ map Some text → AllByRecursion IsWritten text
forms_written [] [] h is = tt
forms_written [] (form ∷ text) h is = cc
forms_written (line ∷ lines) [] h is = cc
forms_written (line ∷ lines) (form ∷ text) h is =
    let first : said_by line ≡ Some form = cc in
    let rest : map said_by lines ≡ map Some text = cc in
    (subst IfWritten first (said_written line h.0), forms_written lines text h.1 rest)

-- each line of the text is written with words
pub text_written : (bytes : List ℕ) (text : List Form) → LinesSay bytes text → AllByRecursion IsWritten text
text_written bytes text says = forms_written (logical_lines bytes) text (words_made bytes) says.lines
