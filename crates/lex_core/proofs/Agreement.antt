use Rattle.std.proofs.Common.{◌≡◌, ℕ, ◌+◌, Bool, true, false, List, [], ◌∷◌, ◌++◌, length, Option, None, Some, refl, sym, ◌∙◌, ap, arith, add-zero}
use Rattle.std.proofs.lemmas.Bool.{eqb-true}
use Rattle.std.specs.Prelude.{◌==◌, ◌&&◌, ◌||◌, if◌then◌else◌}
use Rattle.std.proofs.lemmas.List.{append_assoc, append-nil}
use Rattle.lex_core.specs.declared.sign.Place.{Place}
use Rattle.lex_core.specs.declared.sign.Place.TheVariants.{InText, InComment, BehindMark}
use Rattle.lex_core.specs.declared.sign.Sign.{Sign}
use Rattle.lex_core.specs.declared.sign.Sign.TheVariants.{Part, Alone, Gap, Hash, Mark, Join, End}
use Rattle.lex_core.specs.LogicalLines.{is_blank, is_alone, TextWord, text_word, longer, line_of, is_empty, with_first, physical_lines, without_comment, trimmed, content, ends_with_backslash, all_but_last, is_continued, with_open, words_from, line_words, joined_lines, logical_lines}
use Rattle.lex_core.specs.Signs.{no_more, text_sign, place_behind}
use Rattle.lex_core.specs.Tokens.{Token, TheWord, Ended, closed, next_tokens, tokens_from}
use Rattle.lex_core.specs.Forward.{lines_from, lines_at}

-- Reading forward gives the logical lines.

-- bytes of one physical line
abbrev HasNoFeed : List ℕ → Type 0
HasNoFeed [] = Unit {0}
HasNoFeed (b ∷ bs) = ((b == 10) ≡ false) × HasNoFeed bs

-- the text from the end of a physical line on: nothing, or a line feed
data Behind : Type 0 where
  TheEnd : Behind
  Feed : List ℕ → Behind

abbrev behind_bytes : Behind → List ℕ
behind_bytes TheEnd = []
behind_bytes (Feed bs) = 10 ∷ bs

abbrev left_of : List ℕ → List ℕ
left_of c = if ends_with_backslash c then all_but_last c else c

-- words, and then tokens
abbrev words_then : List TextWord → List Token → List Token
words_then [] tokens = tokens
words_then (word ∷ words) tokens = TheWord word ∷ words_then words tokens

abbrev end_place : Bool → Place
end_place true = BehindMark
end_place false = InText

closed-words_then : (word : Option TextWord) (words : List TextWord) (tokens : List Token)
    → closed word (words_then words tokens) ≡ words_then (with_open word words) tokens
closed-words_then None words tokens = refl
closed-words_then (Some word) words tokens = refl

-- the tests of a byte that is no line feed
abbrev sign_of : Bool → Bool → Bool → Bool → Sign
sign_of hash blank mark alone = if hash then Hash else (if blank then Gap else (if mark then Mark else (if alone then Alone else Part)))

text_sign-inside : (b : ℕ) (bs : List ℕ) → (b == 10) ≡ false
    → text_sign b bs ≡ sign_of (b == 35) (is_blank b) ((b == 92) && no_more bs) (is_alone b)
text_sign-inside b bs inside =
    ap (λ e. if e then End else sign_of (b == 35) (is_blank b) ((b == 92) && no_more bs) (is_alone b)) inside

is_empty-trimmed : (b : ℕ) (bs : List ℕ) (t : Bool) → is_empty (if t then [] else b ∷ bs) ≡ t
is_empty-trimmed b bs true = refl
is_empty-trimmed b bs false = refl

no_more-line : (line : List ℕ) (r : Behind) → HasNoFeed line → no_more (line ++ behind_bytes r) ≡ is_empty (content line)
no_more-line [] TheEnd inside = refl
no_more-line [] (Feed bs) inside = refl
no_more-line (b ∷ bs) r inside =
    ap (λ e. e || ((b == 35) || (is_blank b && no_more (bs ++ behind_bytes r)))) inside.0
    ∙ (ap (λ n. (b == 35) || (is_blank b && n)) (no_more-line bs r inside.1)
    ∙ elim (b == 35) as (λ h. (h || (is_blank b && is_empty (content bs))) ≡ is_empty (trimmed (if h then [] else b ∷ without_comment bs)))
    [ true ↦ refl | false ↦ sym (is_empty-trimmed b (content bs) (is_blank b && is_empty (content bs))) ])

-- the rest of a comment, or what stands behind a joining backslash, is a gap
comment_passes : (at : ℕ) (bs : List ℕ) (r : Behind) → HasNoFeed bs
    → tokens_from InComment at None (bs ++ behind_bytes r) ≡ tokens_from InText (at + length bs) None (behind_bytes r)
comment_passes at [] TheEnd inside = refl
comment_passes at [] (Feed bs) inside = rw (add-zero at) refl
comment_passes at (b ∷ bs) r inside =
    ap (λ e. next_tokens (if e then End else Gap) b at None (λ w. tokens_from (place_behind InComment (if e then End else Gap)) (at + 1) w (bs ++ behind_bytes r))) inside.0
    ∙ (comment_passes (at + 1) bs r inside.1 ∙ ap (λ n. tokens_from InText n None (behind_bytes r)) (omega arith))

mark_passes : (at : ℕ) (bs : List ℕ) (r : Behind) → HasNoFeed bs
    → tokens_from BehindMark at None (bs ++ behind_bytes r) ≡ tokens_from BehindMark (at + length bs) None (behind_bytes r)
mark_passes at [] r inside = rw (add-zero at) refl
mark_passes at (b ∷ bs) r inside =
    ap (λ e. next_tokens (if e then Join else Gap) b at None (λ w. tokens_from (place_behind BehindMark (if e then Join else Gap)) (at + 1) w (bs ++ behind_bytes r))) inside.0
    ∙ (mark_passes (at + 1) bs r inside.1 ∙ ap (λ n. tokens_from BehindMark n None (behind_bytes r)) (omega arith))

-- tokens of bytes are those of this content, and then what stands `n` bytes on
abbrev HasContent : List ℕ → ℕ → List ℕ → Behind → Type 0
HasContent c n bytes r = (at : ℕ) (word : Option TextWord) → tokens_from InText at word bytes
    ≡ words_then (words_from at word (left_of c)) (tokens_from (end_place (ends_with_backslash c)) (at + n) None (behind_bytes r))

abbrev SignGives : List ℕ → ℕ → List ℕ → Behind → ℕ → ℕ → Option TextWord → Sign → Type 0
SignGives c n bytes r b at word s =
    next_tokens s b at word (λ w. tokens_from (place_behind InText s) (at + 1) w bytes)
    ≡ words_then (words_from at word (left_of c)) (tokens_from (end_place (ends_with_backslash c)) (at + 1 + n) None (behind_bytes r))

-- a byte of a word, before this content
plain_gives : (c : List ℕ) (n : ℕ) (bytes : List ℕ) (r : Behind) (b at : ℕ) (word : Option TextWord) → HasContent c n bytes r → is_blank b ≡ false
    → next_tokens (if is_alone b then Alone else Part) b at word (λ w. tokens_from (place_behind InText (if is_alone b then Alone else Part)) (at + 1) w bytes)
    ≡ words_then (words_from at word (b ∷ left_of c)) (tokens_from (end_place (ends_with_backslash c)) (at + 1 + n) None (behind_bytes r))
plain_gives c n bytes r b at word has no_blank =
    let rest : List Token = tokens_from (end_place (ends_with_backslash c)) (at + 1 + n) None (behind_bytes r) in
    let alone : List TextWord = with_open word (text_word at (b ∷ []) ∷ words_from (at + 1) None (left_of c)) in
    let longer_word : List TextWord = words_from (at + 1) (longer at word b) (left_of c) in
    let gap : List TextWord = with_open word (words_from (at + 1) None (left_of c)) in
    elim (is_alone b) as (λ a. next_tokens (if a then Alone else Part) b at word (λ w. tokens_from (place_behind InText (if a then Alone else Part)) (at + 1) w bytes)
    ≡ words_then (if a then alone else longer_word) rest) [
      | true ↦ ap (λ ts. closed word (TheWord (text_word at (b ∷ [])) ∷ ts)) (has (at + 1) None)
          ∙ closed-words_then word (text_word at (b ∷ []) ∷ words_from (at + 1) None (left_of c)) rest
      | false ↦ has (at + 1) (longer at word b)
    ]
    ∙ sym (ap (λ g. words_then (if g then gap else (if is_alone b then alone else longer_word)) rest) no_blank)

left_of-more : (b c : ℕ) (cs : List ℕ) → left_of (b ∷ c ∷ cs) ≡ b ∷ left_of (c ∷ cs)
left_of-more b c cs =
    elim (ends_with_backslash (c ∷ cs)) as (λ k. (if k then b ∷ all_but_last (c ∷ cs) else b ∷ c ∷ cs) ≡ b ∷ (if k then all_but_last (c ∷ cs) else c ∷ cs))
    [ true ↦ refl | false ↦ refl ]

-- a blank, before this content
blank_gives : (c : List ℕ) (n : ℕ) (bytes : List ℕ) (r : Behind) (b at : ℕ) (word : Option TextWord) → HasContent c n bytes r → is_blank b ≡ true
    → SignGives (if is_empty c then [] else b ∷ c) n bytes r b at word Gap
blank_gives [] n bytes r b at word has blank =
    ap (closed word) (has (at + 1) None) ∙ closed-words_then word [] (tokens_from InText (at + 1 + n) None (behind_bytes r))
blank_gives (c ∷ cs) n bytes r b at word has blank =
    let rest : List Token = tokens_from (end_place (ends_with_backslash (c ∷ cs))) (at + 1 + n) None (behind_bytes r) in
    let left : List ℕ = left_of (c ∷ cs) in
    let other : List TextWord = if is_alone b then with_open word (text_word at (b ∷ []) ∷ words_from (at + 1) None left) else words_from (at + 1) (longer at word b) left in
    ap (closed word) (has (at + 1) None)
    ∙ (closed-words_then word (words_from (at + 1) None left) rest
    ∙ (sym (ap (λ g. words_then (if g then with_open word (words_from (at + 1) None left) else other) rest) blank)
    ∙ ap (λ l. words_then (words_from at word l) rest) (sym (left_of-more b c cs))))

-- a byte that is no blank, before this content
text_gives : (c bs : List ℕ) (r : Behind) (b at : ℕ) (word : Option TextWord) → HasNoFeed bs
    → HasContent c (length bs) (bs ++ behind_bytes r) r → is_blank b ≡ false
    → SignGives (b ∷ c) (length bs) (bs ++ behind_bytes r) r b at word (sign_of false false ((b == 92) && is_empty c) (is_alone b))
text_gives [] bs r b at word inside has no_blank =
    elim (b == 92) as (λ k. next_tokens (sign_of false false (k && true) (is_alone b)) b at word
    (λ w. tokens_from (place_behind InText (sign_of false false (k && true) (is_alone b))) (at + 1) w (bs ++ behind_bytes r))
    ≡ words_then (words_from at word (if k then [] else b ∷ [])) (tokens_from (end_place k) (at + 1 + length bs) None (behind_bytes r))) [
      | true ↦ ap (closed word) (mark_passes (at + 1) bs r inside) ∙ closed-words_then word [] (tokens_from BehindMark (at + 1 + length bs) None (behind_bytes r))
      | false ↦ plain_gives [] (length bs) (bs ++ behind_bytes r) r b at word has no_blank
    ]
text_gives (c ∷ cs) bs r b at word inside has no_blank =
    let rest : List Token = tokens_from (end_place (ends_with_backslash (c ∷ cs))) (at + 1 + length bs) None (behind_bytes r) in
    elim (b == 92) as (λ k. next_tokens (sign_of false false (k && false) (is_alone b)) b at word
    (λ w. tokens_from (place_behind InText (sign_of false false (k && false) (is_alone b))) (at + 1) w (bs ++ behind_bytes r))
    ≡ words_then (words_from at word (b ∷ left_of (c ∷ cs))) rest) [
      | true ↦ plain_gives (c ∷ cs) (length bs) (bs ++ behind_bytes r) r b at word has no_blank
      | false ↦ plain_gives (c ∷ cs) (length bs) (bs ++ behind_bytes r) r b at word has no_blank
    ]
    ∙ ap (λ l. words_then (words_from at word l) rest) (sym (left_of-more b c cs))

-- a byte outside of comments, before this content
byte_gives : (c bs : List ℕ) (r : Behind) (b at : ℕ) (word : Option TextWord) → HasNoFeed bs
    → HasContent c (length bs) (bs ++ behind_bytes r) r
    → SignGives (if is_blank b && is_empty c then [] else b ∷ c) (length bs) (bs ++ behind_bytes r) r b at word
    (sign_of false (is_blank b) ((b == 92) && is_empty c) (is_alone b))
byte_gives c bs r b at word inside has =
    elim (is_blank b) as (λ g. is_blank b ≡ g → SignGives (if g && is_empty c then [] else b ∷ c) (length bs) (bs ++ behind_bytes r) r b at word
    (sign_of false g ((b == 92) && is_empty c) (is_alone b))) [
      | true ↦ blank_gives c (length bs) (bs ++ behind_bytes r) r b at word has
      | false ↦ text_gives c bs r b at word inside has
    ] refl

-- the tokens of a physical line are those of its content
line_has_content : (line : List ℕ) (r : Behind) → HasNoFeed line → HasContent (content line) (length line) (line ++ behind_bytes r) r
line_has_content [] TheEnd inside at word = closed-words_then word [] []
line_has_content [] (Feed bs) inside at word = rw (add-zero at) (closed-words_then word [] (Ended ∷ tokens_from InText (at + 1) None bs))
line_has_content (b ∷ bs) r inside at word =
    let bytes : List ℕ = bs ++ behind_bytes r in
    let place : at + 1 + length bs ≡ at + length (b ∷ bs) = omega arith in
    let has = line_has_content bs r inside.1 in
    let sign = text_sign-inside b bytes inside.0
    ∙ ap (λ e. sign_of (b == 35) (is_blank b) ((b == 92) && e) (is_alone b)) (no_more-line bs r inside.1) in
    ap (λ s. next_tokens s b at word (λ w. tokens_from (place_behind InText s) (at + 1) w bytes)) sign
    ∙ (elim (b == 35) as (λ h. SignGives (trimmed (if h then [] else b ∷ without_comment bs)) (length bs) bytes r b at word
    (sign_of h (is_blank b) ((b == 92) && is_empty (content bs)) (is_alone b))) [
      | true ↦ ap (closed word) (comment_passes (at + 1) bs r inside.1) ∙ closed-words_then word [] (tokens_from InText (at + 1 + length bs) None (behind_bytes r))
      | false ↦ byte_gives (content bs) bs r b at word inside.1 has
    ]
    ∙ ap (λ n. words_then (words_from at word (left_of (content (b ∷ bs)))) (tokens_from (end_place (ends_with_backslash (content (b ∷ bs)))) n None (behind_bytes r))) place)

lines_from-words_then : (first now : ℕ) (words more : List TextWord) (tokens : List Token)
    → lines_from first now words (words_then more tokens) ≡ lines_from first now (words ++ more) tokens
lines_from-words_then first now words [] tokens = sym (rw append-nil refl)
lines_from-words_then first now words (word ∷ more) tokens =
    lines_from-words_then first now (words ++ word ∷ []) more tokens ∙ rw append_assoc refl

-- the text of these physical lines, behind one before them
abbrev behind_of : List (List ℕ) → Behind
behind_of [] = TheEnd
behind_of (line ∷ lines) = Feed (line ++ behind_bytes (behind_of lines))

abbrev HaveNoFeed : List (List ℕ) → Type 0
HaveNoFeed [] = Unit {0}
HaveNoFeed (line ∷ lines) = HasNoFeed line × HaveNoFeed lines

-- physical lines are joined as the tokens say
lines_join : (lines : List (List ℕ)) (line : List ℕ) (first now at : ℕ) (words : List TextWord) → HasNoFeed line → HaveNoFeed lines
    → lines_from first now words (tokens_from InText at None (line ++ behind_bytes (behind_of lines))) ≡ joined_lines first now at words (line ∷ lines)
lines_join [] line first now at words inside others =
    let all : List TextWord = words ++ line_words at line in
    ap (lines_from first now words) (line_has_content line TheEnd inside at None)
    ∙ (lines_from-words_then first now words (line_words at line) (tokens_from (end_place (is_continued line)) (at + length line) None [])
    ∙ elim (is_continued line) as (λ k. lines_from first now all (tokens_from (end_place k) (at + length line) None [])
    ≡ (if k then line_of first all else line_of first all ++ []))
    [ true ↦ refl | false ↦ sym (rw append-nil refl) ])
lines_join (next ∷ lines) line first now at words inside others =
    let all : List TextWord = words ++ line_words at line in
    let bytes : List ℕ = behind_bytes (behind_of (next ∷ lines)) in
    ap (lines_from first now words) (line_has_content line (behind_of (next ∷ lines)) inside at None)
    ∙ (lines_from-words_then first now words (line_words at line) (tokens_from (end_place (is_continued line)) (at + length line) None bytes)
    ∙ elim (is_continued line) as (λ k. lines_from first now all (tokens_from (end_place k) (at + length line) None bytes)
    ≡ (if k then joined_lines first (now + 1) (at + length line + 1) all (next ∷ lines)
    else line_of first all ++ joined_lines (now + 1) (now + 1) (at + length line + 1) [] (next ∷ lines))) [
      | true ↦ lines_join lines next first (now + 1) (at + length line + 1) all others.0 others.1
      | false ↦ ap (λ more. line_of first all ++ more) (lines_join lines next (now + 1) (now + 1) (at + length line + 1) [] others.0 others.1)
    ])

-- a text and its physical lines
record IsSplit (text : List ℕ) : Type 0 where
  line : List ℕ
  lines : List (List ℕ)
  physical : physical_lines text ≡ line ∷ lines
  bytes : text ≡ line ++ behind_bytes (behind_of lines)
  inside : HasNoFeed line
  others : HaveNoFeed lines

split : (text : List ℕ) → IsSplit text
split [] = record { line = []; lines = []; physical = refl; bytes = refl; inside = tt; others = tt }
split (b ∷ bs) =
    let rest = split bs in
    elim (b == 10) as (λ e. (b == 10) ≡ e → IsSplit (b ∷ bs)) [
      | true ↦ λ is. record {
        line = [];
        lines = rest.line ∷ rest.lines;
        physical = ap (λ e. if e then [] ∷ physical_lines bs else with_first b (physical_lines bs)) is ∙ ap (λ ls. [] ∷ ls) rest.physical;
        bytes = let ten : b ≡ 10 = eqb-true b 10 is in ap (λ n. n ∷ bs) ten ∙ ap (λ l. 10 ∷ l) rest.bytes;
        inside = tt;
        others = (rest.inside, rest.others);
      }
      | false ↦ λ is. record {
        line = b ∷ rest.line;
        lines = rest.lines;
        physical = ap (λ e. if e then [] ∷ physical_lines bs else with_first b (physical_lines bs)) is ∙ ap (with_first b) rest.physical;
        bytes = ap (λ l. b ∷ l) rest.bytes;
        inside = (is, rest.inside);
        others = rest.others;
      }
    ] refl

-- reading forward gives the logical lines
pub lines_at-text : (text : List ℕ) → lines_at 1 0 text ≡ logical_lines text
lines_at-text text =
    let parts = split text in
    ap (λ t. lines_from 1 1 [] (tokens_from InText 0 None t)) parts.bytes
    ∙ (lines_join parts.lines parts.line 1 1 0 [] parts.inside parts.others
    ∙ ap (joined_lines 1 1 0 []) (sym parts.physical))
