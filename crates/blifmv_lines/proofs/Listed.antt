use Rattle.std.proofs.Common.{◌≡◌, ◌<◌, ℕ, ◌+◌, ◌-◌, suc, add-one, true, false, List, [], ◌∷◌, ◌++◌, length, take, drop, Option, None, Some, refl, sym, ◌∙◌, ap, arith}
use Rattle.std.proofs.lemmas.List.{append_assoc, take-map, drop-map, take_rest, drop-drop}
use Rattle.std.specs.Prelude.{if◌then◌else◌}
use Rattle.std.specs.Option.{option_map}
use Rattle.std.specs.Borrow.{Bor}
use Rattle.net_model.specs.Forms.{Name, Form, is_comma, is_closing, is_mark, values_shape, domains_shape}
use Rattle.net_model.specs.Spellings.{Taken, taken_of, as_taken, is_list_sign, list_at}
use Rattle.blifmv_lines.specs.Said.{texts, listed_names, list_taken}
use Rattle.blifmv_lines.specs.Places.{two_further, count_place, counted_shape, list_place}

-- Lists of names with commas between them.

-- two words further in what is left
pub option_map-two_further : (at : ℕ) (place : Option ℕ)
    → option_map (λ n. at + n) (two_further place) ≡ option_map (λ n. at + 2 + n) place
option_map-two_further at None = refl
option_map-two_further at (Some n) = let same : at + suc (suc n) ≡ at + 2 + n = omega arith in ap (λ k. Some k) same

-- a word or none is no list
pub list_place-short : (left : List (Bor (List ℕ))) → length left < 2 → list_place (texts left) ≡ None
list_place-short [] short = refl
list_place-short (word ∷ []) short = refl
list_place-short (name ∷ word ∷ left) short = absurd (omega arith)

pub count_place-short : (left : List (Bor (List ℕ))) → length left < 2 → count_place (texts left) ≡ None
count_place-short [] short = refl
count_place-short (word ∷ []) short = refl
count_place-short (name ∷ word ∷ left) short = absurd (omega arith)

-- the list whose closing parenthesis has this place
abbrev pub list_to : List Name → ℕ → Taken (List Name)
list_to words n = record { taken = listed_names (take n words); rest = drop (suc n) words }

list_to-further : (name comma : Name) (words : List Name) (place : Option ℕ)
    → as_taken (λ names. name ∷ names) (option_map (list_to words) place) ≡ option_map (list_to (name ∷ comma ∷ words)) (two_further place)
list_to-further name comma words None = refl
list_to-further name comma words (Some n) = refl

pub list_at-place : (words : List Name) → list_at words ≡ option_map (list_to words) (list_place words)
list_at-place [] = refl
list_at-place (name ∷ []) = refl
list_at-place (name ∷ sign ∷ words) =
    elim (is_list_sign name) as (λ a. (if a then None
    else (if is_closing sign then taken_of (name ∷ []) words
    else (if is_comma sign then as_taken (λ names. name ∷ names) (list_at words) else None)))
    ≡ option_map (list_to (name ∷ sign ∷ words)) (if a then None
    else (if is_closing sign then Some 1 else (if is_comma sign then two_further (list_place words) else None)))) [
      | true ↦ refl
      | false ↦ elim (is_closing sign) as (λ b. (if b then taken_of (name ∷ []) words
          else (if is_comma sign then as_taken (λ names. name ∷ names) (list_at words) else None))
          ≡ option_map (list_to (name ∷ sign ∷ words)) (if b then Some 1 else (if is_comma sign then two_further (list_place words) else None))) [
            | true ↦ refl
            | false ↦ elim (is_comma sign) as (λ c. (if c then as_taken (λ names. name ∷ names) (list_at words) else None)
                ≡ option_map (list_to (name ∷ sign ∷ words)) (if c then two_further (list_place words) else None)) [
                  | true ↦ ap (as_taken (λ names. name ∷ names)) (list_at-place words) ∙ list_to-further name sign words (list_place words)
                  | false ↦ refl
                ]
          ]
    ]

-- the shape of a line with these names and further ones, where the count has this place
abbrev pub shape_to : List Name → List Name → Option ℕ → Option Form
shape_to names words None = None
shape_to names words (Some n) = counted_shape (names ++ listed_names (take n words)) (drop n words)

shape_to-further : (names : List Name) (name comma : Name) (words : List Name) (place : Option ℕ)
    → shape_to (names ++ name ∷ []) words place ≡ shape_to names (name ∷ comma ∷ words) (two_further place)
shape_to-further names name comma words None = refl
shape_to-further names name comma words (Some n) =
    ap (λ had. counted_shape had (drop n words)) (append_assoc names (name ∷ []) (listed_names (take n words)))

pub domains_shape-place : (names words : List Name) → domains_shape names words ≡ shape_to names words (count_place words)
domains_shape-place names [] = refl
domains_shape-place names (name ∷ []) = refl
domains_shape-place names (name ∷ word ∷ words) =
    elim (is_mark name) as (λ a. (if a then None
    else (if is_comma word then domains_shape (names ++ name ∷ []) words else values_shape (names ++ name ∷ []) word words))
    ≡ shape_to names (name ∷ word ∷ words) (if a then None else (if is_comma word then two_further (count_place words) else Some 1))) [
      | true ↦ refl
      | false ↦ elim (is_comma word) as (λ c. (if c then domains_shape (names ++ name ∷ []) words else values_shape (names ++ name ∷ []) word words)
          ≡ shape_to names (name ∷ word ∷ words) (if c then two_further (count_place words) else Some 1)) [
            | true ↦ domains_shape-place (names ++ name ∷ []) words ∙ shape_to-further names name word words (count_place words)
            | false ↦ refl
          ]
    ]

-- a slice that is cut at a place

front_texts : (words names : List (Bor (List ℕ))) (n : ℕ) → names ≡ take n words → texts names ≡ take n (texts words)
front_texts words names n is = ap (λ ws. texts ws) is ∙ sym (take-map (λ (word : Bor (List ℕ)). word.now) n words)

behind_texts : (words rest : List (Bor (List ℕ))) (n : ℕ) → rest ≡ drop n words → texts rest ≡ drop n (texts words)
behind_texts words rest n is = ap (λ ws. texts ws) is ∙ sym (drop-map (λ (word : Bor (List ℕ)). word.now) n words)

behind_sign_texts : (words rest : List (Bor (List ℕ))) (n : ℕ) → rest ≡ drop n words
    → texts (take (length rest - 1) (drop 1 rest)) ≡ drop (suc n) (texts words)
behind_sign_texts words rest n is =
    let one_more : take (length rest - 1) (drop 1 rest) ≡ drop (suc n) words
    = take_rest rest 1 ∙ (ap (λ ws. drop 1 ws) is ∙ (drop-drop 1 n words ∙ ap (λ k. drop k words) (add-one n))) in
    behind_texts words (take (length rest - 1) (drop 1 rest)) (suc n) one_more

pub list_at-none : (words : List (Bor (List ℕ))) → list_place (texts words) ≡ None → list_at (texts words) ≡ None
list_at-none words none = list_at-place (texts words) ∙ ap (option_map (list_to (texts words))) none

same_list : (a b c d : List Name) → a ≡ b → c ≡ d
    → taken_of {T = List Name} (listed_names a) c ≡ taken_of (listed_names b) d
same_list a b c d p q = cc

pub list_at-some : (words names rest : List (Bor (List ℕ))) (n : ℕ) → list_place (texts words) ≡ Some n
    → names ≡ take n words → rest ≡ drop n words
    → Some (list_taken names (take (length rest - 1) (drop 1 rest))) ≡ list_at (texts words)
list_at-some words names rest n place names_are rest_is =
    same_list _ _ _ _ (front_texts words names n names_are) (behind_sign_texts words rest n rest_is)
    ∙ sym (list_at-place (texts words) ∙ ap (option_map (list_to (texts words))) place)

pub domains_shape-none : (words : List (Bor (List ℕ))) → count_place (texts words) ≡ None → domains_shape [] (texts words) ≡ None
domains_shape-none words none = domains_shape-place [] (texts words) ∙ ap (shape_to [] (texts words)) none

pub domains_shape-some : (words names rest : List (Bor (List ℕ))) (n : ℕ) → count_place (texts words) ≡ Some n
    → names ≡ take n words → rest ≡ drop n words
    → counted_shape (listed_names (texts names)) (texts rest) ≡ domains_shape [] (texts words)
domains_shape-some words names rest n place names_are rest_is =
    ap (λ ws. counted_shape (listed_names ws) (texts rest)) (front_texts words names n names_are)
    ∙ (ap (λ ws. counted_shape (listed_names (take n (texts words))) ws) (behind_texts words rest n rest_is)
    ∙ sym (domains_shape-place [] (texts words) ∙ ap (shape_to [] (texts words)) place))
