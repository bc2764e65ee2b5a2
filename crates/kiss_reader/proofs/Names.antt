-- Different names in the order of first appearance.
use Rattle.std.proofs.Common.{◌≡◌, ◌≤◌, ◌<◌, ◌++◌, ℕ, true, false, List, [], ◌∷◌, length, get_or, Bor, nat_lt, if◌then◌else◌, refl, sym, ◌∙◌, ap, subst, arith, length-append}
use Rattle.std.proofs.lemmas.Bool.Decides.{nat_tests}
use Rattle.name_table.specs.Variables.{is_in, with_name}
use Rattle.net_model.specs.Forms.{Name}
use Rattle.net_model.specs.NetTexts.{distinct}
use Rattle.blifmv_lines.specs.Said.{texts}

pub name_there : (names : List Name) (name : Name) → is_in names name ≡ true → names ≡ with_name names name
name_there names name h = sym (ap (λ b. if b then names else names ++ name ∷ []) h)

more_with : (names : List Name) (name : Name) → length names ≤ length (with_name names name)
more_with names name =
    elim (is_in names name) as (λ b. length names ≤ length (if b then names else names ++ name ∷ [])) [
      | true ↦ omega arith
      | false ↦ omega (arith, length-append names (name ∷ []))
    ]

pub more_distinct : (had names : List Name) → length had ≤ length (distinct had names)
more_distinct had [] = omega arith
more_distinct had (name ∷ names) =
    let first = more_with had name in
    let rest = more_distinct (with_name had name) names in
    omega (arith, first, rest)

pub distinct_append : (had names more : List Name) → distinct had (names ++ more) ≡ distinct (distinct had names) more
distinct_append had [] more = refl
distinct_append had (name ∷ names) more = distinct_append (with_name had name) names more

lt_is : (a b : ℕ) → a < b → nat_lt a b ≡ true
lt_is a b h = grind (arith, nat_tests)

-- too many already
too_many : (most : ℕ) (had wanted : List Name) (names : List Name) → most < length had → distinct had names ≡ wanted → nat_lt most (length wanted) ≡ true
too_many most had wanted names many is =
    let more = more_distinct had names in
    lt_is most (length wanted) (subst (λ (s : List Name). most < length s) is (omega (arith, many, more)))

-- a name that was put makes them too many
pub over_limit : (most : ℕ) (had now wanted : List Name) (left : List (Bor (List ℕ))) (d : Bor (List ℕ)) → 1 ≤ length left → now ≡ with_name had (get_or left 0 d).now → most < length now → distinct had (texts left) ≡ wanted → nat_lt most (length wanted) ≡ true
over_limit most had now wanted [] d some is many h = absurd (omega arith)
over_limit most had now wanted (b ∷ left) d some is many h = too_many most now wanted (texts left) many (ap (λ s. distinct s (texts left)) is ∙ h)
