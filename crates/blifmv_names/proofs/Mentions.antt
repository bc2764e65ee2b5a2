-- How the signals grow.
use Rattle.std.proofs.Common.{◌≡◌, ◌≤◌, ◌<◌, ◌++◌, ℕ, Bool, true, false, List, [], ◌∷◌, length, get_or, Bor, if◌then◌else◌, None, refl, ap, subst, sym, ◌∙◌, arith}
use Rattle.std.specs.Str.{bytes_eq}
use Rattle.name_table.specs.Variables.{is_in}
use Rattle.net_model.specs.Forms.{Name}
use Rattle.blifmv_lines.specs.Said.{texts}
use Rattle.blifmv_names.specs.Signals.{Signal, names_of, put_in, mentioned, all_mentioned}
use Rattle.blifmv_names.specs.LineFaults.{MentionsAre}

more_put : (signals : List Signal) (s : Signal) → length signals ≤ length (put_in signals s)
more_put [] s = omega arith
more_put (h ∷ signals) s =
    let more = more_put signals s in
    elim (bytes_eq s.name h.name) as (λ b. length (h ∷ signals) ≤ length (if b then record h { given = s.given } ∷ signals else h ∷ put_in signals s)) [
      | true ↦ omega arith
      | false ↦ omega (arith, more)
    ]

more_mentioned : (signals : List Signal) (name : Name) → length signals ≤ length (mentioned signals name)
more_mentioned signals name =
    elim (is_in (names_of signals) name) as (λ b. length signals ≤ length (if b then signals else put_in signals (record { name = name; given = None }))) [
      | true ↦ omega arith
      | false ↦ more_put signals (record { name = name; given = None })
    ]

pub more_all_mentioned : (signals : List Signal) (names : List Name) → length signals ≤ length (all_mentioned signals names)
more_all_mentioned signals [] = omega arith
more_all_mentioned signals (name ∷ names) =
    let first = more_mentioned signals name in
    let rest = more_all_mentioned (mentioned signals name) names in
    omega (arith, first, rest)

pub all_mentioned_append : (signals : List Signal) (names more : List Name) → all_mentioned signals (names ++ more) ≡ all_mentioned (all_mentioned signals names) more
all_mentioned_append signals [] more = refl
all_mentioned_append signals (name ∷ names) more = all_mentioned_append (mentioned signals name) names more

-- too many already
pub too_many : (signals wanted : List Signal) (names : List Name) → 4096 < length signals → all_mentioned signals names ≡ wanted → 4096 < length wanted
too_many signals wanted names many is =
    let more = more_all_mentioned signals names in
    subst (λ (s : List Signal). 4096 < length s) is (omega (arith, many, more))

pub both_many : (old now : List Signal) (ins outs : List Name) (few : Bool) → few ≡ false → MentionsAre (all_mentioned old ins) now few → 4096 < length (all_mentioned old (ins ++ outs))
both_many old now ins outs few is h =
    let many : 4096 < length (all_mentioned old ins) = subst (MentionsAre (all_mentioned old ins) now) is h in
    too_many (all_mentioned old ins) (all_mentioned old (ins ++ outs)) outs many (sym (all_mentioned_append old ins outs))

pub both_few : (old middle now : List Signal) (ins outs : List Name) (few more : Bool) → few ≡ true → MentionsAre (all_mentioned old ins) middle few → MentionsAre (all_mentioned middle outs) now more → MentionsAre (all_mentioned old (ins ++ outs)) now more
both_few old middle now ins outs few more is h rest =
    let first : (middle ≡ all_mentioned old ins) × (length (all_mentioned old ins) ≤ 4096) = subst (MentionsAre (all_mentioned old ins) middle) is h in
    subst (λ (wanted : List Signal). MentionsAre wanted now more) (ap (λ s. all_mentioned s outs) first.0 ∙ sym (all_mentioned_append old ins outs)) rest

-- a name that was mentioned makes them too many
pub over_limit : (signals now wanted : List Signal) (left : List (Bor (List ℕ))) (d : Bor (List ℕ)) → 1 ≤ length left → now ≡ mentioned signals (get_or left 0 d).now → 4096 < length now → all_mentioned signals (texts left) ≡ wanted → 4096 < length wanted
over_limit signals now wanted [] d some is many h = absurd (omega arith)
over_limit signals now wanted (b ∷ left) d some is many h = too_many now wanted (texts left) many (ap (λ s. all_mentioned s (texts left)) is ∙ h)
