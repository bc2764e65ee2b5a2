-- Signals of a line that have no other domain than its own.
use Rattle.std.proofs.Common.{◌≡◌, ◌⊎◌, ◌||◌, ◌++◌, Bool, true, false, not, List, [], ◌∷◌, if◌then◌else◌, inl, inr, refl, sym, ◌∙◌, ap, subst}
use Rattle.std.specs.Str.{bytes_eq}
use Rattle.std.proofs.lemmas.Bool.{false≢true, or_cases}
use Rattle.std.proofs.lemmas.List.Folds.{list_any-append}
use Rattle.std.proofs.lemmas.Slice.Eq.{bytes_eq-Decides}
use Rattle.name_table.specs.Variables.{is_in, with_name}
use Rattle.net_model.specs.Forms.{Name}
use Rattle.blifmv_names.specs.Signals.{Signal, names_of, given_in, mentioned, agrees, AreAgreeing}
use Rattle.blifmv_names.proofs.Gathered.{names_mentioned}

-- a name among those with one more is among them, or is that one
is_either : (had : List Name) (name other : Name) → is_in (with_name had name) other ≡ true → (is_in had other ≡ true) ⊎ (other ≡ name)
is_either had name other =
    elim (is_in had name) as (λ b. is_in (if b then had else had ++ name ∷ []) other ≡ true → (is_in had other ≡ true) ⊎ (other ≡ name)) [
      | true ↦ λ there. inl there
      | false ↦ λ there. either (or_cases (is_in had other) (is_in (name ∷ []) other) (sym (list_any-append (bytes_eq other) had (name ∷ [])) ∙ there))
    ]
  where
    last : (bytes_eq other name ≡ true) ⊎ (false ≡ true) → other ≡ name
    last (inl same) = (bytes_eq-Decides other name).0 same
    last (inr never) = absurd (false≢true never)

    either : (is_in had other ≡ true) ⊎ (is_in (name ∷ []) other ≡ true) → (is_in had other ≡ true) ⊎ (other ≡ name)
    either (inl there) = inl there
    either (inr here) = inr (last (or_cases (bytes_eq other name) false here))

not_false : (b : Bool) → false ≡ not b → b ≡ true
not_false true e = refl
not_false false e = absurd (false≢true e)

-- one more that agrees
pub agreeing_more : (domain : List Name) (signals some more : List Signal) (name : Name) → AreAgreeing domain signals some → false ≡ not (agrees domain (given_in signals name)) → more ≡ mentioned some name → AreAgreeing domain signals more
agreeing_more domain signals some more name all here is other there =
    found (is_either (names_of some) name other (subst (λ (names : List Name). is_in names other ≡ true) (ap names_of is ∙ names_mentioned some name) there))
  where
    found : (is_in (names_of some) other ≡ true) ⊎ (other ≡ name) → agrees domain (given_in signals other) ≡ true
    found (inl before) = all other before
    found (inr same) = ap (λ (n : Name). agrees domain (given_in signals n)) same ∙ not_false (agrees domain (given_in signals name)) here
