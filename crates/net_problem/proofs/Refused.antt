-- The first refusal of several tests.
use Rattle.std.proofs.Common.{◌≡◌, ◌||◌, ℕ, Bool, true, false, not, List, [], ◌∷◌, ◌++◌, Option, Some, None, refl, sym, ◌∙◌, ap, subst}
use Rattle.std.specs.List.{list_any, list_all}
use Rattle.std.specs.Str.{bytes_eq}
use Rattle.std.proofs.lemmas.Bool.{and_from}
use Rattle.std.proofs.lemmas.List.Folds.{list_any-append}
use Rattle.name_table.specs.Variables.{is_in, are_different}
use Rattle.name_table.proofs.Apart.{bytes_eq_flip, not_false}
use Rattle.net_model.specs.declared.class.Mode.{Mode}
use Rattle.net_model.specs.declared.refusal.NameRefusal as declared_refusal
use Rattle.net_model.specs.declared.refusal.NameRefusal.TheVariants as refusals
use Rattle.net_model.specs.Problems.{NameRefusal, UnknownName, RepeatedName, InBoth, or_else, refused_if, name_refusal, list_refusal, IsRefusal}
use Rattle.net_problem.proofs.Joined.{neither, AreApart}

-- a refusal that comes first, and one that comes later

pub refused_first : (r : declared_refusal.NameRefusal) (first other : Option NameRefusal) → IsRefusal r first → IsRefusal r (or_else first other)
refused_first (refusals.UnknownName name) first other is = ap (λ o. or_else o other) is
refused_first (refusals.RepeatedName name) first other is = ap (λ o. or_else o other) is
refused_first (refusals.InBoth name) first other is = ap (λ o. or_else o other) is
refused_first (refusals.ReservedName name) first other is = ap (λ o. or_else o other) is
refused_first (refusals.DomainDiffers name) first other is = ap (λ o. or_else o other) is
refused_first (refusals.LettersDiffer name) first other is = ap (λ o. or_else o other) is
refused_first (refusals.NotOneVariable slot) first other is = ap (λ o. or_else o other) is
refused_first refusals.Memory first other is = tt

pub refused_later : (r : declared_refusal.NameRefusal) (first other : Option NameRefusal) → first ≡ None → IsRefusal r other → IsRefusal r (or_else first other)
refused_later r first other none is = subst (λ (o : Option NameRefusal). IsRefusal r (or_else o other)) (sym none) is

pub none_of_both : (first other : Option NameRefusal) → first ≡ None → other ≡ None → or_else first other ≡ None
none_of_both first other none also = ap (λ o. or_else o other) none ∙ also

-- both tests refuse nothing
pub both_none : (first other : Option NameRefusal) → or_else first other ≡ None → (first ≡ None) × (other ≡ None)
both_none None other none = (refl, none)
both_none (Some r) other none = cc

passes : (b : Bool) (r : NameRefusal) → refused_if b r ≡ None → b ≡ false
passes true r none = cc
passes false r none = refl

-- what names are that are not refused

pub record AreTaken (known others names : List (List ℕ)) : Type 0 where
  pub all_known : list_all (is_in known) names ≡ true
  pub different : are_different names ≡ true
  pub apart : AreApart others names

record AreFresh (known before others names : List (List ℕ)) : Type 0 where
  taken : AreTaken known others names
  fresh : AreApart before names

-- names that are none of a list with one name more are none of it, and not this name
fresh_before : (before names : List (List ℕ)) (name : List ℕ) → AreApart (before ++ name ∷ []) names → AreApart before names × (list_any (bytes_eq name) names ≡ false)
fresh_before before [] name apart = (tt, refl)
fresh_before before (other ∷ names) name apart =
    let both = neither (is_in before other) (bytes_eq other name || false) (sym (list_any-append (bytes_eq other) before (name ∷ [])) ∙ apart.0) in
    let differ : bytes_eq name other ≡ false = bytes_eq_flip name other ∙ (neither (bytes_eq other name) false both.1).0 in
    let rest = fresh_before before names name apart.1 in
    ((both.0, rest.0), rw (differ, rest.1) refl)

fresh_names : (mode : Mode) (known before others names : List (List ℕ)) → list_refusal mode known before others names ≡ None → AreFresh known before others names
fresh_names mode known before others [] none = record { taken = record { all_known = refl; different = refl; apart = tt }; fresh = tt }
fresh_names mode known before others (name ∷ names) none =
    let parts = both_none (name_refusal mode known before others name) (list_refusal mode known (before ++ name ∷ []) others names) none in
    let unknown = both_none (refused_if (not (is_in known name)) (UnknownName name)) _ parts.0 in
    let repeated = both_none (refused_if (is_in before name) (RepeatedName name)) _ unknown.1 in
    let twice = both_none (refused_if (is_in others name) (InBoth name)) _ repeated.1 in
    let rest = fresh_names mode known (before ++ name ∷ []) others names parts.1 in
    let behind = fresh_before before names name rest.fresh in
    record {
      taken = record {
        all_known = and_from (is_in known name) (list_all (is_in known) names) (not_false (is_in known name) (passes _ _ unknown.0)) rest.taken.all_known;
        different = rw (behind.1, rest.taken.different) refl;
        apart = (passes _ _ twice.0, rest.taken.apart);
      };
      fresh = (passes _ _ repeated.0, behind.0);
    }

-- names that are not refused are known, different, and apart from the others
pub names_taken : (mode : Mode) (known others names : List (List ℕ)) → list_refusal mode known [] others names ≡ None → AreTaken known others names
names_taken mode known others names none = (fresh_names mode known [] others names none).taken
