-- The domain that the words of a line give.
use Rattle.std.proofs.Common.{◌≡◌, ◌≤◌, ◌<◌, ◌==◌, ◌||◌, eqb-true, ℕ, suc, true, false, not, List, [], ◌∷◌, length, Option, Some, None, Bor, refl, sym, ◌∙◌, ap, subst, arith}
use Rattle.std.specs.List.{list_any}
use Rattle.std.proofs.lemmas.List.FromFn.{length-map-range_with_len}
use Rattle.std.proofs.lemmas.List.{length-map}
use Rattle.std.specs.Prelude.{decimal}
use Rattle.name_table.specs.Variables.{are_different, numbers}
use Rattle.net_model.specs.Forms.{Name, Form, DomainsLine, number_of}
use Rattle.net_model.specs.NetTexts.{domain_given}
use Rattle.blifmv_lines.specs.Said.{texts}
use Rattle.blifmv_names.specs.Signals.{Signal, given_in, given_to_all, gives, agrees}
use Rattle.blifmv_names.specs.LineFaults.{IsDomainOf, IsListOf, IsGiven, is_clashing}

pub numbers_given : (count : Name) (values : List (Bor (List ℕ))) (domain : List Name) (n : ℕ) → (length values == 0) ≡ true → n ≡ number_of count → n ≤ 65536 → domain ≡ numbers n → IsDomainOf count (texts values) (Some domain)
numbers_given count [] domain n none is few h =
    (refl, h ∙ ap numbers is, subst (λ (d : List Name). length d ≤ 65536) (sym h) (subst (λ (k : ℕ). k ≤ 65536) (sym (length-map-range_with_len decimal 0 n)) few))
numbers_given count (b ∷ values) domain n none is few h = let no : suc (length values) ≡ 0 = eqb-true _ _ none in absurd (omega arith)

pub values_given : (count : Name) (values : List (Bor (List ℕ))) (found : Option (List Name)) → 0 < length values → length values ≤ 65536 → IsListOf (texts values) found → IsDomainOf count (texts values) found
values_given count [] found some few h = absurd (omega arith)
values_given count (b ∷ values) None some few h = h
values_given count (b ∷ values) (Some domain) some few h =
    (h.0, h.1, subst (λ (d : List Name). length d ≤ 65536) (sym h.1) (subst (λ (k : ℕ). k ≤ 65536) (sym (length-map (b ∷ values) (λ w. w.now))) few))

-- a line that gives this domain has given it
pub given_form : (old new : List Signal) (form : Form) (names : List Name) (count : Name) (values domain : List Name) (found : Option (List Name)) → form ≡ DomainsLine names count values → IsDomainOf count values found → found ≡ Some domain → list_any (λ name. not (agrees domain (given_in old name))) names ≡ false → new ≡ given_to_all domain old names → IsGiven old new form true
given_form old new form names count values domain found is of some apart given =
    let domain_is : (are_different values ≡ true) × (domain ≡ domain_given count values) × (length domain ≤ 65536) = subst (IsDomainOf count values) some of in
    let clash : is_clashing old (DomainsLine names count values) ≡ false =
    (λ i. not (domain_is.0 i) || list_any (λ name. not (agrees (sym domain_is.1 i) (given_in old name))) names) ∙ apart in
    let gave : new ≡ gives (DomainsLine names count values) old = given ∙ ap (λ d. given_to_all d old names) domain_is.1 in
    subst (λ (f : Form). IsGiven old new f true) (sym is) (clash, gave)
