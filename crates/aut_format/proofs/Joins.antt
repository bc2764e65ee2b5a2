use Rattle.std.proofs.Common.{◌≡◌, List, ℕ, [], ◌∷◌, ◌++◌, refl, sym, ap, ◌∙◌, append_assoc}
use Rattle.std.proofs.lemmas.List.{append-nil}
use Rattle.std.specs.List.{join_with_byte}
use Rattle.aut_format.specs.Fields.{blank_before, blank_after, comma_before}

-- a field, and then fields after a blank each
pub join-cons : (first : List ℕ) (fields : List (List ℕ)) → join_with_byte 32 (first ∷ fields) ≡ first ++ blank_before fields
join-cons first [] = sym (append-nil first)
join-cons first (field ∷ fields) = ap (λ t. first ++ (32 ∷ t)) (join-cons field fields)

join-next : (field : List ℕ) (fields : List (List ℕ)) (first : List ℕ) (rest : List (List ℕ)) → join_with_byte 32 (field ∷ (fields ++ first ∷ rest)) ≡ field ++ (32 ∷ join_with_byte 32 (fields ++ first ∷ rest))
join-next field [] first rest = refl
join-next field (next ∷ fields) first rest = refl

-- fields before a blank each, a field, and then fields after a blank each
pub join-append : (fields : List (List ℕ)) (first : List ℕ) (rest : List (List ℕ)) → join_with_byte 32 (fields ++ first ∷ rest) ≡ blank_after fields ++ (first ++ blank_before rest)
join-append [] first rest = join-cons first rest
join-append (field ∷ fields) first rest =
    join-next field fields first rest
    ∙ ap (λ t. field ++ (32 ∷ t)) (join-append fields first rest)
    ∙ sym (append_assoc field (32 ∷ []) (blank_after fields ++ (first ++ blank_before rest)))
    ∙ sym (append_assoc (field ++ 32 ∷ []) (blank_after fields) (first ++ blank_before rest))

-- a name, and then names after a comma each
pub join-commas : (first : List ℕ) (names : List (List ℕ)) → join_with_byte 44 (first ∷ names) ≡ first ++ comma_before names
join-commas first [] = sym (append-nil first)
join-commas first (name ∷ names) = ap (λ t. first ++ (44 ∷ t)) (join-commas name names)
