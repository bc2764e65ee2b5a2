-- Where the variables of a scope stand in a code.
use Rattle.std.proofs.Common.{◌≡◌, ◌+◌, ◌-◌, ◌<◌, ◌≤◌, ◌∙◌, ℕ, zero, suc, List, [], ◌∷◌, ◌++◌, length, get_or, take, drop, refl, sym, ap, arith, add-one}
use Rattle.std.proofs.lemmas.List.{append_assoc}
use Rattle.name_table.specs.ScopeVars.{variable_at}
use Rattle.name_table.proofs.Powers.{code_enough}
use Rattle.net_model.specs.Words.{Scope}
use Rattle.mv_encoding.specs.declared.field.Field.{Field}
use Rattle.name_table.specs.CodeBits.{bits_of, bits_in}
use Rattle.mv_encoding.specs.Layouts.{bits_before}
use Rattle.mv_encoding.specs.Fields.{field_at, fields_from, FitsIn}

before-suc : (scope : Scope) (var : ℕ) → var < length scope → bits_before scope (suc var) ≡ bits_before scope var + bits_of (variable_at scope var)
before-suc [] var known = absurd (omega (arith, known))
before-suc (v ∷ scope) zero known = omega arith
before-suc (v ∷ scope) (suc var) known = let rest = before-suc scope var (omega (arith, known)) in omega (arith, rest)

-- the bits before the next variable
pub before-next : (scope : Scope) (var : ℕ) → var < length scope → bits_before scope (var + 1) ≡ bits_before scope var + bits_of (variable_at scope var)
before-next scope var known = rw add-one (before-suc scope var known)

-- the bits before a variable, by the one before it
pub before-prev : (scope : Scope) (var : ℕ) → 0 < var → var ≤ length scope → bits_before scope var ≡ bits_before scope (var - 1) + bits_of (variable_at scope (var - 1))
before-prev scope zero some known = absurd (omega (arith, some))
before-prev scope (suc var) some known = let e : suc var - 1 ≡ var = omega arith in rw e (before-suc scope var (omega (arith, known)))

-- a variable's bits are among all
pub before-within : (scope : Scope) (var : ℕ) → var < length scope → bits_before scope var + bits_of (variable_at scope var) ≤ bits_in scope
before-within [] var known = absurd (omega (arith, known))
before-within (v ∷ scope) zero known = omega arith
before-within (v ∷ scope) (suc var) known = let rest = before-within scope var (omega (arith, known)) in omega (arith, rest)

drop-suc : (scope : Scope) (var : ℕ) → var < length scope → drop var scope ≡ variable_at scope var ∷ drop (suc var) scope
drop-suc [] var known = absurd (omega (arith, known))
drop-suc (v ∷ scope) zero known = refl
drop-suc (v ∷ scope) (suc var) known = drop-suc scope var (omega (arith, known))

-- the variables from one on
pub drop-next : (scope : Scope) (var : ℕ) → var < length scope → drop var scope ≡ variable_at scope var ∷ drop (var + 1) scope
drop-next scope var known = rw add-one (drop-suc scope var known)

take-suc : (scope : Scope) (var : ℕ) → var < length scope → take (suc var) scope ≡ take var scope ++ variable_at scope var ∷ []
take-suc [] var known = absurd (omega (arith, known))
take-suc (v ∷ scope) zero known = refl
take-suc (v ∷ scope) (suc var) known = ap (λ vs. v ∷ vs) (take-suc scope var (omega (arith, known)))

-- the variables up to one
pub take-next : (scope : Scope) (var : ℕ) → var < length scope → take (var + 1) scope ≡ take var scope ++ variable_at scope var ∷ []
take-next scope var known = rw add-one (take-suc scope var known)

-- the field of a variable
pub field-place : (scope : Scope) (before var : ℕ) (d : Field) → var < length scope → get_or (fields_from before scope) var d ≡ record { before = before + bits_before scope var; bits = bits_of (variable_at scope var); values = length (variable_at scope var).values }
field-place [] before var d known = absurd (omega (arith, known))
field-place (v ∷ scope) before zero d known =
    let same : before ≡ before + 0 = omega arith in λ i. record { before = same i; bits = bits_of v; values = length v.values }
field-place (v ∷ scope) before (suc var) d known =
    let same : before + bits_of v + bits_before scope var ≡ before + (bits_of v + bits_before scope var) = omega arith in
    field-place scope (before + bits_of v) var d (omega (arith, known))
    ∙ (λ i. record { before = same i; bits = bits_of (variable_at scope var); values = length (variable_at scope var).values })

pub length-fields : (scope : Scope) (before : ℕ) → length (fields_from before scope) ≡ length scope
length-fields [] before = refl
length-fields (v ∷ scope) before = ap suc (length-fields scope (before + bits_of v))

pub field-is : (scope : Scope) (var : ℕ) (d : Field) → var < length scope → get_or (fields_from 0 scope) var d ≡ field_at scope var
field-is scope var d known =
    let same : 0 + bits_before scope var ≡ bits_before scope var = omega arith in
    field-place scope 0 var d known
    ∙ (λ i. record { before = same i; bits = bits_of (variable_at scope var); values = length (variable_at scope var).values })

-- the field of a variable that has a value fits
pub field-fits : (scope : Scope) (var : ℕ) → var < length scope → 0 < length (variable_at scope var).values → bits_of (variable_at scope var) ≤ 32 → FitsIn (bits_in scope) (field_at scope var)
field-fits scope var known some few = record {
  within = before-within scope var known;
  few = few;
  some = some;
  enough = code_enough (length (variable_at scope var).values);
}

-- one field more
pub fields-next : (fields : List Field) (scope : Scope) (var before : ℕ) (field : Field) → var < length scope → field ≡ record { before = before; bits = bits_of (variable_at scope var); values = length (variable_at scope var).values } → fields ++ fields_from before (drop var scope) ≡ fields_from 0 scope → (fields ++ field ∷ []) ++ fields_from (before + field.bits) (drop (var + 1) scope) ≡ fields_from 0 scope
fields-next fields scope var before field known at whole =
    append_assoc fields (field ∷ []) (fields_from (before + field.bits) (drop (var + 1) scope))
    ∙ (λ i. fields ++ at i ∷ fields_from (before + (at i).bits) (drop (var + 1) scope))
    ∙ ap (λ vs. fields ++ fields_from before vs) (sym (drop-next scope var known))
    ∙ whole
