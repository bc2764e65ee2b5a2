-- What bits spell at the spots of a network's signals.
use Rattle.std.proofs.Common.{◌≡◌, ◌∙◌, ◌<◌, ℕ, zero, suc, true, false, if◌then◌else◌, List, [], ◌∷◌, length, map, get_or, refl, sym, ap, arith, subst}
use Rattle.std.specs.Prelude.{nat_lt, All, slice_index}
use Rattle.std.proofs.lemmas.Bool.{and_parts, and_from, lt-ltb, ltb-true}
use Rattle.std.proofs.lemmas.List.{get_or-map, length-map}
use Rattle.std.proofs.lemmas.List.Elements.{All-cons}
use Rattle.name_table.specs.ScopeVars.{variable_at}
use Rattle.net_model.specs.Words.{Variable, Scope, IsLetter}
use Rattle.net_model.specs.Tables.{values_at}
use Rattle.node_table.specs.Table.{Bits}
use Rattle.mv_encoding.specs.Layouts.{Layout, number_of}
use Rattle.mv_encoding.specs.Spots.{IsSpot, AreSpots, variables_at, spot_at, spots_at, spelled, spell_values}
use Rattle.mv_encoding.proofs.Apart.{spot-value}
use Rattle.net_relation.specs.Relations.{spells_value}

abbrev pub nowhere : Layout
nowhere = record { scope = []; first = 0 }

pub head : {X : Type 0} (P : X → Type 0) (x : X) (xs : List X) → All P (x ∷ xs) → P x
head P x xs all = all 0 x (omega arith)

pub tail : {X : Type 0} (P : X → Type 0) (x : X) (xs : List X) → All P (x ∷ xs) → All P xs
tail P x xs all k d within = all (suc k) d (omega (arith, within))

one-scope : (scope : Scope) (v : Variable) → scope ≡ v ∷ [] → variable_at scope 0 ≡ v
one-scope scope v is = ap (λ s. variable_at s 0) is

-- spots with the scopes of these variables, one each
pub spots-of : (spots : List Layout) (vars : Scope) → map (λ spot. spot.scope) spots ≡ map (λ v. v ∷ []) vars → AreSpots spots × (variables_at spots ≡ vars)
spots-of [] [] are = (λ k d within. absurd (omega (arith, within)), refl)
spots-of [] (v ∷ vars) are = let more = ap length are in absurd (omega (arith, more))
spots-of (spot ∷ spots) [] are = let more = ap length are in absurd (omega (arith, more))
spots-of (spot ∷ spots) (v ∷ vars) are =
    let here : spot.scope ≡ v ∷ [] = ap (λ l. get_or l 0 []) are in
    let behind : map (λ s. s.scope) spots ≡ map (λ w. w ∷ []) vars = ap behind-first are in
    let rest = spots-of spots vars behind in
    let one = one-scope spot.scope v here in
    (All-cons IsSpot spot spots (v, here) rest.0, λ i. one i ∷ rest.1 i)
  where
    behind-first : List Scope → List Scope
    behind-first [] = []
    behind-first (x ∷ xs) = xs

-- the number of a signal is that at its spot
pub number-at : (spots : List Layout) (bits : Bits) (signal : ℕ) → signal < length spots → slice_index (spelled spots bits) signal ≡ number_of (spot_at spots signal) 0 bits
number-at spots bits signal known = get_or-map (λ spot. number_of spot 0 bits) spots signal nowhere 0 known

pub spelled-at : (spots : List Layout) (signals : List ℕ) (bits : Bits) → All (λ s. s < length spots) signals → spelled (spots_at spots signals) bits ≡ values_at (spelled spots bits) signals
spelled-at spots [] bits known = refl
spelled-at spots (s ∷ signals) bits known =
    let here = sym (number-at spots bits s (head (λ x. x < length spots) s signals known)) in
    let rest = spelled-at spots signals bits (tail (λ x. x < length spots) s signals known) in
    λ i. here i ∷ rest i

-- a spot that is among spots with values
pub value-among : (spots : List Layout) (bits : Bits) → spell_values spots bits ≡ true → (k : ℕ) → k < length spots → spells_value (spot_at spots k) bits ≡ true
value-among [] bits values k known = absurd (omega (arith, known))
value-among (spot ∷ spots) bits values zero known = (and_parts (spells_value spot bits) (spell_values spots bits) values).0
value-among (spot ∷ spots) bits values (suc k) known =
    value-among spots bits (and_parts (spells_value spot bits) (spell_values spots bits) values).1 k (omega (arith, known))

-- the values of some of them
pub values-among : (spots : List Layout) (bits : Bits) → spell_values spots bits ≡ true → (signals : List ℕ) → All (λ s. s < length spots) signals → spell_values (spots_at spots signals) bits ≡ true
values-among spots bits values [] known = refl
values-among spots bits values (s ∷ signals) known =
    and_from (spells_value (spot_at spots s) bits) (spell_values (spots_at spots signals) bits)
    (value-among spots bits values s (head (λ x. x < length spots) s signals known))
    (values-among spots bits values signals (tail (λ x. x < length spots) s signals known))

-- A valuation: of each signal the number that the bits spell, where it is a value, and else 0.
abbrev pub number_or_zero : Layout → Bits → ℕ
number_or_zero spot bits = if nat_lt (number_of spot 0 bits) (length (variable_at spot.scope 0).values) then number_of spot 0 bits else 0

abbrev pub valued : List Layout → Bits → List ℕ
valued spots bits = map (λ spot. number_or_zero spot bits) spots

pub valued-letter : (spots : List Layout) (bits : Bits) → All (λ v. 0 < length v.values) (variables_at spots) → IsLetter (variables_at spots) (valued spots bits)
valued-letter [] bits some = tt
valued-letter (spot ∷ spots) bits some =
    let v = variable_at spot.scope 0 in
    let n = number_of spot 0 bits in (
      elim (nat_lt n (length v.values)) as (λ b. nat_lt n (length v.values) ≡ b → (if b then n else 0) < length v.values) [
        | true ↦ λ is. ltb-true n (length v.values) is
        | false ↦ λ is. head (λ w. 0 < length w.values) v (variables_at spots) some
      ] refl,
      valued-letter spots bits (tail (λ w. 0 < length w.values) v (variables_at spots) some),
    )

-- where the bits spell a value the valuation has it
pub valued-number : (spots : List Layout) → AreSpots spots → (bits : Bits) (s : ℕ) → s < length spots → spells_value (spot_at spots s) bits ≡ true → slice_index (valued spots bits) s ≡ number_of (spot_at spots s) 0 bits
valued-number spots are bits s known value =
    let spot = spot_at spots s in
    let below = (spot-value spot (are s nowhere known) bits).0 value in
    get_or-map (λ spot. number_or_zero spot bits) spots s nowhere 0 known
    ∙ ap (λ b. if b then number_of spot 0 bits else 0) (lt-ltb (number_of spot 0 bits) (length (variable_at spot.scope 0).values) below)

pub columns-valued : (spots : List Layout) → AreSpots spots → (bits : Bits) (signals : List ℕ) → All (λ s. s < length spots) signals → spell_values (spots_at spots signals) bits ≡ true → values_at (valued spots bits) signals ≡ values_at (spelled spots bits) signals
columns-valued spots are bits [] known values = refl
columns-valued spots are bits (s ∷ signals) known values =
    let parts = and_parts (spells_value (spot_at spots s) bits) (spell_values (spots_at spots signals) bits) values in
    let within = head (λ x. x < length spots) s signals known in
    let here = valued-number spots are bits s within parts.0 ∙ sym (number-at spots bits s within) in
    let rest = columns-valued spots are bits signals (tail (λ x. x < length spots) s signals known) parts.1 in
    λ i. here i ∷ rest i

-- what holds of each mapped element
pub all-mapped : {X Y : Type 0} (P : Y → Type 0) (f : X → Y) (xs : List X) → All P (map f xs) → (k : ℕ) (x : X) → k < length xs → x ≡ get_or xs k x → P (f x)
all-mapped P f xs all k x within is =
    let long = length-map xs f in
    subst P (get_or-map f xs k x (f x) within ∙ ap f (sym is)) (all k (f x) (omega (arith, within, long)))
