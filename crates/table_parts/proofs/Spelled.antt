-- What is known of the signals of a table's columns.
use Rattle.std.proofs.Common.{◌≡◌, ◌==◌, ◌+◌, ◌<◌, ◌∙◌, ℕ, zero, suc, Bool, Result, Ok, Err, IfOk, List, [], ◌∷◌, length, get_or, refl, sym, ap, subst, arith}
use Rattle.std.specs.Prelude.{All, slice_index}
use Rattle.std.proofs.lemmas.Bool.Decides.{nat_tests}
use Rattle.std.proofs.lemmas.List.{get_or-map, length-map}
use Rattle.name_table.specs.ScopeVars.{variable_at}
use Rattle.name_table.specs.CodeBits.{code_bits, bits_in}
use Rattle.name_table.specs.declared.names.VarId.{VarId}
use Rattle.net_model.specs.Words.{Scope}
use Rattle.net_model.specs.Spellings.{domain_at}
use Rattle.node_table.specs.declared.space.MkFault.{MkFault}
use Rattle.node_table.specs.Table.{Bits, Table}
use Rattle.bdd_ops.specs.Meaning.{StandsFor}
use Rattle.mv_encoding.specs.Layouts.{Layout, number_of, IsLaid}
use Rattle.mv_encoding.specs.Spots.{IsSpot, AreSpots, AreLaid, spot_at, variables_at, spelled}
use Rattle.table_parts.specs.Columns.{signals_of, AreKnown, sizes_at, numbers_in}

-- an element of a list has what all have
pub all-read : {X : Type 0} (P : X → Type 0) (xs : List X) (i : ℕ) (x : X) → All P xs → i < length xs → x ≡ get_or xs i x → P x
all-read P xs i x all within is = subst P (sym is) (all i x within)

-- where no level comes, the codes are laid still
pub laid-later : (old new : Table) (spots : List Layout) → new.levels ≡ old.levels → AreLaid old spots → AreLaid new spots
laid-later old new spots same laid k d within j few = omega (arith, same, laid k d within j few)

-- another word for the same meaning
pub stands-same : (result : Result ℕ MkFault) (t : Table) (meaning other : Bits → Bool) → ((bits : Bits) → meaning bits ≡ other bits) → IfOk result (λ r. StandsFor t r meaning) → IfOk result (λ r. StandsFor t r other)
stands-same (Ok r) t meaning other same stands = record { valid = stands.valid; value = λ bits. stands.value bits ∙ same bits }
stands-same (Err e) t meaning other same stands = tt

pub swapped : (m n : ℕ) → (m == n) ≡ (n == m)
swapped m n = grind (arith, nat_tests)

-- the variable of a signal is that of its spot
variable-known : (signals : List Layout) (signal : ℕ) (d : Layout) → signal < length signals → variable_at (variables_at signals) signal ≡ variable_at (get_or signals signal d).scope 0
variable-known [] signal d within = absurd (omega arith)
variable-known (spot ∷ signals) zero d within = refl
variable-known (spot ∷ signals) (suc signal) d within = variable-known signals signal d (omega arith)

size-known : (signals : List Layout) (signal : ℕ) (spot : Layout) → signal < length signals → spot ≡ get_or signals signal spot → length (domain_at (variables_at signals) signal) ≡ length (variable_at spot.scope 0).values
size-known signals signal spot within is =
    ap (λ v. length v.values) (variable-known signals signal spot within) ∙ ap (λ s. length (variable_at s.scope 0).values) (sym is)

-- its number is the one at its spot
number-known : (signals : List Layout) (signal : ℕ) (spot : Layout) → signal < length signals → spot ≡ get_or signals signal spot → (bits : Bits) → number_of spot 0 bits ≡ slice_index (spelled signals bits) signal
number-known signals signal spot within is bits =
    ap (λ s. number_of s 0 bits) is ∙ sym (get_or-map (λ s. number_of s 0 bits) signals signal spot 0 within)

number-at : (signals : List Layout) (signal : ℕ) (bits : Bits) → signal < length signals → number_of (spot_at signals signal) 0 bits ≡ slice_index (spelled signals bits) signal
number-at signals signal bits within = sym (get_or-map (λ s. number_of s 0 bits) signals signal (record { scope = []; first = 0 }) 0 within)

-- the spot of a signal
pub record Found (signals : List Layout) (t : Table) (signal : ℕ) (spot : Layout) : Type 0 where
  pub single : IsSpot spot
  pub some : 0 < length spot.scope
  pub laid : IsLaid spot t
  pub size : length (domain_at (variables_at signals) signal) ≡ length (variable_at spot.scope 0).values
  pub number : (bits : Bits) → number_of spot 0 bits ≡ slice_index (spelled signals bits) signal

pub found : (signals : List Layout) (t : Table) (signal : ℕ) (spot : Layout) → AreSpots signals → AreLaid t signals → signal < length signals → spot ≡ get_or signals signal spot → Found signals t signal spot
found signals t signal spot spots laid within is =
    let one = all-read IsSpot signals signal spot spots within is in
    record {
      single = one;
      some = omega (arith, ap length one.1);
      laid = all-read (λ (s : Layout). IsLaid s t) signals signal spot laid within is;
      size = size-known signals signal spot within is;
      number = number-known signals signal spot within is;
    }

-- values of its column
pub values-known : (signals : List Layout) (t : Table) (signal : ℕ) (spot : Layout) (values given : List ℕ) → Found signals t signal spot → given ≡ values → All (λ v. v < length (domain_at (variables_at signals) signal)) values → All (λ v. v < length (variable_at spot.scope 0).values) given
values-known signals t signal spot values given f same all = rw (same, ← f.size) all

-- spots of as many values have as many bits
same-bits : (a b : Layout) → IsSpot a → IsSpot b → length (variable_at a.scope 0).values ≡ length (variable_at b.scope 0).values → bits_in a.scope ≡ bits_in b.scope
same-bits a b is_a is_b same =
    let P : Scope → Type 0 = λ s. length (variable_at s 0).values ≡ length (variable_at b.scope 0).values → bits_in s ≡ bits_in b.scope in
    let Q : Scope → Type 0 = λ s. length is_a.0.values ≡ length (variable_at s 0).values → bits_in (is_a.0 ∷ []) ≡ bits_in s in
    subst P (sym is_a.1) (subst Q (sym is_b.1) (λ e. ap (λ n. code_bits n + 0) e)) same

-- an entry of a column that asks for the value of an input column with as many values
pub record Asks (signals : List Layout) (ins : List VarId) (k column : ℕ) : Type 0 where
  pub within : k < length ins
  pub input : (get_or ins k (record { 0 = 0 })).0 < length signals
  pub known : column < length signals
  pub size : length (domain_at (variables_at signals) (get_or ins k (record { 0 = 0 })).0) ≡ length (domain_at (variables_at signals) column)

pub asks : (signals : List Layout) (ins : List VarId) (k column : ℕ) → AreKnown signals ins → column < length signals → k < length (sizes_at signals ins) → slice_index (sizes_at signals ins) k ≡ length (domain_at (variables_at signals) column) → Asks signals ins k column
asks signals ins k column known is within size =
    let f = λ (signal : ℕ). length (domain_at (variables_at signals) signal) in
    let few : k < length ins = omega (arith, within, length-map (signals_of ins) f, length-map ins (λ (w : VarId). w.0)) in
    record {
      within = few;
      input = known k (record { 0 = 0 }) few;
      known = is;
      size =
          ap f (sym (get_or-map (λ (w : VarId). w.0) ins k (record { 0 = 0 }) 0 few))
          ∙ sym (get_or-map f (signals_of ins) k 0 0 (omega (arith, few, length-map ins (λ (w : VarId). w.0))))
          ∙ size;
    }

-- the two spots have as many bits
pub asked-bits : (signals : List Layout) (ins : List VarId) (k column : ℕ) → Asks signals ins k column → AreSpots signals → bits_in (spot_at signals (get_or ins k (record { 0 = 0 })).0).scope ≡ bits_in (spot_at signals column).scope
asked-bits signals ins k column a spots =
    let none : Layout = record { scope = []; first = 0 } in
    let input : ℕ = (get_or ins k (record { 0 = 0 })).0 in
    same-bits (spot_at signals input) (spot_at signals column) (spots input none a.input) (spots column none a.known)
    (ap (λ v. length v.values) (sym (variable-known signals input none a.input)) ∙ a.size ∙ ap (λ v. length v.values) (variable-known signals column none a.known))

-- and it allows the number of the input
pub asked-number : (signals : List Layout) (ins : List VarId) (k column : ℕ) → Asks signals ins k column → (bits : Bits)
    → (number_of (spot_at signals (get_or ins k (record { 0 = 0 })).0) 0 bits == number_of (spot_at signals column) 0 bits) ≡ (slice_index (numbers_in signals ins bits) k == slice_index (spelled signals bits) column)
asked-number signals ins k column a bits =
    let f = slice_index (spelled signals bits) in
    let at =
    number-at signals (get_or ins k (record { 0 = 0 })).0 bits a.input
    ∙ ap f (sym (get_or-map (λ (w : VarId). w.0) ins k (record { 0 = 0 }) 0 a.within))
    ∙ sym (get_or-map f (signals_of ins) k 0 0 (omega (arith, a.within, length-map ins (λ (w : VarId). w.0)))) in
    λ i. at i == number-at signals column bits a.known i
