-- The bits of variables, one after another.
use Rattle.std.proofs.Common.{◌≡◌, ◌+◌, ◌<◌, ◌∙◌, ℕ, zero, suc, [], ◌∷◌, ◌++◌, length, take, ap, arith, add-one}
use Rattle.std.specs.List.{flat_map, range_with_len}
use Rattle.std.proofs.lemmas.List.Concat.{flat_map-append}
use Rattle.std.proofs.lemmas.List.{append-nil}
use Rattle.name_table.specs.CodeBits.{bits_of, bits_in}
use Rattle.name_table.specs.ScopeVars.{variable_at}
use Rattle.net_model.specs.Words.{Scope}
use Rattle.net_model.specs.Nets.{Net}
use Rattle.net_model.proofs.Counting.{range-suc}
use Rattle.net_problem.specs.ProblemBits.{own_of, own_before}

pub bits_in-append : (a b : Scope) → bits_in (a ++ b) ≡ bits_in a + bits_in b
bits_in-append [] b = omega arith
bits_in-append (v ∷ a) b = let rest = bits_in-append a b in omega (arith, rest)

bits-suc : (scope : Scope) (var : ℕ) → var < length scope → bits_in (take (suc var) scope) ≡ bits_in (take var scope) + bits_of (variable_at scope var)
bits-suc [] var known = absurd (omega (arith, known))
bits-suc (v ∷ scope) zero known = omega arith
bits-suc (v ∷ scope) (suc var) known = let rest = bits-suc scope var (omega (arith, known)) in omega (arith, rest)

-- those of the variables up to one
pub bits-next : (scope : Scope) (var : ℕ) → var < length scope → bits_in (take (var + 1) scope) ≡ bits_in (take var scope) + bits_of (variable_at scope var)
bits-next scope var known = rw add-one (bits-suc scope var known)

-- what a file has for itself for the signals up to one
pub own-suc : (net : Net) (signal : ℕ) → own_before net (suc signal) ≡ own_before net signal ++ own_of net signal
own-suc net signal =
    let first : 0 + signal ≡ signal = omega arith in
    ap (flat_map (own_of net)) (range-suc signal 0 ∙ ap (λ k. range_with_len 0 signal ++ k ∷ []) first)
    ∙ flat_map-append (own_of net) (range_with_len 0 signal) (signal ∷ [])
    ∙ ap (λ vars. own_before net signal ++ vars) (append-nil (own_of net signal))

pub own-next : (net : Net) (signal : ℕ) → bits_in (own_before net (signal + 1)) ≡ bits_in (own_before net signal) + bits_in (own_of net signal)
own-next net signal = rw add-one (ap bits_in (own-suc net signal) ∙ bits_in-append (own_before net signal) (own_of net signal))
