-- The table of which a signal is the only output.
use Rattle.std.proofs.Common.{◌≡◌, ◌∙◌, ◌<◌, ℕ, false, List, [], ◌∷◌, length, map, get_or, refl, sym, ap, arith}
use Rattle.std.specs.Prelude.{Contains}
use Rattle.std.proofs.lemmas.Bool.{false≢true, eq-eqb}
use Rattle.std.proofs.lemmas.List.{get_or-map, length-map}
use Rattle.net_model.specs.Accepted.{is_only}
use Rattle.net_model.specs.Nets.{Table, table_of}
use Rattle.net_model.specs.declared.net.Table as declared

-- where no table that the code reads is it, none is
pub none-only : (tables : List declared.Table) (signal : ℕ) → ((k : ℕ) (d : declared.Table) → k < length tables → is_only (table_of (get_or tables k d)).outs signal ≡ false)
    → (table : Table) → Contains (map table_of tables) table → table.outs ≡ signal ∷ [] → ⊥
none-only [] signal none table held only = let within = held.1 in omega (arith, within)
none-only (x ∷ tables) signal none table held only =
    let long = length-map (x ∷ tables) table_of in
    let known = held.1 in
    let within : held.0 < length (x ∷ tables) = omega (arith, known, long) in
    let same = sym (get_or-map table_of (x ∷ tables) held.0 x table within) ∙ held.2 in
    false≢true (sym (none held.0 x within) ∙ ap (λ t. is_only t.outs signal) same ∙ ap (λ outs. is_only outs signal) only ∙ eq-eqb signal signal refl)
