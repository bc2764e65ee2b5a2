-- What the test of an automaton's acceptance decides.
use Rattle.std.proofs.Common.{◌≡◌, ◌≤◌, ◌<◌, ℕ, Bool, true, List, [], ◌∷◌, length, map, get_or, nat_eq, codes, All, Contains, Decides, refl, sym, ap, subst, ◌∙◌, arith}
use Rattle.std.specs.List.{list_any, list_all}
use Rattle.std.proofs.lemmas.Bool.{false≢true, eqb-true, eq-eqb}
use Rattle.std.proofs.lemmas.Bool.Decides.{Decides-and, Decides-by_and}
use Rattle.std.proofs.lemmas.List.Folds.{Any-from_list_any, list_any_at}
use Rattle.std.proofs.lemmas.Map.Views.{Contains-from_any}
use Rattle.std.proofs.lemmas.Slice.Eq.{bytes_eq-Decides}
use Rattle.name_table.specs.ScopeVars.{variable_at}
use Rattle.name_table.specs.declared.names.VarId.{VarId}
use Rattle.net_model.specs.Accepted.{is_only, computes}
use Rattle.net_model.specs.Conditions.{latch_outputs, HasAcceptance, IsAuto}
use Rattle.net_model.specs.NetLanguages.{is_acc}
use Rattle.net_model.specs.Nets.{Table, Net}
use Rattle.net_model.specs.Spellings.{domain_at}

-- a search finds what the list contains
pub Decides-member : (xs : List ℕ) (x : ℕ) → Decides (list_any (nat_eq x) xs) (Contains xs x)
Decides-member xs x = (
  Contains-from_any eqb-true x xs,
  λ at. list_any_at (nat_eq x) xs at.0 x at.1 (ap (nat_eq x) at.2 ∙ eq-eqb x x refl),
)

only_decided : (outs : List ℕ) (signal : ℕ) → Decides (is_only outs signal) (outs ≡ signal ∷ [])
only_decided [] signal = (λ t. absurd (false≢true t), λ e. absurd (cc))
only_decided (other ∷ []) signal = (λ t. ap (λ s. s ∷ []) (eqb-true other signal t), λ e. eq-eqb other signal (ap (λ l. get_or l 0 0) e))
only_decided (other ∷ next ∷ outs) signal = (λ t. absurd (false≢true t), λ e. absurd (cc))

computes_decided : (states : List ℕ) (signal : ℕ) (table : Table) → Decides (computes states signal table) ((table.outs ≡ signal ∷ []) × All (Contains states) table.ins)
computes_decided states signal table =
    let reads : List ℕ → Bool = list_all (λ input. list_any (nat_eq input) states) in
    Decides-and (is_only table.outs signal) (reads table.ins) (only_decided table.outs signal)
    (Decides-by_and (λ input. list_any (nat_eq input) states) (Contains states) reads (Decides-member states) refl (λ _ _. refl) table.ins)

-- of a signal with two values
pub acceptance_decided : (net : Net) (signal : ℕ) → length (domain_at net.names signal) ≡ 2
    → Decides (list_any (computes (latch_outputs net) signal) net.tables) (HasAcceptance net signal)
acceptance_decided net signal binary = (there, back)
  where
    each : (table : Table) → Decides (computes (latch_outputs net) signal table) ((table.outs ≡ signal ∷ []) × All (Contains (latch_outputs net)) table.ins)
    each = computes_decided (latch_outputs net) signal

    there : list_any (computes (latch_outputs net) signal) net.tables ≡ true → HasAcceptance net signal
    there found =
        let any = Any-from_list_any (computes (latch_outputs net) signal) net.tables found in
        let parts = (each any.1).0 any.4 in
        record { binary = binary; table = any.1; held = (any.0, any.2, any.3); only = parts.0; states = parts.1 }

    back : HasAcceptance net signal → list_any (computes (latch_outputs net) signal) net.tables ≡ true
    back has =
        list_any_at (computes (latch_outputs net) signal) net.tables has.held.0 has.table has.held.1
        (ap (computes (latch_outputs net) signal) has.held.2 ∙ (each has.table).1 (has.only, has.states))

-- the signals of a list of one
pub only_one : (vars : List VarId) (d : VarId) → 1 ≤ length vars → length vars < 2 → map (λ v. v.0) vars ≡ (get_or vars 0 d).0 ∷ []
only_one [] d some few = absurd (omega arith)
only_one (v ∷ []) d some few = refl
only_one (v ∷ w ∷ vars) d some few = absurd (omega arith)

-- of a network whose only output is `Acc`
pub auto_decided : (net : Net) (signal : ℕ) (holds : Bool) → net.outputs ≡ signal ∷ [] → is_acc net.names (signal ∷ []) ≡ true → Decides holds (HasAcceptance net signal) → Decides holds (IsAuto net)
auto_decided net signal holds outs named decides = (
  λ t. (signal, (outs, (bytes_eq-Decides (variable_at net.names signal).name (codes "Acc")).0 named), decides.0 t),
  λ auto. decides.1 (subst (HasAcceptance net) (ap (λ l. get_or l 0 0) (sym auto.1.0 ∙ outs)) auto.2),
)
