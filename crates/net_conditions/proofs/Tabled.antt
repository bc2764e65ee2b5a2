use Rattle.std.proofs.Common.{◌≡◌, ℕ, zero, suc, Bool, true, false, not, List, [], ◌∷◌, length, map, All, Contains, Decides, IsTrue, None, Some, codes, refl, ap, sym, ◌∙◌, subst}
use Rattle.std.specs.List.{list_any, list_all, slice_get, Any}
use Rattle.std.specs.Str.{bytes_eq}
use Rattle.std.proofs.lemmas.Bool.{false≢true}
use Rattle.std.proofs.lemmas.Bool.Decides.{Decides-at, Decides-like, Decides-eqb}
use Rattle.std.proofs.lemmas.List.Elements.{All-weaker}
use Rattle.std.proofs.lemmas.Slice.Eq.{slice_eq-Decides}
use Rattle.name_table.specs.Variables.{Variable, names_of}
use Rattle.name_table.specs.ScopeVars.{variable_at}
use Rattle.name_table.specs.declared.names.VarId.{VarId}
use Rattle.net_model.specs.Nets.{Net, table_of}
use Rattle.net_model.specs.Conditions.{latch_outputs, Varies, IsConstant, IsReset, HasAcceptance}
use Rattle.net_model.specs.Spellings.{domain_at}
use Rattle.net_model.specs.declared.net.Table.{Table}
use Rattle.net_conditions.specs.Accepted.{IsAcceptance}
use Rattle.net_conditions.specs.Marks.{is_marked, IsSetOf}
use Rattle.net_conditions.proofs.Listed.{Decides-mapped, Decides-images, Decides-none, Decides-second, Decides-failed, image_of, image_member}

-- What the tests of reset tables, and of the table of an automaton, decide.

abbrev number : VarId → ℕ
number v = v.0

-- a reset table
module _ (net : Net) (varying states : List Bool) (table : Table) (reads : Bool)
    (of_varying : IsSetOf varying (Varies net)) (reads_is : reads ≡ list_any (λ v. is_marked varying v.0) table.ins.items) where
  constant : Decides (not reads) (All (IsConstant net) (table_of table).ins)
  constant =
      let test : VarId → Bool = λ v. is_marked varying v.0 in
      Decides-mapped number (IsConstant net) (not reads) table.ins.items
      (Decides-at (not reads) (not (list_any test table.ins.items)) (ap not reads_is)
      (Decides-none test (λ v. Varies net v.0) (λ v. of_varying v.0) table.ins.items))

  pub reset_holds : (holds : Bool) → IsSetOf states (Contains (latch_outputs net)) → holds ≡ list_all (λ v. is_marked states v.0) table.outs.items → reads ≡ false
      → Decides holds (IsReset net (table_of table))
  reset_holds holds of_states holds_is is =
      Decides-second (not reads) holds constant (λ reset. reset.inputs)
      (Decides-images number (Contains (latch_outputs net)) (λ v. is_marked states v.0) holds table.outs.items (λ v. of_states v.0) holds_is) (λ reset. reset.outputs)
      (λ inputs outputs. record { inputs = inputs; outputs = outputs }) (ap not is)

  pub reset_fails : (answer : Bool) → reads ≡ true → answer ≡ false → Decides answer (IsReset net (table_of table))
  reset_fails answer is is_answer = Decides-failed (not reads) answer constant (λ reset. reset.inputs) (ap not is) is_answer

pub acceptance_by : (states : List Bool) (signal : ℕ) (table : Table) (only holds : Bool) → Decides only ((table_of table).outs ≡ signal ∷ [])
    → holds ≡ list_all (λ v. is_marked states v.0) table.ins.items → only ≡ true → Decides holds (IsAcceptance states signal table)
acceptance_by states signal table only holds of_only holds_is is =
    Decides-second only holds of_only (λ both. both.0)
    (Decides-images number (λ v. IsTrue (is_marked states v)) (λ v. is_marked states v.0) holds table.ins.items (λ v. (λ t. t, λ t. t)) holds_is)
    (λ both. both.1) (λ outs ins. (outs, ins)) is

-- some table is such a one
pub accepted_by : (net : Net) (states : List Bool) (signal : ℕ) (tables : List Table) (found : Bool) → net.tables ≡ map table_of tables
    → IsSetOf states (Contains (latch_outputs net)) → length (domain_at net.names signal) ≡ 2 → Decides found (Any (IsAcceptance states signal) tables) → Decides found (HasAcceptance net signal)
accepted_by net states signal tables found are of_states binary decides = Decides-like found there back decides
  where
    there : Any (IsAcceptance states signal) tables → HasAcceptance net signal
    there any = record {
      binary = binary;
      table = table_of any.1;
      held = subst (λ all. Contains all (table_of any.1)) (sym are) (image_member table_of tables any.0 any.1 any.2 (sym any.3));
      only = any.4.0;
      states = All-weaker (λ v. IsTrue (is_marked states v)) (Contains (latch_outputs net)) (λ v. (of_states v).0) (table_of any.1).ins any.4.1;
    }

    back : HasAcceptance net signal → Any (IsAcceptance states signal) tables
    back has =
        let found_at = image_of table_of tables has.table (subst (λ all. Contains all has.table) are has.held) in (
          found_at.0,
          found_at.1,
          found_at.2,
          found_at.3,
          (
            ap (λ table. table.outs) found_at.4 ∙ has.only,
            All-weaker (Contains (latch_outputs net)) (λ v. IsTrue (is_marked states v)) (λ v. (of_states v).1) (table_of found_at.1).ins
                (subst (λ table. All (Contains (latch_outputs net)) table.ins) (sym found_at.4) has.states),
          ),
        )

-- the name of a variable, and none past the end
name_at : (vars : List Variable) (k : ℕ) (name : List ℕ) → slice_get (names_of vars) k ≡ Some name → (variable_at vars k).name ≡ name
name_at [] k name is = absurd (cc)
name_at (v ∷ vars) zero name is = cc
name_at (v ∷ vars) (suc k) name is = name_at vars k name is

no_name_at : (vars : List Variable) (k : ℕ) → slice_get (names_of vars) k ≡ None → (variable_at vars k).name ≡ []
no_name_at [] k is = refl
no_name_at (v ∷ vars) zero is = absurd (cc)
no_name_at (v ∷ vars) (suc k) is = no_name_at vars k is

pub Decides-named : (vars : List Variable) (k : ℕ) (name word : List ℕ) (same : Bool) → Some name ≡ slice_get (names_of vars) k → same ≡ bytes_eq name word
    → Decides same ((variable_at vars k).name ≡ word)
Decides-named vars k name word same is answer =
    let name_is = name_at vars k name (sym is) in
    Decides-like same (λ e. name_is ∙ e) (λ e. sym name_is ∙ e) (slice_eq-Decides Decides-eqb name word same answer)

pub Decides-unnamed : (vars : List Variable) (k : ℕ) → None ≡ slice_get (names_of vars) k → Decides false ((variable_at vars k).name ≡ codes "Acc")
Decides-unnamed vars k is =
    let none_is = no_name_at vars k (sym is) in
    (λ t. absurd (false≢true t), λ e. let differ : [] ≡ codes "Acc" = sym none_is ∙ e in absurd (cc))
