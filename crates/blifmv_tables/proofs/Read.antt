-- Rows by their entries.
use Rattle.std.proofs.Common.{◌≡◌, ◌<◌, ◌==◌, ◌++◌, ℕ, Bool, true, false, List, [], ◌∷◌, length, map, drop, Option, Some, None, if◌then◌else◌, refl, sym, ◌∙◌, ap, subst, length-drop, arith}
use Rattle.std.specs.Option.{option_map}
use Rattle.name_table.specs.declared.names.VarId.{VarId}
use Rattle.net_model.specs.Words.{Scope}
use Rattle.net_model.specs.Forms.{Name}
use Rattle.net_model.specs.Nets.{Entry, Row}
use Rattle.net_model.specs.Spellings.{Spelled, Taken, as_taken, entry_at, entries_at, column_then, inputs_at, outputs_at, whole, row_behind, row_spelled}
use Rattle.blifmv_tables.specs.Reading.{AreRead}

abbrev row_with : List Entry → List Entry → Row
row_with inputs outputs = record { ins = inputs; outs = outputs }

nothing_at : (resolve : ℕ → Spelled → Option Entry) (left : List VarId) (words : List Name) (had : List Entry) → 0 < length left → None ≡ entry_at words → as_taken (λ more. had ++ more) (entries_at resolve (map (λ v. v.0) left) words) ≡ None
nothing_at resolve [] words had some none = absurd (omega arith)
nothing_at resolve (column ∷ left) words had some none =
    ap (λ o. as_taken (λ more. had ++ more) (column_then (resolve column.0) (entries_at resolve (map (λ v. v.0) left)) o)) (sym none)

-- where the words spell no entry for a column that is left there are none for all columns
pub no_entries : (resolve : ℕ → Spelled → Option Entry) (columns : List VarId) (k : ℕ) (words : List Name) (had : List Entry) (wanted : Option (Taken (List Entry))) → k < length columns → None ≡ entry_at words → as_taken (λ more. had ++ more) (entries_at resolve (map (λ v. v.0) (drop k columns)) words) ≡ wanted → wanted ≡ None
no_entries resolve columns k words had wanted within none is =
    let some : 0 < length (drop k columns) = omega (arith, length-drop k columns) in
    sym is ∙ nothing_at resolve (drop k columns) words had some none

-- a row of these entries, unless words are left
row_read : (vars : Scope) (ins outs : List ℕ) (words middle rest : List Name) (inputs outputs : List Entry) → inputs_at vars ins words ≡ Some (record { taken = inputs; rest = middle }) → outputs_at vars ins outs middle ≡ Some (record { taken = outputs; rest = rest }) → row_spelled vars ins outs words ≡ (if length rest == 0 then Some (row_with inputs outputs) else None)
row_read vars ins outs words middle rest inputs outputs h k =
    ap (row_behind vars ins outs) h
    ∙ (ap (λ o. option_map (row_with inputs) (whole o)) k
    ∙ elim (length rest == 0) as (λ b. option_map (row_with inputs) (if b then Some outputs else None) ≡ (if b then Some (row_with inputs outputs) else None)) [
      | true ↦ refl
      | false ↦ refl
    ])

pub row_found : (vars : Scope) (ins outs : List ℕ) (words start middle rest : List Name) (i o : Option (List Entry)) (inputs outputs : List Entry) (b : Bool) → start ≡ words → AreRead (inputs_at vars ins start) middle i → i ≡ Some inputs → AreRead (outputs_at vars ins outs middle) rest o → o ≡ Some outputs → b ≡ (length rest == 0) → (if b then Some (row_with inputs outputs) else None) ≡ row_spelled vars ins outs words
row_found vars ins outs words start middle rest i o inputs outputs b begun first is second is' empty =
    let h : inputs_at vars ins start ≡ Some (record { taken = inputs; rest = middle }) = subst (AreRead (inputs_at vars ins start) middle) is first in
    let k : outputs_at vars ins outs middle ≡ Some (record { taken = outputs; rest = rest }) = subst (AreRead (outputs_at vars ins outs middle) rest) is' second in
    ap (λ t. if t then Some (row_with inputs outputs) else None) empty
    ∙ (sym (row_read vars ins outs start middle rest inputs outputs h k) ∙ ap (row_spelled vars ins outs) begun)
