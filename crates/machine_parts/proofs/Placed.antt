-- What is known of a machine whose codes are laid.
use Rattle.std.proofs.Common.{◌≡◌, ◌<◌, ◌++◌, ◌∷◌, [], ℕ, List, Option, Some, None, length, map, take, drop, sym, ap, subst, arith}
use Rattle.std.specs.Prelude.{All}
use Rattle.std.specs.List.{AllByRecursion}
use Rattle.std.proofs.Math.Seq.{take-append_seam, drop-append_seam}
use Rattle.std.proofs.lemmas.List.{length-map, length-append}
use Rattle.std.proofs.lemmas.List.Elements.{All-same, All-take, All-drop, All-nil, All-cons, All-head, All-tail, All-append}
use Rattle.name_table.specs.ScopeVars.{variable_at}
use Rattle.net_model.specs.Words.{Variable, Scope}
use Rattle.net_model.specs.declared.machine.KissRow as declared_row
use Rattle.net_model.specs.Machines.{Machine, KissRow, IsSoundMachine, IsColumn, IsKissRow, IsKnownState, kiss_row_of, machine_letters}
use Rattle.node_table.specs.Table.{Table}
use Rattle.mv_encoding.specs.Layouts.{Layout, IsLaid}
use Rattle.mv_encoding.specs.Spots.{IsSpot, AreSpots, variables_at}
use Rattle.machine_parts.specs.Coded.{size_of, IsBinary, AreCoded, IsRowOver}
use Rattle.machine_parts.specs.MachineParts.{IsMachineLaid}

-- what holds of all holds of those in front and of those behind
front : {X : Type 0} (P : X → Type 0) (xs ys : List X) → All P (xs ++ ys) → All P xs
front P xs ys all = All-same P xs (take (length xs) (xs ++ ys)) (sym (take-append_seam xs ys)) (All-take P (length xs) (xs ++ ys) all)

back : {X : Type 0} (P : X → Type 0) (xs ys : List X) → All P (xs ++ ys) → All P ys
back P xs ys all = All-same P ys (drop (length xs) (xs ++ ys)) (sym (drop-append_seam xs ys)) (All-drop P (length xs) (xs ++ ys) all)

abbrev HasTwo : Variable → Type 0
HasTwo v = length v.values ≡ 2

have-two : (scope : Scope) → AllByRecursion IsColumn scope → All HasTwo scope
have-two [] are = All-nil HasTwo
have-two (v ∷ scope) are = All-cons HasTwo v scope (ap length are.0.values) (have-two scope are.1)

some-scope : (code : Layout) → IsSpot code → 0 < length code.scope
some-scope code is = omega (arith, ap length is.1)

binary : (columns : List Layout) → AreSpots columns → All HasTwo (variables_at columns) → All IsBinary columns
binary [] spots two = All-nil IsBinary
binary (column ∷ columns) spots two =
    All-cons IsBinary column columns
    (record { some = some-scope column (All-head IsSpot column columns spots); values = All-head HasTwo (variable_at column.scope 0) (variables_at columns) two })
    (binary columns (All-tail IsSpot column columns spots) (All-tail HasTwo (variable_at column.scope 0) (variables_at columns) two))

known-state : (states size : ℕ) (state : Option ℕ) → size ≡ states → IsKnownState states state → IsKnownState size state
known-state states size None same known = tt
known-state states size (Some q) same known = omega (arith, same, known)

module _ (t : Table) (columns : List Layout) (present next : Layout) (machine : Machine) (sound : IsSoundMachine machine) (placed : IsMachineLaid t columns present next machine) where
  -- the codes are right for the rows
  pub are-coded : AreCoded t columns present next
  are-coded =
      let P = λ (code : Layout). IsLaid code t in
      let states = present ∷ next ∷ [] in
      let spots = back IsSpot columns states placed.spots in
      let laid = back P columns states placed.laid in
      let two = All-append HasTwo machine.inputs machine.outputs (have-two machine.inputs sound.inputs.each) (have-two machine.outputs sound.outputs.each) in
      record {
        binary = binary columns (front IsSpot columns states placed.spots) (All-same HasTwo (variables_at columns) (machine_letters machine) placed.letters two);
        laid = front P columns states placed.laid;
        present_some = some-scope present (All-head IsSpot present (next ∷ []) spots);
        next_some = some-scope next (All-head IsSpot next [] (All-tail IsSpot present (next ∷ []) spots));
        present_laid = All-head P present (next ∷ []) laid;
        next_laid = All-head P next [] (All-tail P present (next ∷ []) laid);
      }

  row-over : (row : KissRow) → IsKissRow machine row → IsRowOver columns present next row
  row-over row is = record {
    width = omega (arith, length-append row.input row.output, is.input, is.output, length-append machine.inputs machine.outputs, ap length placed.letters, length-map columns (λ (column : Layout). variable_at column.scope 0));
    present_known = known-state machine.states (size_of present) row.present placed.present_states is.present;
    next_known = known-state machine.states (size_of next) row.next placed.next_states is.next;
  }

  over-by : (rows : List declared_row.KissRow) → AllByRecursion (IsKissRow machine) (map kiss_row_of rows) → All (λ row. IsRowOver columns present next (kiss_row_of row)) rows
  over-by [] are = All-nil (λ (row : declared_row.KissRow). IsRowOver columns present next (kiss_row_of row))
  over-by (row ∷ rows) are =
      All-cons (λ (r : declared_row.KissRow). IsRowOver columns present next (kiss_row_of r)) row rows (row-over (kiss_row_of row) are.0) (over-by rows are.1)

  -- and the rows are right for the codes
  pub rows-over : (rows given : List declared_row.KissRow) → machine.rows ≡ map kiss_row_of rows → given ≡ rows → All (λ row. IsRowOver columns present next (kiss_row_of row)) given
  rows-over rows given are same =
      All-same (λ (row : declared_row.KissRow). IsRowOver columns present next (kiss_row_of row)) given rows same (over-by rows (subst (AllByRecursion (IsKissRow machine)) are sound.rows))
