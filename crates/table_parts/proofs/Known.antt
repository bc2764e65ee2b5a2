-- What is known of the parts of a table.
use Rattle.std.proofs.Common.{◌≡◌, ◌<◌, ℕ, List, [], ◌∷◌, ◌++◌, length, map, arith, ◌∙◌, ◌&&◌, ◌||◌, Bool, sym, ap}
use Rattle.std.specs.Prelude.{All}
use Rattle.std.specs.List.{list_any, list_all}
use Rattle.std.proofs.lemmas.List.{length-map, map-append}
use Rattle.std.proofs.lemmas.List.Folds.{list_any-append, list_all-append}
use Rattle.std.proofs.lemmas.List.Elements.{All-nil, All-cons, All-head, All-tail, All-weaker}
use Rattle.name_table.specs.ScopeVars.{variable_at}
use Rattle.name_table.specs.declared.names.VarId.{VarId}
use Rattle.net_model.specs.declared.net.Row as declared_row
use Rattle.net_model.specs.declared.net.Table as declared_table
use Rattle.net_model.specs.Nets.{row_of, table_of}
use Rattle.net_model.specs.SoundNets.{IsRowOf}
use Rattle.node_table.specs.Table.{Bits}
use Rattle.mv_encoding.specs.Layouts.{Layout, numbers_of, is_letter}
use Rattle.mv_encoding.specs.Spots.{variables_at, spot_at, spots_at, spell_values}
use Rattle.table_parts.specs.Columns.{AreKnown, sizes_at}
use Rattle.table_parts.specs.TableParts.{IsTableOver}

-- what holds of each image, and of those in front of others
unmapped : {X Y : Type 0} (P : Y → Type 0) (f : X → Y) (xs : List X) → All P (map f xs) → All (λ x. P (f x)) xs
unmapped P f [] all = All-nil (λ x. P (f x))
unmapped P f (x ∷ xs) all =
    All-cons (λ y. P (f y)) x xs (All-head P (f x) (map f xs) all) (unmapped P f xs (All-tail P (f x) (map f xs) all))

front : {X : Type 0} (P : X → Type 0) (xs ys : List X) → All P (xs ++ ys) → All P xs
front P [] ys all = All-nil P
front P (x ∷ xs) ys all = All-cons P x xs (All-head P x (xs ++ ys) all) (front P xs ys (All-tail P x (xs ++ ys) all))

back : {X : Type 0} (P : X → Type 0) (xs ys : List X) → All P (xs ++ ys) → All P ys
back P [] ys all = all
back P (x ∷ xs) ys all = back P xs ys (All-tail P x (xs ++ ys) all)

module _ (signals : List Layout) (table : declared_table.Table) (is : IsTableOver (variables_at signals) (table_of table)) where
  abbrev Known : ℕ → Type 0
  Known signal = signal < length (variables_at signals)

  known : (columns : List VarId) → All Known (map (λ v. v.0) columns) → AreKnown signals columns
  known columns all =
      All-weaker (λ (v : VarId). Known v.0) (λ v. v.0 < length signals) (λ v held. omega (arith, held, length-map signals (λ (spot : Layout). variable_at spot.scope 0))) columns (unmapped Known (λ v. v.0) columns all)

  -- the inputs and the outputs are signals, and each row has an entry for each of them
  pub ins-known : (ins : List VarId) → ins ≡ table.ins.items → AreKnown signals ins
  ins-known ins same = rw same (known table.ins.items (front Known (map (λ v. v.0) table.ins.items) (map (λ v. v.0) table.outs.items) is.known))

  pub outs-known : (outs : List VarId) → outs ≡ table.outs.items → AreKnown signals outs
  outs-known outs same = rw same (known table.outs.items (back Known (map (λ v. v.0) table.ins.items) (map (λ v. v.0) table.outs.items) is.known))

  pub rows-known : (ins outs : List VarId) (rows : List declared_row.Row) → ins ≡ table.ins.items → outs ≡ table.outs.items → rows ≡ table.rows.items → All (λ row. IsRowOf (sizes_at signals ins) (sizes_at signals outs) (row_of row)) rows
  rows-known ins outs rows same_ins same_outs same_rows =
      rw (same_ins, same_outs, same_rows) (unmapped (IsRowOf (sizes_at signals table.ins.items) (sizes_at signals table.outs.items)) row_of table.rows.items is.rows)

-- what some row does, by halves of the rows
pub any-halves : {X Y : Type 0} (p : Y → Bool) (f : X → Y) (xs front back : List X) → xs ≡ front ++ back → (list_any p (map f front) || list_any p (map f back)) ≡ list_any p (map f xs)
any-halves p f xs front back same =
    sym (list_any-append p (map f front) (map f back)) ∙ ap (list_any p) (sym (map-append f front back)) ∙ ap (λ ys. list_any p (map f ys)) (sym same)

-- the values of all columns are those of the inputs and those of the outputs
pub values-halves : (signals : List Layout) (ins outs : List ℕ) (bits : Bits) → (spell_values (spots_at signals ins) bits && spell_values (spots_at signals outs) bits) ≡ spell_values (spots_at signals (ins ++ outs)) bits
values-halves signals ins outs bits =
    let p = λ (spot : Layout). is_letter spot.scope (numbers_of spot bits) in
    sym (list_all-append p (spots_at signals ins) (spots_at signals outs)) ∙ ap (list_all p) (sym (map-append (spot_at signals) ins outs))
