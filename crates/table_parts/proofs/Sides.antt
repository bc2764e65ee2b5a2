-- Entries beside their columns.
use Rattle.std.proofs.Common.{◌≡◌, ◌&&◌, ◌+◌, ◌<◌, ◌≤◌, ◌∙◌, ℕ, zero, suc, true, List, [], ◌∷◌, length, map, get_or, drop, refl, sym, subst, arith}
use Rattle.std.specs.Prelude.{slice_index}
use Rattle.std.specs.List.{AllZip}
use Rattle.std.proofs.lemmas.List.{drop_more, drop_all}
use Rattle.name_table.specs.declared.names.VarId.{VarId}
use Rattle.net_model.specs.declared.net.Entry as declared_entry
use Rattle.net_model.specs.Nets.{Entry, Any, Value, OneOf, NotOneOf, Equal, entry_of}
use Rattle.net_model.specs.Spellings.{domain_at}
use Rattle.net_model.specs.SoundNets.{IsInputEntry, IsOutputEntry}
use Rattle.net_model.specs.Tables.{entry_allows, entries_allow}
use Rattle.node_table.specs.Table.{Bits}
use Rattle.mv_encoding.specs.Layouts.{Layout}
use Rattle.mv_encoding.specs.Spots.{variables_at, spelled}
use Rattle.table_parts.specs.Columns.{sizes_at, numbers_in}

-- what may stand in an input column may stand in an output column
input-output : (ins : List ℕ) (size : ℕ) (entry : Entry) → IsInputEntry size entry → IsOutputEntry ins size entry
input-output ins size Any is = is
input-output ins size (Value v) is = is
input-output ins size (OneOf vs) is = is
input-output ins size (NotOneOf vs) is = is
input-output ins size (Equal k) is = absurd is

pub inputs-outputs : (ins sizes : List ℕ) (entries : List Entry) → AllZip IsInputEntry sizes entries → AllZip (IsOutputEntry ins) sizes entries
inputs-outputs ins [] [] are = tt
inputs-outputs ins [] (e ∷ entries) are = absurd are
inputs-outputs ins (s ∷ sizes) [] are = absurd are
inputs-outputs ins (s ∷ sizes) (e ∷ entries) are = (input-output ins s e are.0, inputs-outputs ins sizes entries are.1)

-- the entry at a place is one of the column there
pub entry-at : (ins : List ℕ) (signals : List Layout) (columns : List VarId) (entries : List declared_entry.Entry) (k : ℕ) (v : VarId) (e : declared_entry.Entry) → AllZip (IsOutputEntry ins) (sizes_at signals columns) (map entry_of entries) → k < length columns → e ≡ get_or entries k e → IsOutputEntry ins (length (domain_at (variables_at signals) (get_or columns k v).0)) (entry_of e)
entry-at ins signals [] entries k v e are within is = absurd (omega arith)
entry-at ins signals (c ∷ columns) [] k v e are within is = absurd are
entry-at ins signals (c ∷ columns) (x ∷ entries) zero v e are within is =
    let P : declared_entry.Entry → Type 0 = λ y. IsOutputEntry ins (length (domain_at (variables_at signals) c.0)) (entry_of y) in
    subst P (sym is) are.0
entry-at ins signals (c ∷ columns) (x ∷ entries) (suc k) v e are within is = entry-at ins signals columns entries k v e are.1 (omega arith) is

-- there are as many entries as columns
pub as-many : (ins : List ℕ) (signals : List Layout) (columns : List VarId) (entries : List declared_entry.Entry) → AllZip (IsOutputEntry ins) (sizes_at signals columns) (map entry_of entries) → length columns ≡ length entries
as-many ins signals [] [] are = refl
as-many ins signals [] (x ∷ entries) are = absurd are
as-many ins signals (c ∷ columns) [] are = absurd are
as-many ins signals (c ∷ columns) (x ∷ entries) are = let rest = as-many ins signals columns entries are.1 in omega arith

module _ (ins : List ℕ) (signals : List Layout) (columns : List VarId) (entries : List declared_entry.Entry) (bits : Bits) where
  -- the entries from a place on allow what the first of them allows and the others do
  pub entries-step : (k next : ℕ) (v : VarId) (e : declared_entry.Entry) → next ≡ k + 1 → k < length columns → k < length entries → e ≡ get_or entries k e
      → (entry_allows ins (entry_of e) (slice_index (spelled signals bits) (get_or columns k v).0) && entries_allow ins (map entry_of (drop next entries)) (numbers_in signals (drop next columns) bits))
      ≡ entries_allow ins (map entry_of (drop k entries)) (numbers_in signals (drop k columns) bits)
  entries-step k next v e after within has is =
      (λ i. entry_allows ins (entry_of (is i)) (slice_index (spelled signals bits) (get_or columns k v).0) && entries_allow ins (map entry_of (drop (after i) entries)) (numbers_in signals (drop (after i) columns) bits))
      ∙ (λ i. entries_allow ins (map entry_of (sym (drop_more entries k e has) i)) (numbers_in signals (sym (drop_more columns k v within) i) bits))

  -- no entries allow anything
  pub entries-none : (k : ℕ) → length columns ≤ k → length entries ≤ k → true ≡ entries_allow ins (map entry_of (drop k entries)) (numbers_in signals (drop k columns) bits)
  entries-none k all more = λ i. entries_allow ins (map entry_of (sym (drop_all k entries more) i)) (numbers_in signals (sym (drop_all k columns all) i) bits)
