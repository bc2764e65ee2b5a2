use Rattle.std.proofs.Common.{List, map, sym, subst}
use Rattle.std.specs.List.{AllZip}
use Rattle.net_model.specs.declared.net.Entry as declared_entry
use Rattle.net_model.specs.Nets.{entry_of}
use Rattle.net_model.specs.SoundNets.{IsOutputEntry}
use Rattle.table_parts.specs.Columns.{sizes_at}
use Rattle.table_parts.proofs.Sides.{inputs-outputs}
use Rattle.table_parts.proofs.rows.row_match.Goals as goal

pub entries_part-requires-clause-entries : goal.entries_part-requires-clause-entries
entries_part-requires-clause-entries c =
    let sizes = sizes_at c.args.signals.now c.args.ins.now in
    let P : List declared_entry.Entry → Type 0 = λ entries. AllZip (IsOutputEntry sizes) sizes (map entry_of entries) in
    subst P (sym c.deref.ensures.value) (inputs-outputs sizes sizes (map entry_of c.args.row.now.ins.items) c.requires.row.inputs)
