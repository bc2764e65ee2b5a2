-- Codes are laid still where no level comes.
use Rattle.std.proofs.Common.{◌≡◌, List, arith}
use Rattle.node_table.specs.Table.{Table}
use Rattle.mv_encoding.specs.Layouts.{Layout, IsLaid}
use Rattle.table_parts.proofs.Spelled.{laid-later}
use Rattle.machine_parts.specs.Coded.{AreCoded}

pub code-later : (old new : Table) (code : Layout) → new.levels ≡ old.levels → IsLaid code old → IsLaid code new
code-later old new code same laid k few = omega (arith, same, laid k few)

pub coded-later : (old new : Table) (columns : List Layout) (present next : Layout) → new.levels ≡ old.levels → AreCoded old columns present next → AreCoded new columns present next
coded-later old new columns present next same coded = record {
  binary = coded.binary;
  laid = laid-later old new columns same coded.laid;
  present_some = coded.present_some;
  next_some = coded.next_some;
  present_laid = code-later old new present same coded.present_laid;
  next_laid = code-later old new next same coded.next_laid;
}
