use Rattle.std.specs.Prelude.{◌≡◌, ℕ, List, map, Option, Some, None}
use Rattle.net_model.specs.Words.{Scope}
use Rattle.net_model.specs.Forms.{Name}
use Rattle.net_model.specs.Nets.{Entry}
use Rattle.net_model.specs.Spellings.{Spelled, Taken, domain_at, input_entry, output_entry}
use Rattle.blifmv_tables.specs.declared.side.Side.{Side}
use Rattle.blifmv_tables.specs.declared.side.Side.TheVariants as sides

-- The entries of a row, read column by column.

-- the entry in a column on this side of a table
abbrev pub entry_in : Scope → Side → ℕ → Spelled → Option Entry
entry_in vars sides.Input column spelled = input_entry (domain_at vars column) spelled
entry_in vars (sides.Output ins) column spelled = output_entry vars (map (λ v. v.0) ins.now) (domain_at vars column) spelled

-- these entries were taken, and these words are left; or there are none to be taken
abbrev pub AreRead : Option (Taken (List Entry)) → List Name → Option (List Entry) → Type 0
AreRead wanted rest None = wanted ≡ None
AreRead wanted rest (Some entries) = wanted ≡ Some (record { taken = entries; rest = rest })
