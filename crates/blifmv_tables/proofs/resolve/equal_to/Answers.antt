use Rattle.std.proofs.Common.{◌≡◌, ℕ, Option, None, Some, IfOk, map, ap, subst}
use Rattle.std.specs.Option.{option_map}
use Rattle.name_table.specs.Variables.{names_of, place_of}
use Rattle.net_model.specs.Nets.{entry_of}
use Rattle.net_model.specs.Spellings.{domain_at, equal_to}
use Rattle.blifmv_tables.proofs.Columns.{found_column}
use Rattle.blifmv_tables.proofs.resolve.equal_to.Goals as goal

pub returns-in-Some-column_of : goal.returns-in-Some-column_of
returns-in-Some-column_of c =
    let at = found_column c.args.ins.now c.in-Some.signal.0 (Some c.in-Some-column_of.place) (place_of (names_of c.args.names.now) c.args.name.now) c.in-Some.ensures c.in-Some-column_of.ensures.place in
    subst (λ (o : Option ℕ). IfOk c.equal_at.result (λ found. option_map entry_of found ≡ equal_to c.args.names.now (map (λ v. v.0) c.args.ins.now) (domain_at c.args.names.now c.args.column.0) o)) at c.equal_at.ensures

pub returns-in-None : goal.returns-in-None
returns-in-None c =
    ap (equal_to c.args.names.now (map (λ v. v.0) c.args.ins.now) (domain_at c.args.names.now c.args.column.0))
    (found_column c.args.ins.now c.in-Some.signal.0 None (place_of (names_of c.args.names.now) c.args.name.now) c.in-Some.ensures c.in-None.ensures.place)
