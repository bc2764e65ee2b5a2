use Rattle.std.proofs.Common.{rules, ◌<◌, Decides, All}
use Rattle.net_model.specs.Conditions.{columns_of}
use Rattle.net_model.specs.Nets.{table_of}
use Rattle.net_conditions.proofs.Listed.{Decides-mapped}
use Rattle.net_conditions.proofs.known.have_columns_below.Goals as goal

pub returns : goal.returns
returns c =
    let plain : Decides c.all.result (All (λ table. All (λ signal. signal < c.args.count) (columns_of (table_of table))) c.args.tables.now) = search rules in
    Decides-mapped table_of (λ table. All (λ signal. signal < c.args.count) (columns_of table)) c.all.result c.args.tables.now plain
