use Rattle.net_model.specs.Nets.{table_of}
use Rattle.table_parts.specs.TableParts.{part_value}
use Rattle.net_relation.proofs.Added.{added}
use Rattle.net_relation.proofs.adding.add_table.Goals as goal

pub returns-clause-ok : goal.returns-clause-ok
returns-clause-ok c =
    added c.args.space.now c.table_part-part.new.space c.add.result c.table_part-part.result (part_value c.args.signals.now (table_of c.args.table.now)) c.args.parts.now c.add.new.parts
    c.table_part-part.ensures.grows c.table_part-part.ensures.ok c.add.ensures.ok
