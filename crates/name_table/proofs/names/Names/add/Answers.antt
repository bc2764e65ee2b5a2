use Rattle.std.proofs.Common.{sym}
use Rattle.name_table.specs.Variables.{names_of}
use Rattle.name_table.proofs.Found.{absent, known, differs}
use Rattle.name_table.proofs.names.Names.add.Goals as goal

pub add_new-requires : goal.add_new-requires
add_new-requires c = absent (names_of c.args.self.now) c.args.name.now (sym c.in-None.ensures)

pub returns-then-has_domain-clause-ok : goal.returns-then-has_domain-clause-ok
returns-then-has_domain-clause-ok c =
    known c.args.self.now c.args.name.now c.args.domain c.in-Some.var.0 c.in-Some.ensures (c.has_domain.ensures.0 c.if-has_domain.true)

pub returns-clause-refused : goal.returns-clause-refused
returns-clause-refused c =
    differs c.args.self.now c.args.name.now c.args.domain c.in-Some.var.0 c.has_domain.result c.in-Some.ensures c.has_domain.ensures.1 c.if-has_domain.false
