use Rattle.net_model.specs.Forms.{Form, TableLine, ResetLine}
use Rattle.blifmv_lines.specs.Said.{texts}
use Rattle.blifmv_lines.specs.declared.shapes.Columns.{Columns}

-- The columns of a table, and those of a reset table.

abbrev pub table_said : Columns → Form
table_said columns = TableLine (texts columns.ins.now) (texts columns.outs.now)

abbrev pub reset_said : Columns → Form
reset_said columns = ResetLine (texts columns.ins.now) (texts columns.outs.now)
