use Rattle.std.proofs.Common.{◌≡◌, ◌++◌, ◌<◌, ◌≤◌, ℕ, drop}
use Rattle.name_table.specs.CodeBits.{bits_in}
use Rattle.mv_encoding.specs.Layouts.{bits_before}
use Rattle.mv_encoding.specs.Fields.{field_at, fields_from, FitsIn}
use Rattle.mv_encoding.proofs.planning.fields_of.Given as goal

abbrev pub invariant-loop-var : goal.invariant-loop-var
invariant-loop-var l = record {
  before : l.before ≡ bits_before l.scope l.var;
  few : l.before ≤ 2000;
  whole : l.fields.items ++ fields_from l.before (drop l.var l.scope) ≡ fields_from 0 l.scope;
  fit : (var : ℕ) → var < l.var → FitsIn (bits_in l.scope) (field_at l.scope var);
}
