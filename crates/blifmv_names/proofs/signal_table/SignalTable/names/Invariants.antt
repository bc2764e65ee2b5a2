use Rattle.std.proofs.Common.{◌≡◌, take}
use Rattle.blifmv_names.specs.Signals.{variables_of}
use Rattle.blifmv_names.proofs.signal_table.SignalTable.names.Given as goal

abbrev pub invariant-loop-place : goal.invariant-loop-place
invariant-loop-place l = l.names ≡ take l.place (variables_of l.self)
