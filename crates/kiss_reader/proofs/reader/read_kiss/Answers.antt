use Rattle.std.proofs.Common.{[], Err}
use Rattle.lex_core.specs.LogicalLines.{logical_lines}
use Rattle.net_model.specs.declared.machine.Machine as declared_machine
use Rattle.kiss_reader.specs.KissFaults.{kiss_fault}
use Rattle.kiss_reader.specs.Above.{nothing_above, fault_from}
use Rattle.kiss_reader.proofs.Agreeing.{finds_same}
use Rattle.kiss_reader.proofs.Reading.{known_read, machine_found, machine_stands, machine_only, machine_sound, form_found}
use Rattle.kiss_reader.proofs.reader.read_kiss.Goals as goal

pub machine_behind-requires-clause-small : goal.machine_behind-requires-clause-small
machine_behind-requires-clause-small c = (known_read c.args.bytes.now c.in-Ok.read c.in_default.ensures.none c.in-Ok.ensures.fault c.in-Ok.ensures.read).small

pub returns-in-Ok-clause-stands : goal.returns-in-Ok-clause-stands
returns-in-Ok-clause-stands c =
    machine_stands c.args.bytes.now c.in-Ok.read (known_read c.args.bytes.now c.in-Ok.read c.in_default.ensures.none c.in-Ok.ensures.fault c.in-Ok.ensures.read)
    c.machine_behind.result c.machine_behind.ensures.fault c.machine_behind.ensures.machine

pub returns-in-Ok-clause-only : goal.returns-in-Ok-clause-only
returns-in-Ok-clause-only c =
    machine_only c.args.bytes.now c.in-Ok.read (known_read c.args.bytes.now c.in-Ok.read c.in_default.ensures.none c.in-Ok.ensures.fault c.in-Ok.ensures.read)
    c.machine_behind.result c.machine_behind.ensures.fault c.machine_behind.ensures.machine

pub returns-in-Ok-clause-sound : goal.returns-in-Ok-clause-sound
returns-in-Ok-clause-sound c =
    machine_sound c.args.bytes.now c.in-Ok.read (known_read c.args.bytes.now c.in-Ok.read c.in_default.ensures.none c.in-Ok.ensures.fault c.in-Ok.ensures.read)
    c.machine_behind.result c.machine_behind.ensures.fault c.machine_behind.ensures.machine

pub returns-in-Ok-clause-fault : goal.returns-in-Ok-clause-fault
returns-in-Ok-clause-fault c =
    machine_found c.args.bytes.now c.in-Ok.read (known_read c.args.bytes.now c.in-Ok.read c.in_default.ensures.none c.in-Ok.ensures.fault c.in-Ok.ensures.read)
    c.machine_behind.result c.machine_behind.ensures.fault

pub returns-in-Err-clause-fault : goal.returns-in-Err-clause-fault
returns-in-Err-clause-fault c =
    finds_same {U = declared_machine.Machine} c.read_lines.result (Err c.in-Err.fault) c.in-Err.fault
    (fault_from nothing_above [] [] (logical_lines c.args.bytes.now)) (kiss_fault c.args.bytes.now) c.in-Err.ensures.fault
    (λ n kind is. form_found c.args.bytes.now n kind c.in_default.ensures.none is)
