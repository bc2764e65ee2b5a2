use Rattle.fault_lines.proofs.stop.tell_names.Goals as goal

pub returns-in-UnknownName : goal.returns-in-UnknownName
returns-in-UnknownName g c = rw c.in-UnknownName.is (rw c.deref.ensures.value at c.tell_name.ensures)

pub returns-in-RepeatedName : goal.returns-in-RepeatedName
returns-in-RepeatedName g c = rw c.in-RepeatedName.is (rw c.deref-in-RepeatedName.ensures.value at c.tell_name-in-RepeatedName.ensures)

pub returns-in-InBoth : goal.returns-in-InBoth
returns-in-InBoth g c = rw c.in-InBoth.is (rw c.deref-in-InBoth.ensures.value at c.tell_name-in-InBoth.ensures)

pub returns-in-ReservedName : goal.returns-in-ReservedName
returns-in-ReservedName g c = rw c.in-ReservedName.is (rw c.deref-in-ReservedName.ensures.value at c.tell_name-in-ReservedName.ensures)

pub returns-in-DomainDiffers : goal.returns-in-DomainDiffers
returns-in-DomainDiffers g c = rw c.in-DomainDiffers.is (rw c.deref-in-DomainDiffers.ensures.value at c.tell_name-in-DomainDiffers.ensures)

pub returns-in-LettersDiffer : goal.returns-in-LettersDiffer
returns-in-LettersDiffer g c = rw c.in-LettersDiffer.is (rw c.deref-in-LettersDiffer.ensures.value at c.tell_name-in-LettersDiffer.ensures)

pub returns-in-NotOneVariable : goal.returns-in-NotOneVariable
returns-in-NotOneVariable g c = rw c.in-NotOneVariable.is (rw c.slot_name.ensures at c.tell_name-in-NotOneVariable.ensures)

pub returns-in-Memory : goal.returns-in-Memory
returns-in-Memory g c = rw c.in-Memory.is c.tell.ensures
