use Rattle.fault_lines.proofs.stop.Stop.tell.Goals as goal

pub returns-in-Unreadable : goal.returns-in-Unreadable
returns-in-Unreadable g c = rw c.in-Unreadable.is (rw c.as_bytes.ensures.value at c.tell-in-Unreadable.ensures)

pub returns-in-TooLong : goal.returns-in-TooLong
returns-in-TooLong g c = rw c.in-TooLong.is (rw c.as_bytes-in-TooLong.ensures.value at c.tell-in-TooLong.ensures)

pub returns-in-Memory : goal.returns-in-Memory
returns-in-Memory g c = rw c.in-Memory.is c.tell-in-Memory.ensures
