use Rattle.relay_engine.proofs.lines.tell.Goals as goal

pub returns-in-Usage : goal.returns-in-Usage
returns-in-Usage g c = rw c.in-Usage.is (record { told = c.tell_number.ensures })

pub returns-in-Memory : goal.returns-in-Memory
returns-in-Memory g c = rw c.in-Memory.is (record { told = c.write_pieces.ensures })
