use Rattle.relay_engine.proofs.lines.tell_report.Goals as goal

pub returns-in-BadFrame : goal.returns-in-BadFrame
returns-in-BadFrame g c = rw c.in-BadFrame.is c.tell_bad_frame.ensures

pub returns-in-Truncated : goal.returns-in-Truncated
returns-in-Truncated g c = rw c.in-Truncated.is c.tell_number.ensures

pub returns-in-ReadFault : goal.returns-in-ReadFault
returns-in-ReadFault g c = rw c.in-ReadFault.is c.tell_number-in-ReadFault.ensures

pub returns-in-WriteFault : goal.returns-in-WriteFault
returns-in-WriteFault g c = rw c.in-WriteFault.is c.tell_number-in-WriteFault.ensures
