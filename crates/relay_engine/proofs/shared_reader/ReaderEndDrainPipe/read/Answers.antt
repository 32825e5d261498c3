use Rattle.std.proofs.Common.{refl}
use Rattle.relay_engine.proofs.ReaderEndLemmas.{has_heard, has_read}
use Rattle.relay_engine.proofs.LaterLemmas.{makes_spends}
use Rattle.relay_engine.proofs.shared_reader.ReaderEndDrainPipe.read.Goals as goal

pub returns-in-Ok-clause-at : goal.returns-in-Ok-clause-at
returns-in-Ok-clause-at c h at =
    has_read _ c.in-Ok.reply _ c.args.self.now c.try_read.new.r h (c.others_are_heard_first.ensures.made 1 _ _ _ _ _ c.reader_has_its_seat.ensures c.in-Ok.ensures.made) at

pub returns-in-Err-clause-heard : goal.returns-in-Err-clause-heard
returns-in-Err-clause-heard c h at =
    has_heard c.in-Err.fault c.args.self.now c.try_read.new.r h (c.others_are_heard_first.ensures.refused 1 _ _ _ c.reader_has_its_seat.ensures c.in-Err.ensures.refused) c.in-Err.ensures.refused at

pub returns-in-Ok-clause-tally : goal.returns-in-Ok-clause-tally
returns-in-Ok-clause-tally c = makes_spends _ _ _ _ _ _ refl c.in-Ok.ensures.made
