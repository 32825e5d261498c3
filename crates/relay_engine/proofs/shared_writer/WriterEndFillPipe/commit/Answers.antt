-- What the end has called, or heard.
use Rattle.std.proofs.Common.{refl}
use Rattle.relay_engine.proofs.LaterLemmas.{makes_spends}
use Rattle.relay_engine.proofs.WriterEndLemmas.{called, heard, never_too_much}
use Rattle.relay_engine.proofs.shared_writer.WriterEndFillPipe.commit.Goals as goal

pub unreachable-requires : goal.unreachable-requires
unreachable-requires c =
    let finds = rw c.in-Err-TooMuch.field-0-is at c.in-Err-TooMuch.ensures.refused in
    never_too_much _ _ c.args.self.now c.try_flush.new.w (c.others_are_heard_first.ensures.won 0 _ _ c.writer_has_its_seat.ensures finds.wins) finds c.requires.total

pub returns-in-Ok-clause-at : goal.returns-in-Ok-clause-at
returns-in-Ok-clause-at c = called _ _ _ _ _ c.args.self.now c.try_flush.new.w (c.others_are_heard_first.ensures.made 0 _ _ _ _ _ c.writer_has_its_seat.ensures c.in-Ok.ensures.made) c.in-Ok.reply-is

pub returns-in-Err-Worn-clause-heard : goal.returns-in-Err-Worn-clause-heard
returns-in-Err-Worn-clause-heard c =
    let finds = rw c.in-Err-Worn.field-0-is at c.in-Err-Worn.ensures.refused in
    heard c.args.self.now c.try_flush.new.w (c.others_are_heard_first.ensures.won 0 _ _ c.writer_has_its_seat.ensures finds.wins) finds.wins.lawful.legal

pub returns-in-Ok-clause-tally : goal.returns-in-Ok-clause-tally
returns-in-Ok-clause-tally c = makes_spends _ _ _ _ _ _ refl c.in-Ok.ensures.made
