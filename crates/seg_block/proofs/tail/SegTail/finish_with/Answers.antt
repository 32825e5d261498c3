use Rattle.std.proofs.Common.{◌≡◌, ℕ, arith}
use Rattle.seg_block.proofs.Prefixes.{heads_agree}
use Rattle.seg_block.proofs.tail.SegTail.finish_with.Goals as goal

pub unreachable-requires : goal.unreachable-requires
unreachable-requires c =
    let same : Path ℕ 1 0 = heads_agree _ _ 1 0 c.args.note.first c.in-Note.field-0.first c.in-Note.ensures.note in absurd (omega arith)
