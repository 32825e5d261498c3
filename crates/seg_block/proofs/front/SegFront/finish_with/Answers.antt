use Rattle.std.proofs.Common.{◌≡◌, ℕ, arith}
use Rattle.seg_block.proofs.Prefixes.{heads_agree}
use Rattle.seg_block.proofs.front.SegFront.finish_with.Goals as goal

pub unreachable-requires : goal.unreachable-requires
unreachable-requires c =
    let same : Path ℕ 0 1 = heads_agree _ _ 0 1 c.args.note.first c.in-Early.field-0.first c.in-Early.ensures.early in absurd (omega arith)
