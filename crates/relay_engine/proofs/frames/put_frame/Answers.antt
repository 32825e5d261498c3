-- A frame is its head, its payload and its tail.
use Rattle.std.proofs.Common.{length, ◌++◌}
use Rattle.frame_model.specs.Spelling.{head_of, tail_of}
use Rattle.span_seq.specs.Sequence.{bytes}
use Rattle.relay_engine.proofs.GatherLemmas.{front_before, front_last, on_err, puts_more}
use Rattle.relay_engine.proofs.frames.put_frame.Goals as goal

pub returns-in_err-put-clause-failed : goal.returns-in_err-put-clause-failed
returns-in_err-put-clause-failed g c =
    let p = bytes c.args.payload.now in
    let head = rw (c.bytes.ensures.bytes, c.spell_head.ensures, c.len.ensures.len) at c.in_err-put.ensures.failed in
    on_err c.from_residual.result (front_before _ _ _ _ (head_of c.args.framing (length p) ++ p) (tail_of c.args.framing) (front_before _ _ _ _ (head_of c.args.framing (length p)) p head))

pub returns-in_err-put_spans-clause-failed : goal.returns-in_err-put_spans-clause-failed
returns-in_err-put_spans-clause-failed g c =
    let p = bytes c.args.payload.now in
    let head = rw (c.bytes.ensures.bytes, c.spell_head.ensures, c.len.ensures.len) at c.in_ok-put.ensures.put in
    on_err c.from_residual-in_err-put_spans.result (front_before _ _ _ _ (head_of c.args.framing (length p) ++ p) (tail_of c.args.framing) (front_last _ _ _ _ _ _ (head_of c.args.framing (length p)) p head c.in_err-put_spans.ensures.failed))

pub returns-in_err-put-2-clause-failed : goal.returns-in_err-put-2-clause-failed
returns-in_err-put-2-clause-failed g c =
    let p = bytes c.args.payload.now in
    let head = rw (c.bytes.ensures.bytes, c.spell_head.ensures, c.len.ensures.len) at c.in_ok-put.ensures.put in
    let tail = rw (c.bytes-2.ensures.bytes, c.spell_tail.ensures) at c.in_err-put-2.ensures.failed in
    on_err c.from_residual-in_err-put-2.result (front_last _ _ _ _ _ _ (head_of c.args.framing (length p) ++ p) (tail_of c.args.framing) (puts_more _ _ _ _ _ _ (head_of c.args.framing (length p)) p head c.in_ok-put_spans.ensures.put) tail)

pub returns-clause-put : goal.returns-clause-put
returns-clause-put g c =
    let p = bytes c.args.payload.now in
    let head = rw (c.bytes.ensures.bytes, c.spell_head.ensures, c.len.ensures.len) at c.in_ok-put.ensures.put in
    let tail = rw (c.bytes-2.ensures.bytes, c.spell_tail.ensures) at c.in_ok-put-2.ensures.put in
    puts_more _ _ _ _ _ _ (head_of c.args.framing (length p) ++ p) (tail_of c.args.framing) (puts_more _ _ _ _ _ _ (head_of c.args.framing (length p)) p head c.in_ok-put_spans.ensures.put) tail
