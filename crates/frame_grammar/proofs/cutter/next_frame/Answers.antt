-- What stands at the front is the first payload of the cut, behind a head and as a line.
use Rattle.std.proofs.Common.{◌≡◌, ap, sym, ◌∙◌}
use Rattle.span_seq.specs.Sequence.{bytes}
use Rattle.frame_model.specs.declared.framing.Framing.{Framing}
use Rattle.frame_model.specs.Cut.{front}
use Rattle.frame_model.proofs.HeadLemmas.{none_is_line}
use Rattle.frame_grammar.specs.Answers.{answer_on}
use Rattle.frame_grammar.proofs.AnswerLemmas.{first_is, told, bad, short}
use Rattle.frame_grammar.proofs.cutter.next_frame.Goals as goal

pub returns-in-Some-clause-told : goal.returns-in-Some-clause-told
returns-in-Some-clause-told g c =
    rw (c.behind_head.ensures c.args.framing (sym c.in-Some.ensures)) (told c.args.framing c.args.max (bytes c.args.seq.now) c.args.at_end)

pub returns-in-Some-clause-bad : goal.returns-in-Some-clause-bad
returns-in-Some-clause-bad g c =
    rw (c.behind_head.ensures c.args.framing (sym c.in-Some.ensures)) (bad c.args.framing c.args.max (bytes c.args.seq.now) c.args.at_end)

pub returns-in-Some-clause-short : goal.returns-in-Some-clause-short
returns-in-Some-clause-short g c =
    λ e. short c.args.framing c.args.max (bytes c.args.seq.now) c.args.at_end (sym (c.behind_head.ensures c.args.framing (sym c.in-Some.ensures)) ∙ e)

pub returns-in-None-clause-first : goal.returns-in-None-clause-first
returns-in-None-clause-first g c =
    let x = bytes c.args.seq.now in
    let is = none_is_line c.args.framing x (sym c.in-None.ensures) in
    c.line.ensures.answer ∙ ap (λ (f : Framing). answer_on f x c.args.at_end (front f c.args.max x)) (sym is) ∙ sym (first_is c.args.framing c.args.max x c.args.at_end)

pub returns-in-None-clause-told : goal.returns-in-None-clause-told
returns-in-None-clause-told g c =
    let x = bytes c.args.seq.now in
    let is = none_is_line c.args.framing x (sym c.in-None.ensures) in
    let answer : c.line.result ≡ answer_on c.args.framing x c.args.at_end (front c.args.framing c.args.max x) =
    c.line.ensures.answer ∙ ap (λ (f : Framing). answer_on f x c.args.at_end (front f c.args.max x)) (sym is) in
    rw answer (told c.args.framing c.args.max x c.args.at_end)

pub returns-in-None-clause-bad : goal.returns-in-None-clause-bad
returns-in-None-clause-bad g c =
    let x = bytes c.args.seq.now in
    let is = none_is_line c.args.framing x (sym c.in-None.ensures) in
    let answer : c.line.result ≡ answer_on c.args.framing x c.args.at_end (front c.args.framing c.args.max x) =
    c.line.ensures.answer ∙ ap (λ (f : Framing). answer_on f x c.args.at_end (front f c.args.max x)) (sym is) in
    rw answer (bad c.args.framing c.args.max x c.args.at_end)
