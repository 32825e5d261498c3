use Rattle.std.proofs.Common.{◌≡◌, ◌++◌, length, ap, sym, subst, ◌∙◌, arith}
use Rattle.pipe_state.specs.Released.{block_in}
use Rattle.pipe_state.specs.Segments.{AreSized}
use Rattle.pipe_state.specs.Writing.{IsWriting, TakesNext, WritingState}
use Rattle.pipe_state.specs.Current.{drafts_in, free_in, list_of}
use Rattle.pipe_state.specs.declared.current.Current.{Current}
use Rattle.pipe_state.proofs.TakingLemmas.{Found, aside_fills, aside_first, untaken_fills}
use Rattle.pipe_state.proofs.writing.Writing.take_next.Goals as goal

pub set_aside-requires-clause-first : goal.set_aside-requires-clause-first
set_aside-requires-clause-first c parts-of none =
    let w = c.self.inside in
    let e : w.current ≡ Current.Filling c.in-Filling.before = sym c.replace.ensures.value ∙ c.in-Filling.is in
    let size = ap (λ v. v.size) c.self.view_is in let count = ap (λ v. v.count) c.self.view_is in let free = ap (λ v. length v.free) c.self.view_is in
    let asked = c.requires.short in let fits = c.requires.fits in let spare = c.room-free.ensures.spare in let parts = c.room-free.ensures.size in let blocks = c.requires.count in
    let found : Found w.left (Current.Filling c.in-Filling.before) w.drafted w.count w.size c.args.hint w.half.value c.args.segments.now c.take.new.self c.in-Some.next =
    subst (λ cur. Found w.left cur w.drafted w.count w.size c.args.hint w.half.value c.args.segments.now c.take.new.self c.in-Some.next) e (record {
      writing = c.self.invariant;
      same = c.take.ensures.same;
      order = c.order.ensures;
      later = c.order-in-Some.ensures;
      starts = c.in-Some.ensures.some.0;
      taken = c.in-Some.ensures.some.1;
      sizes = subst (λ n. AreSized n c.args.segments.now.blocks) (sym size) c.requires.sizes;
      count_is = blocks ∙ sym count;
      short = omega arith;
      fits = omega arith;
      parts = omega arith;
    }) in
    aside_first w.left c.in-Filling.before c.in-Some.next w.drafted w.count w.size c.args.hint w.half.value c.take.new.half.value c.args.segments.now c.take.new.self found c.take.ensures.half parts-of none

pub invariant_of-self : goal.invariant_of-self
invariant_of-self c =
    let w = c.self.inside in
    let e : w.current ≡ Current.Filling c.in-Filling.before = sym c.replace.ensures.value ∙ c.in-Filling.is in
    let size = ap (λ v. v.size) c.self.view_is in let count = ap (λ v. v.count) c.self.view_is in let free = ap (λ v. length v.free) c.self.view_is in
    let asked = c.requires.short in let fits = c.requires.fits in let spare = c.room-free.ensures.spare in let parts = c.room-free.ensures.size in let blocks = c.requires.count in
    let found : Found w.left (Current.Filling c.in-Filling.before) w.drafted w.count w.size c.args.hint w.half.value c.args.segments.now c.take.new.self c.in-Some.next =
    subst (λ cur. Found w.left cur w.drafted w.count w.size c.args.hint w.half.value c.args.segments.now c.take.new.self c.in-Some.next) e (record {
      writing = c.self.invariant;
      same = c.take.ensures.same;
      order = c.order.ensures;
      later = c.order-in-Some.ensures;
      starts = c.in-Some.ensures.some.0;
      taken = c.in-Some.ensures.some.1;
      sizes = subst (λ n. AreSized n c.args.segments.now.blocks) (sym size) c.requires.sizes;
      count_is = blocks ∙ sym count;
      short = omega arith;
      fits = omega arith;
      parts = omega arith;
    }) in
    let fills = aside_fills w.left c.set_aside.new.left c.in-Filling.before c.in-Some.next w.drafted w.count w.size c.args.hint w.half.value c.take.new.half.value c.set_aside.new.half.value
    c.args.segments.now c.take.new.self c.set_aside.new.segments found c.take.ensures.half c.set_aside.ensures.size c.set_aside.ensures.aside in
    subst (λ cur. IsWriting c.set_aside.new.left cur w.drafted w.count w.size c.set_aside.new.half.value) (sym c.replace.ensures.after) fills.writing

pub returns-in-Filling-clause-taken : goal.returns-in-Filling-clause-taken
returns-in-Filling-clause-taken c =
    let w = c.self.inside in
    let e : w.current ≡ Current.Filling c.in-Filling.before = sym c.replace.ensures.value ∙ c.in-Filling.is in
    let size = ap (λ v. v.size) c.self.view_is in let count = ap (λ v. v.count) c.self.view_is in let free = ap (λ v. length v.free) c.self.view_is in
    let asked = c.requires.short in let fits = c.requires.fits in let spare = c.room-free.ensures.spare in let parts = c.room-free.ensures.size in let blocks = c.requires.count in
    let found : Found w.left (Current.Filling c.in-Filling.before) w.drafted w.count w.size c.args.hint w.half.value c.args.segments.now c.take.new.self c.in-Some.next =
    subst (λ cur. Found w.left cur w.drafted w.count w.size c.args.hint w.half.value c.args.segments.now c.take.new.self c.in-Some.next) e (record {
      writing = c.self.invariant;
      same = c.take.ensures.same;
      order = c.order.ensures;
      later = c.order-in-Some.ensures;
      starts = c.in-Some.ensures.some.0;
      taken = c.in-Some.ensures.some.1;
      sizes = subst (λ n. AreSized n c.args.segments.now.blocks) (sym size) c.requires.sizes;
      count_is = blocks ∙ sym count;
      short = omega arith;
      fits = omega arith;
      parts = omega arith;
    }) in
    let fills = aside_fills w.left c.set_aside.new.left c.in-Filling.before c.in-Some.next w.drafted w.count w.size c.args.hint w.half.value c.take.new.half.value c.set_aside.new.half.value
    c.args.segments.now c.take.new.self c.set_aside.new.segments found c.take.ensures.half c.set_aside.ensures.size c.set_aside.ensures.aside in
    let after : WritingState = record { draft = drafts_in (c.set_aside.new.left.items ++ list_of c.replace.new.dest); free = free_in c.replace.new.dest; has = c.set_aside.new.half.value; name = c.set_aside.new.half.name; count = w.count; size = w.size } in
    let dest = c.replace.ensures.after in
    let whole = fills.whole in
    let draft = ap (λ cur. drafts_in (c.set_aside.new.left.items ++ list_of cur)) dest ∙ fills.draft ∙ ap (λ cur. drafts_in (w.left.items ++ list_of cur)) (sym e) in
    let name : c.set_aside.new.half.name ≡ w.half.name = c.set_aside.ensures.name ∙ c.take.ensures.pair ∙ ap (λ t. t.writer_name) c.in-Some.ensures.some.1 ∙ sym c.requires.pair ∙ ap (λ v. v.name) (sym c.self.view_is) in
    subst (λ v. TakesNext c.args.hint c.room-free.result v c.args.segments.now after c.set_aside.new.segments) c.self.view_is (record {
      free_len = spare ∙ ap (λ cur. length (free_in cur)) (sym dest);
      whole = omega arith;
      writing = (λ i. record { draft = draft i; free = after.free; has = after.has; name = name i; count = w.count; size = w.size });
      hint_is = fills.hint_is;
      first = block_in c.in-Some.next.label;
      home = fills.home;
      runs = fills.runs;
      filled = fills.filled;
      segments = fills.segments;
    })

pub invariant_of-self-in-Untaken : goal.invariant_of-self-in-Untaken
invariant_of-self-in-Untaken c =
    let w = c.self.inside in
    let e : w.current ≡ Current.Untaken c.in-Untaken.field-0 = sym c.replace.ensures.value ∙ c.in-Untaken.is in
    let size = ap (λ v. v.size) c.self.view_is in let count = ap (λ v. v.count) c.self.view_is in let free = ap (λ v. length v.free) c.self.view_is in
    let asked = c.requires.short in let fits = c.requires.fits in let spare = c.room-free.ensures.spare in let parts = c.room-free.ensures.size in let blocks = c.requires.count in
    let found : Found w.left (Current.Untaken c.in-Untaken.field-0) w.drafted w.count w.size c.args.hint w.half.value c.args.segments.now c.take.new.self c.in-Some.next =
    subst (λ cur. Found w.left cur w.drafted w.count w.size c.args.hint w.half.value c.args.segments.now c.take.new.self c.in-Some.next) e (record {
      writing = c.self.invariant;
      same = c.take.ensures.same;
      order = c.order.ensures;
      later = c.order-in-Some.ensures;
      starts = c.in-Some.ensures.some.0;
      taken = c.in-Some.ensures.some.1;
      sizes = subst (λ n. AreSized n c.args.segments.now.blocks) (sym size) c.requires.sizes;
      count_is = blocks ∙ sym count;
      short = omega arith;
      fits = omega arith;
      parts = omega arith;
    }) in
    let fills = untaken_fills w.left c.in-Untaken.field-0 c.in-Some.next w.drafted w.count w.size c.args.hint w.half.value c.take.new.half.value c.args.segments.now c.take.new.self found c.take.ensures.half in
    subst (λ cur. IsWriting w.left cur w.drafted w.count w.size c.take.new.half.value) (sym c.replace.ensures.after) fills.writing

pub returns-in-Some-clause-taken : goal.returns-in-Some-clause-taken
returns-in-Some-clause-taken c =
    let w = c.self.inside in
    let e : w.current ≡ Current.Untaken c.in-Untaken.field-0 = sym c.replace.ensures.value ∙ c.in-Untaken.is in
    let size = ap (λ v. v.size) c.self.view_is in let count = ap (λ v. v.count) c.self.view_is in let free = ap (λ v. length v.free) c.self.view_is in
    let asked = c.requires.short in let fits = c.requires.fits in let spare = c.room-free.ensures.spare in let parts = c.room-free.ensures.size in let blocks = c.requires.count in
    let found : Found w.left (Current.Untaken c.in-Untaken.field-0) w.drafted w.count w.size c.args.hint w.half.value c.args.segments.now c.take.new.self c.in-Some.next =
    subst (λ cur. Found w.left cur w.drafted w.count w.size c.args.hint w.half.value c.args.segments.now c.take.new.self c.in-Some.next) e (record {
      writing = c.self.invariant;
      same = c.take.ensures.same;
      order = c.order.ensures;
      later = c.order-in-Some.ensures;
      starts = c.in-Some.ensures.some.0;
      taken = c.in-Some.ensures.some.1;
      sizes = subst (λ n. AreSized n c.args.segments.now.blocks) (sym size) c.requires.sizes;
      count_is = blocks ∙ sym count;
      short = omega arith;
      fits = omega arith;
      parts = omega arith;
    }) in
    let fills = untaken_fills w.left c.in-Untaken.field-0 c.in-Some.next w.drafted w.count w.size c.args.hint w.half.value c.take.new.half.value c.args.segments.now c.take.new.self found c.take.ensures.half in
    let after : WritingState = record { draft = drafts_in (w.left.items ++ list_of c.replace.new.dest); free = free_in c.replace.new.dest; has = c.take.new.half.value; name = c.take.new.half.name; count = w.count; size = w.size } in
    let dest = c.replace.ensures.after in
    let whole = fills.whole in
    let draft = ap (λ cur. drafts_in (w.left.items ++ list_of cur)) dest ∙ fills.draft ∙ ap (λ cur. drafts_in (w.left.items ++ list_of cur)) (sym e) in
    let name : c.take.new.half.name ≡ w.half.name = c.take.ensures.pair ∙ ap (λ t. t.writer_name) c.in-Some.ensures.some.1 ∙ sym c.requires.pair ∙ ap (λ v. v.name) (sym c.self.view_is) in
    subst (λ v. TakesNext c.args.hint c.room-free.result v c.args.segments.now after c.take.new.self) c.self.view_is (record {
      free_len = spare ∙ ap (λ cur. length (free_in cur)) (sym dest);
      whole = omega arith;
      writing = (λ i. record { draft = draft i; free = after.free; has = after.has; name = name i; count = w.count; size = w.size });
      hint_is = fills.hint_is;
      first = block_in c.in-Some.next.label;
      home = fills.home;
      runs = fills.runs;
      filled = fills.filled;
      segments = fills.segments;
    })
