-- Each read of the source was due, and the last one may have failed.
use Rattle.std.proofs.Common.{◌≡◌, false, refl, sym, subst, ◌∙◌, IsNone}
use Rattle.stream_ends.proofs.ReaderLemmas.{fills_none, fills_more, refused}
use Rattle.stream_ends.proofs.reader.StreamReader.read_for.Goals as goal

pub loop-self-init : goal.loop-self-init
loop-self-init g c = record { lend = c.requires.no_lend; capacity = refl; faults = refl; fills = λ first h stands. fills_none first c.args.n c.args.self.now h stands }

pub returns-in-Err-clause-reads : goal.returns-in-Err-clause-reads
returns-in-Err-clause-reads g c first h stands =
    let r = c.loop-self.self in
    let i = c.loop-self.invariant in
    let unready : c.is_ready.result ≡ false = cc in
    refused first c.args.n c.args.self.now r c.fill.new.self h c.in-Err.fault i.capacity (i.fills first h stands)
    (λ g st. c.in-Err.ensures.fills first c.args.n g st (sym (c.is_ready.ensures.told g st.holds) ∙ unready))

pub loop-self-preserved : goal.loop-self-preserved
loop-self-preserved g c =
    let r = c.loop-self.self in
    let i = c.loop-self.invariant in
    let e = c.in-Ok.ensures in
    let unready : c.is_ready.result ≡ false = cc in
    record {
      lend = subst IsNone (sym e.lend) i.lend;
      capacity = e.capacity ∙ i.capacity;
      faults = e.unfailed ∙ i.faults;
      fills = λ first h stands. fills_more first c.args.n c.args.self.now r c.fill.new.self h i.capacity (i.fills first h stands)
          (λ g st. e.fills first c.args.n g st (sym (c.is_ready.ensures.told g st.holds) ∙ unready));
    }
