use Rattle.std.proofs.Common.{sym, ap, subst, ◌∙◌}
use Rattle.pipe_state.specs.Fetched.{AllFit, arrive, put}
use Rattle.pipe_state.proofs.inbox.Inbox.put.Goals as goal
use Rattle.pipe_state.proofs.InboxLemmas.{puts}

pub returns-in-Some-clause-fit : goal.returns-in-Some-clause-fit
returns-in-Some-clause-fit c fetched fit fits =
    let is = ap (λ b. b.items) c.append.ensures ∙ ap (λ f. put c.args.self.now.arrivals.items f c.args.mark c.args.end) (sym c.in-Some.is) in
    subst (AllFit fetched) (sym is) (puts fetched c.args.self.now.arrivals.items c.args.front c.args.mark c.args.end fit fits).fit

pub returns-in-Some-clause-fetched : goal.returns-in-Some-clause-fetched
returns-in-Some-clause-fetched c fetched fit fits =
    let is = ap (λ b. b.items) c.append.ensures ∙ ap (λ f. put c.args.self.now.arrivals.items f c.args.mark c.args.end) (sym c.in-Some.is) in
    ap (arrive fetched) is ∙ (puts fetched c.args.self.now.arrivals.items c.args.front c.args.mark c.args.end fit fits).then

pub returns-in-None-clause-fit : goal.returns-in-None-clause-fit
returns-in-None-clause-fit c fetched fit fits =
    let is = ap (λ b. b.items) c.renew.ensures ∙ ap (λ f. put c.args.self.now.arrivals.items f c.args.mark c.args.end) (sym c.in-None.is) in
    subst (AllFit fetched) (sym is) (puts fetched c.args.self.now.arrivals.items c.args.front c.args.mark c.args.end fit fits).fit

pub returns-in-None-clause-fetched : goal.returns-in-None-clause-fetched
returns-in-None-clause-fetched c fetched fit fits =
    let is = ap (λ b. b.items) c.renew.ensures ∙ ap (λ f. put c.args.self.now.arrivals.items f c.args.mark c.args.end) (sym c.in-None.is) in
    ap (arrive fetched) is ∙ (puts fetched c.args.self.now.arrivals.items c.args.front c.args.mark c.args.end fit fits).then
