use Rattle.std.proofs.Common.{refl, sym, ◌∙◌}
use Rattle.pipe_state.proofs.inbox.Inbox.renew.Goals as goal
use Rattle.pipe_state.proofs.InboxLemmas.{has_room, is_renewed, renewed_none, renewed_of}

pub append-requires : goal.append-requires
append-requires c =
    let is = renewed_of c.args.self.now.arrivals.items c.in-Some.field-0 c.in-Some.front c.args.mark c.args.end (sym c.pop_back.ensures.value ∙ c.in-Some.is) c.in-Some.front-is in
    record { room = has_room c.args.self.now.arrivals.items _ _ c.pop_back.new.self c.args.self.now.arrivals.capacity is c.requires.room c.pop_back.ensures.items }

pub append-requires-in-None : goal.append-requires-in-None
append-requires-in-None c =
    let is = renewed_none c.args.self.now.arrivals.items c.args.mark c.args.end (sym c.pop_back.ensures.value ∙ c.in-None.is) in
    record { room = has_room c.args.self.now.arrivals.items _ _ c.pop_back.new.self c.args.self.now.arrivals.capacity is c.requires.room c.pop_back.ensures.items }

pub returns-in-Some : goal.returns-in-Some
returns-in-Some c =
    let is = renewed_of c.args.self.now.arrivals.items c.in-Some.field-0 c.in-Some.field-0.front c.args.mark c.args.end (sym c.pop_back.ensures.value ∙ c.in-Some.is) refl in
    is_renewed c.args.self.now.arrivals.items _ _ c.pop_back.new.self c.append.new.self.arrivals c.args.self.now.arrivals.capacity is c.pop_back.ensures.items c.append.ensures

pub returns : goal.returns
returns c =
    let is = renewed_none c.args.self.now.arrivals.items c.args.mark c.args.end (sym c.pop_back.ensures.value ∙ c.in-None.is) in
    is_renewed c.args.self.now.arrivals.items _ _ c.pop_back.new.self c.append-in-None.new.self.arrivals c.args.self.now.arrivals.capacity is c.pop_back.ensures.items c.append-in-None.ensures
