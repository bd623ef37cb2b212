use Rattle.std.proofs.Common.{◌≡◌, Some, ap, ◌∙◌}
use Rattle.site_serve.specs.Answered.{IsPlaceAfter}
use Rattle.site_serve.proofs.Seating.{none_there, others_stay, seat_found}
use Rattle.site_serve.proofs.places.Places.take_reply.Goals as goal

pub returns-in_default-clause-own : goal.returns-in_default-clause-own
returns-in_default-clause-own g c session is same =
    none_there c.args.self.now.sessions.items c.args.reply.place session _ c.in_default.ensures.item.3 is

pub returns-then-not-leaves_with-clause-others : goal.returns-then-not-leaves_with-clause-others
returns-then-not-leaves_with-clause-others g c other apart = others_stay c.args.self.now.sessions.items c.args.reply.place other c.leaves_with.new.slot apart

pub returns-then-not-leaves_with-clause-strangers : goal.returns-then-not-leaves_with-clause-strangers
returns-then-not-leaves_with-clause-strangers g c session is differs =
    let kept = seat_found c.args.self.now.sessions.items c.args.reply.place c.in-Some.slot.now c.leaves_with.new.slot session
    (λ seat. seat ≡ Some session) c.in-Some.ensures.item.0 c.in-Some.ensures.value is
    (λ has. c.leaves_with.ensures.strangers session has differs) in
    kept.1 ∙ ap Some kept.2

pub returns-then-not-leaves_with-clause-own : goal.returns-then-not-leaves_with-clause-own
returns-then-not-leaves_with-clause-own g c session is same =
    seat_found c.args.self.now.sessions.items c.args.reply.place c.in-Some.slot.now c.leaves_with.new.slot session
    (IsPlaceAfter c.args.reply.work session) c.in-Some.ensures.item.0
    c.in-Some.ensures.value is (λ has. c.leaves_with.ensures.own session has same)

pub returns-clause-others : goal.returns-clause-others
returns-clause-others g c other apart = others_stay c.args.self.now.sessions.items c.args.reply.place other c.leaves_with.new.slot apart

pub returns-clause-strangers : goal.returns-clause-strangers
returns-clause-strangers g c session is differs =
    let kept = seat_found c.args.self.now.sessions.items c.args.reply.place c.in-Some.slot.now c.leaves_with.new.slot session
    (λ seat. seat ≡ Some session) c.in-Some.ensures.item.0 c.in-Some.ensures.value is
    (λ has. c.leaves_with.ensures.strangers session has differs) in
    kept.1 ∙ ap Some kept.2

pub returns-clause-own : goal.returns-clause-own
returns-clause-own g c session is same =
    seat_found c.args.self.now.sessions.items c.args.reply.place c.in-Some.slot.now c.leaves_with.new.slot session
    (IsPlaceAfter c.args.reply.work session) c.in-Some.ensures.item.0
    c.in-Some.ensures.value is (λ has. c.leaves_with.ensures.own session has same)
