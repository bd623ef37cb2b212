use Rattle.commands.proofs.item.standing_of.Goals as goal

pub standing_in-requires-clause-there : goal.standing_in-requires-clause-there
standing_in-requires-clause-there c = λ waits.
    (c.in-Ok.ensures.out c.in-Some.item).1 (c.in-Some.ensures.there, λ ready. waits ((c.in-Ok.ensures.ready c.in-Some.item).1 ready))
