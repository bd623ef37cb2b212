use Rattle.watch_core.proofs.Local.{rank_same, ready_along, refused_along, turned}
use Rattle.watch_core.proofs.laws.verdicts_are_local.Goals as goal

pub returns-clause-ready : goal.returns-clause-ready
returns-clause-ready c = λ gate before after part untouched item here.
    let back = turned gate before after part untouched in
    (ready_along gate before after part untouched back item here, ready_along gate after before part back untouched item here)

pub returns-clause-refused : goal.returns-clause-refused
returns-clause-refused c = λ gate before after part untouched item here refusal rank.
    let back = turned gate before after part untouched in
    (refused_along gate before after part untouched back item here refusal rank, refused_along gate after before part back untouched item here refusal rank)

pub returns-clause-ranked : goal.returns-clause-ranked
returns-clause-ranked c = λ gate before after part untouched rank here.
    let back = turned gate before after part untouched in
    (rank_same gate before after part untouched back rank here, rank_same gate after before part back untouched rank here)
