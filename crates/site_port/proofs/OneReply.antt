-- What a plain site gives to a call that only looks is one reply.
use Rattle.std.proofs.Common.{◌≡◌, List, length, take, refl, sym, ap, ◌∙◌}
use Rattle.std.specs.Prelude.{nat_lt}
use Rattle.gate_rules.specs.Rules.{GateRules}
use Rattle.ready_core.specs.Verdicts.{AreVerdicts, Judged}
use Rattle.replica_core.specs.Front.{Reaches}
use Rattle.replica_core.specs.FrontLaws.{IsMissing-unique}
use Rattle.replica_core.specs.Missing.{IsMissing}
use Rattle.review_ops.specs.Operation.{Operation}
use Rattle.state_core.specs.State.{State, state_of}
use Rattle.site_port.specs.OwnSite.{OwnGives, OwnState}
use Rattle.site_port.specs.Ports.{Call, Reply, takes_in, lacks, reports, looks, stamped, lacked, judged, looked}
use Rattle.site_port.specs.Ports.{refused, IsGiven, IsLook}

gives_lacked : (old new : OwnState) (front : Reaches) (reply : Reply) → IsGiven reply
    → OwnGives old (lacks front) reply new
    → (all : List Operation) × IsMissing old.journal front all
    × (reply ≡ lacked (take 256 all) (nat_lt 256 (length all))) × (new ≡ old)
gives_lacked old new front (lacked ops more) given h = (h.0.0, h.0.1, (λ i. lacked (h.0.2 i) (h.0.3 i)), h.1)
gives_lacked old new front (stamped stamp) given h = absurd h
gives_lacked old new front (judged verdicts) given h = absurd h
gives_lacked old new front (looked journal) given h = absurd h
gives_lacked old new front (refused fault) given h = absurd given

gives_judged : (old new : OwnState) (reply : Reply) → IsGiven reply → OwnGives old reports reply new
    → (verdicts : Judged) × AreVerdicts old.gate (state_of old.journal) verdicts × (reply ≡ judged verdicts)
    × (new ≡ old)
gives_judged old new (judged verdicts) given h = (verdicts, h.0, refl, h.1)
gives_judged old new (lacked ops more) given h = absurd h
gives_judged old new (stamped stamp) given h = absurd h
gives_judged old new (looked journal) given h = absurd h
gives_judged old new (refused fault) given h = absurd given

gives_looked : (old new : OwnState) (reply : Reply) → IsGiven reply → OwnGives old looks reply new
    → (reply ≡ looked old.journal) × (new ≡ old)
gives_looked old new (looked journal) given h = (ap looked h.0, h.1)
gives_looked old new (judged verdicts) given h = absurd h
gives_looked old new (lacked ops more) given h = absurd h
gives_looked old new (stamped stamp) given h = absurd h
gives_looked old new (refused fault) given h = absurd given

pub one_reply : ((gate : GateRules) → (state : State) → (a b : Judged) → AreVerdicts gate state a → AreVerdicts gate state b → a ≡ b)
    → (old new other : OwnState) (call : Call) (reply again : Reply) → IsLook call → IsGiven reply → IsGiven again
    → OwnGives old call reply new → OwnGives old call again other → (reply ≡ again) × (new ≡ old) × (other ≡ old)
one_reply unique old new other (takes_in deed) reply again look given given_again h k = absurd look
one_reply unique old new other (lacks front) reply again look given given_again h k =
    let first = gives_lacked old new front reply given h in
    let second = gives_lacked old other front again given_again k in
    let same = IsMissing-unique old.journal front first.0 second.0 first.1 second.1 in
    (first.2 ∙ ap (λ all. lacked (take 256 all) (nat_lt 256 (length all))) same ∙ sym second.2, first.3, second.3)
one_reply unique old new other reports reply again look given given_again h k =
    let first = gives_judged old new reply given h in
    let second = gives_judged old other again given_again k in
    (first.2 ∙ ap judged (unique old.gate (state_of old.journal) first.0 second.0 first.1 second.1) ∙ sym second.2, first.3, second.3)
one_reply unique old new other looks reply again look given given_again h k =
    let first = gives_looked old new reply given h in
    let second = gives_looked old other again given_again k in
    (first.0 ∙ sym second.0, first.1, second.1)
