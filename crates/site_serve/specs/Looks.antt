-- What a worker answers to a look of a session: the state at one moment that includes everything the session has seen.
use Rattle.std.specs.Prelude.{◌≡◌, ◌⊎◌, Bool, true, List, [], ℕ, Option, Result, Ok}
use Rattle.gate_rules.specs.Rules.{GateRules}
use Rattle.gossip_line.specs.Steps.{call_of}
use Rattle.gossip_line.specs.Texts.{no_memory_line, refusal_line, reply_text}
use Rattle.gossip_line.specs.declared.fault.LineFault.{LineFault}
use Rattle.replica_core.specs.JournalLaws.{IsPartOf}
use Rattle.review_ops.specs.Operation.{Operation}
use Rattle.site_port.specs.Ports.{Call, Reply}
use Rattle.site_port.specs.declared.fault.PortFault.TheVariants.{Closed}
use Rattle.gossip_line.specs.declared.step.Look.{Look}
use Rattle.site_serve.specs.Outboxes.{Adds}
use Rattle.site_serve.specs.SitePorts.{SiteGives}
use Rattle.site_serve.specs.declared.jobs.Task.{Task}
use Rattle.site_serve.specs.declared.jobs.Task.TheVariants as task
use Rattle.site_serve.specs.declared.jobs.Work.{Work}
use Rattle.site_serve.specs.declared.jobs.Work.TheVariants.{Looked}
use Rattle.site_shared.specs.Accounts.{GoesOn, Outlook}
use Rattle.site_shared.specs.Publishes.{arrive}
use Rattle.std.specs.Option.{ForSome}

-- the work is a look with this answer
abbrev pub IsLooked : (List ℕ → Result Bool LineFault → Type 0) → Work → Type 0
IsLooked Shows (Looked text answered) = Shows text.items answered
IsLooked Shows work = ⊥

-- a condition on tasks that are looks; true of all other tasks
abbrev pub IfLook : Task → (Look → Type 0) → Type 0
IfLook (task.Look look) P = P look
IfLook other P = Unit {0}

-- the site's reply is shown, at a moment that goes on from what the window had seen; or memory is refused for its text
abbrev pub ShowsReply : GateRules → Outlook → Call → Outlook → List ℕ → Result Bool LineFault → Type 0
ShowsReply gate old call new text answered =
    (reply : Reply) × SiteGives gate old call reply new
    × (((text ≡ reply_text reply) × (answered ≡ Ok true)) ⊎ Adds no_memory_line (Ok true) [] text answered)

-- the same, after the window has seen what it has to; or it can't, since the site has ended
abbrev pub LooksAfter : GateRules → Outlook → Call → (List (List Operation) → Type 0) → Outlook → List ℕ
    → Result Bool LineFault → Type 0
LooksAfter gate old call Has new text answered =
    ((mid : Outlook) × GoesOn old mid × Has mid.seen × ShowsReply gate mid call new text answered)
    ⊎ Adds (refusal_line Closed) (Ok true) [] text answered

-- the work answers a look so, after the window has seen all that was published when the receipt was made, where there
-- is one
abbrev pub AnswersLook : {T : Type 0} → GateRules → Outlook → Look → Option T → (T → List (List Operation)) → Outlook
    → Work → Type 0
AnswersLook gate old look receipt published_of new work =
    IsLooked (LooksAfter gate old (call_of look)
    (λ seen. ForSome receipt (λ receipt. IsPartOf (arrive (published_of receipt)) (arrive seen))) new) work
