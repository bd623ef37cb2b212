-- What a publish does to what arrived, and to the spares.
use Rattle.std.proofs.Common.{◌≡◌, ◌<◌, true, false, cond, List, [], ◌∷◌, ◌++◌, Option, Some, None, IfSome, Result, Ok}
use Rattle.std.proofs.Common.{Err, OnOk, OnErr, drop, take, length, refl, ap, sym, ◌∙◌, arith, append_assoc}
use Rattle.std.proofs.lemmas.List.{append-nil, take-append-drop}
use Rattle.std.proofs.lemmas.List.Sums.{fold_push}
use Rattle.std.proofs.Math.Seq.{take-append_seam}
use Rattle.review_ops.specs.Operation.{Operation}
use Rattle.replica_core.specs.Journal.{has, arrived, all_arrived}
use Rattle.replica_core.specs.JournalLaws.{all_arrived-push}
use Rattle.site_shared.specs.Publishes.{arrive, IsFrontPart}
use Rattle.site_shared.specs.Accounts.{Account, record_of}

pub arrive-push : (log : List (List Operation)) (ops : List Operation) → 0 < length log
    → arrive (log ++ ops ∷ []) ≡ all_arrived (arrive log) ops
arrive-push [] ops some = absurd (omega arith)
arrive-push (opening ∷ publishes) ops some = fold_push all_arrived opening publishes ops

-- what is published and held arrives once it is published
pub record_of-published : (account : Account) (log : List (List Operation)) → 0 < length account.published
    → log ≡ account.published ++ account.held ∷ [] → record_of account ≡ arrive log
record_of-published account log some is = sym (ap arrive is ∙ arrive-push account.published account.held some)

arrived_extends : (journal : List Operation) (op : Operation)
    → (rest : List Operation) × (arrived journal op ≡ journal ++ rest)
arrived_extends journal op =
    elim (has journal op) as (λ b. (rest : List Operation) × (cond b journal (journal ++ op ∷ []) ≡ journal ++ rest)) [
      | true ↦ ([], sym (append-nil journal))
      | false ↦ (op ∷ [], refl)
    ]

-- what arrives comes behind what was there
pub all_arrived_extends : (journal ops : List Operation)
    → (rest : List Operation) × (all_arrived journal ops ≡ journal ++ rest)
all_arrived_extends journal [] = ([], sym (append-nil journal))
all_arrived_extends journal (op ∷ ops) =
    let one = arrived_extends journal op in
    let more = all_arrived_extends (arrived journal op) ops in
    (one.0 ++ more.0, more.1 ∙ (ap (λ (j : List Operation). j ++ more.0) one.1 ∙ append_assoc journal one.0 more.0))

pub front_part : (journal ops : List Operation) → IsFrontPart journal (all_arrived journal ops)
front_part journal ops = let e = all_arrived_extends journal ops in ap (take (length journal)) e.1
    ∙ take-append_seam journal e.0

pub front_on : (part journal ops : List Operation) → IsFrontPart part journal
    → IsFrontPart part (all_arrived journal ops)
front_on part journal ops is =
    let e = all_arrived_extends journal ops in
    let rest = drop (length part) journal in
    let whole : part ++ rest ≡ journal = ap (λ (p : List Operation). p ++ rest) (sym is) ∙ take-append-drop (length part) journal in
    let all : all_arrived journal ops ≡ part ++ (rest ++ e.0) = e.1 ∙ (ap (λ (j : List Operation). j ++ e.0) (sym whole) ∙ append_assoc part rest e.0) in
    ap (take (length part)) all ∙ take-append_seam part (rest ++ e.0)

-- a spare stays one
pub spare_on : {S : Type 0} (value : S → List Operation) (spare : Option S) (journal ops : List Operation)
    → IfSome spare (λ s. IsFrontPart (value s) journal)
    → IfSome spare (λ s. IsFrontPart (value s) (all_arrived journal ops))
spare_on value None journal ops is = tt
spare_on value (Some s) journal ops is = front_on (value s) journal ops is

-- a replica of all that is published or held stays one, where an operation is added to it and to what is held, or to
-- neither
pub held_next : {E : Type 0} (journal held : List Operation) (op : Operation) (before after more : List Operation)
    (result : Result (Unit {0}) E) → before ≡ all_arrived journal held
    → OnOk result ((after ≡ arrived before op) × (more ≡ held ++ op ∷ []))
    → OnErr result ((after ≡ before) × (more ≡ held)) → after ≡ all_arrived journal more
held_next journal held op before after more (Ok u) is ok err = ok.0 ∙ (ap (λ (j : List Operation). arrived j op) is ∙ (sym (all_arrived-push journal held op) ∙ ap (all_arrived journal) (sym ok.1)))
held_next journal held op before after more (Err e) is ok err = err.0 ∙ (is ∙ ap (all_arrived journal) (sym err.1))
