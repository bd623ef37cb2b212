-- What holds of any publishes.
use Rattle.std.proofs.Common.{◌≡◌, ◌<◌, ℕ, Bool, true, false, ◌||◌, List, [], ◌∷◌, ◌++◌, fold, length, filter, refl, ap}
use Rattle.std.proofs.Common.{sym, ◌∙◌, arith, append_assoc}
use Rattle.std.specs.List.{list_any}
use Rattle.std.proofs.lemmas.List.{append-nil}
use Rattle.std.proofs.lemmas.List.Sums.{fold-append}
use Rattle.std.proofs.lemmas.Bool.Decides.{nat_tests}
use mathlib.Core.List.{IsPrefix}
use Rattle.review_ops.specs.Operation.{Operation}
use Rattle.replica_core.specs.Clock.{is_of}
use Rattle.replica_core.specs.Journal.{has, arrived, all_arrived}
use Rattle.replica_core.specs.JournalLaws.{IsPartOf, all_arrived-push, has-all_arrived, has-append, has-append_left}
use Rattle.replica_core.specs.JournalLaws.{has-append_right, has-filter}
use Rattle.replica_core.specs.Sets.{reached}
use Rattle.site_shared.specs.Accounts.{Account, flushing, next_stamp, record_of}
use Rattle.site_shared.specs.Publishes.{arrive}
use Rattle.site_shared.proofs.Turning.{arrive-push, all_arrived_extends}

pub step : (log : List (List Operation)) (ops : List Operation) (op : Operation) → 0 < length log
    → arrive (log ++ (ops ++ op ∷ []) ∷ []) ≡ arrived (arrive (log ++ ops ∷ [])) op
step log ops op some = arrive-push log (ops ++ op ∷ []) some ∙
    (all_arrived-push (arrive log) ops op ∙ ap (λ (j : List Operation). arrived j op) (sym (arrive-push log ops some)))

or_assoc : (a b c : Bool) → ((a || b) || c) ≡ (a || (b || c))
or_assoc true b c = refl
or_assoc false b c = refl

pub union : (opening : List Operation) (publishes : List (List Operation)) (op : Operation)
    → has (fold all_arrived opening publishes) op ≡ (has opening op || list_any (λ ops. has ops op) publishes)
union opening [] op = elim (has opening op) as (λ b. b ≡ (b || false)) [ true ↦ refl | false ↦ refl ]
union opening (ops ∷ publishes) op =
    let rest = list_any (λ (o : List Operation). has o op) publishes in
    union (all_arrived opening ops) publishes op
    ∙ (ap (λ b. b || rest) (has-all_arrived opening ops op ∙ has-append opening ops op) ∙ or_assoc (has opening op) (has ops op) rest)

fold_extends : (journal : List Operation) (publishes : List (List Operation))
    → (rest : List Operation) × (journal ++ rest ≡ fold all_arrived journal publishes)
fold_extends journal [] = ([], append-nil journal)
fold_extends journal (ops ∷ publishes) =
    let one = all_arrived_extends journal ops in
    let more = fold_extends (all_arrived journal ops) publishes in
    (one.0 ++ more.0, sym (append_assoc journal one.0 more.0) ∙ (ap (λ (j : List Operation). j ++ more.0) (sym one.1) ∙ more.1))

pub begins : (before after : List (List Operation)) → IsPrefix before after → IsPrefix (arrive before) (arrive after)
begins [] after p = (arrive after, refl)
begins (opening ∷ publishes) after p =
    let more = fold_extends (fold all_arrived opening publishes) p.0 in
    (more.0, more.1 ∙ (sym (fold-append all_arrived opening publishes p.0) ∙ ap arrive p.1))

pub keeps : (before after : List (List Operation)) → IsPrefix before after → IsPartOf (arrive before) (arrive after)
keeps before after p op h = let b = begins before after p in ap (λ (j : List Operation). has j op) (sym b.1)
    ∙ has-append_left (arrive before) b.0 op h

pub time_above : (account : Account) (op : Operation) → has (record_of account) op ≡ true
    → op.stamp.time < (next_stamp account).time
time_above account op h = let le = reached (λ (o : Operation). o.stamp.time) (record_of account) 0 op h in omega
    (arith, le)

same_row : (op : Operation) (site start : ℕ) → op.stamp.site ≡ site → op.stamp.start ≡ start
    → is_of site start op ≡ true
same_row op site start p q = grind (arith, nat_tests)

pub seq_above : (account : Account) (op : Operation) → has (record_of account) op ≡ true → op.stamp.site ≡ account.site
    → op.stamp.start ≡ account.start → op.stamp.seq < (next_stamp account).seq
seq_above account op h site start =
    let row = is_of account.site account.start in
    let kept : has (filter row (record_of account)) op ≡ true = has-filter row (record_of account) op h (same_row op account.site account.start site start) in
    let le = reached (λ (o : Operation). o.stamp.seq) (filter row (record_of account)) 0 op kept in omega (arith, le)

pub stands : (account : Account) → 0 < length account.published
    → IsPartOf account.held (arrive (flushing account).published)
stands account some op h =
    ap (λ (j : List Operation). has j op) (arrive-push account.published account.held some)
    ∙ (has-all_arrived (arrive account.published) account.held op ∙ has-append_right (arrive account.published) account.held op h)
