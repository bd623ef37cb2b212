-- What a running site pulls through its guard comes to the record that its window sees.
use Rattle.std.proofs.Common.{◌≡◌, ◌⊎◌, Bool, true, false, List, [], ◌∷◌, inl, inr, refl, sym, ap, ◌∙◌}
use Rattle.std.proofs.lemmas.Bool.{and_parts, false≢true, or_cases}
use Rattle.std.specs.List.{list_all}
use mathlib.Core.List.{IsPrefix}
use Rattle.gossip_line.specs.PassingOn.{AreNumbered, KeepsRecord, ShareNoTwins, all_passed_on}
use Rattle.gossip_line.specs.Session.{Moment}
use Rattle.pull_guard.specs.declared.guard.Guard.{Guard}
use Rattle.replica_core.specs.InOrder.{same_is_equal}
use Rattle.replica_core.specs.Journal.{has, has_stamp, same_operation}
use Rattle.replica_core.specs.JournalLaws.{IsPartOf, has-append_cases}
use Rattle.replica_core.specs.Sets.{IsSameSet, state_of-same}
use Rattle.report_text.specs.Agreement.{PrintTheSame}
use Rattle.review_ops.specs.Operation.{Operation}
use Rattle.site_port.specs.Guarding.{GuardedSinks, JudgesBy}
use Rattle.site_port.specs.Sinks.{Uptake, at_time, clocks, declined, hands, reached, took}
use Rattle.site_serve.specs.SitePorts.{HaveStamps, SiteSinks, stamps_of}
use Rattle.site_serve.specs.TwoSites.{AreApartAndNumbered, GotNoMore, HoldTheSame, IsShownBy, PullsAllOf, Side}
use Rattle.site_serve.specs.TwoSites.{record_seen, union}
use Rattle.site_shared.specs.Accounts.{GoesOn, Outlook}
use Rattle.site_shared.specs.Publishes.{arrive}
use Rattle.state_core.specs.State.{State, state_of}

have_each : (journal ops : List Operation) → HaveStamps journal (stamps_of ops) → (op : Operation) → has ops op ≡ true
    → has_stamp journal op.stamp ≡ true
have_each journal [] all op h = absurd (false≢true h)
have_each journal (x ∷ ops) all op h =
    let both = and_parts (has_stamp journal x.stamp) (list_all (has_stamp journal) (stamps_of ops)) all in
    elim (or_cases (same_operation x op) (has ops op) h) [
      | inl same ↦ ap (λ (o : Operation). has_stamp journal o.stamp) (sym (same_is_equal x op same)) ∙ both.0
      | inr later ↦ have_each journal ops both.1 op later
    ]

-- what the guard lets through is handed to the site as it is
let_through : (guard : Guard) (old mid new : Outlook) (ops : List Operation) (said : Uptake) → SiteSinks old clocks said mid
    → JudgesBy SiteSinks guard said mid ops took new → GoesOn old mid × SiteSinks mid (hands ops) took new
let_through guard old mid new ops (at_time latest) says judged = elim judged [
  | inl passed ↦ (says.0, passed.1)
  | inr barred ↦ let no = barred.2 in cc
]
let_through guard old mid new ops (reached front) says judged = absurd says
let_through guard old mid new ops took says judged = absurd says
let_through guard old mid new ops (declined fault) says judged = let no = judged.0 in cc

alike : (a b : Bool) → (a ≡ true → b ≡ true) → (b ≡ true → a ≡ true) → a ≡ b
alike true b there back = sym (there refl)
alike false true there back = back refl
alike false false there back = refl

module _ (go_on : (before after : List (List Operation)) → IsPrefix before after → IsPartOf (arrive before) (arrive after)) where
  site_keeps : (guard : Guard) → KeepsRecord (GuardedSinks SiteSinks guard) record_seen
  site_keeps guard = record {
    says = λ old mid front says. says.1;
    grows = λ old new ops taken op held.
        let through = let_through guard old taken.0 new ops taken.1 taken.2 taken.3 in
        go_on taken.0.seen new.seen through.1.0.seen op (go_on old.seen taken.0.seen through.0.seen op held);
    takes = λ old new ops taken op among.
        let through = let_through guard old taken.0 new ops taken.1 taken.2 taken.3 in
        have_each (arrive new.seen) ops through.1.1 op among;
  }

  pub passed_on : (shown : List (List Operation)) (guard : Guard) (before after : Moment Outlook)
      → PullsAllOf shown guard before after → AreNumbered (arrive shown)
      → ShareNoTwins (arrive shown) (record_seen after.port) → IsPartOf (arrive shown) (record_seen after.port)
  passed_on shown guard before after pulls numbered no_twins =
      all_passed_on (GuardedSinks SiteSinks guard) record_seen (site_keeps guard) pulls.limit pulls.most before after pulls.pulled pulls.pull pulls.done pulls.last pulls.is_last (arrive shown)
      (record { lacked = pulls.answered.0; missing = pulls.answered.1; ops = pulls.answered.2; more = pulls.answered.3 }) numbered no_twins

  -- a site that holds no more than these operations holds what it was shown of them
  holds_shown : (ops : List Operation) (one : Side) → AreApartAndNumbered ops → IsPartOf (record_seen one.end) ops
      → IsPartOf (arrive one.shown) ops → IsPartOf (arrive one.shown) (record_seen one.end)
  holds_shown ops one are part shown op h =
      let stays : IsPartOf (record_seen one.after.port) (record_seen one.end) = go_on one.after.port.seen one.end.seen one.goes_on.seen in
      stays op (passed_on one.shown one.guard one.before one.after one.pull (λ o held. are.numbered o (shown o held))
      (λ o twin held there twins. are.apart o twin (shown o held) (part twin (stays twin there)) twins) op h)

  -- so does one that had the rest of them
  holds_all : (ops : List Operation) (one : Side) (rest : List Operation) → AreApartAndNumbered ops
      → IsPartOf (record_seen one.end) ops → IsPartOf (arrive one.shown) ops → IsPartOf rest (arrive one.shown)
      → ((op : Operation) → has ops op ≡ true → (has one.had op ≡ true) ⊎ (has rest op ≡ true))
      → IsSameSet (record_seen one.end) ops
  holds_all ops one rest are part shown had split op =
      alike (has (record_seen one.end) op) (has ops op) (part op) (λ h. elim (split op h) [
        | inl own ↦ one.kept op own
        | inr others ↦ holds_shown ops one are part shown op (had op others)
      ])

  pub held_the_same : ((state other : State) → state ≡ other → PrintTheSame state other) → (one other : Side)
      → IsShownBy one other → IsShownBy other one → GotNoMore one other → AreApartAndNumbered (union one other)
      → HoldTheSame one other
  held_the_same prints one other shown back no_more are =
      let ops : List Operation = union one other in
      let first = holds_all ops one other.had are no_more.first (λ op h. no_more.second op (shown.has op h)) shown.had
      (has-append_cases one.had other.had) in
      let second = holds_all ops other one.had are no_more.second (λ op h. no_more.first op (back.has op h)) back.had
      (λ op h. elim (has-append_cases one.had other.had op h) [ inl a ↦ inr a | inr b ↦ inl b ]) in
      record {
        first = first;
        second = second;
        prints = prints (state_of (record_seen one.end)) (state_of (record_seen other.end))
            (state_of-same (record_seen one.end) ops first ∙ sym (state_of-same (record_seen other.end) ops second));
      }
