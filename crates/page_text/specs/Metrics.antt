-- The metrics of a site. The names follow Prometheus's rules ("Metric and label naming"); what is counted is the
-- project's own.
use Rattle.std.specs.Prelude.{◌≡◌, ℕ, zero, suc, Bool, true, false, List, [], ◌∷◌, ◌++◌, Option, None, Some, codes}
use Rattle.std.specs.Prelude.{count_by, decimal, flat_map, length, string_bytes}
use Rattle.std.specs.FinMap.{len}
use Rattle.change_core.specs.Status.{status_name}
use Rattle.change_core.specs.declared.life.Status.{Status}
use Rattle.change_core.specs.declared.life.Status.TheVariants.{New, Abandoned, Merged}
use Rattle.gate_rules.specs.Rules.{GateRules}
use Rattle.gate_rules.specs.declared.condition.Side.{Side}
use Rattle.gate_rules.specs.declared.condition.Side.TheVariants.{Require, Reject}
use Rattle.replica_core.specs.Front.{IsFront, Reaches}
use Rattle.review_ops.specs.Operation.{Operation}
use Rattle.state_core.specs.State.{State, state_of}
use Rattle.ready_core.specs.Verdicts.{Judged}
use Rattle.ready_core.specs.declared.verdicts.Left.{Left}
use Rattle.report_text.specs.StateText.{joined}
use Rattle.page_text.specs.declared.facts.Facts.{Facts}
use Rattle.page_text.specs.declared.facts.JournalFacts.{JournalFacts}
use Rattle.page_text.specs.declared.facts.PeerFacts.{PeerFacts}
use Rattle.page_text.specs.declared.held.Held.{Held}
use Rattle.page_text.specs.declared.metrics_peers.Figure.{Figure}
use Rattle.page_text.specs.declared.metrics_peers.Figure.TheVariants.{Reached, Age, Pulls, Failures}
use Rattle.page_text.specs.declared.held.Held.TheVariants.{Approval, Cycle, Unknown, Dependency}
use Rattle.page_text.specs.Held.{held_words, is_held}
use Rattle.page_text.specs.Samples.{counter, family, gauge, labelled, micro_sample, milli_sample, peer_milli_sample}
use Rattle.page_text.specs.Samples.{peer_sample}
use Rattle.page_text.specs.Statuses.{status_count}

-- how many changes have a status
abbrev pub status_text : State → Status → List ℕ
status_text state status =
    labelled (codes "reviewgate_changes") (codes "status") (status_name status) (status_count state status)

-- how many changes have each status
abbrev pub status_counts_text : State → List ℕ
status_counts_text state =
    family (codes "reviewgate_changes") (codes "gauge") (codes "Changes of the record by status.")
    ++ status_text state New ++ status_text state Abandoned ++ status_text state Merged

-- how many starts of sites the front of a journal has
abbrev pub HasStarts : List Operation → ℕ → Type 0
HasStarts journal starts = (front : Reaches) × IsFront journal front × (starts ≡ len front)

-- the metrics of the record: its operations, the starts of its front, its changes, and the items that are ready
abbrev pub record_text : ℕ → ℕ → State → ℕ → List ℕ
record_text operations starts state ready =
    gauge (codes "reviewgate_operations") (codes "Operations of the record.") operations
    ++ gauge (codes "reviewgate_starts") (codes "Starts of sites that a pull into the record names.") starts
    ++ status_counts_text state
    ++ gauge (codes "reviewgate_ready_items") (codes "Items that may enter the pipeline.") ready

-- how many items this cause holds up
abbrev pub held_text : List Left → Held → List ℕ
held_text out held =
    labelled (codes "reviewgate_held_items") (codes "reason") (held_words held)
    (count_by (λ left. is_held held left.refusal) out)

-- how long ago it was, where it was
abbrev pub age_text : List ℕ → Option ℕ → List ℕ
age_text name None = []
age_text name (Some age) = milli_sample name age

-- the info sample of the site, with the constant value 1
abbrev pub labels_text : List ℕ → ℕ → ℕ → List ℕ
labels_text name site start =
    joined (name ∷ codes "{site=\"" ∷ decimal site ∷ codes "\",start=\"" ∷ decimal start ∷ codes "\"} 1\n" ∷ [])

-- the site with its start
abbrev pub info_text : ℕ → ℕ → List ℕ
info_text site start =
    family (codes "reviewgate_site_info") (codes "gauge") (codes "The site and its start.")
    ++ labels_text (codes "reviewgate_site_info") site start

-- the site, and when the last operation came
abbrev pub site_text : ℕ → ℕ → Option ℕ → List ℕ
site_text site start news =
    info_text site start ++ family (codes "reviewgate_last_operation_age_seconds") (codes "gauge")
    (codes "Seconds since the last operation came.")
    ++ age_text (codes "reviewgate_last_operation_age_seconds") news

-- ---- peers

abbrev pub flag : Bool → ℕ
flag true = 1
flag false = 0

-- of a peer, how long ago it was, where it was
abbrev pub peer_age_text : List ℕ → List ℕ → Option ℕ → List ℕ
peer_age_text name peer None = []
peer_age_text name peer (Some age) = peer_milli_sample name peer age

-- the metrics of a peer
abbrev pub figure_text : List ℕ → Figure → PeerFacts → List ℕ
figure_text name Reached peer = peer_sample name (string_bytes peer.peer) (flag peer.is_reachable)
figure_text name Age peer = peer_age_text name (string_bytes peer.peer) peer.good_ms
figure_text name Pulls peer = peer_sample name (string_bytes peer.peer) peer.pulls
figure_text name Failures peer = peer_sample name (string_bytes peer.peer) peer.failures

abbrev pub up_text : List PeerFacts → List ℕ
up_text peers =
    family (codes "reviewgate_peer_up") (codes "gauge") (codes "Whether the last pull reached the peer.")
    ++ flat_map (λ peer. peer_sample (codes "reviewgate_peer_up") (string_bytes peer.peer) (flag peer.is_reachable)) peers

abbrev pub ages_text : List PeerFacts → List ℕ
ages_text peers =
    family (codes "reviewgate_peer_last_pull_age_seconds") (codes "gauge")
    (codes "Seconds since the last whole pull ended.")
    ++ flat_map (λ peer. peer_age_text (codes "reviewgate_peer_last_pull_age_seconds") (string_bytes peer.peer) peer.good_ms) peers

abbrev pub pulls_text : List PeerFacts → List ℕ
pulls_text peers =
    family (codes "reviewgate_peer_pulls_total") (codes "counter") (codes "Whole pulls since the start.")
    ++ flat_map (λ peer. peer_sample (codes "reviewgate_peer_pulls_total") (string_bytes peer.peer) peer.pulls) peers

abbrev pub failures_text : List PeerFacts → List ℕ
failures_text peers =
    family (codes "reviewgate_peer_pull_failures_total") (codes "counter") (codes "Pulls that failed since the start.")
    ++ flat_map (λ peer. peer_sample (codes "reviewgate_peer_pull_failures_total") (string_bytes peer.peer) peer.failures) peers

-- the sites that it pulls from, each by how the command line names it
abbrev pub peers_text : List PeerFacts → List ℕ
peers_text peers = up_text peers ++ ages_text peers ++ pulls_text peers ++ failures_text peers

-- ---- what items are held by

-- so many approvals of a side, from this number on
abbrev pub held_from : Side → ℕ → ℕ → List Held
held_from side first zero = []
held_from side first (suc count) = Approval side first ∷ held_from side (suc first) count

-- the approvals of both sides, and the other three
abbrev pub all_held : GateRules → List Held
all_held gate =
    held_from Require 1 (length gate.require.approvals) ++ held_from Reject 1 (length gate.reject.approvals)
    ++ Cycle ∷ Unknown ∷ Dependency ∷ []

-- how many items each cause holds up
abbrev pub all_held_text : GateRules → List Left → List ℕ
all_held_text gate out =
    family (codes "reviewgate_held_items") (codes "gauge")
    (codes "Items that are held up by an approval, a cycle, an unknown change or a dependency, by reason.")
    ++ flat_map (held_text out) (all_held gate)

-- ---- what the site served

abbrev pub served_text : ℕ → ℕ → ℕ → ℕ → List ℕ
served_text sessions publishes requests refused_hosts =
    gauge (codes "reviewgate_open_sessions") (codes "Sessions that are open.") sessions
    ++ counter (codes "reviewgate_publishes_total") (codes "Publishes since the start.") publishes
    ++ counter (codes "reviewgate_page_requests_total") (codes "Requests of pages since the start.") requests
    ++ counter (codes "reviewgate_refused_hosts_total")
    (codes "Requests that named a host that is not the site's own since the start.") refused_hosts

abbrev pub update_text : ℕ → List ℕ
update_text update_us =
    family (codes "reviewgate_update_duration_seconds") (codes "gauge")
    (codes "Seconds that the last update of the verdicts took.")
    ++ micro_sample (codes "reviewgate_update_duration_seconds") update_us

-- ---- its threads, its journal, and what its feeds hear

abbrev pub work_text : ℕ → ℕ → ℕ → ℕ → List ℕ
work_text workers busy_workers session_faults refused_connections =
    gauge (codes "reviewgate_workers") (codes "Threads that look at the record for sessions.") workers
    ++ gauge (codes "reviewgate_busy_workers") (codes "Threads that look at the record for sessions just now.")
    busy_workers
    ++ counter (codes "reviewgate_session_faults_total") (codes "Sessions that ended with a fault since the start.")
    session_faults
    ++ counter (codes "reviewgate_refused_connections_total")
    (codes "Connections that were closed since the start because as many as may be were open.") refused_connections

abbrev pub one_journal_text : ℕ → ℕ → List ℕ
one_journal_text bytes syncs =
    gauge (codes "reviewgate_journal_bytes") (codes "Bytes of the journal.") bytes
    ++ counter (codes "reviewgate_journal_syncs_total") (codes "Syncs of the journal since the start.") syncs

-- what the journal has, where there is one
abbrev pub journal_figures : Option JournalFacts → List ℕ
journal_figures None = []
journal_figures (Some journal) = one_journal_text journal.bytes journal.syncs

abbrev pub heard_age_text : ℕ → List ℕ
heard_age_text age =
    family (codes "reviewgate_gerrit_heard_age_seconds") (codes "gauge")
    (codes "Seconds since a feed last said that it heard from Gerrit.")
    ++ milli_sample (codes "reviewgate_gerrit_heard_age_seconds") age

-- how long ago a feed last heard from Gerrit, where one did
abbrev pub heard_text : Option ℕ → List ℕ
heard_text None = []
heard_text (Some age) = heard_age_text age

-- the metrics of the present activity
abbrev pub now_text : Facts → List ℕ
now_text facts =
    work_text facts.workers facts.busy_workers facts.session_faults facts.refused_connections
    ++ journal_figures facts.journal ++ heard_text facts.heard_ms

-- the metrics of the record, of what holds up items, of the site, of its peers, and of what it served
abbrev pub figures_text : GateRules → State → ℕ → ℕ → Judged → Facts → List ℕ
figures_text gate state operations starts verdicts facts =
    record_text operations starts state (length verdicts.ready) ++ all_held_text gate verdicts.out
    ++ site_text facts.site facts.start facts.news_ms ++ peers_text facts.peers.items
    ++ served_text facts.sessions facts.publishes facts.requests facts.refused_hosts ++ update_text facts.update_us

-- all metrics: these, and those of the present activity
abbrev pub metrics_of : GateRules → State → ℕ → ℕ → Judged → Facts → List ℕ
metrics_of gate state operations starts verdicts facts =
    figures_text gate state operations starts verdicts facts ++ now_text facts

-- all metrics of a site with this record
abbrev pub AreMetrics : GateRules → List Operation → Judged → Facts → List ℕ → Type 0
AreMetrics gate journal verdicts facts text =
    (starts : ℕ) × HasStarts journal starts
    × (text ≡ metrics_of gate (state_of journal) (length journal) starts verdicts facts)
