-- A site as JSON, by its tokens. The keys are the project's own.
use Rattle.std.specs.Prelude.{ℕ, List, [], ◌∷◌, ◌++◌, Option, None, Some, codes, count_by, flat_map, length, string_bytes}
use Rattle.json.specs.Token.{Token, key, null}
use Rattle.json_line.specs.Tokens.{flagged, listed_tokens, numbered_tokens, object_of, optional, worded}
use Rattle.ready_core.specs.Verdicts.{Judged}
use Rattle.report_changes.specs.Listing.{is_waiting}
use Rattle.page_text.specs.declared.facts.Facts.{Facts}
use Rattle.page_text.specs.declared.facts.JournalFacts.{JournalFacts}
use Rattle.page_text.specs.declared.facts.PeerFacts.{PeerFacts}

-- how many operations there are, ready items, others, and those of these that aren't over
abbrev pub counts_tokens : ℕ → Judged → List Token
counts_tokens operations verdicts =
    numbered_tokens (codes "operations") operations
    ++ (numbered_tokens (codes "ready") (length verdicts.ready)
    ++ (numbered_tokens (codes "out") (length verdicts.out)
    ++ numbered_tokens (codes "open_out") (count_by is_waiting verdicts.out)))

-- the age of what is shown, how long ago something new was published, and how many sessions are open
abbrev pub ages_tokens : Facts → List Token
ages_tokens facts =
    numbered_tokens (codes "age_ms") facts.age_ms
    ++ (optional (codes "news_ms") facts.news_ms ++ numbered_tokens (codes "sessions") facts.sessions)

-- {"peer":"8103","reachable":true,"condition_ms":5000,"good_ms":300,"pulls":7,"failures":0}
abbrev pub peer_tokens : PeerFacts → List Token
peer_tokens peer =
    object_of
    (worded (codes "peer") (string_bytes peer.peer)
    ++ (flagged (codes "reachable") peer.is_reachable
    ++ (numbered_tokens (codes "condition_ms") peer.condition_ms
    ++ (optional (codes "good_ms") peer.good_ms
    ++ (numbered_tokens (codes "pulls") peer.pulls ++ numbered_tokens (codes "failures") peer.failures)))))

abbrev pub peers_tokens : List PeerFacts → List Token
peers_tokens peers = listed_tokens (codes "peers") (flat_map peer_tokens peers)

-- what its threads do, and what went wrong since the start
abbrev pub work_tokens : Facts → List Token
work_tokens facts =
    numbered_tokens (codes "workers") facts.workers
    ++ (numbered_tokens (codes "busy_workers") facts.busy_workers
    ++ (numbered_tokens (codes "session_faults") facts.session_faults
    ++ numbered_tokens (codes "refused_connections") facts.refused_connections))

-- the journal, or null
abbrev pub journal_tokens : Option JournalFacts → List Token
journal_tokens None = key (codes "journal") ∷ null ∷ []
journal_tokens (Some journal) =
    key (codes "journal")
    ∷ object_of (numbered_tokens (codes "bytes") journal.bytes ++ numbered_tokens (codes "syncs") journal.syncs)

-- the site, its record, its peers, and what it does just now
abbrev pub site_tokens : ℕ → Judged → Facts → List Token
site_tokens operations verdicts facts =
    object_of
    (numbered_tokens (codes "site") facts.site
    ++ (numbered_tokens (codes "start") facts.start
    ++ (counts_tokens operations verdicts
    ++ (ages_tokens facts
    ++ (peers_tokens facts.peers.items
    ++ (work_tokens facts
    ++ (journal_tokens facts.journal ++ optional (codes "heard_ms") facts.heard_ms)))))))
