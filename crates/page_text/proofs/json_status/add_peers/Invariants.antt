use Rattle.std.proofs.Common.{flat_map, take}
use Rattle.page_text.specs.Sheets.{NotesTokens}
use Rattle.page_text.specs.Site.{peer_tokens}
use Rattle.page_text.proofs.json_status.add_peers.Given as goal

-- the peers so far are added
abbrev pub invariant-loop-peer : goal.invariant-loop-peer
invariant-loop-peer l = NotesTokens (flat_map peer_tokens (take l.peer-index l.peers)) l.initial.out l.out
