-- The moments of a session and of a pull.
use Rattle.byte_ends.specs.declared.traits.Drain.{Ghosts as DrainGhosts}
use Rattle.byte_ends.specs.declared.traits.Source.{Ghosts as SourceGhosts}
use Rattle.gossip_line.specs.Session.{Moment}

-- what is known of a port or a sink, of a source and of a drain
abbrev pub moment_of : {P S D : Type 0} → SourceGhosts S → DrainGhosts D → P → S → D → Moment P
moment_of of_source of_drain port source drain = record {
  port = port;
  left = of_source.left source;
  taken = of_drain.taken drain;
  unread = of_source.failed source;
  unwritten = of_drain.failed drain;
}
