use Rattle.std.proofs.Common.{◌↔◌, codes}
use Rattle.http_header.specs.HeaderMap.{get_all}
use Rattle.page_server.specs.Tags.{IsNamedBy}
use Rattle.page_server.proofs.tag.is_named.Given as goal

-- the tag is named by all values just where it is named by those that are left
abbrev pub invariant-loop-value : goal.invariant-loop-value
invariant-loop-value l =
    IsNamedBy l.tag l.value-iterator ↔ IsNamedBy l.tag (get_all l.headers (codes "if-none-match"))
