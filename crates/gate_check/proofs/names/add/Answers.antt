use Rattle.std.proofs.Common.{◌∙◌, ap, map, string_bytes}
use Rattle.std.specs.BTreeSet.{insert_key}
use Rattle.std.specs.Cmp.Lexicographic.{slice_cmp}
use Rattle.std.specs.Ordering.{nat_cmp}
use Rattle.gate_check.proofs.Gathered.{insert_shown}
use Rattle.gate_check.proofs.names.add.Goals as goal

pub returns : goal.returns
returns c =
    ap (map string_bytes) c.in_ok-insert.ensures.keys ∙ insert_shown c.args.texts.now.keys _
    ∙ ap (insert_key (slice_cmp nat_cmp) (map string_bytes c.args.texts.now.keys)) c.in_ok-from_str.ensures.ok
