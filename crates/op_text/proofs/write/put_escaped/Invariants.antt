use Rattle.std.proofs.Common.{◌≡◌, ◌++◌, length}
use Rattle.json.specs.Print.{escape}
use Rattle.op_text.specs.Canonical.{Extends}
use Rattle.op_text.proofs.write.put_escaped.Given as goal

-- what is left is still to be written
abbrev pub invariant-loop-byte : goal.invariant-loop-byte
invariant-loop-byte l = record {
  written : l.page.items ++ escape l.left ≡ l.fn.page.items ++ escape l.text;
  kept : Extends l.fn.page.items l.page.items;
}

abbrev pub decreases-loop-byte : goal.decreases-loop-byte
decreases-loop-byte l = length l.left
