use Rattle.std.proofs.Common.{◌≡◌, ◌++◌, take, decimal}
use Rattle.std.specs.Prelude.{codes}
use Rattle.review_ops.specs.Deed.{change_of}
use Rattle.review_ops.specs.Draft.{deed_of}
use Rattle.op_text.specs.Canonical.{Extends, later_fields, members_texts}
use Rattle.op_text.specs.Text.{data_of}
use Rattle.op_text.proofs.write.put_object.Given as goal

-- the fields so far are written
abbrev pub invariant-loop-field : goal.invariant-loop-field
invariant-loop-field l = record {
  written : l.page.items ≡ l.fn.page.items ++ (codes "{\"change\":" ++ (decimal (change_of (deed_of l.draft)) ++ members_texts (take l.field-index later_fields) (data_of l.stamp (deed_of l.draft))));
  kept : Extends l.fn.page.items l.page.items;
}
