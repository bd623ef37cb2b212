use Rattle.std.proofs.Common.{rules, ◌≡◌, ◌++◌, get_or}
use Rattle.commands.specs.Answers.{need_line}
use Rattle.commands.proofs.WrittenLines.{lines_more}
use Rattle.commands.proofs.footers.need_lines.Goals as goal

pub loop-change-preserved : goal.loop-change-preserved
loop-change-preserved c =
    let piece : c.extend_from_slice.new.self.items ≡ c.loop-change.text.items ++ need_line (get_or c.args.needs.now c.loop-change.change-index 0) = search rules in
    lines_more need_line c.args.needs.now c.loop-change.change-index c.loop-change-test.true 0 c.loop-change.text.items c.extend_from_slice.new.self.items c.loop-change.invariant piece
