use Rattle.std.proofs.Common.{◌≡◌, ◌∷◌, ◌++◌, [], codes, string_bytes, decimal, rules}
use Rattle.json.specs.Print.{quoted}
use Rattle.review_ops.specs.Timestamp.{timestamp_text}
use Rattle.report_text.specs.StateText.{joined, parent_part}
use Rattle.report_text.proofs.StateLines.{part_more}
use Rattle.report_text.proofs.state_text.write_set.Goals as goal

pub returns : goal.returns
returns g c =
    let head = codes "set " ∷ decimal c.args.number ∷ codes "," ∷ decimal c.args.set ∷ codes " " ∷ timestamp_text c.args.register.now.0 ∷ codes " " ∷ quoted (string_bytes c.args.register.now.1.message) ∷ [] in
    let first : string_bytes c.write.new.self ≡ string_bytes c.args.text.now ++ joined head = search rules in
    let parent : string_bytes c.write_parent.new.text ≡ string_bytes c.write.new.self ++ parent_part c.args.register.now.1.parent = search rules in
    let second = part_more (string_bytes c.args.text.now) head (string_bytes c.write.new.self) (string_bytes c.write_parent.new.text) (parent_part c.args.register.now.1.parent) first parent in
    let end : string_bytes c.push_str.new.self ≡ string_bytes c.write_parent.new.text ++ codes "\n" = search rules in
    part_more (string_bytes c.args.text.now) (head ++ parent_part c.args.register.now.1.parent ∷ [])
    (string_bytes c.write_parent.new.text) (string_bytes c.push_str.new.self) (codes "\n") second end
