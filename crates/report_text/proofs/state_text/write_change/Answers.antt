use Rattle.std.proofs.Common.{◌≡◌, ◌∷◌, ◌++◌, [], string_bytes, flat_map, rules}
use Rattle.std.specs.FinMap.{entries}
use Rattle.report_text.specs.StateText.{joined, status_line, life_line, set_line, vote_line}
use Rattle.report_text.proofs.StateLines.{part_more, last_part}
use Rattle.report_text.proofs.state_text.write_change.Goals as goal

pub returns : goal.returns
returns g c =
    let start = string_bytes c.args.text.now in
    let number = c.args.number in
    let change = c.args.change.now in
    let status : string_bytes c.write.new.self ≡ start ++ joined (status_line number change ∷ []) = search rules in
    let life : string_bytes c.write_life.new.text ≡ string_bytes c.write.new.self ++ life_line number change.life = search rules in
    let sets : string_bytes c.write_sets.new.text ≡ string_bytes c.write_life.new.text ++ flat_map (set_line number) (entries change.sets) = search rules in
    let first = part_more start (status_line number change ∷ []) _ _ (life_line number change.life) status life in
    let second = part_more start (status_line number change ∷ life_line number change.life ∷ []) _ _ (flat_map (set_line number) (entries change.sets)) first sets in
    last_part c.write_votes.result start (status_line number change ∷ life_line number change.life ∷ flat_map (set_line number) (entries change.sets) ∷ []) _ _ (flat_map (vote_line number) (entries change.votes)) second (search rules)
