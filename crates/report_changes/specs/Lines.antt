-- What changed from one listing to the next, and its text. The form is the project's own.
use Rattle.std.specs.Prelude.{ℕ, List, [], ◌∷◌, ◌++◌, not, codes, filter, flat_map, length, map}
use Rattle.state_core.specs.declared.item.Item.{Item}
use Rattle.ready_core.specs.Verdicts.{Judged}
use Rattle.byte_ends.specs.Lines.{as_line}
use Rattle.report_text.specs.Report.{item_text, out_line, end_line}
use Rattle.report_changes.specs.declared.lines.Line.{Line}
use Rattle.report_changes.specs.declared.lines.Line.TheVariants.{NotReady, Ready, Out, Gone}
use Rattle.report_changes.specs.Listing.{is_listed, is_out_for, is_ready}

-- what isn't ready any more, what is ready now, what is left out for another refusal, and what isn't listed any more
abbrev pub changed : Judged → Judged → List Line
changed old new =
    map NotReady (filter (λ item. not (is_ready new item)) old.ready)
    ++ map Ready (filter (λ item. not (is_ready old item)) new.ready)
    ++ map Out (filter (λ left. not (is_out_for old left)) new.out)
    ++ map Gone (filter (λ item. not (is_listed new item)) old.ready)
    ++ map (λ left. Gone left.item) (filter (λ left. not (is_listed new left.item)) old.out)

-- ---- the text

abbrev pub not_ready_line : Item → List ℕ
not_ready_line item = as_line (codes "-ready " ++ item_text item)

abbrev pub now_ready_line : Item → List ℕ
now_ready_line item = as_line (codes "+ready " ++ item_text item)

abbrev pub gone_line : Item → List ℕ
gone_line item = as_line (codes "gone " ++ item_text item)

abbrev pub line_text : Line → List ℕ
line_text (NotReady item) = not_ready_line item
line_text (Ready item) = now_ready_line item
line_text (Out left) = out_line left
line_text (Gone item) = gone_line item

-- the lines, and the end line of what is listed then; nothing where there is no line
abbrev pub group_text : List Line → ℕ → ℕ → List ℕ
group_text [] ready out = []
group_text (line ∷ lines) ready out = flat_map line_text (line ∷ lines) ++ end_line ready out

abbrev pub changes_text : Judged → Judged → List ℕ
changes_text old new = group_text (changed old new) (length new.ready) (length new.out)
