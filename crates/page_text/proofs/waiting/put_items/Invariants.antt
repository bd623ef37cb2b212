use Rattle.std.proofs.Common.{[], ◌∷◌, flat_map, take}
use Rattle.json.specs.Token.{string}
use Rattle.report_text.specs.Report.{item_text}
use Rattle.page_text.specs.Sheets.{NotesTokens}
use Rattle.page_text.proofs.waiting.put_items.Given as goal

-- the items so far are added
abbrev pub invariant-loop-item : goal.invariant-loop-item
invariant-loop-item l =
    NotesTokens (flat_map (λ item. string (item_text item) ∷ []) (take l.item-index l.items)) l.initial.out l.out
