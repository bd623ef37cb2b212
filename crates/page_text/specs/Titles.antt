-- The title of a page (WCAG 2.2, success criterion 2.4.2 "Page Titled"), and its end.
use Rattle.std.specs.Prelude.{◌≡◌, List, ℕ, [], ◌∷◌, ◌++◌, Option, None, Some, codes, decimal, false, map}
use Rattle.std.specs.Char.{to_ascii_lowercase}
use Rattle.markup_text.specs.Html.{html_of}
use Rattle.state_core.specs.State.{State}
use Rattle.state_core.specs.declared.item.Item.{Item}
use Rattle.page_text.specs.Search.{contains}
use Rattle.page_text.specs.Subject.{subject_of}
use Rattle.report_text.specs.StateText.{joined}

-- an item with its subject: Change 102,1: Fix the door
abbrev pub item_title : State → Item → List ℕ
item_title state item =
    joined (codes "Change " ∷ decimal item.change ∷ codes "," ∷ decimal item.set ∷ codes ": "
    ∷ html_of (subject_of state item) ∷ [])

-- no title begins in the HTML, in letters of either case
abbrev pub LacksTitles : List ℕ → Type 0
LacksTitles html = contains (codes "<title") (map to_ascii_lowercase html) ≡ false

-- the page has the title, which is its first one
pub record IsTitled (title html : List ℕ) : Type 0 where
  pub before : List ℕ
  pub after : List ℕ
  pub none_before : LacksTitles before
  pub is : html ≡ before ++ (codes "<title>" ++ title ++ codes "</title>" ++ after)

-- the text is what was written, up to the end of its own part, with the end of each page behind it
abbrev pub IsEnded : Option (List ℕ) → List ℕ → Type 0
IsEnded None text = ⊥
IsEnded (Some own) text = text ≡ own ++ codes "</main>\n</body>\n</html>\n"
