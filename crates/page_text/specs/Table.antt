-- The rows of a list, as rows of a table in HTML. The form is the project's own.
use Rattle.std.specs.Prelude.{◌≡◌, ℕ, ◌+◌, ◌-◌, ◌/◌, List, [], ◌∷◌, ◌++◌, codes, decimal, length, max}
use Rattle.gate_rules.specs.Rules.{GateRules}
use Rattle.markup_text.specs.Html.{html_of}
use Rattle.ready_core.specs.Verdicts.{Judged}
use Rattle.ready_core.specs.Words.{refusal_text}
use Rattle.ready_core.specs.declared.verdicts.Left.{Left}
use Rattle.ready_core.specs.declared.verdicts.Refusal.{Refusal}
use Rattle.ready_core.specs.declared.verdicts.Refusal.TheVariants.{Own, Cycle, Unknown, Dependency}
use Rattle.state_core.specs.State.{State}
use Rattle.state_core.specs.declared.item.Item.{Item}
use Rattle.report_text.specs.StateText.{joined}
use Rattle.page_text.specs.declared.rows.Row.{Row}
use Rattle.page_text.specs.declared.rows.Row.TheVariants.{Enters, Waits}
use Rattle.page_text.specs.Rowless.{LacksRows}
use Rattle.page_text.specs.Rows.{row_item, rows_on}
use Rattle.page_text.specs.Subject.{subject_of}
use Rattle.page_text.specs.Walk.{IsEndOfChain}
use Rattle.page_text.specs.Wanted.{wanted_html}

-- an item with a link to its page: <a href="/change/101,2">101,2</a>
abbrev pub link_html : Item → List ℕ
link_html item =
    joined (codes "<a href=\"/change/" ∷ decimal item.change ∷ codes "," ∷ decimal item.set ∷ codes "\">"
    ∷ decimal item.change ∷ codes "," ∷ decimal item.set ∷ codes "</a>" ∷ [])

-- the cells of an item and of its subject
abbrev pub subject_html : State → Item → List ℕ
subject_html state item = joined (codes "</th><td>" ∷ html_of (subject_of state item) ∷ codes "</td>" ∷ [])

abbrev pub about_html : State → Item → List ℕ
about_html state item = joined (codes "<th scope=\"row\">" ∷ []) ++ link_html item ++ subject_html state item

-- the cell of a place, which is empty where an item waits
abbrev pub place_html : Row → List ℕ
place_html (Enters item place) = joined (codes "<tr><td>" ∷ decimal place ∷ codes "</td>" ∷ [])
place_html (Waits left) = joined (codes "<tr><td></td>" ∷ [])

-- how a row begins: with its place, its item and its subject
abbrev pub front_html : State → Row → List ℕ
front_html state row = place_html row ++ about_html state (row_item row)

-- an item that is left out, with a link to its page, and its refusal in the words of a report
abbrev pub left_html : Left → List ℕ
left_html left = link_html left.item ++ codes " " ++ html_of (refusal_text left.refusal)

-- a refusal, and of a condition what the gate asks there
abbrev pub reason_html : GateRules → Refusal → List ℕ
reason_html gate (Own condition) =
    html_of (refusal_text (Own condition)) ++ codes ": " ++ wanted_html gate condition
reason_html gate Cycle = html_of (refusal_text Cycle)
reason_html gate (Unknown change) = html_of (refusal_text (Unknown change))
reason_html gate (Dependency change) = html_of (refusal_text (Dependency change))

-- the cell of why an item waits
abbrev pub why_html : GateRules → Refusal → List ℕ
why_html gate refusal = codes "<td class=\"waits\">" ++ reason_html gate refusal ++ codes "</td>"

-- the cause: of an item that waits for another one, the item at the end of the chain from it, which waits for none
abbrev pub IsCauseHtml : State → Judged → Left → Refusal → List ℕ → Type 0
IsCauseHtml state verdicts left (Own condition) html = html ≡ []
IsCauseHtml state verdicts left Cycle html = html ≡ []
IsCauseHtml state verdicts left (Unknown change) html = html ≡ []
IsCauseHtml state verdicts left (Dependency change) html =
    (cause : Left) × IsEndOfChain state verdicts left.item cause × (html ≡ left_html cause)

-- the item at the end of the chain from an item was added, and nothing else
pub record AddsEnd (state : State) (verdicts : Judged) (item : Item) (old new : List ℕ) : Type 0 where
  pub cause : Left
  pub ends : IsEndOfChain state verdicts item cause
  pub is : new ≡ old ++ left_html cause

-- the cause was added, and nothing else
pub record AddsCause (state : State) (verdicts : Judged) (left : Left) (old new : List ℕ) : Type 0 where
  pub cause : List ℕ
  pub shown : IsCauseHtml state verdicts left left.refusal cause
  pub is : new ≡ old ++ cause

-- how a row ends: with why its item waits, and with the cause
abbrev pub EndsRow : GateRules → State → Judged → Row → List ℕ → Type 0
EndsRow gate state verdicts (Enters item place) html =
    html ≡ codes "<td class=\"ready\">ready</td><td></td></tr>\n"
EndsRow gate state verdicts (Waits left) html =
    (cause : List ℕ) × IsCauseHtml state verdicts left left.refusal cause
    × (html ≡ why_html gate left.refusal ++ codes "<td>" ++ cause ++ codes "</td></tr>\n")

-- a row was added, and nothing else
pub record AddsRow (gate : GateRules) (state : State) (verdicts : Judged) (row : Row) (old new : List ℕ) : Type 0 where
  pub more : List ℕ
  pub ends : EndsRow gate state verdicts row more
  pub is : new ≡ old ++ (front_html state row ++ more)

-- the text is that of the rows, one after the other
abbrev pub AreRows : GateRules → State → Judged → List Row → List ℕ → Type 0
AreRows gate state verdicts [] html = html ≡ []
AreRows gate state verdicts (row ∷ rows) html =
    (more : List ℕ) × (later : List ℕ) × (html ≡ (front_html state row ++ more) ++ later)
    × EndsRow gate state verdicts row more × AreRows gate state verdicts rows later

-- the rows were added
pub record AddsRows (gate : GateRules) (state : State) (verdicts : Judged) (rows : List Row) (old new : List ℕ)
    : Type 0 where
  pub table : List ℕ
  pub is : new ≡ old ++ table
  pub each : AreRows gate state verdicts rows table

-- how many pages so many rows have, at least one
abbrev pub pages_of : ℕ → ℕ
pages_of rows = (rows - 1) / 100 + 1

-- the end of a caption, and the head of a table
abbrev pub head_html : List ℕ
head_html =
    codes " items in all</caption>\n<thead><tr><th scope=\"col\">Place</th>"
    ++ codes "<th scope=\"col\">Item</th><th scope=\"col\">Subject</th>\n"
    ++ codes "<th scope=\"col\">Why it waits</th><th scope=\"col\">Cause</th></tr></thead>\n<tbody>\n"

-- how the table of a page of so many rows begins; page 0 is the first one, too
abbrev pub table_begins : ℕ → ℕ → List ℕ
table_begins page rows =
    joined (codes "<table>\n<caption>Page " ∷ decimal (max page 1) ∷ codes " of " ∷ decimal (pages_of rows)
    ∷ codes ", " ∷ decimal rows ∷ head_html ∷ [])

abbrev pub table_ends : List ℕ
table_ends = joined (codes "</tbody>\n</table>\n" ∷ [])

-- the table of a page of these rows was added, and nothing else
pub record AddsTable (gate : GateRules) (state : State) (verdicts : Judged) (page : ℕ) (rows : List Row)
    (old new : List ℕ) : Type 0 where
  pub table : List ℕ
  pub each : AreRows gate state verdicts (rows_on page rows) table
  pub is : new ≡ old ++ (table_begins page (length rows) ++ table ++ table_ends)

-- the text has the table of a page of these rows, and neither before nor after it does a row begin
pub record HasTable (gate : GateRules) (state : State) (verdicts : Judged) (page : ℕ) (rows : List Row)
    (html : List ℕ) : Type 0 where
  pub before : List ℕ
  pub table : List ℕ
  pub after : List ℕ
  pub none_before : LacksRows before
  pub each : AreRows gate state verdicts (rows_on page rows) table
  pub none_after : LacksRows after
  pub is : html ≡ before ++ (table_begins page (length rows) ++ table ++ table_ends) ++ after
