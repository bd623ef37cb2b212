-- A list of items as JSON, by its tokens. The keys are the project's own.
use Rattle.std.specs.Prelude.{ℕ, List, [], ◌∷◌, ◌++◌, codes, flat_map, length, true, false}
use Rattle.json.specs.Token.{Token, begin_array, begin_object, boolean, end_array, end_object, key}
use Rattle.json_line.specs.Tokens.{numbered_tokens, worded}
use Rattle.state_core.specs.State.{State}
use Rattle.state_core.specs.declared.item.Item.{Item}
use Rattle.ready_core.specs.Words.{refusal_text}
use Rattle.ready_core.specs.declared.verdicts.Refusal.{Refusal}
use Rattle.page_text.specs.declared.rows.Row.{Row}
use Rattle.page_text.specs.declared.rows.Row.TheVariants.{Enters, Waits}
use Rattle.page_text.specs.Rows.{rows_on}
use Rattle.page_text.specs.Subject.{subject_of}

-- what is said of each item: {"change":101,"set":2,"subject":"Fix"
abbrev pub about_tokens : State → Item → List Token
about_tokens state item =
    begin_object ∷ [] ++ numbered_tokens (codes "change") item.change ++ numbered_tokens (codes "set") item.set
    ++ worded (codes "subject") (subject_of state item)

-- ,"ready":false,"refusal":"require approval 2"}
abbrev pub words_tokens : List ℕ → List Token
words_tokens words =
    key (codes "ready") ∷ boolean false ∷ [] ++ worded (codes "refusal") words ++ end_object ∷ []

abbrev pub why_tokens : Refusal → List Token
why_tokens refusal = words_tokens (refusal_text refusal)

-- that, or ,"ready":true,"place":1}
abbrev pub row_tokens : State → Row → List Token
row_tokens state (Enters item place) =
    about_tokens state item ++ (key (codes "ready") ∷ boolean true ∷ []) ++ numbered_tokens (codes "place") place
    ++ end_object ∷ []
row_tokens state (Waits left) = about_tokens state left.item ++ why_tokens left.refusal

abbrev pub list_tokens : State → List Row → List Token
list_tokens state rows = key (codes "items") ∷ begin_array ∷ [] ++ flat_map (row_tokens state) rows ++ end_array ∷ []

-- how many are asked for, the page, and the rows on it: {"total":2,"page":1,"items":[..]}
abbrev pub items_tokens : State → ℕ → List Row → List Token
items_tokens state page rows =
    begin_object ∷ [] ++ numbered_tokens (codes "total") (length rows) ++ numbered_tokens (codes "page") page
    ++ list_tokens state (rows_on page rows) ++ end_object ∷ []
