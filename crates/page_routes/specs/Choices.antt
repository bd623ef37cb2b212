-- Which items a query asks for. No value, and an empty one, say what a query says that doesn't name the key.
use Rattle.std.specs.Prelude.{◌≡◌, ◌⊎◌, ◌<◌, ◌≤◌, ℕ, List, [], Option, None, Some, String, codes, length, string_bytes}
use Rattle.std.specs.declared.alloc.Global.{Global}
use Rattle.page_routes.specs.Form.{query_given}
use Rattle.page_routes.specs.Numbers.{IsDecimal}
use Rattle.page_routes.specs.declared.route.Choice.{Choice}
use Rattle.page_routes.specs.declared.route.Reason.{Reason}
use Rattle.page_routes.specs.declared.route.Reason.TheVariants.{Require, Reject, Cycle, Unknown, Dependency}
use Rattle.page_routes.specs.declared.route.Shown.{Shown}
use Rattle.page_routes.specs.declared.route.Shown.TheVariants.{Open, Ready, All}

abbrev pub shown_word : Shown → List ℕ
shown_word Open = codes "open"
shown_word Ready = codes "ready"
shown_word All = codes "all"

abbrev pub reason_word : Reason → List ℕ
reason_word Require = codes "require"
reason_word Reject = codes "reject"
reason_word Cycle = codes "cycle"
reason_word Unknown = codes "unknown"
reason_word Dependency = codes "dependency"

-- the value of `show`
abbrev pub IsShowValue : List ℕ → Shown → Type 0
IsShowValue text shown = (text ≡ shown_word shown) ⊎ ((text ≡ []) × (shown ≡ Open))

-- the value of `reason`
abbrev pub IsReasonValue : List ℕ → Option Reason → Type 0
IsReasonValue text None = text ≡ []
IsReasonValue text (Some reason) = text ≡ reason_word reason

-- the value of `q`: at most 200 bytes
abbrev pub IsWords : List ℕ → Option (String Global) → Type 0
IsWords text None = text ≡ []
IsWords text (Some words) = (text ≡ string_bytes words) × (0 < length text) × (length text ≤ 200)

-- the value of `page`
abbrev pub IsPageNumber : List ℕ → ℕ → Type 0
IsPageNumber text page = (IsDecimal text page × (1 ≤ page)) ⊎ ((text ≡ []) × (page ≡ 1))

-- these values ask for these items
pub record Chooses (show reason words page : List ℕ) (choice : Choice) : Type 0 where
  pub shown : IsShowValue show choice.shown
  pub reason_is : IsReasonValue reason choice.reason
  pub words_are : IsWords words choice.words
  pub page_is : IsPageNumber page choice.page

-- the query asks for these items
abbrev pub IsChoice : Option (List ℕ) → Choice → Type 0
IsChoice query choice =
    Chooses (query_given (codes "show") query) (query_given (codes "reason") query) (query_given (codes "q") query)
    (query_given (codes "page") query) choice
