-- Which routes a path can't have.
use Rattle.std.proofs.Common.{◌≡◌, ◌≢◌, ◌==◌, false, ◌++◌, ℕ, List, Option, None, Some, option_map, get_or, codes, refl, subst, ap, sym, ◌∙◌}
use Rattle.std.proofs.lemmas.Bool.{eqb-false}
use Rattle.page_routes.specs.Numbers.{FindsNumber}
use Rattle.page_routes.specs.Choices.{Chooses, IsChoice}
use Rattle.page_routes.specs.Routes.{IsPlainRoute, IsRoute, route_place_text}
use Rattle.page_routes.specs.declared.route.Choice.{Choice}
use Rattle.page_routes.specs.declared.route.Route.{Route}
use Rattle.page_routes.specs.declared.route.Route.TheVariants as route

-- the same values ask for the same items
pub chosen_from : (show reason words page s r w p : List ℕ) → s ≡ show → r ≡ reason → w ≡ words → p ≡ page
    → (found : Option Choice) → FindsNumber (Chooses s r w p) found → FindsNumber (Chooses show reason words page) found
chosen_from show reason words page s r w p is_s is_r is_w is_p found holds =
    subst (λ (x : List ℕ). FindsNumber (Chooses x reason words page) found) is_s
    (subst (λ (x : List ℕ). FindsNumber (Chooses s x words page) found) is_r
    (subst (λ (x : List ℕ). FindsNumber (Chooses s r x page) found) is_w
    (subst (λ (x : List ℕ). FindsNumber (Chooses s r w x) found) is_p holds)))

-- two texts differ where a byte of theirs does
differ : (place m n : ℕ) (text other : List ℕ) → get_or text place 0 ≡ m → get_or other place 0 ≡ n → (m == n) ≡ false
    → text ≡ other → ⊥
differ place m n text other here there apart same =
    eqb-false m n apart (sym here ∙ ap (λ (l : List ℕ). get_or l place 0) same ∙ there)

only_list : (query : Option (List ℕ)) → ((choice : Choice) → ¬ IsChoice query choice) → (other : Route)
    → ¬ IsRoute (codes "/") query other
only_list query none (route.List choice) is = none choice is.1
only_list query none (route.Change place) is = differ 1 0 99 _ _ refl refl refl is.0
only_list query none route.Status is = differ 1 0 97 _ _ refl refl refl is.0
only_list query none (route.Items choice) is = differ 1 0 97 _ _ refl refl refl is.0
only_list query none (route.ChangeData place) is = differ 1 0 97 _ _ refl refl refl is.0
only_list query none route.Events is = differ 1 0 97 _ _ refl refl refl is.0
only_list query none route.Metrics is = differ 1 0 109 _ _ refl refl refl is.0
only_list query none route.Health is = differ 1 0 104 _ _ refl refl refl is.0
only_list query none route.Style is = differ 1 0 115 _ _ refl refl refl is.0
only_list query none route.Script is = differ 1 0 115 _ _ refl refl refl is.0
only_list query none route.Icon is = differ 1 0 105 _ _ refl refl refl is.0

only_items : (query : Option (List ℕ)) → ((choice : Choice) → ¬ IsChoice query choice) → (other : Route)
    → ¬ IsRoute (codes "/api/v1/items") query other
only_items query none (route.List choice) is = differ 1 97 0 _ _ refl refl refl is.0
only_items query none (route.Change place) is = differ 1 97 99 _ _ refl refl refl is.0
only_items query none route.Status is = differ 8 105 115 _ _ refl refl refl is.0
only_items query none (route.Items choice) is = none choice is.1
only_items query none (route.ChangeData place) is = differ 8 105 99 _ _ refl refl refl is.0
only_items query none route.Events is = differ 8 105 101 _ _ refl refl refl is.0
only_items query none route.Metrics is = differ 1 97 109 _ _ refl refl refl is.0
only_items query none route.Health is = differ 1 97 104 _ _ refl refl refl is.0
only_items query none route.Style is = differ 1 97 115 _ _ refl refl refl is.0
only_items query none route.Script is = differ 1 97 115 _ _ refl refl refl is.0
only_items query none route.Icon is = differ 1 97 105 _ _ refl refl refl is.0

-- ---- what is found of the parts is what is found of the whole

pub list_found : (path : List ℕ) (query : Option (List ℕ)) → path ≡ codes "/" → (found : Option Choice)
    → FindsNumber (IsChoice query) found → FindsNumber (IsRoute path query) (option_map route.List found)
list_found path query is None none = λ other asked. only_list query none other (sym is ∙ asked.0, asked.1)
list_found path query is (Some choice) holds = (is, holds)

pub items_found : (path : List ℕ) (query : Option (List ℕ)) → path ≡ codes "/api/v1/items" → (found : Option Choice)
    → FindsNumber (IsChoice query) found → FindsNumber (IsRoute path query) (option_map route.Items found)
items_found path query is None none = λ other asked. only_items query none other (sym is ∙ asked.0, asked.1)
items_found path query is (Some choice) holds = (is, holds)

other_found : (path : List ℕ) (query : Option (List ℕ)) → path ≢ codes "/" → path ≢ codes "/api/v1/items"
    → ((text : List ℕ) → path ≢ codes "/change/" ++ text) → ((text : List ℕ) → path ≢ codes "/api/v1/changes/" ++ text)
    → ((other : Route) → ¬ IsPlainRoute path other) → (other : Route) → ¬ IsRoute path query other
other_found path query list items change later none (route.List choice) is = list is.0
other_found path query list items change later none (route.Items choice) is = items is.0
other_found path query list items change later none (route.Change place) is = change (route_place_text place) is.0
other_found path query list items change later none (route.ChangeData place) is = later (route_place_text place) is.0
other_found path query list items change later none route.Status is = none route.Status is.0
other_found path query list items change later none route.Events is = none route.Events is.0
other_found path query list items change later none route.Metrics is = none route.Metrics is.0
other_found path query list items change later none route.Health is = none route.Health is.0
other_found path query list items change later none route.Style is = none route.Style is.0
other_found path query list items change later none route.Script is = none route.Script is.0
other_found path query list items change later none route.Icon is = none route.Icon is.0

-- no other path is left
pub plain_found : (path : List ℕ) (query : Option (List ℕ)) → path ≢ codes "/" → path ≢ codes "/api/v1/items"
    → ((text : List ℕ) → path ≢ codes "/change/" ++ text) → ((text : List ℕ) → path ≢ codes "/api/v1/changes/" ++ text)
    → (found : Option Route) → FindsNumber (IsPlainRoute path) found → FindsNumber (IsRoute path query) found
plain_found path query list items change later None none = λ other is. other_found path query list items change later none other is
plain_found path query list items change later (Some route.Status) is = (is, tt)
plain_found path query list items change later (Some route.Events) is = (is, tt)
plain_found path query list items change later (Some route.Metrics) is = (is, tt)
plain_found path query list items change later (Some route.Health) is = (is, tt)
plain_found path query list items change later (Some route.Style) is = (is, tt)
plain_found path query list items change later (Some route.Script) is = (is, tt)
plain_found path query list items change later (Some route.Icon) is = (is, tt)
plain_found path query list items change later (Some (route.List choice)) is = absurd is
plain_found path query list items change later (Some (route.Items choice)) is = absurd is
plain_found path query list items change later (Some (route.Change place)) is = absurd is
plain_found path query list items change later (Some (route.ChangeData place)) is = absurd is
