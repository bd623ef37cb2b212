-- When the values of arguments say no number, no item and no command.
use Rattle.std.proofs.Common.{◌≡◌, ◌∙◌, ◌<◌, ℕ, List, [], ◌∷◌, map, length, get_or, Option, None, Some, Bool, true}
use Rattle.std.proofs.Common.{false}
use Rattle.std.proofs.Common.{not, refl, suc, zero, cond, filter, take, drop, ◌+◌, ◌++◌, Bor, option_map, is_some, sym, ap, subst, arith, codes}
use Rattle.std.specs.Prelude.{◌||◌}
use Rattle.std.specs.Str.{bytes_eq}
use Rattle.std.specs.List.{AllZip, list_any, position_or_len, before_first, after_first}
use Rattle.std.proofs.lemmas.List.{drop_more, get_or-map, length-map, take-map}
use Rattle.std.proofs.lemmas.List.Elements.{filter_more}
use Rattle.std.proofs.lemmas.Option.{slice_get-get_or}
use Rattle.lattice_core.specs.ZipLaws.{AllZip-at}
use Rattle.command_tree.specs.Matching.{Row, Text, first_of}
use Rattle.command_line.specs.declared.asked.Asked.{Asked}
use Rattle.command_line.specs.declared.asked.Asked.TheVariants.{Events, Queries, Recover, Run, Serve}
use Rattle.command_line.specs.declared.asked.Command.TheVariants.{Footers, Ready, ReadyItem, Why}
use Rattle.command_line.specs.declared.asked.EventWords.{EventWords}
use Rattle.command_line.specs.declared.asked.QueryWords.{QueryWords}
use Rattle.command_line.specs.declared.asked.RecoverWords.{RecoverWords}
use Rattle.command_line.specs.declared.asked.ServeWords.{ServeWords}
use Rattle.command_line.specs.Asking.{AreFeedOptions, AreOptions, ArgumentsSay, IsPlanning, IsRecovery, events, footers}
use Rattle.command_line.specs.Asking.{has_repeat, queries, ready, recover, serve, why}
use Rattle.command_line.specs.Values.{Finds, HasArgument, GivesAny, GivesItem, GivesNumber, ItemIsNamed, NamesRow}
use Rattle.command_line.specs.Values.{GivesAnyItem, GivesHosts, GivesItemAt, GivesPaths}
use Rattle.command_line.specs.Values.{Writes, is_comma}
use Rattle.command_line.specs.declared.sites.Places.{Places}

same_text : (rows : List Row) (argument text other : Text) → HasArgument rows argument text
    → HasArgument rows argument other
    → text ≡ other
same_text rows argument text other p q = cc

-- ---- numbers

pub any_unread : (rows : List Row) (option : Text) (least most : ℕ) (text : Option (Bor Text)) (absent : Bool)
    → first_of option rows ≡ option_map (λ t. t.now) text → is_some text ≡ not absent → absent ≡ false
    → ((number : ℕ) → ¬ GivesNumber rows option least most number) → (given : Option ℕ)
    → ¬ GivesAny rows option least most given
any_unread rows option least most text absent is there present none (Some number) gives = none number gives
any_unread rows option least most None absent is there present none None gives =
    let bad : false ≡ true = there ∙ ap not present in cc
any_unread rows option least most (Some text) absent is there present none None gives =
    let bad : None ≡ Some text.now = sym gives ∙ is in cc

-- ---- lists of which one is mapped

pub zip_over : {X Y Z : Type 0} (f : X → Y) (R : Y → Z → Type 0) (xs : List X) (zs : List Z)
    → AllZip (λ x z. R (f x) z) xs zs → AllZip R (map f xs) zs
zip_over f R [] [] all = tt
zip_over f R [] (z ∷ zs) all = absurd all
zip_over f R (x ∷ xs) [] all = absurd all
zip_over f R (x ∷ xs) (z ∷ zs) all = (all.0, zip_over f R xs zs all.1)

zip_under : {X Y Z : Type 0} (f : X → Y) (R : Y → Z → Type 0) (xs : List X) (zs : List Z)
    → AllZip R (map f xs) zs → AllZip (λ x z. R (f x) z) xs zs
zip_under f R [] [] all = tt
zip_under f R [] (z ∷ zs) all = absurd all
zip_under f R (x ∷ xs) [] all = absurd all
zip_under f R (x ∷ xs) (z ∷ zs) all = (all.0, zip_under f R xs zs all.1)

-- texts of which one says nothing, say no list
pub none_said : {T : Type 0} (Says : Text → T → Type 0) (texts : List (Bor Text)) (index : ℕ) (d : Bor Text)
    → index < length texts → ((said : T) → ¬ Says (get_or texts index d).now said) → (all_said : List T)
    → ¬ AllZip Says (map (λ text. text.now) texts) all_said
none_said Says texts index d within none all_said all =
    let under = zip_under (λ text. text.now) Says texts all_said all in
    let at = AllZip-at (λ text said. Says text.now said) texts all_said under index (get_or texts index d) (slice_get-get_or texts index d within) in
    none at.0 at.2

pub none_unwritten : (least most : ℕ) (texts : List (Bor Text)) (index : ℕ) (d : Bor Text) → index < length texts
    → ((number : ℕ) → ¬ Writes least most (get_or texts index d).now number) → (numbers : List ℕ)
    → ¬ AllZip (Writes least most) (map (λ text. text.now) texts) numbers
none_unwritten least most texts index d within none numbers all =
    none_said (Writes least most) texts index d within none numbers all

-- ---- items

pub no_item_before : (text : Text) → position_or_len is_comma text < length text
    → ((number : ℕ) → ¬ Writes 0 4294967295 (before_first is_comma text) number) → (item : ℕ × Option ℕ)
    → ¬ ItemIsNamed text item.0 item.1
no_item_before text has none (change, None) names = let lacks = names.0 in omega (arith, has, lacks)
no_item_before text has none (change, Some set) names = none change names.1

pub no_item_after : (text : Text) → position_or_len is_comma text < length text
    → ((number : ℕ) → ¬ Writes 0 4294967295 (after_first is_comma text) number) → (item : ℕ × Option ℕ)
    → ¬ ItemIsNamed text item.0 item.1
no_item_after text has none (change, None) names = let lacks = names.0 in omega (arith, has, lacks)
no_item_after text has none (change, Some set) names = none set names.2

-- ---- sites with starts

pub no_row_before : (text : Text) → ((number : ℕ) → ¬ Writes 0 65535 (before_first is_comma text) number)
    → (row : ℕ × ℕ) → ¬ NamesRow text row
no_row_before text none (site, start) names = none site names.1

pub item_found : (rows : List Row) (argument text : Text) (result : Option (ℕ × Option ℕ))
    → HasArgument rows argument text → Finds (λ item. ItemIsNamed text item.0 item.1) result
    → Finds (λ item. GivesItemAt rows argument item.0 item.1) result
item_found rows argument text (Some item) given names = (text, given, names)
item_found rows argument text None given none = λ item gives.
    none item (subst (λ t. ItemIsNamed t item.0 item.1) (same_text rows argument gives.0 text gives.1 given) gives.2)

pub any_item_unread : (rows : List Row) (text : Option (Bor Text)) (absent : Bool)
    → first_of (codes "item") rows ≡ option_map (λ t. t.now) text → is_some text ≡ not absent → absent ≡ false
    → ((item : ℕ × Option ℕ) → ¬ GivesItemAt rows (codes "item") item.0 item.1) → (given : Option (ℕ × Option ℕ))
    → ¬ GivesAnyItem rows given
any_item_unread rows text absent is there present none (Some item) gives = none item gives
any_item_unread rows None absent is there present none None gives =
    let bad : false ≡ true = there ∙ ap not present in cc
any_item_unread rows (Some text) absent is there present none None gives =
    let bad : None ≡ Some text.now = sym gives ∙ is in cc

-- ---- commands

pub no_ready : (rows : List Row) → ((given : Option (ℕ × Option ℕ)) → ¬ GivesAnyItem rows given) → (asked : Asked)
    → ¬ ArgumentsSay ready rows asked
no_ready rows none (Run (Ready command)) says = none None says.2
no_ready rows none (Run (ReadyItem command)) says = none (Some (command.change, command.set)) says.2
no_ready rows none asked says = says

pub no_why : (rows : List Row) → ((item : ℕ × Option ℕ) → ¬ GivesItem rows item.0 item.1) → (asked : Asked)
    → ¬ ArgumentsSay why rows asked
no_why rows none (Run (Why command)) says = none (command.change, command.set) says.2
no_why rows none asked says = says

pub no_footers : (rows : List Row) → ((change : ℕ) → ¬ GivesNumber rows (codes "change") 0 4294967295 change)
    → (asked : Asked) → ¬ ArgumentsSay footers rows asked
no_footers rows none (Run (Footers command)) says = none command.change says.2
no_footers rows none asked says = says

pub no_serve : (rows : List Row) → ((words : ServeWords) → ¬ AreOptions rows words) → (asked : Asked)
    → ¬ ArgumentsSay serve rows asked
no_serve rows none (Serve words) says = none words says.0
no_serve rows none asked says = says

pub no_places : (rows : List Row)
    → ((places : Places) → ¬ (GivesPaths rows (codes "listen") places.sockets.items × GivesHosts rows (codes "listen") places.hosts.items))
    → (asked : Asked)
    → ¬ ArgumentsSay serve rows asked
no_places rows none (Serve words) says = none (record { sockets = words.sockets; hosts = words.hosts }) (says.2, says.3)
no_places rows none asked says = says

pub no_recover : (rows : List Row) → ((words : RecoverWords) → ¬ IsRecovery rows words) → (asked : Asked)
    → ¬ ArgumentsSay recover rows asked
no_recover rows none (Recover words) says = none words says
no_recover rows none asked says = says

pub no_events : (rows : List Row) → ((words : EventWords) → ¬ AreFeedOptions rows words) → (asked : Asked)
    → ¬ ArgumentsSay events rows asked
no_events rows none (Events words) says = none words says.0
no_events rows none asked says = says

pub no_queries : (rows : List Row) → ((words : QueryWords) → ¬ IsPlanning rows words) → (asked : Asked)
    → ¬ ArgumentsSay queries rows asked
no_queries rows none (Queries words) says = none words says
no_queries rows none asked says = says

-- ---- those of the texts that pass a test

kept_later : {Y : Type 0} (R : Text → Y → Type 0) (passes : Bool) (text : Text) (rest : List Text) (named : List Y)
    → ((others : List Y) → ¬ AllZip R rest others) → ¬ AllZip R (cond passes (text ∷ rest) rest) named
kept_later R true text rest [] none all = absurd all
kept_later R true text rest (one ∷ named) none all = none named all.1
kept_later R false text rest named none all = none named all

kept_first : {Y : Type 0} (R : Text → Y → Type 0) (text : Text) (rest : List Text) (named : List Y)
    → ((one : Y) → ¬ R text one) → ¬ AllZip R (text ∷ rest) named
kept_first R text rest [] none all = absurd all
kept_first R text rest (one ∷ named) none all = none one all.0

-- where one of them names nothing, they name no list
pub none_kept : {Y : Type 0} (R : Text → Y → Type 0) (test : Text → Bool) (texts : List (Bor Text)) (index : ℕ)
    (d : Bor Text) → index < length texts → test (get_or texts index d).now ≡ true
    → ((one : Y) → ¬ R (get_or texts index d).now one) → (named : List Y)
    → ¬ AllZip R (filter test (map (λ text. text.now) texts)) named
none_kept R test [] index d within passes none named all = omega (arith, within)
none_kept R test (text ∷ texts) zero d within passes none named all =
    kept_first R text.now (filter test (map (λ t. t.now) texts)) named none
    (subst (λ b. AllZip R (cond b (text.now ∷ filter test (map (λ t. t.now) texts)) (filter test (map (λ t. t.now) texts))) named) passes all)
none_kept R test (text ∷ texts) (suc index) d within passes none named all =
    kept_later R (test text.now) text.now (filter test (map (λ t. t.now) texts)) named
    (none_kept R test texts index d (omega (arith, within)) passes none) all

zip_push : {X Y : Type 0} (R : X → Y → Type 0) (xs : List X) (ys : List Y) (x : X) (y : Y) → AllZip R xs ys → R x y
    → AllZip R (xs ++ x ∷ []) (ys ++ y ∷ [])
zip_push R [] [] x y all r = (r, tt)
zip_push R [] (b ∷ ys) x y all r = absurd all
zip_push R (a ∷ xs) [] x y all r = absurd all
zip_push R (a ∷ xs) (b ∷ ys) x y all r = (all.0, zip_push R xs ys x y all.1 r)

one_kept : (test : Text → Bool) (texts : List (Bor Text)) (index : ℕ) (d : Bor Text) → index < length texts
    → test (get_or texts index d).now ≡ true
    → filter test (map (λ text. text.now) (take (index + 1) texts))
    ≡ filter test (map (λ text. text.now) (take index texts)) ++ (get_or texts index d).now ∷ []
one_kept test texts index d within passes =
    let now : Bor Text → Text = λ text. text.now in
    let inside : index < length (map now texts) = omega (arith, within, length-map texts now) in
    ap (filter test) (sym (take-map now (index + 1) texts)) ∙ filter_more test (map now texts) index d.now inside
    ∙ rw (take-map now index texts) (rw (get_or-map now texts index d d.now within) (rw passes refl))

-- where one more of them names something, all up to it name one more
pub kept_more : {Y : Type 0} (R : Text → Y → Type 0) (test : Text → Bool) (texts : List (Bor Text)) (index : ℕ)
    (d : Bor Text) (named : List Y) (one : Y) → index < length texts → test (get_or texts index d).now ≡ true
    → AllZip R (filter test (map (λ text. text.now) (take index texts))) named → R (get_or texts index d).now one
    → AllZip R (filter test (map (λ text. text.now) (take (index + 1) texts))) (named ++ one ∷ [])
kept_more R test texts index d named one within passes all names =
    subst (λ l. AllZip R l (named ++ one ∷ [])) (sym (one_kept test texts index d within passes))
    (zip_push R (filter test (map (λ text. text.now) (take index texts))) named (get_or texts index d).now one all names)

pub any_over : {X Y : Type 0} (f : X → Y) (test : Y → Bool) (xs : List X)
    → list_any test (map f xs) ≡ list_any (λ x. test (f x)) xs
any_over f test [] = refl
any_over f test (x ∷ xs) = ap (λ b. test (f x) || b) (any_over f test xs)

-- ---- words that are there twice

-- the first of the words that are left is there again, or one of those after it
pub repeat_first : (words : List (Bor Text)) (n : ℕ) (d : Bor Text) → n < length words
    → has_repeat (map (λ word. word.now) (drop n words))
    ≡ (list_any (λ other. bytes_eq (get_or words n d).now other.now) (drop (n + 1) words)
    || has_repeat (map (λ word. word.now) (drop (n + 1) words)))
repeat_first words n d within =
    ap (λ l. has_repeat (map (λ word. word.now) l)) (drop_more words n d within)
    ∙ ap (λ b. b || has_repeat (map (λ word. word.now) (drop (n + 1) words)))
    (any_over (λ word. word.now) (bytes_eq (get_or words n d).now) (drop (n + 1) words))
