-- Which command words name, and what they ask for by that.
use Rattle.std.proofs.Common.{◌≡◌, ◌∙◌, ap, sym, subst, inr, List, Option, None, Some, if◌then◌else◌, codes, refl}
use Rattle.std.specs.Str.{bytes_eq}
use Rattle.command_tree.specs.Matching.{AreFaultlessWords, Matched, Row, Text, matched_of}
use Rattle.command_line.specs.declared.asked.Asked.{Asked}
use Rattle.command_line.specs.declared.asked.Asked.TheVariants.{Enqueue, Events, Help, NoMemory, Queries, Recover}
use Rattle.command_line.specs.declared.asked.Asked.TheVariants.{Run, Serve, Usage, Version}
use Rattle.command_line.specs.Asking.{WordsAsk, IsAskedByWords, IsNothing, Means, Name, ArgumentsSay, check, enqueue, events, footers, graph, merge}
use Rattle.command_line.specs.Asking.{queries, ready, recover, serve, simulate, text_of, why}
use Rattle.command_line.specs.Values.{Finds}

-- ---- no two commands have one text

-- the command that has this text
abbrev command_of : Text → Option Name
command_of text =
    if bytes_eq text (codes "ready") then Some ready else if bytes_eq text (codes "why") then Some why
    else if bytes_eq text (codes "graph") then Some graph else if bytes_eq text (codes "merge") then Some merge
    else if bytes_eq text (codes "footers") then Some footers else if bytes_eq text (codes "check") then Some check
    else if bytes_eq text (codes "simulate") then Some simulate
    else if bytes_eq text (codes "serve") then Some serve else if bytes_eq text (codes "recover") then Some recover
    else if bytes_eq text (codes "events") then Some events
    else if bytes_eq text (codes "queries") then Some queries
    else if bytes_eq text (codes "enqueue") then Some enqueue else None

command_of_text : (name : Name) → command_of (text_of name) ≡ Some name
command_of_text ready = refl
command_of_text why = refl
command_of_text graph = refl
command_of_text merge = refl
command_of_text footers = refl
command_of_text check = refl
command_of_text simulate = refl
command_of_text serve = refl
command_of_text recover = refl
command_of_text events = refl
command_of_text queries = refl
command_of_text enqueue = refl

same_name : (one other : Name) → text_of one ≡ text_of other → one ≡ other
same_name one other same =
    let both : Some one ≡ Some other = sym (command_of_text one) ∙ ap command_of same ∙ command_of_text other in cc

-- ---- what a command with its values is asked

abbrev text_in : Matched → Text → Text
text_in None other = other
text_in (Some matched) other = matched.0

abbrev rows_or : Matched → List Row → List Row
rows_or None other = other
rows_or (Some matched) other = matched.1

pub found_named : (name : Name) (text : Text) (rows : List Row) (result : Option Asked) → text ≡ text_of name
    → Finds (ArgumentsSay name rows) result → Finds (IsAskedByWords (Some (text, rows))) result
found_named name text rows (Some asked) is says = (name, rows, ap (λ (t : Text). Some (t, rows)) is, says)
found_named name text rows None is none = λ asked found.
    let texts : text ≡ text_of found.0 = ap (λ (m : Matched). text_in m text) found.2 in
    let names : found.0 ≡ name = same_name found.0 name (sym texts ∙ is) in
    let tables : found.1 ≡ rows = sym (ap (λ (m : Matched). rows_or m rows) found.2) in
    none asked (subst (λ (n : Name). ArgumentsSay n rows asked) names (subst (λ (r : List Row). ArgumentsSay found.0 r asked) tables found.3))

-- ---- what words ask for

pub nothing_matched : (matched : Matched) → matched ≡ None → IsNothing matched
nothing_matched matched none = λ asked is.
    let bad : None ≡ Some (text_of is.0, is.1) = sym none ∙ is.2 in cc

pub asks_meant : (words : List Text) (matched : Matched) (asked : Asked) → AreFaultlessWords words
    → matched_of words ≡ matched → Means matched asked → WordsAsk words asked
asks_meant words matched (Run command) faultless same means =
    (faultless, subst (λ m. IsAskedByWords m (Run command)) (sym same) means)
asks_meant words matched (Serve site) faultless same means =
    (faultless, subst (λ m. IsAskedByWords m (Serve site)) (sym same) means)
asks_meant words matched (Recover journal) faultless same means =
    (faultless, subst (λ m. IsAskedByWords m (Recover journal)) (sym same) means)
asks_meant words matched (Events feed) faultless same means =
    (faultless, subst (λ m. IsAskedByWords m (Events feed)) (sym same) means)
asks_meant words matched (Queries planning) faultless same means =
    (faultless, subst (λ m. IsAskedByWords m (Queries planning)) (sym same) means)
asks_meant words matched (Enqueue handing) faultless same means =
    (faultless, subst (λ m. IsAskedByWords m (Enqueue handing)) (sym same) means)
asks_meant words matched (Help text) faultless same means = absurd means
asks_meant words matched (Version text) faultless same means = absurd means
asks_meant words matched (Usage text) faultless same means =
    inr (faultless, λ asked is. means asked (subst (λ m. IsAskedByWords m asked) same is))
asks_meant words matched NoMemory faultless same means = means
