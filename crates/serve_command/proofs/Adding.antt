-- Operations that are gathered and added to a journal, some at a time.
use Rattle.std.specs.Prelude.{◌≡◌, ◌<◌, ◌+◌, ℕ, Bool, true, false, ◌||◌, cond, List, [], ◌∷◌, ◌++◌, length, not, take, Option, None, Some, IfSome}
use Rattle.std.specs.Prelude.{IfOk, IsSome, Result, Ok, Err}
use Rattle.std.proofs.Common.{refl, sym, ap, ◌∙◌, subst, append_assoc, append-nil, get_or}
use Rattle.std.proofs.lemmas.List.{take_more}
use Rattle.std.proofs.lemmas.List.Elements.{filter-append}
use Rattle.replica_core.specs.Journal.{has}
use Rattle.replica_core.specs.JournalLaws.{IsSameSet-append, filtered, has-all_arrived, has-append, has-filter}
use Rattle.replica_core.specs.Sets.{IsSameSet}
use Rattle.review_ops.specs.Operation.{Operation}
use Rattle.site_journal.specs.Book.{Book, IsHolding, IsOpened}
use Rattle.site_journal.specs.Tape.{Changes, Image, IsSettled}
use Rattle.site_journal.specs.Text.{SaysJournal}
use Rattle.serve_command.specs.Beginning.{IsAdded, lacking_of}

-- what was gathered more is added, or left
pub added_more : (old mid new : Book) (gathered left more rest : List Operation) → IsAdded old gathered mid left
    → IsAdded mid (left ++ more) new rest → IsAdded old (gathered ++ more) new rest
added_more old mid new gathered left more rest first second = (
  first.0 ++ second.0,
  append_assoc first.0 second.0 rest ∙ ap (λ ops. first.0 ++ ops) second.1 ∙ sym (append_assoc first.0 left more)
      ∙ ap (λ ops. ops ++ more) first.1,
  λ before holds. subst (IsHolding new) (append_assoc before first.0 second.0)
      (second.2 (before ++ first.0) (first.2 before holds)),
  λ known. second.3 (first.3 known),
)

pub added_rest : (old mid new : Book) (gathered left rest : List Operation) → IsAdded old gathered mid left
    → IsAdded mid left new rest → IsAdded old gathered new rest
added_rest old mid new gathered left rest first second =
    subst (λ ops. IsAdded old ops new rest) (append-nil gathered)
    (added_more old mid new gathered left [] rest first
    (subst (λ ops. IsAdded mid ops new rest) (sym (append-nil left)) second))

-- ---- one operation further

one_further : (own ops : List Operation) (i : ℕ) (d : Operation) → i < length ops
    → lacking_of own (take i ops) ++ lacking_of own (get_or ops i d ∷ []) ≡ lacking_of own (take (i + 1) ops)
one_further own ops i d less =
    sym (filter-append (λ op. not (has own op)) (take i ops) (get_or ops i d ∷ []))
    ∙ ap (lacking_of own) (sym (take_more ops i d less))

lacked : (own : List Operation) (op : Operation) → has own op ≡ false → lacking_of own (op ∷ []) ≡ op ∷ []
lacked own op e = ap (λ t. cond (not t) (op ∷ []) []) e

had : (own : List Operation) (op : Operation) → has own op ≡ true → lacking_of own (op ∷ []) ≡ []
had own op e = ap (λ t. cond (not t) (op ∷ []) []) e

-- what was gathered with one that is lacking
pub lacking_added : (old mid new : Book) (own ops : List Operation) (i : ℕ) (d : Operation) (left rest : List Operation)
    → i < length ops → has own (get_or ops i d) ≡ false → IsAdded old (lacking_of own (take i ops)) mid left
    → IsAdded mid (left ++ get_or ops i d ∷ []) new rest → IsAdded old (lacking_of own (take (i + 1) ops)) new rest
lacking_added old mid new own ops i d left rest less lacks first second =
    subst (λ gathered. IsAdded old gathered new rest)
    (ap (λ one. lacking_of own (take i ops) ++ one) (sym (lacked own (get_or ops i d) lacks)) ∙ one_further own ops i d less)
    (added_more old mid new (lacking_of own (take i ops)) left (get_or ops i d ∷ []) rest first second)

-- one that the record has is passed over
pub passed_over : (old new : Book) (own ops : List Operation) (i : ℕ) (d : Operation) (left : List Operation)
    → i < length ops → has own (get_or ops i d) ≡ true → IsAdded old (lacking_of own (take i ops)) new left
    → IsAdded old (lacking_of own (take (i + 1) ops)) new left
passed_over old new own ops i d left less is added =
    subst (λ gathered. IsAdded old gathered new left)
    (sym (append-nil (lacking_of own (take i ops)))
    ∙ ap (λ one. lacking_of own (take i ops) ++ one) (sym (had own (get_or ops i d) is)) ∙ one_further own ops i d less)
    added

-- ---- sets

either_way : (own lacking loaded : Bool) → (loaded ≡ true → own ≡ false → lacking ≡ true) → (lacking ≡ true → loaded ≡ true)
    → (own || loaded) ≡ (own || lacking)
either_way true lacking loaded there back = refl
either_way false true true there back = refl
either_way false false false there back = refl
either_way false true false there back = let e = back refl in cc
either_way false false true there back = let e = there refl refl in cc

-- what is lacking fills a record up as the whole does
pub filled_up : (own loaded : List Operation) → IsSameSet (own ++ loaded) (own ++ lacking_of own loaded)
filled_up own loaded op =
    has-append own loaded op
    ∙ either_way (has own op) (has (lacking_of own loaded) op) (has loaded op)
    (λ is lacks. has-filter (λ one. not (has own one)) loaded op is (ap not lacks))
    (λ is. (filtered (λ one. not (has own one)) loaded op is).0)
    ∙ sym (has-append own (lacking_of own loaded) op)

-- a journal that was opened says the operations of its record
pub opened_says : (old new : Option Image) (own : List Operation) (torn : ℕ)
    → Changes old new (λ i j. IsSettled j × IsOpened i.contents own torn j.contents)
    → (ops : List Operation) × IfSome new (λ i. IsSettled i × SaysJournal i.contents ops []) × IsSameSet own ops
opened_says None None own torn changes = (own, tt, λ op. refl)
opened_says None (Some j) own torn changes = absurd changes
opened_says (Some i) None own torn changes = absurd changes
opened_says (Some i) (Some j) own torn changes = (
  changes.1.ops,
  (changes.0, changes.1.left),
  λ op. ap (λ l. has l op) changes.1.taken ∙ has-all_arrived [] changes.1.ops op,
)

-- what is known of a tape is known of the journal that was opened on it, and of what came of that
pub opened_known : {B E : Type 0} (old new : Option Image) (own : List Operation) (torn : ℕ)
    (result : Result (Book × B) E)
    → Changes old new (λ i j. IsSettled j × IsOpened i.contents own torn j.contents)
    → IfOk result (λ begun. IsSome new → IsSome begun.0.image)
    → IfOk result (λ begun. IsSome old → IsSome begun.0.image)
opened_known None None own torn (Ok begun) opened known = known
opened_known None (Some j) own torn (Ok begun) opened known = absurd opened
opened_known (Some i) None own torn (Ok begun) opened known = absurd opened
opened_known (Some i) (Some j) own torn (Ok begun) opened known = known
opened_known old new own torn (Err fault) opened known = tt

-- the record with what was loaded is what the journal says then
pub both_kept : (own ops loaded begun : List Operation) → IsSameSet own ops → IsSameSet begun (own ++ loaded)
    → IsSameSet begun (ops ++ lacking_of own loaded)
both_kept own ops loaded begun says both op =
    both op ∙ filled_up own loaded op ∙ IsSameSet-append own ops (lacking_of own loaded) says op
