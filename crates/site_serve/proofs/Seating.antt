-- The session that is answered at a place is the one that was found there.
use Rattle.std.proofs.Common.{◌≡◌, ◌≢◌, ◌<◌, ◌≤◌, true, ltb, ℕ, List, length, get_or, slice_get, slice_set, Option, None, Some, ap, refl, sym, ◌∙◌}
use Rattle.std.proofs.Common.{arith, subst}
use Rattle.site_serve.specs.Answered.{GoesOnWith, IsPlaceAfter}
use Rattle.site_serve.specs.declared.jobs.Work.{Work}
use Rattle.site_serve.specs.declared.jobs.Work.TheVariants.{Admitted, Rejected, Entered, KeyLookedAt, Left, Looked}
use Rattle.site_serve.specs.declared.session.Session.{Session}
use Rattle.std.proofs.lemmas.Bool.{ltb-true}
use Rattle.std.proofs.lemmas.List.{get_or-set_other, get_or-set_same, length-set}
use Rattle.std.proofs.lemmas.Option.{gets, slice_get-get_or, slice_get_past}

same_one : {S : Type 0} (seat : Option S) (one mine : S) → seat ≡ Some one → seat ≡ Some mine → mine ≡ one
same_one seat one mine is own = cc

same_seat : {S : Type 0} (found : Option (Option S)) (before : Option S) (one : S) → found ≡ Some before
    → found ≡ Some (Some one) → before ≡ Some one
same_seat found before one is has = cc

pub answered_own : {S : Type 0} (outbox : S → List ℕ) (SaysOk SaysErr : List ℕ → List ℕ → Type 0) (seat : Option S)
    (one mine after last : S) → seat ≡ Some one → seat ≡ Some mine → outbox last ≡ outbox after
    → SaysOk (outbox mine) (outbox after) → SaysErr (outbox mine) (outbox after)
    → (x : S) × (Some last ≡ Some x) × SaysOk (outbox one) (outbox x) × SaysErr (outbox one) (outbox x)
answered_own outbox SaysOk SaysErr seat one mine after last is own same ok err =
    let old = ap outbox (same_one seat one mine is own) in (
      last,
      refl,
      subst (λ o. SaysOk o (outbox last)) old (subst (λ n. SaysOk (outbox mine) n) (sym same) ok),
      subst (λ o. SaysErr o (outbox last)) old (subst (λ n. SaysErr (outbox mine) n) (sym same) err),
    )

-- what is put at a place is found there
pub found_at : {X : Type 0} (seats : List X) (place : ℕ) (now : X) → place < length seats
    → slice_get (slice_set seats place now) place ≡ Some now
found_at seats place now within =
    slice_get-get_or (slice_set seats place now) place now (subst (λ n. place < n) (sym (length-set seats place now)) within)
    ∙ ap Some (get_or-set_same seats place now now within)

-- what holds of what is left of who was found at a place holds of what is found there then
pub seat_found : {S : Type 0} (seats : List (Option S)) (place : ℕ) (before now : Option S) (one : S)
    (P : Option S → Type 0) → true ≡ ltb place (length seats) → before ≡ get_or seats place before
    → slice_get seats place ≡ Some (Some one) → (before ≡ Some one → P now)
    → (seat : Option S) × (slice_get (slice_set seats place now) place ≡ Some seat) × P seat
seat_found seats place before now one P is value has own =
    let within : place < length seats = ltb-true place (length seats) (sym is) in
    let there : slice_get seats place ≡ Some before = slice_get-get_or seats place before within ∙ ap Some (sym value) in
    (now, found_at seats place now within, own (same_seat (slice_get seats place) before one there has))

-- the same where somebody is left at that place
pub seated_own : {S : Type 0} (seats : List (Option S)) (place : ℕ) (before now : Option S) (one : S)
    (Ok Err : S → Type 0) → true ≡ ltb place (length seats) → before ≡ get_or seats place before
    → slice_get seats place ≡ Some (Some one)
    → (before ≡ Some one → (after : S) × (now ≡ Some after) × Ok after × Err after)
    → (x : S) × (slice_get (slice_set seats place now) place ≡ Some (Some x)) × Ok x × Err x
seated_own seats place before now one Ok Err is value has own =
    let left = seat_found seats place before now one (λ seat. (after : _) × (seat ≡ Some after) × Ok after × Err after)
    is value has own in
    (left.2.0, left.1 ∙ ap Some left.2.1, left.2.2, left.2.3)

-- listing a session for the next turn changes nothing of its answers
pub listed_outbox : {J : Type 0} (after last : Session J) → last ≡ record after { is_listed = true }
    → last.outbox ≡ after.outbox
listed_outbox {J = J} after last is = ap (λ (s : Session J). s.outbox) is

-- who doesn't leave goes on with the work at its place
listed : {J : Type 0} (work : Work) (before after last : Session J) → last ≡ record after { is_listed = true }
    → GoesOnWith work before (record after { is_listed = true }) → GoesOnWith work before last
listed work before after last is goes = subst (λ s. GoesOnWith work before s) (sym is) goes

seat_after : {J : Type 0} (work : Work) (before after last : Session J) → work ≢ Left → GoesOnWith work before after
    → last ≡ record after { is_listed = true } → IsPlaceAfter work before (Some last)
seat_after (Looked text answered) before after last stays goes is =
    (last, refl, listed (Looked text answered) before after last is goes)
seat_after (Admitted admitted) before after last stays goes is =
    (last, refl, listed (Admitted admitted) before after last is goes)
seat_after (Rejected answer) before after last stays goes is =
    (last, refl, listed (Rejected answer) before after last is goes)
seat_after (KeyLookedAt role) before after last stays goes is =
    (last, refl, listed (KeyLookedAt role) before after last is goes)
seat_after Entered before after last stays goes is = (last, refl, listed Entered before after last is goes)
seat_after Left before after last stays goes is = absurd (stays refl)

pub seat_goes_on : {J : Type 0} (work : Work) (seat : Option (Session J)) (one mine after last : Session J)
    → seat ≡ Some one → seat ≡ Some mine → work ≢ Left → GoesOnWith work mine after
    → last ≡ record after { is_listed = true } → IsPlaceAfter work one (Some last)
seat_goes_on work seat one mine after last is own stays goes same =
    seat_after work one after last stays
    (subst (λ s. GoesOnWith work s after) (same_one seat one mine is own) goes) same

-- the others stay as they are
pub others_stay : {X : Type 0} (seats : List X) (place other : ℕ) (now : X) → other ≢ place
    → slice_get (slice_set seats place now) other ≡ slice_get seats other
others_stay seats place other now apart = grind (arith, gets, slice_get_past, get_or-set_other, length-set)

-- nobody is found past the last place
pub none_there : {S : Type 0} (seats : List (Option S)) (place : ℕ) (one : S) (P : Type 0) → length seats ≤ place
    → slice_get seats place ≡ Some (Some one) → P
none_there seats place one P past has =
    let none : slice_get seats place ≡ None = slice_get_past seats place past in
    let clash : None ≡ Some (Some one) = sym none ∙ has in absurd (cc)
