-- What a site takes, and what the world shows of its vectors.
use Rattle.std.proofs.Common.{◌≡◌, ◌≤◌, ◌<◌, ◌+◌, ◌-◌, ℕ, zero, suc, Bool, true, false, List, [], ◌∷◌, ◌++◌, Option}
use Rattle.std.proofs.Common.{Some, None, Result, Ok, Err, map, length, take, get_or, refl, sym, ap, subst, ◌∙◌, arith}
use Rattle.std.proofs.Common.{add-one}
use Rattle.std.specs.Prelude.{◌⊎◌, cond, is_err, is_ok, OnOk, slice_get, slice_set, replicate, MatchOption, nat_lt}
use Rattle.std.specs.Option.{option_map}
use Rattle.std.proofs.Common.{inl, inr}
use Rattle.std.proofs.Math.ListN.{length-map}
use Rattle.std.proofs.lemmas.List.{take_more, map-append}
use Rattle.std.proofs.lemmas.Option.{slice_get-get_or}
use Rattle.std.proofs.lemmas.Bool.{false≢true}
use Rattle.review_ops.specs.Operation.{Operation}
use Rattle.replica_core.specs.Front.{Reaches}
use Rattle.replica_core.specs.Missing.{IsMissing}
use Rattle.replica_core.specs.Journal.{arrived, all_arrived}
use Rattle.world_core.specs.declared.event.Reply.TheVariants.{Packet, Delivered}
use Rattle.replica_core.specs.JournalLaws.{all_arrived-push, length-all_arrived}
use Rattle.world_core.specs.declared.event.WorldFault.TheVariants.{NoSite, NoPacket}
use Rattle.world_core.specs.Numbered.{numbered, numbered_at, replaced_at, replaced_back, numbered_past}
use Rattle.world_core.specs.Step.{Answer, AtSite, IsDelivery, IsDeliveryOf, IsSend, IsSendAt}
use Rattle.world_core.specs.World.{SiteState, WorldState, new_site, new_world, with_site}
use Rattle.world_core.proofs.Saving.{site_with, grows, take-all_arrived}

pub at_ok : {T E P : Type 0} (r : Result T E) (failed : Bool) → failed ≡ is_err r → failed ≡ false → OnOk r P → P
at_ok (Ok x) failed is no_error h = h
at_ok (Err e) failed is no_error h = absurd (false≢true (sym no_error ∙ is))

-- one more operation is in
pub one_more_in : (journal ops : List Operation) (taken : ℕ) (op : Operation) (so_far new : List Operation)
    → taken < length ops → op ≡ get_or ops taken op → so_far ≡ all_arrived journal (take taken ops)
    → new ≡ arrived so_far op → new ≡ all_arrived journal (take (taken + 1) ops)
one_more_in journal ops taken op so_far new within is done came =
    came ∙ ap (λ j. arrived j op) done
    ∙ sym (all_arrived-push journal (take taken ops) op)
    ∙ ap (all_arrived journal) (ap (λ o. take taken ops ++ o ∷ []) is ∙ sym (take_more ops taken op within))

pub grown : (journal ops new : List Operation) (before after : ℕ) → new ≡ all_arrived journal ops
    → before ≡ length journal → after ≡ length new → before ≤ after
grown journal ops new before after came is_before is_after =
    let longer = length-all_arrived journal ops in
    let same : length new ≡ length (all_arrived journal ops) = ap length came in
    omega (arith, longer, same, is_before, is_after)

-- a delivery counts what was new
pub delivered : (ops journal new : List Operation) (saved start before after : ℕ) (answer : Answer)
    → saved ≤ length journal → new ≡ all_arrived journal ops → before ≡ length journal → after ≡ length new
    → answer ≡ Ok (Delivered (after - before))
    → IsDelivery ops (site_with journal saved start) answer (site_with new saved start)
delivered ops journal new saved start before after answer within came is_before is_after is =
    let no_less = grown journal ops new before after came is_before is_after in
    let count : length journal + (after - before) ≡ length new = omega (arith, no_less, is_before, is_after) in
    subst (λ r. IsDelivery ops (site_with journal saved start) r (site_with new saved start)) (sym is)
    (grows journal (all_arrived journal ops) new saved start came (take-all_arrived saved journal ops within), count)

get_map : {S T : Type 0} (shown : S → T) (things : List S) (place : ℕ) (thing : S) → slice_get things place ≡ Some thing
    → slice_get (map shown things) place ≡ Some (shown thing)
get_map shown [] place thing e = cc
get_map shown (x ∷ things) zero thing e = let same : x ≡ thing = cc in ap (λ t. Some (shown t)) same
get_map shown (x ∷ things) (suc place) thing e = get_map shown things place thing e

numbered_map : {S T : Type 0} (shown : S → T) (things : List S) (number : ℕ) (thing : S)
    → numbered things number ≡ Some thing → numbered (map shown things) number ≡ Some (shown thing)
numbered_map shown things zero thing e = cc
numbered_map shown things (suc place) thing e = get_map shown things place thing e

-- what is shown of the thing at a place
pub shown_at : {S T : Type 0} (shown : S → T) (things : List S) (number place : ℕ) (thing : S) (value : T)
    → number ≡ place + 1 → place < length things → thing ≡ get_or things place thing → value ≡ shown thing
    → Some value ≡ numbered (map shown things) number
shown_at shown things number place thing value is within at shows =
    ap Some shows ∙ sym (numbered_map shown things number thing (numbered_at things number place thing is within at))

-- a world of new sites
pub new_made : {V : Type 0} (shown : V → List Operation) (all : List SiteState) (none : List V) (counter sites : ℕ)
    → all ≡ replicate counter new_site → counter ≡ sites → none ≡ []
    → record { sites = all; packets = map shown none } ≡ new_world sites
new_made shown all none counter sites made reached empty =
    let each : all ≡ replicate sites new_site = made ∙ ap (λ n. replicate n new_site) reached in
    let nothing : map shown none ≡ [] = ap (map shown) empty in
    λ i. record { sites = each i; packets = nothing i }

-- what happens at a site happens in the world
pub at_site : (does : SiteState → Answer → SiteState → Type 0) (old : WorldState) (site : ℕ) (at after : SiteState) (answer : Answer) (new : WorldState) → numbered old.sites site ≡ Some at → does at answer after → new ≡ with_site old site after → AtSite does site old answer new
at_site does old site at after answer new found done is =
    subst (λ o. MatchOption o ((answer ≡ Err NoSite) × (new ≡ old)) (λ at. (after : SiteState) × does at answer after × (new ≡ with_site old site after))) (sym found) (after, done, is)

no_such : {V : Type 0} (shown : V → List Operation) (things : List V) (number : ℕ)
    → (number ≡ 0) ⊎ (length things < number) → numbered (map shown things) number ≡ None
no_such shown things number (inl none) = numbered_past (map shown things) number (inl none)
no_such shown things number (inr past) = let same = length-map things shown in numbered_past (map shown things) number
    (inr (omega (arith, same)))

-- a delivery of no packet
pub delivery_of_none : {V : Type 0} (shown : V → List Operation) (sites : List SiteState) (things : List V)
    (site place packet : ℕ) → site ≡ place + 1 → place < length sites → (packet ≡ 0) ⊎ (length things < packet)
    → let world : WorldState = record { sites = sites; packets = map shown things } in AtSite
    (IsDeliveryOf (numbered (map shown things) packet)) site world (Err NoPacket) world
delivery_of_none shown sites things site place packet is within none =
    let world : WorldState = record { sites = sites; packets = map shown things } in
    let at : SiteState = get_or sites place new_site in
    let found : numbered sites site ≡ Some at = ap (numbered sites) (is ∙ add-one place) ∙ slice_get-get_or sites place new_site within in
    let same : world ≡ with_site world site at = ap (λ s. record { sites = s; packets = map shown things }) (sym (replaced_back sites site at found)) in
    at_site (IsDeliveryOf (numbered (map shown things) packet)) world site at at (Err NoPacket) world found
    (subst (λ p. IsDeliveryOf p at (Err NoPacket) at) (sym (no_such shown things packet none)) (refl, refl)) same

-- a delivery of a packet
pub delivery_of_one : {V : Type 0} (shown : V → List Operation) (sites : List SiteState) (things : List V)
    (site place packet number : ℕ) (at after : SiteState) (found : V) (ops : List Operation) (answer : Answer)
    → site ≡ place + 1 → place < length sites → at ≡ get_or sites place at → number ≡ packet + 1
    → packet < length things → found ≡ get_or things packet found → ops ≡ shown found → IsDelivery ops at answer after
    → let world : WorldState = record { sites = sites; packets = map shown things } in AtSite
    (IsDeliveryOf (numbered (map shown things) number)) site world answer
    (record { sites = slice_set sites place after; packets = map shown things })
delivery_of_one shown sites things site place packet number at after found ops answer is within read is_packet within_packets read_packet shows done =
    let world : WorldState = record { sites = sites; packets = map shown things } in
    at_site (IsDeliveryOf (numbered (map shown things) number)) world site at after answer
    (record { sites = slice_set sites place after; packets = map shown things })
    (numbered_at sites site place at is within read)
    (subst (λ p. IsDeliveryOf p at answer after) (shown_at shown things number packet found ops is_packet within_packets read_packet shows) done)
    (ap (λ s. record { sites = s; packets = map shown things }) (sym (replaced_at sites site place after is)))

-- ---- sending
-- the site that sends has the journal
at_one : (P : Type 0) (Q : List Operation → Type 0) (journal : List Operation) (o : Option SiteState)
    → Some journal ≡ option_map (λ (at : SiteState). at.journal) o → Q journal → MatchOption o P (λ at. Q at.journal)
at_one P Q journal None e h = cc
at_one P Q journal (Some at) e h = let same : journal ≡ at.journal = cc in subst Q same h

pub at_sender : (old new : WorldState) (site : ℕ) (front : Reaches) (journal : List Operation) (answer : Answer)
    → Some journal ≡ option_map (λ (at : SiteState). at.journal) (numbered old.sites site)
    → IsSend front journal old answer new → IsSendAt site front old answer new
at_sender old new site front journal answer found sent = at_one ((answer ≡ Err NoSite) × (new ≡ old))
    (λ j. IsSend front j old answer new) journal (numbered old.sites site) found sent

pub pushed : {T E : Type 0} {L : Type 0} (r : Result T E) (failed : Bool) (new more old : L) → failed ≡ is_err r
    → failed ≡ false → new ≡ cond (is_ok r) more old → new ≡ more
pushed (Ok x) failed new more old is no_error e = e
pushed (Err x) failed new more old is no_error e = absurd (false≢true (sym no_error ∙ is))

pub not_pushed : {T E : Type 0} {L : Type 0} (r : Result T E) (failed : Bool) (new more old : L) → failed ≡ is_err r
    → failed ≡ true → new ≡ cond (is_ok r) more old → new ≡ old
not_pushed (Ok x) failed new more old is refused e = absurd (false≢true (sym is ∙ refused))
not_pushed (Err x) failed new more old is refused e = e

pub sent : {V : Type 0} (shown : V → List Operation) (sites : List SiteState) (things more : List V) (front : Reaches)
    (journal lacked : List Operation) (packet : V) (number count : ℕ) (rest : Bool)
    → IsMissing journal front lacked → shown packet ≡ take 256 lacked → rest ≡ nat_lt 256 (length lacked)
    → count ≡ length (shown packet) → more ≡ things ++ packet ∷ [] → number ≡ length more
    → IsSend front journal (record { sites = sites; packets = map shown things }) (Ok (Packet number count rest))
    (record { sites = sites; packets = map shown more })
sent shown sites things more front journal lacked packet number count rest lacks is left counted pushed numbers =
    let packets : map shown more ≡ map shown things ++ take 256 lacked ∷ [] =
    ap (map shown) pushed ∙ map-append shown things (packet ∷ []) ∙ ap (λ p. map shown things ++ p ∷ []) is in
    (lacked, lacks, ap (λ l. record { sites = sites; packets = l }) packets, numbers ∙ sym (length-map more shown), counted ∙ ap length is, left)
