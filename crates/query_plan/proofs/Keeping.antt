-- What waits goes on waiting.
use Rattle.std.proofs.Common.{◌≡◌, ◌∙◌, ◌⊎◌, ℕ, Bool, true, false, not, cond, List, [], ◌∷◌, ◌++◌, Option}
use Rattle.std.proofs.Common.{if◌then◌else◌}
use Rattle.std.proofs.Common.{inl, inr, refl, sym, ap}
use Rattle.std.specs.Prelude.{◌==◌, ◌&&◌, ◌||◌, filter}
use Rattle.std.specs.Ordering.{nat_cmp}
use Rattle.std.specs.BTreeMap.{BTreeMap}
use Rattle.std.specs.BTreeSet.{BTreeSet, contains}
use Rattle.std.proofs.lemmas.Bool.{eqb-true, false≢true}
use Rattle.query_plan.specs.Ending.{AreChangesRefused, ChangesFail, QueryFails, stays}
use Rattle.query_plan.specs.Keeping.{IsWaiting, WaitsOn}
use Rattle.query_plan.specs.Plan.{is_known_by, is_on_list}
use Rattle.query_plan.specs.Stepping.{LosesQuery}
use Rattle.query_plan.specs.declared.line.Word.TheVariants.{Ask, Need, All, Next, Listed, Whole, Refused, Late, Lost}
use Rattle.query_plan.specs.declared.marks.Marks.{Marks}
use Rattle.query_plan.specs.declared.notice.Notice.{Notice}
use Rattle.query_plan.specs.declared.plan.Plan.{Plan}
use Rattle.query_plan.specs.declared.schedule.Failure.{Failure}
use Rattle.query_plan.specs.declared.schedule.Failure.TheVariants.{Refused as IsRefused, Late as IsLate, Lost as IsLost}
use Rattle.query_plan.specs.declared.schedule.Query.{Query}
use Rattle.query_plan.specs.declared.schedule.Query.TheVariants.{Nothing, All as OfAll, Changes}

-- ---- lists

or_true : (p q : Bool) → q ≡ true → (p || q) ≡ true
or_true true q e = refl
or_true false q e = e

-- a list that is longer has what the shorter one has
on_longer : (changes more : List ℕ) (change : ℕ) → is_on_list changes change ≡ true
    → is_on_list (changes ++ more) change ≡ true
on_longer [] more change on = absurd (false≢true on)
on_longer (x ∷ changes) more change on =
    elim (x == change) as
    (λ b. (b || is_on_list changes change) ≡ true → (b || is_on_list (changes ++ more) change) ≡ true)
    [ true ↦ λ e. refl | false ↦ λ e. on_longer changes more change e ] on

filter_step : (test : ℕ → Bool) (x : ℕ) (changes : List ℕ) (change : ℕ) → test change ≡ true
    → (is_on_list changes change ≡ true → is_on_list (filter test changes) change ≡ true)
    → (here : Bool) → (x == change) ≡ here → (first : Bool) → test x ≡ first
    → (here || is_on_list changes change) ≡ true
    → is_on_list (cond first (x ∷ filter test changes) (filter test changes)) change ≡ true
filter_step test x changes change passes more true is true first on =
    ap (λ (b : Bool). b || is_on_list (filter test changes) change) is
filter_step test x changes change passes more true is false first on =
    absurd (false≢true (sym first ∙ ap test (eqb-true x change is) ∙ passes))
filter_step test x changes change passes more false is true first on = or_true (x == change) _ (more on)
filter_step test x changes change passes more false is false first on = more on

-- what passes a test stays on a list
pub on_filter : (test : ℕ → Bool) (changes : List ℕ) (change : ℕ) → test change ≡ true
    → is_on_list changes change ≡ true
    → is_on_list (filter test changes) change ≡ true
on_filter test [] change passes on = absurd (false≢true on)
on_filter test (x ∷ changes) change passes on =
    filter_step test x changes change passes (on_filter test changes change passes) (x == change) refl (test x) refl
    (ap (λ (b : Bool). b || is_on_list changes change) (sym refl) ∙ on)

on_same : (changes others : List ℕ) (change : ℕ) → others ≡ changes → is_on_list changes change ≡ true
    → is_on_list others change ≡ true
on_same changes others change same on = ap (λ (l : List ℕ). is_on_list l change) same ∙ on

on_grown : (begins : Bool) (changes others more : List ℕ) (change : ℕ)
    → others ≡ (if begins then changes ++ more else changes) → is_on_list changes change ≡ true
    → is_on_list others change ≡ true
on_grown true changes others more change grown on =
    on_same (changes ++ more) others change grown (on_longer changes more change on)
on_grown false changes others more change grown on = on_same changes others change grown on

-- ---- queries that fail

lost_keeps : (query : Query) (now : ℕ) (old new : Plan) (told : Notice) → QueryFails query now IsLost old told new
    → new.waiting.items ≡ old.waiting.items
lost_keeps Nothing now old new told fails = ap (λ w. w.items) fails.same.0
lost_keeps OfAll now old new told fails = ap (λ w. w.items) fails.same.0
lost_keeps Changes now old new told fails = ap (λ w. w.items) fails.same.0

losing_keeps : (query : Query) (now : ℕ) (old new : Plan) (notice : Option Notice) → LosesQuery query now old notice new
    → new.waiting.items ≡ old.waiting.items
losing_keeps Nothing now old new notice loses = ap (λ p. p.waiting.items) loses.1
losing_keeps OfAll now old new notice loses = lost_keeps old.schedule.query now old new loses.0 loses.2.0
losing_keeps Changes now old new notice loses = lost_keeps old.schedule.query now old new loses.0 loses.2.0

-- one that was named alone waits on if it is known, and all others do
alone : (marks : BTreeMap ℕ Marks) (x change : ℕ) (changes others : List ℕ) (knows is : Bool)
    → is_known_by marks x ≡ knows → (change == x) ≡ is
    → others ≡ (if knows then changes else filter (λ other. not (other == x)) changes)
    → is_on_list changes change ≡ true
    → ((x ∷ [] ≡ change ∷ []) × (is_known_by marks change ≡ false)) ⊎ (is_on_list others change ≡ true)
alone marks x change changes others true is known same rest on = inr (on_same changes others change rest on)
alone marks x change changes others false true known same rest on =
    let one = sym (eqb-true change x same) in
    inl (ap (λ (n : ℕ). n ∷ []) one, ap (is_known_by marks) (sym one) ∙ known)
alone marks x change changes others false false known same rest on =
    inr (on_same (filter (λ other. not (other == x)) changes) others change rest
    (on_filter (λ other. not (other == x)) changes change (ap not same) on))

refused_keeps : (named : List ℕ) (late : Bool) (now change : ℕ) (old new : Plan) (told : Notice)
    → AreChangesRefused now late named old told new → IsWaiting old change
    → ((named ≡ change ∷ []) × (is_known_by old.marks change ≡ false)) ⊎ IsWaiting new change
refused_keeps [] late now change old new told refused on =
    inr (on_same old.waiting.items new.waiting.items change (ap (λ w. w.items) refused.same.0) on)
refused_keeps (x ∷ []) late now change old new told (inl repeated) on =
    inr (on_same old.waiting.items new.waiting.items change (ap (λ w. w.items) repeated.waits) on)
refused_keeps (x ∷ []) late now change old new told (inr given) on =
    alone old.marks x change old.waiting.items new.waiting.items (is_known_by old.marks x) (change == x) refl refl
    given.waits on
refused_keeps (x ∷ y ∷ named) late now change old new told refused on =
    inr (on_same old.waiting.items new.waiting.items change (ap (λ w. w.items) refused.same.0) on)

all_paused : (query : Query) (late : Failure) (now change : ℕ) (old new : Plan) (told : Notice)
    → QueryFails query now late old told new
    → (ChangesFail now late old.named.items old told new → IsWaiting old change
    → ((old.named.items ≡ change ∷ []) × (is_known_by old.marks change ≡ false)) ⊎ IsWaiting new change)
    → IsWaiting old change
    → ((old.named.items ≡ change ∷ []) × (is_known_by old.marks change ≡ false)) ⊎ IsWaiting new change
all_paused Nothing late now change old new told fails keeps on = keeps fails on
all_paused OfAll late now change old new told fails keeps on =
    inr (on_same old.waiting.items new.waiting.items change (ap (λ w. w.items) fails.same.0) on)
all_paused Changes late now change old new told fails keeps on = keeps fails on

-- ---- a whole answer

whole_keeps : (named : List ℕ) (listed : BTreeSet ℕ) (changes others : List ℕ) (change : ℕ) (is_named is_listed : Bool)
    → is_on_list named change ≡ is_named → contains nat_cmp listed change ≡ is_listed
    → others ≡ filter (stays named listed) changes → is_on_list changes change ≡ true
    → ((is_on_list named change ≡ true) ⊎ (contains nat_cmp listed change ≡ true)) ⊎ (is_on_list others change ≡ true)
whole_keeps named listed changes others change true is_listed n l rest on = inl (inl n)
whole_keeps named listed changes others change false true n l rest on = inl (inr l)
whole_keeps named listed changes others change false false n l rest on =
    let passes : stays named listed change ≡ true =
    ap (λ (b : Bool). not b && not (contains nat_cmp listed change)) n ∙ ap (λ (b : Bool). not b) l in
    inr (on_same (filter (stays named listed) changes) others change rest
    (on_filter (stays named listed) changes change passes on))

-- ---- each line

pub kept : WaitsOn
kept (Ask other) now change old new answer (silent, asks) on =
    inr (on_grown _ old.waiting.items new.waiting.items (other ∷ []) change asks.waits on)
kept (Need other) now change old new answer (silent, asks) on =
    inr (on_grown _ old.waiting.items new.waiting.items (other ∷ []) change asks.waits on)
kept All now change old new answer (silent, wants) on =
    inr (on_same old.waiting.items new.waiting.items change (ap (λ p. p.waiting.items) wants) on)
kept Next now change old new answer (between, loses, given, is, gives) on =
    let same = ap (λ w. w.items) gives.1.waiting ∙ losing_keeps old.schedule.query now old between answer.notice loses in
    inr (on_same old.waiting.items new.waiting.items change same on)
kept (Listed other) now change old new answer (under, silent, lists) on =
    inr (on_same old.waiting.items new.waiting.items change (ap (λ w. w.items) lists.same.0) on)
kept Whole now change old new answer (under, silent, ends) on =
    whole_keeps old.named.items old.listed old.waiting.items new.waiting.items change _ _ refl refl ends.waits on
kept Refused now change old new answer (under, told, is, ends) on =
    all_paused old.schedule.query IsRefused now change old new told ends.0
    (refused_keeps old.named.items false now change old new told) on
kept Late now change old new answer (under, told, is, ends) on =
    all_paused old.schedule.query IsLate now change old new told ends.0
    (refused_keeps old.named.items true now change old new told) on
kept Lost now change old new answer (under, told, is, ends) on =
    inr (on_same old.waiting.items new.waiting.items change (lost_keeps old.schedule.query now old new told ends.0) on)
