-- The list of those that wait and what is kept of each change agree.
use Rattle.std.proofs.Common.{◌≡◌, ◌∙◌, ℕ, Bool, true, false, not, List, [], ◌∷◌, ◌++◌, Option, if◌then◌else◌}
use Rattle.std.proofs.Common.{inl, inr, refl, sym, ap, subst}
use Rattle.std.specs.Prelude.{◌==◌, ◌&&◌, ◌||◌, filter, nat_le}
use Rattle.std.specs.Ordering.{nat_cmp}
use Rattle.std.specs.BTreeSet.{BTreeSet, contains}
use Rattle.std.proofs.lemmas.Bool.{eqb-true, false≢true}
use Rattle.query_plan.specs.Ending.{AreChangesRefused, ChangesFail, QueryFails, given_up, marked, stays}
use Rattle.query_plan.specs.Keeping.{Agrees}
use Rattle.query_plan.specs.Marks.{as_listed, as_repeated, as_unlisted}
use Rattle.query_plan.specs.Plan.{IsAskedFor, IsNewPlan, begins_to_wait, greatest_change, is_on_list, marks_after}
use Rattle.query_plan.specs.Plan.{marks_at}
use Rattle.query_plan.specs.Stepping.{LosesQuery, StepsSo}
use Rattle.query_plan.specs.declared.line.Word.{Word}
use Rattle.query_plan.specs.declared.line.Word.TheVariants.{Ask, Need, All, Next, Listed, Whole, Refused, Late, Lost}
use Rattle.query_plan.specs.declared.marks.Marks.{Marks}
use Rattle.query_plan.specs.declared.notice.Notice.{Notice}
use Rattle.query_plan.specs.declared.plan.Plan.{Plan}
use Rattle.query_plan.specs.declared.schedule.Failure.{Failure}
use Rattle.query_plan.specs.declared.schedule.Failure.TheVariants.{Refused as IsRefused, Late as IsLate, Lost as IsLost}
use Rattle.query_plan.specs.declared.schedule.Query.{Query}
use Rattle.query_plan.specs.declared.schedule.Query.TheVariants.{Nothing, All as OfAll, Changes}
use Rattle.query_plan.specs.declared.schedule.Settings.{Settings}
use Rattle.query_plan.specs.declared.step.Answer.{Answer}
use Rattle.query_plan.proofs.Keeping.{on_filter}
use Rattle.query_plan.proofs.Portions.{on_filtered}

-- ---- tests

both : (p q : Bool) → (p ≡ true → q ≡ true) → (q ≡ true → p ≡ true) → p ≡ q
both true q there back = sym (there refl)
both false true there back = back refl
both false false there back = refl

turned : (x y : ℕ) → (x == y) ≡ true → (y == x) ≡ true
turned x y is =
    let same = eqb-true x y is in
    subst (λ (n : ℕ). (n == x) ≡ true) same (subst (λ (n : ℕ). (x == n) ≡ true) (sym same) is)

eq_turned : (x y : ℕ) → (x == y) ≡ (y == x)
eq_turned x y = both (x == y) (y == x) (turned x y) (turned y x)

or_none : (p : Bool) → (p || false) ≡ p
or_none true = refl
or_none false = refl

or_some : (p : Bool) → (p || true) ≡ true
or_some true = refl
or_some false = refl

and_none : (p : Bool) → (p && false) ≡ false
and_none true = refl
and_none false = refl

and_some : (p : Bool) → (p && true) ≡ p
and_some true = refl
and_some false = refl

-- ---- lists

on_appended : (changes : List ℕ) (last change : ℕ)
    → is_on_list (changes ++ last ∷ []) change ≡ (is_on_list changes change || (last == change))
on_appended [] last change = or_none (last == change)
on_appended (x ∷ changes) last change =
    elim (x == change) as
    (λ b. (b || is_on_list (changes ++ last ∷ []) change) ≡ ((b || is_on_list changes change) || (last == change)))
    [ true ↦ refl | false ↦ on_appended changes last change ]

on_filter_is : (test : ℕ → Bool) (changes : List ℕ) (change : ℕ) (on passes : Bool) → is_on_list changes change ≡ on
    → test change ≡ passes → is_on_list (filter test changes) change ≡ (on && passes)
on_filter_is test changes change true true on passes = on_filter test changes change passes on
on_filter_is test changes change true false on passes =
    both (is_on_list (filter test changes) change) false
    (λ e. absurd (false≢true (sym passes ∙ (on_filtered test changes change e).1))) (λ e. absurd (false≢true e))
on_filter_is test changes change false passes on is =
    both (is_on_list (filter test changes) change) false
    (λ e. absurd (false≢true (sym on ∙ (on_filtered test changes change e).0))) (λ e. absurd (false≢true e))

-- ---- steps that leave both

same_both : (old new : Plan) → new.waiting ≡ old.waiting → new.marks ≡ old.marks → Agrees old → Agrees new
same_both old new waiting marks agrees = λ change.
    ap (λ m. (marks_at m change).waits) marks ∙ agrees change ∙ sym (ap (λ w. is_on_list w.items change) waiting)

-- ---- what feeds ask for

unchanged : (here event : Bool) (before : Marks)
    → (if here then marks_after false event before else before).waits ≡ before.waits
unchanged true true before = refl
unchanged true false before = refl
unchanged false event before = refl

asked_agrees : (begins fits event : Bool) (change other : ℕ) (changes others : List ℕ) (before after : Marks)
    (is : Bool)
    → (other == change) ≡ is → (begins ≡ true → fits ≡ true)
    → others ≡ (if begins then changes ++ change ∷ [] else changes)
    → after ≡ (if fits && is then marks_after begins event before else before)
    → before.waits ≡ is_on_list changes other → after.waits ≡ is_on_list others other
asked_agrees true false event change other changes others before after is e fits grown kept agrees =
    absurd (false≢true (fits refl))
asked_agrees true true event change other changes others before after true e fits grown kept agrees =
    ap (λ m. m.waits) kept
    ∙ sym (ap (λ l. is_on_list l other) grown ∙ on_appended changes change other
    ∙ ap (λ (b : Bool). is_on_list changes other || b) (turned other change e) ∙ or_some (is_on_list changes other))
asked_agrees true true event change other changes others before after false e fits grown kept agrees =
    ap (λ m. m.waits) kept ∙ agrees
    ∙ sym (ap (λ l. is_on_list l other) grown ∙ on_appended changes change other
    ∙ ap (λ (b : Bool). is_on_list changes other || b) (eq_turned change other ∙ e)
    ∙ or_none (is_on_list changes other))
asked_agrees false fits event change other changes others before after is e fits' grown kept agrees =
    ap (λ m. m.waits) kept ∙ unchanged (fits && is) event before ∙ agrees ∙ sym (ap (λ l. is_on_list l other) grown)

first_of : (p q : Bool) → (p && q) ≡ true → p ≡ true
first_of true q e = refl
first_of false q e = e

asks_agree : (now change : ℕ) (event : Bool) (old new : Plan) → IsAskedFor now change event old new → Agrees old
    → Agrees new
asks_agree now change event old new asks agrees = λ other.
    asked_agrees (begins_to_wait now change event old)
    (nat_le change greatest_change) event change other old.waiting.items
    new.waiting.items (marks_at old.marks other) (marks_at new.marks other) (other == change) refl
    (first_of (nat_le change greatest_change) _) asks.waits (asks.kept other) (agrees other)

-- ---- how queries end

lost_agrees : (query : Query) (now : ℕ) (old new : Plan) (told : Notice) → QueryFails query now IsLost old told new
    → Agrees old → Agrees new
lost_agrees Nothing now old new told fails agrees = same_both old new fails.same.0 fails.same.1 agrees
lost_agrees OfAll now old new told fails agrees = same_both old new fails.same.0 fails.same.1 agrees
lost_agrees Changes now old new told fails agrees = same_both old new fails.same.0 fails.same.1 agrees

losing_agrees : (query : Query) (now : ℕ) (old new : Plan) (notice : Option Notice)
    → LosesQuery query now old notice new
    → Agrees old → Agrees new
losing_agrees Nothing now old new notice loses agrees =
    same_both old new (ap (λ p. p.waiting) loses.1) (ap (λ p. p.marks) loses.1) agrees
losing_agrees OfAll now old new notice loses agrees =
    lost_agrees old.schedule.query now old new loses.0 loses.2.0 agrees
losing_agrees Changes now old new notice loses agrees =
    lost_agrees old.schedule.query now old new loses.0 loses.2.0 agrees

gives_up_waits : (slow : Bool) (now round : ℕ) (marks : Marks)
    → (given_up slow now round marks).waits ≡ (marks.waits && marks.is_known)
gives_up_waits true now round marks = refl
gives_up_waits false now round marks = refl

given_agrees : (x other : ℕ) (knows is : Bool) (changes others : List ℕ) (alone gone before after : Marks)
    → alone.is_known ≡ knows → (other == x) ≡ is → gone.waits ≡ (alone.waits && alone.is_known)
    → others ≡ (if knows then changes else filter (λ n. not (n == x)) changes)
    → after ≡ (if is then gone else before) → alone.waits ≡ is_on_list changes x
    → before.waits ≡ is_on_list changes other → after.waits ≡ is_on_list others other
given_agrees x other true true changes others alone gone before after k e waits rest kept agrees others_agree =
    ap (λ m. m.waits) kept ∙ waits ∙ ap (λ (b : Bool). alone.waits && b) k ∙ and_some alone.waits ∙ agrees
    ∙ ap (λ (n : ℕ). is_on_list changes n) (sym (eqb-true other x e)) ∙ sym (ap (λ l. is_on_list l other) rest)
given_agrees x other false true changes others alone gone before after k e waits rest kept agrees others_agree =
    ap (λ m. m.waits) kept ∙ waits ∙ ap (λ (b : Bool). alone.waits && b) k ∙ and_none alone.waits
    ∙ sym (ap (λ l. is_on_list l other) rest
    ∙ on_filter_is (λ n. not (n == x)) changes other (is_on_list changes other) false refl (ap not e)
    ∙ and_none (is_on_list changes other))
given_agrees x other true false changes others alone gone before after k e waits rest kept agrees others_agree =
    ap (λ m. m.waits) kept ∙ others_agree ∙ sym (ap (λ l. is_on_list l other) rest)
given_agrees x other false false changes others alone gone before after k e waits rest kept agrees others_agree =
    ap (λ m. m.waits) kept ∙ others_agree
    ∙ sym (ap (λ l. is_on_list l other) rest
    ∙ on_filter_is (λ n. not (n == x)) changes other (is_on_list changes other) true refl (ap not e)
    ∙ and_some (is_on_list changes other))

-- a repetition leaves whether a change waits
repeated_waits : (is : Bool) (x other : ℕ) (old : Plan) → (other == x) ≡ is → Agrees old
    → (if is then as_repeated (marks_at old.marks x) else marks_at old.marks other).waits
    ≡ is_on_list old.waiting.items other
repeated_waits true x other old e agrees =
    agrees x ∙ ap (λ (n : ℕ). is_on_list old.waiting.items n) (sym (eqb-true other x e))
repeated_waits false x other old e agrees = agrees other

refused_agrees : (named : List ℕ) (late : Bool) (now : ℕ) (old new : Plan) (told : Notice)
    → AreChangesRefused now late named old told new → Agrees old → Agrees new
refused_agrees [] late now old new told refused agrees = same_both old new refused.same.0 refused.same.1 agrees
refused_agrees (x ∷ []) late now old new told (inl repeated) agrees = λ other.
    ap (λ m. m.waits) (repeated.kept other)
    ∙ repeated_waits (other == x) x other old refl agrees
    ∙ sym (ap (λ w. is_on_list w.items other) repeated.waits)
refused_agrees (x ∷ []) late now old new told (inr given) agrees = λ other.
    given_agrees x other (marks_at old.marks x).is_known (other == x) old.waiting.items new.waiting.items
    (marks_at old.marks x) (given_up (late && old.schedule.is_well) now old.schedule.round (marks_at old.marks x))
    (marks_at old.marks other) (marks_at new.marks other) refl refl
    (gives_up_waits (late && old.schedule.is_well) now old.schedule.round (marks_at old.marks x)) given.waits
    (given.kept other) (agrees x) (agrees other)
refused_agrees (x ∷ y ∷ named) late now old new told refused agrees =
    same_both old new refused.same.0 refused.same.1 agrees

failed_agrees : (query : Query) (failure : Failure) (now : ℕ) (old new : Plan) (told : Notice)
    → QueryFails query now failure old told new
    → (ChangesFail now failure old.named.items old told new → Agrees old → Agrees new) → Agrees old → Agrees new
failed_agrees Nothing failure now old new told fails keeps agrees = keeps fails agrees
failed_agrees OfAll failure now old new told fails keeps agrees = same_both old new fails.same.0 fails.same.1 agrees
failed_agrees Changes failure now old new told fails keeps agrees = keeps fails agrees

marked_waits : (all : Bool) (until : ℕ) (named : List ℕ) (listed : BTreeSet ℕ) (change : ℕ) (before : Marks)
    (is_named is_listed : Bool) → is_on_list named change ≡ is_named → contains nat_cmp listed change ≡ is_listed
    → (marked all until named listed change before).waits ≡ (before.waits && (not is_named && not is_listed))
marked_waits all until named listed change before is_named true n l =
    ap (λ (b : Bool). (if b then as_listed all before else (if is_on_list named change then as_unlisted until before else before)).waits) l
    ∙ sym (ap (λ (b : Bool). before.waits && b) (and_none (not is_named)) ∙ and_none before.waits)
marked_waits all until named listed change before true false n l =
    ap (λ (b : Bool). (if b then as_listed all before else (if is_on_list named change then as_unlisted until before else before)).waits) l
    ∙ ap (λ (b : Bool). (if b then as_unlisted until before else before).waits) n ∙ sym (and_none before.waits)
marked_waits all until named listed change before false false n l =
    ap (λ (b : Bool). (if b then as_listed all before else (if is_on_list named change then as_unlisted until before else before)).waits) l
    ∙ ap (λ (b : Bool). (if b then as_unlisted until before else before).waits) n ∙ sym (and_some before.waits)

whole_agrees : (all : Bool) (until : ℕ) (named : List ℕ) (listed : BTreeSet ℕ) (change : ℕ) (changes others : List ℕ)
    (before after : Marks) (is_named is_listed : Bool) → is_on_list named change ≡ is_named
    → contains nat_cmp listed change ≡ is_listed → others ≡ filter (stays named listed) changes
    → after ≡ marked all until named listed change before → before.waits ≡ is_on_list changes change
    → after.waits ≡ is_on_list others change
whole_agrees all until named listed change changes others before after is_named is_listed n l rest kept agrees =
    ap (λ m. m.waits) kept
    ∙ marked_waits all until named listed change before is_named is_listed n l
    ∙ ap (λ (b : Bool). b && (not is_named && not is_listed)) agrees
    ∙ sym (ap (λ l'. is_on_list l' change) rest
    ∙ on_filter_is (stays named listed) changes change (is_on_list changes change) (not is_named && not is_listed) refl
    (ap (λ (b : Bool). not b && not (contains nat_cmp listed change)) n ∙ ap (λ (b : Bool). not is_named && not b) l))

-- ---- each line

pub agree_new : (settings : Settings) (plan : Plan) → IsNewPlan settings plan → Agrees plan
agree_new settings plan new = λ change.
    ap (λ m. m.waits) (new.none_kept change) ∙ sym (ap (λ l. is_on_list l change) new.none_waits)

pub agree_on : (word : Word) (now : ℕ) (old new : Plan) (answer : Answer) → StepsSo word now old answer new
    → Agrees old → Agrees new
agree_on (Ask change) now old new answer (silent, asks) agrees = asks_agree now change true old new asks agrees
agree_on (Need change) now old new answer (silent, asks) agrees = asks_agree now change false old new asks agrees
agree_on All now old new answer (silent, wants) agrees =
    same_both old new (ap (λ p. p.waiting) wants) (ap (λ p. p.marks) wants) agrees
agree_on Next now old new answer (between, loses, given, is, gives) agrees =
    same_both between new gives.1.waiting gives.1.marks
    (losing_agrees old.schedule.query now old between answer.notice loses agrees)
agree_on (Listed change) now old new answer (under, silent, lists) agrees =
    same_both old new lists.same.0 lists.same.1 agrees
agree_on Whole now old new answer (under, silent, ends) agrees = λ change.
    whole_agrees _ _ old.named.items old.listed change old.waiting.items new.waiting.items (marks_at old.marks change)
    (marks_at new.marks change) _ _ refl refl ends.waits (ends.kept change) (agrees change)
agree_on Refused now old new answer (under, told, is, ends) agrees =
    failed_agrees old.schedule.query IsRefused now old new told ends.0
    (refused_agrees old.named.items false now old new told) agrees
agree_on Late now old new answer (under, told, is, ends) agrees =
    failed_agrees old.schedule.query IsLate now old new told ends.0
    (refused_agrees old.named.items true now old new told) agrees
agree_on Lost now old new answer (under, told, is, ends) agrees =
    lost_agrees old.schedule.query now old new told ends.0 agrees
