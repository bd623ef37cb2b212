-- What a reader holds after a group of lines.
use Rattle.std.proofs.Common.{◌≡◌, ◌∙◌, Bool, true, false, not, cond, List, [], ◌∷◌, ◌++◌, map, refl, sym, ap, subst}
use Rattle.std.proofs.Common.{inl, inr, append-nil}
use Rattle.std.specs.Prelude.{◌⊎◌, Contains, Option, Some, None, filter}
use Rattle.std.specs.List.{All}
use Rattle.std.specs.List.Sorted.{IsStrictlySortedBy}
use Rattle.std.proofs.lemmas.Bool.{false≢true}
use Rattle.std.proofs.lemmas.List.Elements.{All-head, All-tail}
use Rattle.lattice_core.specs.MemberLaws.{Contains-cons_cases, Contains-first, Contains-later, Contains-none}
use Rattle.lattice_core.specs.MemberLaws.{Contains-of_filter}
use Rattle.lattice_core.specs.MemberLaws.{Contains-to_filter, Contains-of_map, Contains-to_map}
use Rattle.state_core.specs.declared.item.Item.{Item}
use Rattle.state_core.specs.Items.{item_cmp}
use Rattle.ready_core.specs.declared.verdicts.Left.{Left}
use Rattle.ready_core.specs.Verdicts.{Judged, items_out}
use Rattle.report_changes.specs.declared.lines.Line.{Line}
use Rattle.report_changes.specs.declared.lines.Line.TheVariants.{NotReady, Ready, Out, Gone}
use Rattle.report_changes.specs.Listing.{is_listed, is_out, is_out_for, is_ready, is_waiting, listed_of, is_same_item}
use Rattle.report_changes.specs.Lines.{changed}
use Rattle.report_changes.specs.Following.{Held, NamesEachOnce, Stand, StandsIn, after_one_line, after_lines}
use Rattle.report_changes.specs.Following.{all_changed, empty}
use Rattle.report_changes.specs.Following.{nothing_listed, put}
use Rattle.report_changes.specs.Following.{stands_out, stands_ready}
use Rattle.report_changes.specs.Searching.{same_is_one, item_is_itself}
use Rattle.report_changes.proofs.Members.{either, has_out, has_ready, is_false, neither, one_left}
use Rattle.report_changes.proofs.Members.{out_for_has, out_has, ready_has, sorted_kept}

after_both : (xs ys : List Line) (held : Held) → after_lines (xs ++ ys) held ≡ after_lines ys (after_lines xs held)
after_both [] ys held = refl
after_both (x ∷ xs) ys held = after_both xs ys (after_one_line x held)

-- ---- the lines of one kind: the last one that names an item says how it stands

module _ {X : Type 0} (line : X → Line) (named : X → Item) (gives : X → Option Stand)
    (says : (x : X) (held : Held) → after_one_line (line x) held ≡ put (named x) (gives x) held) where
  put_by : (b : Bool) (x : X) (held : Held) (item : Item) → is_same_item (named x) item ≡ b
      → ((named x ≡ item) × (put (named x) (gives x) held item ≡ gives x))
      ⊎ ((¬ (named x ≡ item)) × (put (named x) (gives x) held item ≡ held item))
  put_by true x held item e = inl (same_is_one (named x) item e, ap (λ b. cond b (gives x) (held item)) e)
  put_by false x held item e = inr (
    λ same. false≢true (sym e ∙ subst (λ i. is_same_item (named x) i ≡ true) same (item_is_itself (named x))),
    ap (λ b. cond b (gives x) (held item)) e,
  )

  pub section : (xs : List X) (held : Held) (item : Item)
      → ((x : X) × Contains xs x × (named x ≡ item) × (after_lines (map line xs) held item ≡ gives x))
      ⊎ (((x : X) → Contains xs x → ¬ (named x ≡ item)) × (after_lines (map line xs) held item ≡ held item))
  section [] held item = inr (λ x c. absurd (Contains-none x c), refl)
  section (x ∷ xs) held item = elim (section xs (after_one_line (line x) held) item) [
    | inl there ↦ inl (there.0, Contains-later x xs there.0 there.1, there.2, there.3)
    | inr not_later ↦ elim (put_by (is_same_item (named x) item) x held item refl) [
      | inl here ↦ inl (x, Contains-first x xs, here.0, not_later.1 ∙ ap (λ h. h item) (says x held) ∙ here.1)
      | inr not_here ↦ inr (
        λ y c. elim (Contains-cons_cases x xs y c) [
          | inl same ↦ subst (λ z. ¬ (named z ≡ item)) same not_here.0
          | inr later ↦ not_later.0 y later
        ],
        not_later.1 ∙ ap (λ h. h item) (says x held) ∙ not_here.1,
      )
    ]
  ]

-- ---- one group

-- what a filter leaves out fails its test
left_out : {X : Type 0} (p : X → Bool) (xs : List X) (x : X) → ¬ Contains (filter p xs) x → Contains xs x
    → ¬ (p x ≡ true)
left_out p xs x none c passes = none (Contains-to_filter p xs x c passes)

fails : (b : Bool) → ¬ (not b ≡ true) → b ≡ true
fails true n = refl
fails false n = absurd (n refl)

-- what a filter by the contrary of a test leaves out passes the test
passes : {X : Type 0} (p : X → Bool) (xs : List X) (x : X) → ¬ Contains (filter (λ y. not (p y)) xs) x → Contains xs x
    → p x ≡ true
passes p xs x none c = fails (p x) (left_out (λ y. not (p y)) xs x none c)

-- what it keeps fails the test
kept : {X : Type 0} (p : X → Bool) (xs : List X) (x : X) → Contains (filter (λ y. not (p y)) xs) x
    → Contains xs x × (p x ≡ false)
kept p xs x c = let both = Contains-of_filter (λ y. not (p y)) xs x c in (both.0, is_false (p x) both.1)

none_at : {X : Type 0} (f : X → Item) (xs : List X) (item : Item) → ((x : X) → Contains xs x → ¬ (f x ≡ item)) → (x : X)
    → f x ≡ item → ¬ Contains xs x
none_at f xs item none x e c = none x c e

module _ (old new : Judged) (once : NamesEachOnce old) (item : Item) where
  -- what is not listed stands nowhere
  not_listed : is_listed new item ≡ false → StandsIn new item None
  not_listed e =
      let both = neither (is_ready new item) (is_out new item) e in (
        λ c. false≢true (sym both.0 ∙ has_ready new item c),
        λ c.
            let there = Contains-of_map (λ (left : Left). left.item) new.out item c in
            false≢true (sym both.1 ∙ subst (λ i. is_out new i ≡ true) there.2 (has_out new there.0 there.1)),
      )

  -- no line of the group names the item
  module _ (ready_stays : Contains old.ready item → is_ready new item ≡ true)
      (ready_was : Contains new.ready item → Contains old.ready item)
      (out_was : (left : Left) → Contains new.out left → left.item ≡ item
      → (other : Left) × Contains old.out other × (other.item ≡ item) × (other.refusal ≡ left.refusal))
      (out_stays : Contains (items_out old.out) item → is_listed new item ≡ true) where
    still : (s : Option Stand) → StandsIn old item s → StandsIn new item s
    still None stands = (
      λ c. stands.0 (ready_was c),
      λ c.
          let there = Contains-of_map (λ (left : Left). left.item) new.out item c in
          let was = out_was there.0 there.1 there.2 in
          stands.1 (subst (Contains (items_out old.out)) was.2 (Contains-to_map (λ (left : Left). left.item) old.out was.0 was.1)),
    )
    still (Some stands_ready) stands = ready_has new item (ready_stays stands)
    still (Some (stands_out refusal)) stands =
        let of : Contains (items_out old.out) item = subst (Contains (items_out old.out)) stands.2 (Contains-to_map (λ (left : Left). left.item) old.out stands.0 stands.1) in
        elim (either (is_ready new item) (is_out new item) (out_stays of)) [
          | inl ready ↦ absurd (once.apart item (ready_was (ready_has new item ready)) of)
          | inr out ↦
              let there = out_has new item out in
              let was = out_was there.0 there.1 there.2 in
              let same : was.0 ≡ stands.0 = one_left old.out once.in_order was.0 stands.0 was.1 stands.1 (was.2 ∙ sym stands.2) in
              (there.0, there.1, there.2, sym was.3 ∙ ap (λ (left : Left). left.refusal) same ∙ stands.3)
        ]

  -- after the lines of each kind
  module _ (held : Held) (stands : StandsIn old item (held item)) where
    abbrev not_ready : List Item
    not_ready = filter (λ i. not (is_ready new i)) old.ready

    abbrev now_ready : List Item
    now_ready = filter (λ i. not (is_ready old i)) new.ready

    abbrev now_out : List Left
    now_out = filter (λ left. not (is_out_for old left)) new.out

    abbrev gone_ready : List Item
    gone_ready = filter (λ i. not (is_listed new i)) old.ready

    abbrev gone_out : List Left
    gone_out = filter (λ left. not (is_listed new left.item)) old.out

    abbrev first : Held
    first = after_lines (map NotReady not_ready) held

    abbrev second : Held
    second = after_lines (map Ready now_ready) first

    abbrev third : Held
    third = after_lines (map Out now_out) second

    abbrev fourth : Held
    fourth = after_lines (map Gone gone_ready) third

    abbrev fifth : Held
    fifth = after_lines (map (λ left. Gone left.item) gone_out) fourth

    stands_so : (h : Held) (s : Option Stand) → h item ≡ s → StandsIn new item s → StandsIn new item (h item)
    stands_so h s e is = subst (StandsIn new item) (sym e) is

    after_not_ready : (Contains old.ready item → is_listed new item ≡ true)
        → (Contains (items_out old.out) item → is_listed new item ≡ true)
        → ((left : Left) → Contains new.out left → left.item ≡ item
        → (other : Left) × Contains old.out other × (other.item ≡ item) × (other.refusal ≡ left.refusal))
        → (Contains new.ready item → Contains old.ready item) → StandsIn new item (first item)
    after_not_ready ready_listed out_listed out_was ready_was = elim
        (section NotReady (λ i. i) (λ i. None) (λ i h. refl) not_ready held item) [
          | inl left ↦
              let both = kept (is_ready new) old.ready left.0 left.1 in
              let was : Contains old.ready item = subst (Contains old.ready) left.2 both.0 in
              let is_not : is_ready new item ≡ false = subst (λ i. is_ready new i ≡ false) left.2 both.1 in
              elim (either (is_ready new item) (is_out new item) (ready_listed was)) [
                | inl ready ↦ absurd (false≢true (sym is_not ∙ ready))
                | inr out ↦
                    let there = out_has new item out in
                    let other = out_was there.0 there.1 there.2 in
                    absurd (once.apart item was (subst (Contains (items_out old.out)) other.2 (Contains-to_map (λ (l : Left). l.item) old.out other.0 other.1)))
              ]
          | inr none ↦ stands_so first (held item) none.1
              (still (passes (is_ready new) old.ready item (none_at (λ i. i) not_ready item none.0 item refl)) ready_was out_was out_listed (held item) stands)
        ]

    after_ready : (Contains old.ready item → is_listed new item ≡ true)
        → (Contains (items_out old.out) item → is_listed new item ≡ true)
        → ((left : Left) → Contains new.out left → left.item ≡ item
        → (other : Left) × Contains old.out other × (other.item ≡ item) × (other.refusal ≡ left.refusal))
        → StandsIn new item (second item)
    after_ready ready_listed out_listed out_was = elim
        (section Ready (λ i. i) (λ i. Some stands_ready) (λ i h. refl) now_ready first item) [
          | inl now ↦
              let both = kept (is_ready old) new.ready now.0 now.1 in
              stands_so second (Some stands_ready) now.3 (subst (Contains new.ready) now.2 both.0)
          | inr none ↦
              let was : Contains new.ready item → Contains old.ready item = λ c. ready_has old item
              (passes (is_ready old) new.ready item (none_at (λ i. i) now_ready item none.0 item refl) c) in
              subst (StandsIn new item) (sym none.1) (after_not_ready ready_listed out_listed out_was was)
        ]

    after_out : (Contains old.ready item → is_listed new item ≡ true)
        → (Contains (items_out old.out) item → is_listed new item ≡ true) → StandsIn new item (third item)
    after_out ready_listed out_listed = elim
        (section Out (λ left. left.item) (λ left. Some (stands_out left.refusal)) (λ left h. refl) now_out second item) [
          | inl now ↦
              let both = kept (is_out_for old) new.out now.0 now.1 in
              stands_so third (Some (stands_out now.0.refusal)) now.3 (now.0, both.0, now.2, refl)
          | inr none ↦ subst (StandsIn new item) (sym none.1)
              (after_ready ready_listed out_listed (λ left c e.
              let was = out_for_has old left (passes (is_out_for old) new.out left (none_at (λ (l : Left). l.item) now_out item none.0 left e) c) in
              (was.0, was.1, was.2 ∙ e, was.3)))
        ]

    after_gone_ready : (Contains (items_out old.out) item → is_listed new item ≡ true) → StandsIn new item (fourth item)
    after_gone_ready out_listed = elim (section Gone (λ i. i) (λ i. None) (λ i h. refl) gone_ready third item) [
      | inl gone ↦ stands_so fourth None gone.3
          (not_listed (subst (λ i. is_listed new i ≡ false) gone.2 (kept (is_listed new) old.ready gone.0 gone.1).1))
      | inr none ↦ subst (StandsIn new item) (sym none.1)
          (after_out (passes (is_listed new) old.ready item (none_at (λ i. i) gone_ready item none.0 item refl)) out_listed)
    ]

    after_gone : StandsIn new item (fifth item)
    after_gone = elim
        (section (λ left. Gone left.item) (λ left. left.item) (λ left. None) (λ left h. refl) gone_out fourth item) [
          | inl gone ↦ stands_so fifth None gone.3
              (not_listed (subst (λ i. is_listed new i ≡ false) gone.2 (kept (λ left. is_listed new left.item) old.out gone.0 gone.1).1))
          | inr none ↦ subst (StandsIn new item) (sym none.1) (after_gone_ready (λ c.
              let there = Contains-of_map (λ (left : Left). left.item) old.out item c in
              subst (λ i. is_listed new i ≡ true) there.2
              (passes (λ left. is_listed new left.item) old.out there.0
              (none_at (λ (left : Left). left.item) gone_out item none.0 there.0 there.2) there.1)))
        ]

    pub after_changed : StandsIn new item (after_lines (changed old new) held item)
    after_changed =
        let a = map NotReady not_ready in
        let b = map Ready now_ready in
        let c = map Out now_out in
        let d = map Gone gone_ready in
        let e = map (λ left. Gone left.item) gone_out in
        let all : after_lines (a ++ b ++ c ++ d ++ e) held ≡ fifth =
        after_both (a ++ b ++ c ++ d) e held
        ∙ ap (after_lines e) (after_both (a ++ b ++ c) d held
        ∙ ap (after_lines d) (after_both (a ++ b) c held ∙ ap (after_lines c) (after_both a b held))) in
        subst (λ h. StandsIn new item (h item)) (sym all) after_gone

-- ---- all groups

listed_once : (verdicts : Judged) → NamesEachOnce verdicts → NamesEachOnce (listed_of verdicts)
listed_once verdicts once = record {
  apart = λ item ready out.
      let there = Contains-of_map (λ (left : Left). left.item) (filter is_waiting verdicts.out) item out in
      let was = Contains-of_filter is_waiting verdicts.out there.0 there.1 in
      once.apart item ready (subst (Contains (items_out verdicts.out)) there.2 (Contains-to_map (λ (left : Left). left.item) verdicts.out there.0 was.0));
  in_order = sorted_kept item_cmp (λ (left : Left). left.item) is_waiting verdicts.out once.in_order;
}

follow : (before : Judged) → NamesEachOnce before → (earlier : List Judged) (last : Judged)
    → All NamesEachOnce (earlier ++ last ∷ []) → (held : Held) → ((item : Item) → StandsIn before item (held item))
    → (item : Item) → StandsIn (listed_of last) item (after_lines (all_changed before (earlier ++ last ∷ [])) held item)
follow before once [] last all held stands item =
    subst (λ lines. StandsIn (listed_of last) item (after_lines lines held item))
    (sym (append-nil (changed before (listed_of last))))
    (after_changed before (listed_of last) once item held (stands item))
follow before once (verdicts ∷ later) last all held stands item =
    let next : NamesEachOnce (listed_of verdicts) = listed_once verdicts (All-head NamesEachOnce verdicts (later ++ last ∷ []) all) in
    let now : Held = after_lines (changed before (listed_of verdicts)) held in
    subst (λ h. StandsIn (listed_of last) item (h item))
    (sym (after_both (changed before (listed_of verdicts)) (all_changed (listed_of verdicts) (later ++ last ∷ [])) held))
    (follow (listed_of verdicts) next later last (All-tail NamesEachOnce verdicts (later ++ last ∷ []) all) now
    (λ i. after_changed before (listed_of verdicts) once i held (stands i)) item)

nothing_once : NamesEachOnce empty
unfolding IsStrictlySortedBy
nothing_once = record { apart = λ item c. absurd (Contains-none item c); in_order = tt }

pub all_groups : (earlier : List Judged) (last : Judged) → All NamesEachOnce (earlier ++ last ∷ []) → (item : Item)
    → StandsIn (listed_of last) item (after_lines (all_changed empty (earlier ++ last ∷ [])) nothing_listed item)
all_groups earlier last all =
    follow empty nothing_once earlier last all nothing_listed
    (λ item. (λ c. Contains-none item c, λ c. Contains-none item c))
