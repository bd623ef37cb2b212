-- What groups hand over, one after the other.
use Rattle.std.proofs.Common.{◌≡◌, ◌∙◌, ◌≤◌, ◌+◌, ◌++◌, ◌∷◌, [], ℕ, Bool, true, false, List, None, Some, Result, Ok}
use Rattle.std.proofs.Common.{Err}
use Rattle.std.proofs.Common.{append_assoc, append-nil, length, length-append, arith, All, IfErr, IfOk, refl, sym, ap}
use Rattle.std.proofs.Common.{subst}
use Rattle.std.proofs.Common.{inl, inr}
use Rattle.std.specs.Prelude.{◌⊎◌}
use Rattle.std.specs.Io.KnownBytes.{Consumes, IsAtEnd}
use Rattle.std.proofs.KnownBytes.{Appends-nil, Appends-trans, Consumes-nil, Consumes-trans}
use Rattle.std.proofs.lemmas.List.Concat.{flat_map-append}
use Rattle.std.proofs.lemmas.List.Elements.{All-push}
use Rattle.line_reader.specs.Lines.{HasNoLf}
use Rattle.state_core.specs.declared.item.Item.{Item}
use Rattle.enqueue_lines.specs.Ending.{BreaksGroup, BreaksItems, EndsEarly, Gives, HandsGroup, LacksLine, StopsAt}
use Rattle.enqueue_lines.specs.Ending.{number_after}
use Rattle.enqueue_lines.specs.Ending.{site_line_limit}
use Rattle.enqueue_lines.specs.Groups.{Fits, ReadySoFar, GroupItems, fresh, ready_first, ready_after, items_of_lines}
use Rattle.enqueue_lines.specs.Printing.{Pipe, item_line, item_lines, report_line, report_lines}
use Rattle.enqueue_lines.specs.Running.{AllFit, AreWhole, GroupComes, GroupIsHanded, HandsOver, IsNoEnd, KnownEnds}
use Rattle.enqueue_lines.specs.Running.{KnownOutputs}
use Rattle.enqueue_lines.specs.Running.{LineGroup, NoGroupIsLeft, SaysLines, WritesItems, WritesTexts, all_say}
use Rattle.enqueue_lines.specs.Running.{counted_on}
use Rattle.enqueue_lines.specs.Running.{group_says, handed_by, held_after, most_lines, ready_then, starting}
use Rattle.enqueue_lines.specs.declared.fault.EnqueueFault.{EnqueueFault}
use Rattle.enqueue_lines.specs.declared.fault.EnqueueFault.TheVariants.{BadLine, BadEnd, NoEnd, ReadFault, NoMemory}
use Rattle.enqueue_lines.specs.declared.fault.EnqueueFault.TheVariants.{WriteFault, BadQuery, BadHanded}
use Rattle.enqueue_lines.specs.declared.site_line.SiteLine.{SiteLine}
use Rattle.enqueue_lines.specs.declared.site_line.SiteLine.TheVariants.{End}
use Rattle.enqueue_lines.proofs.Stream.{no_line_yet, nothing_says, says_more, says_on}

-- ---- one more group

fits_more : (held : ReadySoFar) (groups : List LineGroup) (group : LineGroup) → AllFit held.ready groups
    → Fits (held_after held groups).ready (items_of_lines group.lines) group.ready
    → AllFit held.ready (groups ++ group ∷ [])
fits_more held [] group all fits = (fits, tt)
fits_more held (first ∷ later) group all fits =
    (all.0, fits_more (ready_first (ready_then held.ready first)) later group all.1 fits)

held_more : (held : ReadySoFar) (groups : List LineGroup) (group : LineGroup)
    → held_after held (groups ++ group ∷ []) ≡ ready_first (ready_then (held_after held groups).ready group)
held_more held [] group = refl
held_more held (first ∷ later) group = held_more (ready_first (ready_then held.ready first)) later group

handed_more : (held : ReadySoFar) (groups : List LineGroup) (group : LineGroup)
    → handed_by held (groups ++ group ∷ [])
    ≡ handed_by held groups ++ fresh (held_after held groups) (ready_then (held_after held groups).ready group)
handed_more held [] group = append-nil (fresh held (ready_then held.ready group))
handed_more held (first ∷ later) group =
    ap (λ items. fresh held (ready_then held.ready first) ++ items)
    (handed_more (ready_first (ready_then held.ready first)) later group)
    ∙ sym (append_assoc (fresh held (ready_then held.ready first)) (handed_by (ready_first (ready_then held.ready first)) later)
    (fresh (held_after (ready_first (ready_then held.ready first)) later)
    (ready_then (held_after (ready_first (ready_then held.ready first)) later).ready group)))

say_more : (groups : List LineGroup) (group : LineGroup)
    → all_say (groups ++ group ∷ []) ≡ all_say groups ++ group_says group
say_more groups group =
    flat_map-append group_says groups (group ∷ [])
    ∙ ap (λ lines. all_say groups ++ lines) (append-nil (group_says group))

-- each group has a line at least
many_say : (groups : List LineGroup) → length groups ≤ length (all_say groups)
many_say [] = omega arith
many_say (group ∷ later) =
    let rest = many_say later in
    let all = length-append (group_says group) (all_say later) in
    let one = length-append group.lines (End group.ready group.out ∷ []) in
    omega (arith, rest, all, one)

-- ---- so far

nothing_written : (old : KnownOutputs) → WritesTexts [] [] old old
nothing_written old = record {
  printed = Appends-nil old.printed;
  reported = Appends-nil old.reported;
  none_unprinted = refl;
  none_unreported = refl;
}

written_on : (lines more reports others : List ℕ) (old mid new : KnownOutputs) → WritesTexts lines reports old mid
    → WritesTexts more others mid new → WritesTexts (lines ++ more) (reports ++ others) old new
written_on lines more reports others old mid new one two = record {
  printed = Appends-trans old.printed mid.printed new.printed lines more one.printed two.printed;
  reported = Appends-trans old.reported mid.reported new.reported reports others one.reported two.reported;
  none_unprinted = two.none_unprinted ∙ one.none_unprinted;
  none_unreported = two.none_unreported ∙ one.none_unreported;
}

-- so far the groups that came were handed over, this is held, and this many lines were counted
pub record SoFar (pipe : Pipe) (earlier : List Item) (before now : KnownEnds) (rest : List ℕ) (held : ReadySoFar)
    (number index : ℕ) : Type 0 where
  pub came : List ℕ
  pub groups : List LineGroup
  pub whole : AreWhole groups
  pub fit : AllFit [] groups
  pub says : SaysLines came rest (all_say groups)
  pub held_is : held ≡ held_after (starting earlier) groups
  pub consumed : Consumes before.left now.left came
  pub none_unread : now.unread ≡ before.unread
  pub written : WritesItems pipe (handed_by (starting earlier) groups) before.outputs now.outputs
  pub numbered : number ≡ counted_on 0 (length (all_say groups))
  pub many : length groups ≡ index

pub at_first : (pipe : Pipe) (earlier : List Item) (before : KnownEnds)
    → SoFar pipe earlier before before [] (starting earlier) 0 0
at_first pipe earlier before = record {
  came = [];
  groups = [];
  whole = λ k d within. absurd (omega (arith, within));
  fit = tt;
  says = no_line_yet [];
  held_is = refl;
  consumed = Consumes-nil before.left;
  none_unread = refl;
  written = nothing_written before.outputs;
  numbered = omega arith;
  many = refl;
}

-- ---- why a group isn't handed over, after lines that were counted

lines_counted : (limit : ℕ) (bytes : List ℕ) (number count unread reads : ℕ) (fault : EnqueueFault)
    → number ≡ counted_on 0 count → BreaksGroup limit bytes number unread reads fault
    → BreaksGroup limit bytes count unread reads fault
lines_counted limit bytes number count unread reads fault counted breaks = record {
  lines = breaks.lines;
  after = breaks.after;
  whole = breaks.whole;
  says = breaks.says;
  cause = elim breaks.cause [
    | inl lacks ↦
        let same : number_after (number + length breaks.lines) ≡ number_after (count + length breaks.lines) = omega (arith, counted) in
        inl (subst (λ n. LacksLine limit breaks.after n unread reads fault) same lacks)
    | inr many ↦ inr (many.0, omega (arith, counted, many.1), many.2)
  ];
}

-- the ends as before the group, but with what is left of the input after it
before_group : KnownEnds → KnownEnds → KnownEnds
before_group now next = record { left = next.left; unread = now.unread; outputs = now.outputs }

stops_counted : (pipe : Pipe) (limit : ℕ) (bytes : List ℕ) (held : ReadySoFar) (number count : ℕ) (now next : KnownEnds)
    (fault : EnqueueFault) → number ≡ counted_on 0 count → StopsAt pipe limit bytes held number now next fault
    → StopsAt pipe limit bytes held count (before_group now next) next fault
unfolding before_group
stops_counted pipe limit bytes held number count now next (BadLine bad) counted stops =
    (stops.0, lines_counted limit bytes number count now.unread next.unread (BadLine bad) counted stops.1)
stops_counted pipe limit bytes held number count now next (BadEnd bad) counted stops =
    let misfit = stops.2 in (
      stops.0,
      stops.1,
      record {
        group = misfit.group;
        after = misfit.after;
        whole = misfit.whole;
        says = misfit.says;
        misfit = misfit.misfit;
        numbered = omega (arith, counted, misfit.numbered);
      },
    )
stops_counted pipe limit bytes held number count now next NoEnd counted stops = stops
stops_counted pipe limit bytes held number count now next ReadFault counted stops =
    (stops.0, lines_counted limit bytes number count now.unread next.unread ReadFault counted stops.1)
stops_counted pipe limit bytes held number count now next NoMemory counted stops = stops
stops_counted pipe limit bytes held number count now next WriteFault counted stops = stops
stops_counted pipe limit bytes held number count now next (BadQuery bad) counted stops = stops
stops_counted pipe limit bytes held number count now next (BadHanded bad) counted stops = stops

module _ (pipe : Pipe) (earlier : List Item) (before now : KnownEnds) (rest : List ℕ) (held : ReadySoFar)
    (number index : ℕ)
    (so : SoFar pipe earlier before now rest held number index) where
  -- all that came, with what is left of it
  hands_over : (next : KnownEnds) (more : List ℕ) → Consumes now.left next.left more → next.unread ≡ now.unread
      → next.outputs ≡ now.outputs
      → (hands : HandsOver pipe earlier before next (rest ++ more)) × (hands.prints.groups ≡ so.groups)
  hands_over next more consumed unread outputs = (
    record {
      came = so.came ++ more;
      lines = item_lines pipe (handed_by (starting earlier) so.groups);
      reports = report_lines pipe (handed_by (starting earlier) so.groups);
      prints = record {
        groups = so.groups;
        whole = so.whole;
        fit = so.fit;
        says = says_on so.came rest more (all_say so.groups) so.says;
        lines_are = refl;
        reports_are = refl;
      };
      consumed = Consumes-trans before.left now.left next.left so.came more so.consumed consumed;
      none_unread = unread ∙ so.none_unread;
      written = subst (λ (o : KnownOutputs). WritesItems pipe (handed_by (starting earlier) so.groups) before.outputs o)
          (sym outputs) so.written;
    },
    refl,
  )

  -- the next group isn't handed over for some reason, so handing over ends early
  pub stops_early : (next : KnownEnds) (more : List ℕ) (limit : ℕ) (fault : EnqueueFault) → limit ≡ site_line_limit
      → Consumes now.left next.left more → StopsAt pipe limit (rest ++ more) held number now next fault
      → EndsEarly pipe earlier before next fault
  unfolding before_group
  stops_early next more limit fault limit_is consumed stops =
      let hands = hands_over (before_group now next) more consumed refl refl in
      let count = length (all_say so.groups) in
      let counted = stops_counted pipe limit (rest ++ more) held number count now next fault so.numbered stops in
      let limited = subst (λ l. StopsAt pipe l (rest ++ more) held count (before_group now next) next fault) limit_is counted in
      let after = subst (λ (h : ReadySoFar). StopsAt pipe site_line_limit (rest ++ more) h count (before_group now next) next fault) so.held_is limited in
      record {
        mid = before_group now next;
        rest = rest ++ more;
        hands = hands.0;
        left = refl;
        stops = subst (λ (groups : List LineGroup). StopsAt pipe site_line_limit (rest ++ more) (held_after (starting earlier) groups)
            (length (all_say groups)) (before_group now next) next fault) (sym hands.1) after;
      }

  -- so many groups came that they can't be counted
  pub stops_counting : most_lines ≤ index → EndsEarly pipe earlier before now ReadFault
  stops_counting many =
      let hands = hands_over now [] (Consumes-nil now.left) refl refl in
      let all = many_say so.groups in
      let bytes = append-nil rest in
      let counted : most_lines ≤ length (all_say so.groups) + 0 = omega (arith, many, all, so.many) in
      record {
        mid = now;
        rest = rest ++ [];
        hands = hands.0;
        left = refl;
        stops = subst (λ (groups : List LineGroup). StopsAt pipe site_line_limit (rest ++ []) (held_after (starting earlier) groups)
            (length (all_say groups)) now now ReadFault) (sym hands.1) (
              refl,
              record {
                lines = [];
                after = rest;
                whole = λ k d within. absurd (omega (arith, within));
                says = no_line_yet rest;
                cause = inr (refl, counted, refl);
              },
            );
      }

  pub one_more_group : (next : KnownEnds) (more left : List ℕ) (then : ReadySoFar) (numbered : ℕ)
      → Consumes now.left next.left more
      → GroupIsHanded pipe (rest ++ more) left number numbered held then now next
      → SoFar pipe earlier before next left then numbered (index + 1)
  one_more_group next more left then numbered consumed handed =
      let was = held_after (starting earlier) so.groups in
      let fits = subst (λ (h : ReadySoFar). Fits h.ready (items_of_lines handed.group.lines) handed.group.ready) so.held_is handed.fits in
      let fresh_is = ap (λ (h : ReadySoFar). fresh h (ready_then h.ready handed.group)) so.held_is in
      let all = handed_more (starting earlier) so.groups handed.group in
      let lines : item_lines pipe (handed_by (starting earlier) so.groups) ++ item_lines pipe (fresh held (ready_then held.ready handed.group)) ≡ item_lines pipe (handed_by (starting earlier) (so.groups ++ handed.group ∷ [])) =
      ap (λ items. item_lines pipe (handed_by (starting earlier) so.groups) ++ item_lines pipe items) fresh_is
      ∙ sym (ap (item_lines pipe) all ∙ flat_map-append (item_line pipe) (handed_by (starting earlier) so.groups) (fresh was (ready_then was.ready handed.group))) in
      let reports : report_lines pipe (handed_by (starting earlier) so.groups) ++ report_lines pipe (fresh held (ready_then held.ready handed.group)) ≡ report_lines pipe (handed_by (starting earlier) (so.groups ++ handed.group ∷ [])) =
      ap (λ items. report_lines pipe (handed_by (starting earlier) so.groups) ++ report_lines pipe items) fresh_is
      ∙ sym (ap (report_lines pipe) all ∙ flat_map-append (report_line pipe) (handed_by (starting earlier) so.groups) (fresh was (ready_then was.ready handed.group))) in
      let both = written_on (item_lines pipe (handed_by (starting earlier) so.groups))
      (item_lines pipe (fresh held (ready_then held.ready handed.group)))
      (report_lines pipe (handed_by (starting earlier) so.groups))
      (report_lines pipe (fresh held (ready_then held.ready handed.group)))
      before.outputs now.outputs next.outputs so.written handed.written in
      let say = say_more so.groups handed.group in
      let parsed = length-append (all_say so.groups) (group_says handed.group) in
      let length_is : length (all_say (so.groups ++ handed.group ∷ [])) ≡ length (all_say so.groups) + length (group_says handed.group) = ap length say ∙ parsed in
      let groups_length = length-append so.groups (handed.group ∷ []) in
      record {
        came = so.came ++ more;
        groups = so.groups ++ handed.group ∷ [];
        whole = All-push (λ (group : LineGroup). All IsNoEnd group.lines) so.groups handed.group so.whole handed.whole;
        fit = fits_more (starting earlier) so.groups handed.group so.fit fits;
        says = subst (SaysLines (so.came ++ more) left) (sym say)
            (says_more [] so.came more rest left (all_say so.groups) (group_says handed.group) so.says handed.says);
        held_is = handed.held ∙ ap (λ (h : ReadySoFar). ready_first (ready_then h.ready handed.group)) so.held_is
            ∙ sym (held_more (starting earlier) so.groups handed.group);
        consumed = Consumes-trans before.left now.left next.left so.came more so.consumed consumed;
        none_unread = handed.none_unread ∙ so.none_unread;
        written = subst (λ l. WritesTexts l (report_lines pipe (handed_by (starting earlier) (so.groups ++ handed.group ∷ []))) before.outputs next.outputs) lines
            (subst (λ r. WritesTexts (item_lines pipe (handed_by (starting earlier) so.groups) ++ item_lines pipe (fresh held (ready_then held.ready handed.group))) r before.outputs next.outputs) reports both);
        numbered = omega (arith, handed.numbered_is, so.numbered, length_is);
        many = omega (arith, so.many, groups_length);
      }

  -- no group follows, and nothing else
  pub all_over : (next : KnownEnds) (more : List ℕ) → Consumes now.left next.left more
      → NoGroupIsLeft (rest ++ more) now next → HandsOver pipe earlier before next [] × IsAtEnd next.left
  all_over next more consumed ended = (
    record {
      came = so.came ++ more;
      lines = item_lines pipe (handed_by (starting earlier) so.groups);
      reports = report_lines pipe (handed_by (starting earlier) so.groups);
      prints = record {
        groups = so.groups;
        whole = so.whole;
        fit = so.fit;
        says = subst (SaysLines (so.came ++ more) []) (append-nil (all_say so.groups))
            (says_more [] so.came more rest [] (all_say so.groups) [] so.says ended.says);
        lines_are = refl;
        reports_are = refl;
      };
      consumed = Consumes-trans before.left now.left next.left so.came more so.consumed consumed;
      none_unread = ended.none_unread ∙ so.none_unread;
      written = subst (λ (o : KnownOutputs). WritesItems pipe (handed_by (starting earlier) so.groups) before.outputs o)
          (sym ended.quiet) so.written;
    },
    ended.end,
  )

-- nothing was read, since memory was refused
pub nothing_begun : (pipe : Pipe) (earlier : List Item) (before : KnownEnds)
    → EndsEarly pipe earlier before before NoMemory
nothing_begun pipe earlier before =
    stops_early pipe earlier before before [] (starting earlier) 0 0 (at_first pipe earlier before) before []
    site_line_limit NoMemory refl (Consumes-nil before.left) (refl, refl)

-- ---- whether a group was handed over

pub next_group : (pipe : Pipe) (limit : ℕ) (bytes rest : List ℕ) (number numbered : ℕ) (old new : ReadySoFar)
    (before after : KnownEnds) (there : Bool) → there ≡ true
    → HandsGroup pipe limit bytes rest number numbered old new before after (Ok there)
    → GroupIsHanded pipe bytes rest number numbered old new before after
next_group pipe limit bytes rest number numbered old new before after there is hands =
    subst (λ (b : Bool). HandsGroup pipe limit bytes rest number numbered old new before after (Ok b)) is hands

pub group_over : (pipe : Pipe) (limit : ℕ) (bytes rest : List ℕ) (number numbered : ℕ) (old new : ReadySoFar)
    (before after : KnownEnds) (there : Bool) → there ≡ false
    → HandsGroup pipe limit bytes rest number numbered old new before after (Ok there)
    → NoGroupIsLeft bytes before after
group_over pipe limit bytes rest number numbered old new before after there is hands =
    subst (λ (b : Bool). HandsGroup pipe limit bytes rest number numbered old new before after (Ok b)) is hands

-- a group that came and was taken is handed over
pub group_given : (pipe : Pipe) (limit : ℕ) (bytes rest : List ℕ) (kept : List SiteLine)
    (count ready number numbered : ℕ)
    (old new : ReadySoFar) (before after : KnownEnds) (result : Result Bool EnqueueFault)
    → GroupComes bytes rest kept count (Some ready) → numbered ≡ counted_on number count → after.unread ≡ before.unread
    → Gives pipe (items_of_lines kept) ready numbered old new before.outputs after.outputs result
    → HandsGroup pipe limit bytes rest number numbered old new before after result
group_given pipe limit bytes rest kept count ready number numbered old new before after (Ok false) comes numbers unread gives =
    let bad = gives.more_is in cc
group_given pipe limit bytes rest kept count ready number numbered old new before after (Ok true) comes numbers unread gives =
    let same = comes.kept_is in
    record {
      group = record { lines = comes.lines; ready = ready; out = comes.out };
      whole = comes.whole;
      says = comes.says;
      fits = subst (λ (items : GroupItems). Fits old.ready items ready) same gives.fits;
      held = subst (λ (items : GroupItems). new ≡ ready_first (ready_after old.ready items ready)) same gives.held_is;
      written = subst (λ (items : GroupItems). WritesItems pipe (fresh old (ready_after old.ready items ready)) before.outputs after.outputs) same gives.written;
      none_unread = unread;
      numbered_is = omega (arith, numbers, comes.counted);
    }
group_given pipe limit bytes rest kept count ready number numbered old new before after (Err fault) comes numbers unread gives =
    let same = comes.kept_is in
    let length_is = length-append comes.lines (End ready comes.out ∷ []) in
    elim gives [
      | inl misfit ↦ subst (StopsAt pipe limit bytes old number before after) (sym misfit.0) (
        misfit.2,
        unread,
        record {
          group = record { lines = comes.lines; ready = ready; out = comes.out };
          after = rest;
          whole = comes.whole;
          says = comes.says;
          misfit = subst (λ (items : GroupItems). ¬ Fits old.ready items ready) same misfit.1;
          numbered = omega (arith, numbers, comes.counted, length_is);
        },
      )
      | inr (inl write) ↦ subst (StopsAt pipe limit bytes old number before after) (sym write.0) (
        record {
          group = record { lines = comes.lines; ready = ready; out = comes.out };
          after = rest;
          whole = comes.whole;
          says = comes.says;
          fits = subst (λ (items : GroupItems). Fits old.ready items ready) same write.1;
          broken = subst (λ (items : GroupItems). BreaksItems pipe (fresh old (ready_after old.ready items ready)) before.outputs after.outputs) same write.2;
        },
        unread,
      )
      | inr (inr memory) ↦ subst (StopsAt pipe limit bytes old number before after) (sym memory.0) (memory.1, unread)
    ]

no_lines : (lines : List SiteLine) → length lines ≡ 0 → lines ≡ []
no_lines [] e = refl
no_lines (line ∷ lines) e = absurd (omega (arith, e))

-- the source is at its end: there is no group, or it is torn
pub group_lacking : (pipe : Pipe) (limit : ℕ) (bytes rest : List ℕ) (kept : List SiteLine) (count number numbered : ℕ)
    (old new : ReadySoFar) (before after : KnownEnds) (result : Result Bool EnqueueFault)
    → GroupComes bytes rest kept count None → IsAtEnd after.left → HasNoLf rest → after.unread ≡ before.unread
    → after.outputs ≡ before.outputs
    → IfOk result (λ more. (more ≡ false) × (count ≡ 0) × (rest ≡ []))
    → IfErr result (λ fault. (fault ≡ NoEnd) × (count ≡ 0 → rest ≡ [] → ⊥))
    → HandsGroup pipe limit bytes rest number numbered old new before after result
group_lacking pipe limit bytes rest kept count number numbered old new before after (Ok more) comes end plain unread quiet ended refused =
    let none : comes.lines ≡ [] = no_lines comes.lines (omega (arith, comes.counted, ended.1)) in
    subst (λ (m : Bool). HandsGroup pipe limit bytes rest number numbered old new before after (Ok m)) (sym ended.0)
    (record {
      says = subst (λ r. SaysLines bytes r []) ended.2 (subst (SaysLines bytes rest) none comes.says);
      end = end;
      none_unread = unread;
      quiet = quiet;
    })
group_lacking pipe limit bytes rest kept count number numbered old new before after (Err fault) comes end plain unread quiet ended refused =
    subst (StopsAt pipe limit bytes old number before after) (sym refused.0) (
      quiet,
      unread,
      record {
        lines = comes.lines;
        after = rest;
        whole = comes.whole;
        says = comes.says;
        open_line = plain;
        some = λ empty.
            let none = nothing_says bytes rest comes.lines empty comes.says in
            let length_is : length comes.lines ≡ 0 = ap length none.0 in
            refused.1 (omega (arith, comes.counted, length_is)) none.1;
        end = end;
      },
    )

no_cause : {A B : Type 0} {C D E : Type 0} → A ⊎ (B × C × D) → (A → ⊥) → (B → ⊥) → E
no_cause (inl lacks) bad worse = absurd (bad lacks)
no_cause (inr many) bad worse = absurd (worse many.0)

-- the group broke off
pub group_broken : (pipe : Pipe) (limit : ℕ) (bytes : List ℕ) (held : ReadySoFar) (number : ℕ)
    (before after : KnownEnds)
    (fault : EnqueueFault) → after.outputs ≡ before.outputs
    → BreaksGroup limit bytes number before.unread after.unread fault
    → StopsAt pipe limit bytes held number before after fault
group_broken pipe limit bytes held number before after (BadLine bad) quiet breaks = (quiet, breaks)
group_broken pipe limit bytes held number before after (BadEnd bad) quiet breaks =
    no_cause breaks.cause (λ bad. bad) (λ is. cc)
group_broken pipe limit bytes held number before after NoEnd quiet breaks =
    no_cause breaks.cause (λ bad. bad) (λ is. cc)
group_broken pipe limit bytes held number before after ReadFault quiet breaks = (quiet, breaks)
group_broken pipe limit bytes held number before after NoMemory quiet breaks =
    elim breaks.cause [ inl same ↦ (quiet, same) | inr many ↦ (quiet, many.2) ]
group_broken pipe limit bytes held number before after WriteFault quiet breaks =
    no_cause breaks.cause (λ bad. bad) (λ is. cc)
group_broken pipe limit bytes held number before after (BadQuery bad) quiet breaks =
    no_cause breaks.cause (λ bad. bad) (λ is. cc)
group_broken pipe limit bytes held number before after (BadHanded bad) quiet breaks =
    no_cause breaks.cause (λ bad. bad) (λ is. cc)
