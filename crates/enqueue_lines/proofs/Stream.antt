-- What the lines say that came of a source, one after the other.
use Rattle.std.proofs.Common.{◌≡◌, ◌∙◌, ◌≤◌, ◌+◌, ◌++◌, ◌∷◌, [], ℕ, List, Option, None, Some, Result, Ok, Err, IfOk}
use Rattle.std.proofs.Common.{IfErr, refl, sym, ap, subst, length, append_assoc, append-nil, length-append, arith}
use Rattle.std.proofs.Common.{flat_map}
use Rattle.std.proofs.Common.{Bool, true, inl, inr}
use Rattle.std.specs.Prelude.{◌⊎◌}
use Rattle.std.specs.List.{AllZip}
use Rattle.std.proofs.lemmas.List.Concat.{flat_map-append}
use Rattle.std.proofs.lemmas.List.Elements.{All-push}
use Rattle.byte_ends.specs.Lines.{as_line, without_cr}
use Rattle.line_reader.specs.Lines.{BeginsWithLine, Hands, Reading}
use Rattle.enqueue_lines.specs.Ending.{BeginsBadly, BreaksGroup, CountsStep, LacksLine, SaysNext, TakesNextLine}
use Rattle.enqueue_lines.specs.Ending.{number_after}
use Rattle.enqueue_lines.specs.Groups.{GroupItems, added_by, listed_by, removed_by, items_of_lines}
use Rattle.enqueue_lines.specs.Lines.{LineSays, NumbersFit}
use Rattle.enqueue_lines.specs.Running.{GroupComes, IsNoEnd, IsSiteLine, KeepsSiteLine, SaysLines, SaysPiece, StepsOn}
use Rattle.enqueue_lines.specs.Running.{counted_on}
use Rattle.enqueue_lines.specs.Running.{most_lines}
use Rattle.enqueue_lines.specs.declared.fault.EnqueueFault.{EnqueueFault}
use Rattle.enqueue_lines.specs.declared.fault.EnqueueFault.TheVariants.{BadLine, NoMemory, ReadFault}
use Rattle.enqueue_lines.specs.declared.run.Step.{Step}
use Rattle.enqueue_lines.specs.declared.run.Step.TheVariants.{GoesOn, EndsWith, Stops}
use Rattle.enqueue_lines.specs.declared.site_line.SiteLine.{SiteLine}
use Rattle.enqueue_lines.specs.declared.site_line.SiteLine.TheVariants.{Ready, NowReady, NotReady, End, Nothing}

-- ---- bytes that say lines

pub no_line_yet : (held : List ℕ) → SaysLines (held ++ []) held []
no_line_yet held = record { pieces = []; whole = append-nil held; each = tt }

pub one_line : (bytes piece rest : List ℕ) (parsed : SiteLine) → bytes ≡ as_line piece ++ rest
    → LineSays (without_cr piece) parsed → SaysLines bytes rest (parsed ∷ [])
one_line bytes piece rest parsed is says = record {
  pieces = piece ∷ [];
  whole = is ∙ ap (λ l. l ++ rest) (sym (append-nil (as_line piece)));
  each = (says, tt);
}

zip_append : {X Y : Type 0} (R : X → Y → Type 0) (xs us : List X) (ys vs : List Y) → AllZip R xs ys → AllZip R us vs
    → AllZip R (xs ++ us) (ys ++ vs)
zip_append R [] us [] vs all more = more
zip_append R [] us (b ∷ ys) vs all more = absurd all
zip_append R (a ∷ xs) us [] vs all more = absurd all
zip_append R (a ∷ xs) us (b ∷ ys) vs all more = (all.0, zip_append R xs us ys vs all.1 more)

pub says_more : (first came more held rest : List ℕ) (lines others : List SiteLine)
    → SaysLines (first ++ came) held lines
    → SaysLines (held ++ more) rest others → SaysLines (first ++ (came ++ more)) rest (lines ++ others)
says_more first came more held rest lines others one two = record {
  pieces = one.pieces ++ two.pieces;
  whole =
      sym (append_assoc first came more) ∙ ap (λ l. l ++ more) one.whole
      ∙ append_assoc (flat_map as_line one.pieces) held more
      ∙ ap (λ l. flat_map as_line one.pieces ++ l) two.whole
      ∙ sym (append_assoc (flat_map as_line one.pieces) (flat_map as_line two.pieces) rest)
      ∙ ap (λ l. l ++ rest) (sym (flat_map-append as_line one.pieces two.pieces));
  each = zip_append SaysPiece one.pieces two.pieces lines others one.each two.each;
}

-- further bytes are added to the rest
pub says_on : (bytes rest more : List ℕ) (lines : List SiteLine) → SaysLines bytes rest lines
    → SaysLines (bytes ++ more) (rest ++ more) lines
says_on bytes rest more lines says = record {
  pieces = says.pieces;
  whole = ap (λ l. l ++ more) says.whole ∙ append_assoc (flat_map as_line says.pieces) rest more;
  each = says.each;
}

none_before : (first rest : List ℕ) → [] ≡ first ++ rest → (first ≡ []) × (rest ≡ [])
none_before [] rest e = (refl, sym e)
none_before (b ∷ first) rest e = cc

no_pieces : (rest : List ℕ) (pieces : List (List ℕ)) (lines : List SiteLine) → AllZip SaysPiece pieces lines
    → [] ≡ flat_map as_line pieces ++ rest → (lines ≡ []) × (rest ≡ [])
no_pieces rest [] [] each e = (refl, sym e)
no_pieces rest [] (line ∷ lines) each e = absurd each
no_pieces rest (piece ∷ pieces) lines each e =
    let none = none_before (as_line piece ++ flat_map as_line pieces) rest e in
    let first = none_before (as_line piece) (flat_map as_line pieces) (sym none.0) in
    let last = none_before piece (10 ∷ []) (sym first.0) in
    let byte : List ℕ = 10 ∷ [] in
    let bad : byte ≡ [] = last.1 in
    cc

-- no bytes have no lines
pub nothing_says : (bytes rest : List ℕ) (lines : List SiteLine) → bytes ≡ [] → SaysLines bytes rest lines
    → (lines ≡ []) × (rest ≡ [])
nothing_says bytes rest lines none says = no_pieces rest says.pieces lines says.each (sym none ∙ says.whole)

-- ---- what is kept of a group

items_plus : GroupItems → GroupItems → GroupItems
items_plus one two = record {
  listed = one.listed ++ two.listed;
  added = one.added ++ two.added;
  removed = one.removed ++ two.removed;
}

items_append : (xs ys : List SiteLine) → items_of_lines (xs ++ ys) ≡ items_plus (items_of_lines xs) (items_of_lines ys)
unfolding items_plus
items_append xs ys =
    rw (flat_map-append listed_by xs ys, flat_map-append added_by xs ys, flat_map-append removed_by xs ys) refl

pub items_more : (xs ys zs : List SiteLine) → items_of_lines xs ≡ items_of_lines ys
    → items_of_lines (xs ++ zs) ≡ items_of_lines (ys ++ zs)
items_more xs ys zs same =
    items_append xs zs ∙ ap (λ group. items_plus group (items_of_lines zs)) same ∙ sym (items_append ys zs)

-- ---- the lines of a group, so far

pub group_begins : (held : List ℕ) (kept : List SiteLine) (count : ℕ) → kept ≡ [] → count ≡ 0
    → (group : GroupComes (held ++ []) held kept count None) × (length group.lines ≡ 0)
group_begins held kept count none nought = (
  record {
    lines = [];
    out = 0;
    whole = λ k d within. absurd (omega (arith, within));
    says = no_line_yet held;
    kept_is = ap items_of_lines none;
    counted = nought;
  },
  refl,
)

module _ (first came more held rest : List ℕ) (old new : List SiteLine) (count now : ℕ)
    (comes : GroupComes (first ++ came) held old count None) where
  going : StepsOn (held ++ more) rest old new GoesOn → now ≡ number_after count
      → (group : GroupComes (first ++ (came ++ more)) rest new now None) × (length group.lines ≡ length comes.lines + 1)
  going steps counts =
      let length_is = length-append comes.lines (steps.0 ∷ []) in (
        record {
          lines = comes.lines ++ steps.0 ∷ [];
          out = 0;
          whole = All-push IsNoEnd comes.lines steps.0 comes.whole steps.2;
          says = says_more first came more held rest comes.lines (steps.0 ∷ []) comes.says steps.1;
          kept_is = steps.3 ∙ items_more old comes.lines (steps.0 ∷ []) comes.kept_is;
          counted = omega (arith, comes.counted, counts, length_is);
        },
        omega (arith, length_is),
      )

  ending : (ready : ℕ) → StepsOn (held ++ more) rest old new (EndsWith ready) → now ≡ number_after count
      → GroupComes (first ++ (came ++ more)) rest new now (Some ready)
  ending ready steps counts =
      let length_is = length-append comes.lines (End ready steps.0 ∷ []) in
      record {
        lines = comes.lines;
        out = steps.0;
        whole = comes.whole;
        says = says_more first came more held rest comes.lines (End ready steps.0 ∷ []) comes.says steps.1;
        kept_is = ap items_of_lines steps.2 ∙ comes.kept_is;
        counted = omega (arith, comes.counted, counts, length_is);
      }

  stopping : StepsOn (held ++ more) rest old new Stops → now ≡ count
      → GroupComes (first ++ (came ++ more)) rest new now None
  stopping steps same = record {
    lines = comes.lines;
    out = comes.out;
    whole = comes.whole;
    says = subst (SaysLines (first ++ (came ++ more)) rest) (append-nil comes.lines)
        (says_more first came more held rest comes.lines [] comes.says steps.0);
    kept_is = ap items_of_lines steps.1 ∙ comes.kept_is;
    counted = same ∙ comes.counted;
  }

  pub group_goes : (step : Step) → step ≡ GoesOn → StepsOn (held ++ more) rest old new step → CountsStep count now step
      → (group : GroupComes (first ++ (came ++ more)) rest new now None) × (length group.lines ≡ length comes.lines + 1)
  group_goes step is steps counts =
      going (subst (StepsOn (held ++ more) rest old new) is steps) (subst (CountsStep count now) is counts)

  pub group_ends : (step : Step) (ready : ℕ) → step ≡ EndsWith ready → StepsOn (held ++ more) rest old new step
      → CountsStep count now step → GroupComes (first ++ (came ++ more)) rest new now (Some ready)
  group_ends step ready is steps counts =
      ending ready (subst (StepsOn (held ++ more) rest old new) is steps) (subst (CountsStep count now) is counts)

  pub group_stops : (step : Step) → step ≡ Stops → StepsOn (held ++ more) rest old new step → CountsStep count now step
      → GroupComes (first ++ (came ++ more)) rest new now None
  group_stops step is steps counts =
      stopping (subst (StepsOn (held ++ more) rest old new) is steps) (subst (CountsStep count now) is counts)

  -- the next line can't be read
  pub group_breaks : (limit before number unread reads : ℕ) (fault : EnqueueFault)
      → number ≡ number_after (counted_on before count) → LacksLine limit (held ++ more) number unread reads fault
      → BreaksGroup limit (first ++ (came ++ more)) before unread reads fault
  group_breaks limit before number unread reads fault numbered lacks =
      let same : number ≡ number_after (before + length comes.lines) = omega (arith, numbered, comes.counted) in
      record {
        lines = comes.lines;
        after = held ++ more;
        whole = comes.whole;
        says = subst (λ l. SaysLines l (held ++ more) comes.lines) (append_assoc first came more)
            (says_on (first ++ came) held more comes.lines comes.says);
        cause = inl (subst (λ n. LacksLine limit (held ++ more) n unread reads fault) same lacks);
      }

-- too many lines came
pub group_is_endless : (limit : ℕ) (bytes rest : List ℕ) (kept : List SiteLine) (count before unread reads : ℕ)
    (comes : GroupComes bytes rest kept count None) → most_lines ≤ length comes.lines → reads ≡ unread
    → BreaksGroup limit bytes before unread reads ReadFault
group_is_endless limit bytes rest kept count before unread reads comes many same = record {
  lines = comes.lines;
  after = rest;
  whole = comes.whole;
  says = comes.says;
  cause = inr (refl, omega (arith, many), same);
}

-- ---- the line that a reader hands out

pub line_handed : (old new : Reading) (came : List ℕ) (there : Bool) → there ≡ true → Hands old came (Ok there) new
    → (piece : List ℕ) × BeginsWithLine old.limit (old.held ++ came) piece new.held × (new.line ≡ without_cr piece)
line_handed old new came there is hands = subst (λ (b : Bool). Hands old came (Ok b) new) is hands

-- what such a line says
pub line_next : (bytes rest line : List ℕ) (limit number unread reads : ℕ)
    (result : Result (Option SiteLine) EnqueueFault)
    → (piece : List ℕ) × BeginsWithLine limit bytes piece rest × (line ≡ without_cr piece)
    → IfOk result (IsSiteLine line)
    → IfErr result
    (λ fault. ((fault ≡ BadLine number) × ((parsed : SiteLine) → NumbersFit parsed → ¬ LineSays line parsed))
    ⊎ (fault ≡ NoMemory))
    → reads ≡ unread → SaysNext limit bytes rest number unread reads result
line_next bytes rest line limit number unread reads (Ok None) begins parsed refused same = absurd parsed
line_next bytes rest line limit number unread reads (Ok (Some parsed)) begins says refused same =
    (one_line bytes begins.0 rest parsed begins.1.whole (subst (λ l. LineSays l parsed) begins.2 says), same)
line_next bytes rest line limit number unread reads (Err fault) begins says refused same = elim refused [
  | inl none ↦
      let bad : BeginsBadly limit bytes =
      inl (begins.0, rest, begins.1, λ parsed fit is. none.1 parsed fit (subst (λ l. LineSays l parsed) (sym begins.2) is)) in
      subst (LacksLine limit bytes number unread reads) (sym none.0) (refl, bad, same)
  | inr memory ↦ subst (LacksLine limit bytes number unread reads) (sym memory) same
]

-- ---- what a line does to the lines that are kept

pub line_taken : (limit : ℕ) (bytes rest : List ℕ) (old new : List SiteLine) (number unread reads : ℕ)
    (parsed : SiteLine)
    (result : Result Step EnqueueFault) → SaysLines bytes rest (parsed ∷ []) → reads ≡ unread
    → IfOk result (KeepsSiteLine parsed old new) → IfErr result (λ fault. fault ≡ NoMemory)
    → TakesNextLine limit bytes rest old new number unread reads result
line_taken limit bytes rest old new number unread reads (End ready out) (Ok step) says same keeps refused =
    (subst (StepsOn bytes rest old new) (sym keeps.0) (out, says, keeps.1), same)
line_taken limit bytes rest old new number unread reads (Ready item) (Ok step) says same keeps refused =
    (subst (StepsOn bytes rest old new) (sym keeps.0) (Ready item, says, tt, keeps.1), same)
line_taken limit bytes rest old new number unread reads (NowReady item) (Ok step) says same keeps refused =
    (subst (StepsOn bytes rest old new) (sym keeps.0) (NowReady item, says, tt, keeps.1), same)
line_taken limit bytes rest old new number unread reads (NotReady item) (Ok step) says same keeps refused =
    (subst (StepsOn bytes rest old new) (sym keeps.0) (NotReady item, says, tt, keeps.1), same)
line_taken limit bytes rest old new number unread reads Nothing (Ok step) says same keeps refused =
    (subst (StepsOn bytes rest old new) (sym keeps.0) (Nothing, says, tt, keeps.1), same)
line_taken limit bytes rest old new number unread reads parsed (Err fault) says same keeps refused =
    subst (LacksLine limit bytes number unread reads) (sym refused) same

-- and to how many came
pub step_counted : (old new : ℕ) (parsed : SiteLine) (kept now : List SiteLine) (result : Result Step EnqueueFault)
    → new ≡ number_after old → IfOk result (KeepsSiteLine parsed kept now) → IfOk result (CountsStep old new)
step_counted old new (End ready out) kept now (Ok step) counts keeps = subst (CountsStep old new) (sym keeps.0) counts
step_counted old new (Ready item) kept now (Ok step) counts keeps = subst (CountsStep old new) (sym keeps.0) counts
step_counted old new (NowReady item) kept now (Ok step) counts keeps = subst (CountsStep old new) (sym keeps.0) counts
step_counted old new (NotReady item) kept now (Ok step) counts keeps = subst (CountsStep old new) (sym keeps.0) counts
step_counted old new Nothing kept now (Ok step) counts keeps = subst (CountsStep old new) (sym keeps.0) counts
step_counted old new parsed kept now (Err fault) counts keeps = tt

stops_not : (parsed : SiteLine) (kept now : List SiteLine) → ¬ KeepsSiteLine parsed kept now Stops
stops_not (End ready out) kept now keeps = let bad = keeps.0 in cc
stops_not (Ready item) kept now keeps = let bad = keeps.0 in cc
stops_not (NowReady item) kept now keeps = let bad = keeps.0 in cc
stops_not (NotReady item) kept now keeps = let bad = keeps.0 in cc
stops_not Nothing kept now keeps = let bad = keeps.0 in cc

-- a line that came doesn't end the source
pub no_stop : (parsed : SiteLine) (kept now : List SiteLine) (result : Result Step EnqueueFault)
    → IfOk result (KeepsSiteLine parsed kept now) → ¬ (result ≡ Ok Stops)
no_stop parsed kept now result keeps is =
    stops_not parsed kept now
    (subst (λ (r : Result Step EnqueueFault). IfOk r (KeepsSiteLine parsed kept now)) is keeps)
