use Rattle.std.proofs.Common.{◌≡◌, ◌∙◌, ◌-◌, ◌<◌, true, false, List, ℕ, Some, arith, sym, subst, ap, suc, take, drop}
use Rattle.std.specs.Prelude.{slice_get}
use Rattle.std.specs.List.{AllZip}
use Rattle.byte_ends.specs.Lines.{lines_of}
use Rattle.gerrit_events.specs.Rows.{SaysQueryLine}
use Rattle.enqueue_lines.specs.Places.{AddsLine, ArePlacesOfRows}
use Rattle.enqueue_lines.proofs.Rows.{all_taken, places_more, take_next}
use Rattle.enqueue_lines.proofs.places.read_places.Goals as goal

pub returns-then-not-branch-clause-refused : goal.returns-then-not-branch-clause-refused
returns-then-not-branch-clause-refused c =
    let all = lines_of c.args.text.now in
    let next = take_next c.loop-line.number all c.in-Some.line.now c.next_line.new.self (sym c.loop-line.invariant.left ∙ c.in-Some.ensures) in
    let place : c.saturating_add-number.result - 1 ≡ c.loop-line.number = omega (arith, next.2, c.loop-line.invariant.few) in
    let some : 0 < c.saturating_add-number.result = omega (arith, next.2, c.loop-line.invariant.few) in
    let says = subst (AddsLine c.in-Some.line.now c.loop-line.places c.add_line.new.places) c.if-not-branch.true c.in_ok-add_line.ensures.says in
    let placed = c.loop-line.invariant.placed in (
      c.in-Some.line.now,
      some,
      subst (λ n. slice_get all n ≡ Some c.in-Some.line.now) (sym place) next.3,
      says,
      placed.rows,
      subst (λ n. AllZip SaysQueryLine (take n all) placed.rows) (sym place) placed.says_line,
      placed.each,
    )

pub loop-line-preserved : goal.loop-line-preserved
loop-line-preserved c =
    let all = lines_of c.args.text.now in
    let next = take_next c.loop-line.number all c.in-Some.line.now c.next_line.new.self (sym c.loop-line.invariant.left ∙ c.in-Some.ensures) in
    let place : c.saturating_add-number.result ≡ suc c.loop-line.number = omega (arith, next.2, c.loop-line.invariant.few) in
    let says = subst (AddsLine c.in-Some.line.now c.loop-line.places c.add_line.new.places) c.if-not-branch.false c.in_ok-add_line.ensures.says in
    let more = places_more (take c.loop-line.number all) c.in-Some.line.now c.loop-line.places c.add_line.new.places c.loop-line.invariant.placed says in
    record {
      left = sym next.1 ∙ ap (λ n. drop n all) (sym place);
      placed = subst (λ (lines : List (List ℕ)). ArePlacesOfRows lines c.add_line.new.places)
          (sym next.0 ∙ ap (λ n. take n all) (sym place)) more;
      few = c.loop-line.invariant.few;
    }

pub returns-clause-read : goal.returns-clause-read
returns-clause-read c =
    let all = lines_of c.args.text.now in
    subst (λ (lines : List (List ℕ)). ArePlacesOfRows lines c.loop-line.places)
    (all_taken c.loop-line.number all (sym c.loop-line.invariant.left ∙ c.in_default.ensures.0)) c.loop-line.invariant.placed
