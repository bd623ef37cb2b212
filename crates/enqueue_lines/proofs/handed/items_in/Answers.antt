use Rattle.std.proofs.Common.{◌≡◌, ◌∙◌, ◌++◌, ◌∷◌, [], List, ℕ, arith, sym, subst, ap, suc, take, drop, rules}
use Rattle.std.specs.List.{AllZip}
use Rattle.byte_ends.specs.Lines.{lines_of}
use Rattle.state_core.specs.declared.item.Item.{Item}
use Rattle.enqueue_lines.specs.Handed.{IsItemLine}
use Rattle.enqueue_lines.proofs.Rows.{all_taken, handed_refused, take_next, zip_push}
use Rattle.enqueue_lines.proofs.handed.items_in.Goals as goal

pub returns-in-Err-clause-refused : goal.returns-in-Err-clause-refused
returns-in-Err-clause-refused c =
    let all = lines_of c.args.text.now in
    let next = take_next c.loop-line.number all c.in-Some.line.now c.next_line.new.self (sym c.loop-line.invariant.left ∙ c.in-Some.ensures) in
    let up : c.saturating_add-number.result ≡ suc c.loop-line.number = omega (arith, next.2, c.loop-line.invariant.few) in
    handed_refused all c.loop-line.number c.saturating_add-number.result c.in-Some.line.now c.loop-line.items.items c.in-Err.fault
    up next.3 c.loop-line.invariant.named c.in-Err.ensures.refused

pub loop-line-preserved : goal.loop-line-preserved
loop-line-preserved c =
    let all = lines_of c.args.text.now in
    let next = take_next c.loop-line.number all c.in-Some.line.now c.next_line.new.self (sym c.loop-line.invariant.left ∙ c.in-Some.ensures) in
    let up : c.saturating_add-number.result ≡ suc c.loop-line.number = omega (arith, next.2, c.loop-line.invariant.few) in
    let pushed : c.push.new.self.items ≡ c.loop-line.items.items ++ c.in-Ok.item ∷ [] = search rules in
    let more = zip_push IsItemLine (take c.loop-line.number all) c.loop-line.items.items c.in-Some.line.now c.in-Ok.item c.loop-line.invariant.named c.in-Ok.ensures.item in
    record {
      left = sym next.1 ∙ ap (λ n. drop n all) (sym up);
      named = subst (λ (lines : List (List ℕ)). AllZip IsItemLine lines c.push.new.self.items) (sym next.0 ∙ ap (λ n. take n all) (sym up))
          (subst (λ (items : List Item). AllZip IsItemLine (take c.loop-line.number all ++ c.in-Some.line.now ∷ []) items) (sym pushed) more);
      few = c.loop-line.invariant.few;
    }

pub returns-clause-read : goal.returns-clause-read
returns-clause-read c =
    let all = lines_of c.args.text.now in
    subst (λ (lines : List (List ℕ)). AllZip IsItemLine lines c.loop-line.items.items)
    (all_taken c.loop-line.number all (sym c.loop-line.invariant.left ∙ c.in_default.ensures.0)) c.loop-line.invariant.named
