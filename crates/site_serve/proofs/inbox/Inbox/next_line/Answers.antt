use Rattle.std.proofs.Common.{◌∙◌, ◌≤◌, ap, arith, drop, length, length-drop, subst, sym}
use Rattle.line_reader.specs.Lines.{HasFirstLf, HasNoLf}
use Rattle.site_serve.proofs.Boxes.{all_plain, first_after, plain_after, rest_is}
use Rattle.site_serve.proofs.inbox.Inbox.next_line.Goals as goal

pub invariant_of-self : goal.invariant_of-self
invariant_of-self c =
    let own = c.self.inside in
    let rest = rest_is own.bytes.items c.deref.result.now own.next own.scanned c.deref.ensures.value in
    let count = c.len.ensures ∙ sym c.deref.ensures.len ∙ ap length c.deref.ensures.value in record {
      within = omega (arith, c.len.ensures, c.self.invariant.within);
      plain = all_plain own.bytes.items own.next c.len.result count
          (plain_after (drop own.next own.bytes.items) own.scanned c.self.invariant.plain (subst HasNoLf rest c.in-None.ensures));
    }

pub returns-in-Some-clause-found : goal.returns-in-Some-clause-found
returns-in-Some-clause-found c =
    let own = c.self.inside in
    let rest = rest_is own.bytes.items c.deref.result.now own.next own.scanned c.deref.ensures.value in
    let few : own.scanned ≤ length (drop own.next own.bytes.items) = omega (arith, c.self.invariant.within, c.deref.ensures.len, ap length c.deref.ensures.value, length-drop own.next own.bytes.items) in
    rw (← c.self.view_is) (first_after (drop own.next own.bytes.items) own.scanned c.in-Some.at few c.self.invariant.plain
    (subst (λ l. HasFirstLf l c.in-Some.at) rest c.in-Some.ensures))

pub returns-in-None-clause-found : goal.returns-in-None-clause-found
returns-in-None-clause-found c =
    let own = c.self.inside in
    let rest = rest_is own.bytes.items c.deref.result.now own.next own.scanned c.deref.ensures.value in
    plain_after (drop own.next own.bytes.items) own.scanned c.self.invariant.plain (subst HasNoLf rest c.in-None.ensures)
