use Rattle.std.proofs.Common.{◌∙◌, codes, refl, subst, sym}
use Rattle.std.proofs.lemmas.Bool.{false≢true}
use Rattle.http_header.specs.HeaderMap.{get_all}
use Rattle.page_server.specs.Tags.{IsNamedBy, IsNamedIn}
use Rattle.page_server.proofs.Named.{named_first, named_later}
use Rattle.page_server.proofs.tag.is_named.Goals as goal

pub returns-then-is_named_in : goal.returns-then-is_named_in
returns-then-is_named_in c =
    let tag = c.args.tag.now in
    let all = get_all c.args.headers.now (codes "if-none-match") in (
      λ _. named_first tag c.loop-value.value-iterator c.next.new.self all c.in-Some.value.now c.in-Some.ensures.steps
          (subst (IsNamedIn tag) c.as_bytes.ensures.value (c.is_named_in.ensures.0 c.if-is_named_in.true))
          c.loop-value.invariant,
      λ _. refl,
    )

pub loop-value-preserved : goal.loop-value-preserved
loop-value-preserved c =
    let tag = c.args.tag.now in
    let all = get_all c.args.headers.now (codes "if-none-match") in
    named_later tag c.loop-value.value-iterator c.next.new.self all c.in-Some.value.now c.in-Some.ensures.steps
    (λ named. false≢true (sym c.if-is_named_in.false
    ∙ c.is_named_in.ensures.1 (subst (IsNamedIn tag) (sym c.as_bytes.ensures.value) named)))
    c.loop-value.invariant

pub returns : goal.returns
returns c = (
  λ e. absurd (false≢true e),
  λ named. absurd (subst (IsNamedBy c.args.tag.now) c.in-None.ensures.steps.0 (c.loop-value.invariant.1 named)),
)
