use Rattle.std.proofs.Common.{◌∙◌}
use Rattle.std.proofs.lemmas.List.{map-append}
use Rattle.footer_text.specs.Footers.{LineIgnores}
use Rattle.footer_text.specs.ReadingLaws.{NamesChange-same}
use Rattle.footer_text.proofs.Collected.{collect_nothing, collect_need, collect_ignored}
use Rattle.footer_text.proofs.depend.add_line.Goals as goal
use Rattle.footer_text.proofs.depend.add_line.Goals.{in_default-named_change-via-in-Some-named_change+else-change-own}
use Rattle.footer_text.proofs.depend.add_line.Goals.{in_default-named_change-via-in_default-named_change}

pub returns-in_default : goal.returns-in_default
returns-in_default g c lines seen = collect_nothing _ _ lines _ _ seen c.args.line.now c.in_default.ensures

pub returns-in_ok-push-in-Some-named_change : goal.returns-in_ok-push-in-Some-named_change
returns-in_ok-push-in-Some-named_change g c lines seen =
    rw c.in_ok-push-in-Some-named_change.ensures.items
    (collect_need _ _ lines _ _ seen c.args.line.now c.in-Some-named_change.change (c.in-Some.value.now, c.in-Some.ensures, c.in-Some-named_change.ensures, c.if-change-own.true))

pub returns-in_ok-push-in_default-named_change : goal.returns-in_ok-push-in_default-named_change
returns-in_ok-push-in_default-named_change g c lines seen =
    let ignores : LineIgnores c.args.bases.now c.args.own c.args.line.now c.in-Some.value.now = (
      c.in-Some.ensures,
      elim c.in_default-named_change.branch [
        | in_default-named_change-via-in-Some-named_change+else-change-own w ↦
            λ change n. NamesChange-same c.args.bases.now c.in-Some.value.now change _ n w.in-Some-named_change.ensures
            ∙ w.if-change-own.false
        | in_default-named_change-via-in_default-named_change w ↦ λ change n. absurd
            (w.in_default-named_change.ensures change n)
      ],
    ) in
    rw (c.in_ok-push-in_default-named_change.ensures.items, map-append)
    (collect_ignored _ _ lines _ _ seen c.args.line.now c.in-Some.value.now ignores)
