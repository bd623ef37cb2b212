use Rattle.std.proofs.Common.{None, refl, subst, sym}
use Rattle.site_serve.specs.Answered.{IsPlaceAfter}
use Rattle.site_serve.proofs.Seating.{seat_goes_on}
use Rattle.site_serve.proofs.places.leaves_with.Goals as goal

pub returns-then-has_left-clause-own : goal.returns-then-has_left-clause-own
returns-then-has_left-clause-own g c session is same =
    subst (λ w. IsPlaceAfter w session None) (sym (c.has_left.ensures.left c.if-has_left.true)) refl

pub returns-clause-own : goal.returns-clause-own
returns-clause-own g c session is same =
    seat_goes_on c.args.work c.args.slot.now session c.in-Some.session c.apply_work.new.session c.enlist.new.session is
    c.in-Some.is (c.has_left.ensures.stays c.if-has_left.false) c.apply_work.ensures c.enlist.ensures
