use Rattle.std.proofs.Common.{sym, ◌∙◌, subst, refl}
use Rattle.std.specs.Cmp.Lexicographic.{slice_cmp}
use Rattle.std.specs.Ordering.{nat_cmp}
use Rattle.serde_json.specs.View.{members_view}
use Rattle.op_text.specs.Shape.{IsFirstBadKey}
use Rattle.op_text.proofs.BadKeys.{FitsBelow, FitsBelow-less, KnownBelow, KnownBelow-not_less, Less-is_lt}
use Rattle.op_text.proofs.BadKeys.{misfit_is_first, stranger_is_first}
use Rattle.op_text.proofs.shape.first_bad_key.Goals as goal

-- the stranger is less than the misfit
pub returns-then-lt-clause-first : goal.returns-then-lt-clause-first
returns-then-lt-clause-first c =
    let held = members_view c.args.members.now.entries in
    let stranger = c.in-Some-first_stranger.stranger.now in
    let key = c.key-key.result.now in
    let fit = subst (FitsBelow c.args.form c.args.kind held) (sym c.key-key.ensures) c.in-Some.ensures.first in
    let less = Less-is_lt (slice_cmp nat_cmp stranger key) (sym c.lt.ensures ∙ c.if-lt.true) in
    stranger_is_first c.args.form c.args.kind held stranger c.in-Some-first_stranger.ensures.stranger c.in-Some-first_stranger.ensures.present
    (FitsBelow-less c.args.form c.args.kind held key stranger less fit) c.in-Some-first_stranger.ensures.first

-- the misfit isn't greater than the stranger
pub returns-clause-first : goal.returns-clause-first
returns-clause-first c =
    let held = members_view c.args.members.now.entries in
    let stranger = c.in-Some-first_stranger.stranger.now in
    let key = c.key-key.result.now in
    let known = KnownBelow-not_less c.args.form c.args.kind held (slice_cmp nat_cmp stranger key) key stranger refl (sym c.lt.ensures ∙ c.if-lt.false) c.in-Some-first_stranger.ensures.first in
    subst (IsFirstBadKey c.args.form c.args.kind held) (sym c.key-key.ensures)
    (misfit_is_first c.args.form c.args.kind held c.in-Some.field c.in-Some.ensures.misfit c.in-Some.ensures.first
    (subst (KnownBelow c.args.form c.args.kind held) c.key-key.ensures known))
