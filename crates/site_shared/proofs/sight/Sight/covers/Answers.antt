-- Both begin what the two know together, so that their lengths say which begins the other.
use Rattle.std.proofs.Common.{List, ap, subst, length, nat_le, refl}
use mathlib.Core.List.{IsPrefix}
use Rattle.review_ops.specs.Operation.{Operation}
use Rattle.site_shared.proofs.Prefixes.{prefix_covers, prefix_either}
use Rattle.site_shared.proofs.sight.Sight.covers.Goals as goal

pub returns-clause-all : goal.returns-clause-all
returns-clause-all c =
    rw (c.args.other.now.counted, c.args.self.now.counted)
    (λ begins. prefix_covers c.args.other.now.seen.log c.args.self.now.seen.log begins _ refl)

pub returns-clause-one : goal.returns-clause-one
returns-clause-one c =
    let mine = c.args.self.now.seen.log in
    let its = c.args.other.now.seen.log in
    let both = c.learn.new.self.log in
    let this : IsPrefix mine both = subst (λ (l : List (List Operation)). IsPrefix l both) (ap (λ s. s.log) c.again-both.ensures) c.learn.ensures.2 in
    rw (c.args.other.now.counted, c.args.self.now.counted)
    (prefix_either its mine both c.learn.ensures.3 this (nat_le (length its) (length mine)) refl)
