use Rattle.std.proofs.Common.{◌≡◌, inl, inr, refl, subst}
use Rattle.std.specs.Io.KnownBytes.{IsAtEnd}
use Rattle.replica_core.specs.Journal.{all_arrived}
use Rattle.snapshot_text.specs.Snapshot.{Brings, CountsSnapFault, IsOutside, IsRefusedBy}
use Rattle.snapshot_text.proofs.Endings.{joined_both, joined_err, joined_ok}
use Rattle.snapshot_text.proofs.read.read_onto.Goals as goal

pub returns-in-Ok-clause-ok : goal.returns-in-Ok-clause-ok
returns-in-Ok-clause-ok g c =
    let left = g.S.Source.left c.args.source.now in
    joined_ok (λ both. Brings left c.args.replica both) c.joined.result c.in-Ok.gathering c.joined.ensures
    (subst (λ base. Brings left base c.in-Ok.gathering) c.onto.ensures c.in-Ok.ensures.ok)

pub returns-in-Ok-clause-err : goal.returns-in-Ok-clause-err
returns-in-Ok-clause-err g c =
    joined_err (λ fault. IsRefusedBy (g.S.Source.left c.args.source.now) fault) c.joined.result c.in-Ok.gathering c.joined.ensures tt

pub returns-in-Ok-clause-only : goal.returns-in-Ok-clause-only
returns-in-Ok-clause-only g c = λ text ops known says.
    joined_both (λ both. both ≡ all_arrived c.args.replica ops) IsOutside c.joined.result c.in-Ok.gathering c.joined.ensures
    (subst (λ base. c.in-Ok.gathering ≡ all_arrived base ops) c.onto.ensures (c.in-Ok.ensures.only text ops known says))
    (inr (inr refl))

pub returns-in-Ok-clause-end : goal.returns-in-Ok-clause-end
returns-in-Ok-clause-end g c =
    let left = g.S.Source.left c.gather_onto.new.source in
    joined_both (λ _. IsAtEnd left) _ c.joined.result c.in-Ok.gathering c.joined.ensures c.in-Ok.ensures.end (inl (inr (inr refl)))

pub returns-in-Ok-clause-counted : goal.returns-in-Ok-clause-counted
returns-in-Ok-clause-counted g c =
    let old = g.S.Source.failed c.args.source.now in
    let new = g.S.Source.failed c.gather_onto.new.source in
    joined_both (λ _. new ≡ old) (CountsSnapFault old new) c.joined.result c.in-Ok.gathering c.joined.ensures c.in-Ok.ensures.counted c.in-Ok.ensures.counted
