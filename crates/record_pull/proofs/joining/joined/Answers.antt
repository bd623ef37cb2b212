use Rattle.std.proofs.Common.{◌≡◌, ◌∙◌, ap, sym, [], arith}
use Rattle.replica_core.specs.Journal.{all_arrived}
use Rattle.snapshot_text.specs.Snapshot.{snapshot_text}
use Rattle.record_pull.proofs.Coming.{arrives_again, is_few, is_sound, none_of}
use Rattle.record_pull.proofs.joining.joined.Goals as goal

pub returns-then-len-eq0-clause-ok : goal.returns-then-len-eq0-clause-ok
returns-then-len-eq0-clause-ok c =
    let came = c.requires in
    let none : c.args.gathering ≡ [] = none_of c.args.gathering (sym c.len.ensures ∙ c.if-len-eq0.true) in (
      snapshot_text came.ops,
      tt,
      came.ops,
      c.snapshots_say_their_operations.ensures came.ops came.sound came.few,
      c.onto.ensures ∙ came.is ∙ sym (ap (λ journal. all_arrived journal came.ops) none),
    )

pub returns-in-Ok-clause-ok : goal.returns-in-Ok-clause-ok
returns-in-Ok-clause-ok c =
    let journal = c.args.pulled in (
      snapshot_text journal,
      tt,
      journal,
      c.snapshots_say_their_operations.ensures journal (is_sound journal c.requires)
          (omega (arith, is_few journal c.requires, c.requires.few)),
      c.in-Ok.ensures,
    )

pub returns-then-len-eq0-clause-all : goal.returns-then-len-eq0-clause-all
returns-then-len-eq0-clause-all c =
    let pulled = c.args.pulled in
    let none : c.args.gathering ≡ [] = none_of c.args.gathering (sym c.len.ensures ∙ c.if-len-eq0.true) in
    c.onto.ensures ∙ sym (arrives_again pulled c.requires) ∙ sym (ap (λ journal. all_arrived journal pulled) none)
