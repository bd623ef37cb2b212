use Rattle.std.proofs.Common.{refl, arith, ◌∙◌, take}
use Rattle.std.specs.Prelude.{is_ok}
use Rattle.site_journal.proofs.Fronts.{torn}
use Rattle.site_journal.proofs.memory.MemoryTapeTape.append.Goals as goal

pub returns-then-comes_due-clause-written : goal.returns-then-comes_due-clause-written
returns-then-comes_due-clause-written c =
    let tape = c.args.self.now in
    let after = c.extend_from_slice-torn in (
      torn (is_ok after.result) tape.bytes.items after.new.self.items c.args.bytes.now
          (take c.min.result c.args.bytes.now) tape.len tape.synced c.min.result c.len-self.result tape.is_doubted
          c.requires (omega (arith, tape.shorter, tape.kept, tape.bytes.ok.0)) refl after.ensures.items
          (c.len-self.ensures ∙ after.new.self.ok.0),
      tt,
    )
