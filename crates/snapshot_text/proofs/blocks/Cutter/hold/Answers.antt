use Rattle.std.proofs.Common.{refl}
use Rattle.snapshot_text.proofs.Cutting.{cut_held}
use Rattle.snapshot_text.proofs.blocks.Cutter.hold.Goals as goal

pub returns-in-Ok-clause-ok : goal.returns-in-Ok-clause-ok
returns-in-Ok-clause-ok c = λ base came has.
    let old = c.args.self.now in
    cut_held base came old (record { progress = old.progress; held = c.extend_from_slice.new.self }) has c.args.piece.now c.requires c.in-Ok.ensures.items refl
