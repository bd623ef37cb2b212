use Rattle.std.proofs.Common.{◌∙◌, ap}
use Rattle.std.specs.BTreeMap.Range.{entries_between}
use Rattle.std.specs.declared.ops.Bound.TheVariants.{Included, Unbounded}
use Rattle.std.specs.FinMap as finite
use Rattle.change_core.specs.Slots.{slot_cmp}
use Rattle.change_core.specs.Votes.{first_votes}
use Rattle.change_core.specs.Parts.{votes_shown}
use Rattle.change_core.proofs.SetSlots.{first_votes_are}
use Rattle.change_core.proofs.votes.Votes.on.Goals as goal

pub returns : goal.returns
returns g c =
    let registers = finite.entries (votes_shown c.args.registers.now) in
    ap (first_votes c.args.set)
    (c.from_key.ensures ∙ ap (λ s. entries_between slot_cmp (Included s) Unbounded registers) c.first_slot.ensures)
    ∙ first_votes_are c.args.set registers (finite.entries_sorted (votes_shown c.args.registers.now))
