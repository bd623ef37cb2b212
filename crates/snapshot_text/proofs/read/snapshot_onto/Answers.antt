use Rattle.std.proofs.Common.{◌≡◌, ◌∙◌, [], List, ap, subst, refl}
use Rattle.byte_ends.specs.Lines.{lines_of}
use Rattle.review_ops.specs.Operation.{Operation}
use Rattle.replica_core.specs.Journal.{all_arrived}
use Rattle.snapshot_text.specs.Snapshot.{SaysOperations}
use Rattle.snapshot_text.specs.declared.fault.SnapFault.TheVariants.{NoMemory}
use Rattle.snapshot_text.proofs.Endings.{joined_both, joined_ok}
use Rattle.snapshot_text.proofs.OneReading.{one_reading}
use Rattle.snapshot_text.proofs.read.snapshot_onto.Goals as goal

pub returns-in-Ok-clause-ok : goal.returns-in-Ok-clause-ok
returns-in-Ok-clause-ok c =
    let text = c.args.text.now in
    let Comes : List Operation → List Operation → Type 0 = λ base both. (ops : List Operation) × SaysOperations (lines_of text) ops × (both ≡ all_arrived base ops) in
    let has = c.take_block.ensures.read c.onto.result [] c.onto-blocks.ensures.read in
    joined_ok (Comes c.args.replica) c.joined.result c.in-Ok.gathering c.joined.ensures
    (subst (λ base. Comes base c.in-Ok.gathering) c.onto.ensures (c.in-Ok.ensures.ok c.onto.result text has))

pub returns-in-Ok-clause-only : goal.returns-in-Ok-clause-only
returns-in-Ok-clause-only c = λ ops says.
    let text = c.args.text.now in
    let has = c.take_block.ensures.read c.onto.result [] c.onto-blocks.ensures.read in
    let came = c.in-Ok.ensures.ok c.onto.result text has in
    joined_both (λ both. both ≡ all_arrived c.args.replica ops) (λ fault. fault ≡ NoMemory) c.joined.result c.in-Ok.gathering c.joined.ensures
    (came.2 ∙ ap (all_arrived c.onto.result) (one_reading (lines_of text) came.0 ops came.1 says) ∙ ap (λ base. all_arrived base ops) c.onto.ensures)
    refl

pub returns-in-Err-clause-only : goal.returns-in-Err-clause-only
returns-in-Err-clause-only c = λ ops says.
    let has = c.take_block.ensures.read c.onto.result [] c.onto-blocks.ensures.read in
    (c.in-Err.ensures.err c.onto.result c.args.text.now has).only ops says
