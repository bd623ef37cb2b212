use Rattle.std.proofs.Common.{◌∙◌, ◌-◌, length, ap, sym}
use Rattle.std.specs.Prelude.{slice_get}
use Rattle.std.specs.Option.{option_copied}
use Rattle.std.proofs.lemmas.List.{length-map}
use Rattle.replica_core.specs.Lines.{ops_of, op_at}
use Rattle.replica_core.proofs.Filed.{placed_op, placed_none}
use Rattle.replica_core.proofs.line.Line.last_op.Goals as goal

pub returns-in_err-place : goal.returns-in_err-place
returns-in_err-place g c =
    let journal = c.args.arrivals.now.items in
    let line = c.args.self.now in
    let places = c.self.inside.places in
    let are = ap (λ l. l.places) c.self.view_is in
    ap option_copied c.from_residual.ensures
    ∙ placed_none journal line c.requires places are (length places - 1) c.in_err-place.ensures
    ∙ ap (λ n. slice_get (ops_of journal line) (n - 1)) (ap length are ∙ sym (length-map line.places (op_at journal)))

pub returns : goal.returns
returns g c =
    let journal = c.args.arrivals.now.items in
    let line = c.args.self.now in
    let places = c.self.inside.places in
    let are = ap (λ l. l.places) c.self.view_is in
    let place = c.in_ok-place.field-0 in
    c.get.ensures
    ∙ sym (placed_op journal line c.requires places are (length places - 1) place.now c.in_ok-place.ensures)
    ∙ ap (λ n. slice_get (ops_of journal line) (n - 1)) (ap length are ∙ sym (length-map line.places (op_at journal)))
