use Rattle.std.proofs.Common.{◌∙◌, sym}
use Rattle.form_urlencoded.specs.Parse.{raw_pairs_left}
use Rattle.page_routes.proofs.Reading.{first_found}
use Rattle.page_routes.proofs.form.value_in.Goals as goal

pub returns-then-branch : goal.returns-then-branch
returns-then-branch c =
    let found = first_found c.args.name.now c.in-Some.key.now c.in-Some.value.now (raw_pairs_left c.loop-key.key-iterator)
    (raw_pairs_left c.next.new.self) c.in-Some.ensures.steps (sym c.in_ok-is_name.ensures ∙ c.if-branch.true) in
    rw (c.loop-key.invariant, found) c.text_of.ensures
