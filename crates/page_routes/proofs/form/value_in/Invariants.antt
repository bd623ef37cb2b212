use Rattle.std.proofs.Common.{◌≡◌}
use Rattle.form_urlencoded.specs.Form.{raw_pairs}
use Rattle.form_urlencoded.specs.Parse.{raw_pairs_left}
use Rattle.page_routes.specs.Form.{form_value}
use Rattle.page_routes.proofs.form.value_in.Given as goal

-- what is looked for is in the pairs that are left
abbrev pub invariant-loop-key : goal.invariant-loop-key
invariant-loop-key l = form_value l.name (raw_pairs l.query) ≡ form_value l.name (raw_pairs_left l.key-iterator)
