use Rattle.page_server.proofs.Appended.{four}
use Rattle.page_server.proofs.fields.add_guards.Goals as goal

pub returns-clause-fields : goal.returns-clause-fields
returns-clause-fields c =
    four _ _ _ _ _ _ _ _ _ c.in_ok-add.ensures.fields c.in_ok-add-2.ensures.fields c.in_ok-add-3.ensures.fields
    c.in_ok-add-4.ensures.fields
