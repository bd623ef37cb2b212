use Rattle.page_server.proofs.service.add_methods.Goals as goal

pub returns-in-OtherMethod-clause-fields : goal.returns-in-OtherMethod-clause-fields
returns-in-OtherMethod-clause-fields c = rw c.in-OtherMethod.is c.add.ensures.fields
