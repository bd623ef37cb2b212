use Rattle.page_server.proofs.fields.add_cache.Goals as goal

pub returns-then-may_keep-clause-fields : goal.returns-then-may_keep-clause-fields
returns-then-may_keep-clause-fields c = rw c.if-may_keep.true c.add.ensures.fields

pub returns-clause-fields : goal.returns-clause-fields
returns-clause-fields c = rw c.if-may_keep.false c.add-2.ensures.fields
