use Rattle.std.proofs.lemmas.Bool.{false≢true}
use Rattle.page_server.proofs.Named.{not_named, other_than_star}
use Rattle.page_server.proofs.tag.is_named_in.Goals as goal

pub returns-in-None : goal.returns-in-None
returns-in-None c = (
  λ e. absurd (false≢true e),
  λ named. absurd (not_named c.args.tag.now c.args.value.now
      (other_than_star c.args.value.now c.as_slice.result.now c.as_slice.ensures c.if-eq.ensures) c.in-None.ensures named),
)
