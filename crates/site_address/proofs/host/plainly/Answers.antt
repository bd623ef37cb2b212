use Rattle.std.proofs.Common.{Some, None, subst, sym}
use Rattle.site_address.specs.Host.{IsHost}
use Rattle.site_address.proofs.Cutting.{plain_cut, plain_found}
use Rattle.site_address.proofs.host.plainly.Goals as goal

pub returns-in_default : goal.returns-in_default
returns-in_default c = λ at named. plain_cut c.args.word.now at None c.in_default.ensures.cases named

pub returns-then-not-is_host : goal.returns-then-not-is_host
returns-then-not-is_host c = λ at named.
    let parts = plain_cut c.args.word.now at (Some (c.in-Some.host, c.in-Some.port)) c.in-Some.ensures.cases named in
    let no = c.if-not-is_host.true in
    let yes = c.is_host.ensures.1 (subst IsHost (sym parts.0) named.host) in cc

pub returns : goal.returns
returns c = plain_found c.args.word.now c.in-Some.host c.in-Some.port c.with_port.result c.in-Some.ensures.cases
    (c.is_host.ensures.0 c.if-not-is_host.false) c.with_port.ensures
