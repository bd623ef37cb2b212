use Rattle.std.proofs.Common.{Some, None, subst, sym, arith}
use Rattle.site_address.specs.Peer.{IsName}
use Rattle.site_address.proofs.Cutting.{key_cut, no_port}
use Rattle.site_address.proofs.peer.there.Goals as goal

pub returns-in_default : goal.returns-in_default
returns-in_default c = λ key at named. key_cut c.args.word.now key at None c.in_default.ensures.cases named

pub returns-then-not-is_name : goal.returns-then-not-is_name
returns-then-not-is_name c = λ key at named.
    let parts = key_cut c.args.word.now key at (Some (c.in-Some.key, c.in-Some.rest)) c.in-Some.ensures.cases named in
    let no = c.if-not-is_name.true in
    let yes = c.is_name.ensures.1 (subst IsName (sym parts.0) named.name) in cc

pub returns-in_default-host_port_of : goal.returns-in_default-host_port_of
returns-in_default-host_port_of c =
    no_port c.args.word.now c.in-Some.key c.in-Some.rest None c.in-Some.ensures.cases c.in_default-host_port_of.ensures.named tt

pub returns-then-at-eq0 : goal.returns-then-at-eq0
returns-then-at-eq0 c =
    no_port c.args.word.now c.in-Some.key c.in-Some.rest (Some c.in-Some-host_port_of.at) c.in-Some.ensures.cases c.in-Some-host_port_of.ensures.named
    (omega (arith, c.if-at-eq0.true))
