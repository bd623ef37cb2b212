use Rattle.std.proofs.Common.{Some, None, subst, sym, lit<}
use Rattle.std.proofs.lemmas.Str.Pattern.{strip_prefix_char}
use Rattle.site_address.specs.Host.{IsV6}
use Rattle.site_address.proofs.Cutting.{bracket_cut, bracket_found}
use Rattle.site_address.proofs.host.in_brackets.Goals as goal

pub returns-in_default : goal.returns-in_default
returns-in_default c = λ at named.
    strip_prefix_char 91 c.args.word.now None c.in_default.ensures.cases (lit< tt) _ named.text

pub returns-in_default-split_once : goal.returns-in_default-split_once
returns-in_default-split_once c = λ at named.
    let opens = strip_prefix_char 91 c.args.word.now (Some c.in-Some.inner) c.in-Some.ensures.cases (lit< tt) in
    bracket_cut c.args.word.now c.in-Some.inner.now at None opens c.in_default-split_once.ensures.cases named

pub returns-in_default-strip_prefix : goal.returns-in_default-strip_prefix
returns-in_default-strip_prefix c = λ at named.
    let opens = strip_prefix_char 91 c.args.word.now (Some c.in-Some.inner) c.in-Some.ensures.cases (lit< tt) in
    let parts = bracket_cut c.args.word.now c.in-Some.inner.now at (Some (c.in-Some-split_once.host, c.in-Some-split_once.rest)) opens c.in-Some-split_once.ensures.cases named in
    strip_prefix_char 58 c.in-Some-split_once.rest.now None c.in_default-strip_prefix.ensures.cases (lit< tt) _ parts.1

pub returns-then-not-is_v6 : goal.returns-then-not-is_v6
returns-then-not-is_v6 c = λ at named.
    let opens = strip_prefix_char 91 c.args.word.now (Some c.in-Some.inner) c.in-Some.ensures.cases (lit< tt) in
    let parts = bracket_cut c.args.word.now c.in-Some.inner.now at (Some (c.in-Some-split_once.host, c.in-Some-split_once.rest)) opens c.in-Some-split_once.ensures.cases named in
    let no = c.if-not-is_v6.true in
    let yes = c.is_v6.ensures.1 (subst IsV6 (sym parts.0) named.host) in cc

pub returns : goal.returns
returns c =
    let opens = strip_prefix_char 91 c.args.word.now (Some c.in-Some.inner) c.in-Some.ensures.cases (lit< tt) in
    let colon = strip_prefix_char 58 c.in-Some-split_once.rest.now (Some c.in-Some-strip_prefix.port) c.in-Some-strip_prefix.ensures.cases (lit< tt) in
    bracket_found c.args.word.now c.in-Some.inner.now c.in-Some-split_once.host c.in-Some-split_once.rest c.in-Some-strip_prefix.port c.with_port.result opens c.in-Some-split_once.ensures.cases colon
    (c.is_v6.ensures.0 c.if-not-is_v6.false) c.with_port.ensures
