use Rattle.std.proofs.Common.{◌≢◌, ◌∙◌, ◌++◌, List, ℕ, ap, arith, length, subst, sym}
use Rattle.keyed_digest.specs.Hmac.{hmac}
use Rattle.sealed_line.specs.Sealing.{IsNoSeal, Sealing, tag_of}
use Rattle.sealed_line.proofs.Seals.{no_seal_short, no_seal_split, unopened}
use Rattle.sealed_line.proofs.seal.Seal.opened_line.Goals as goal

pub returns-in-Err-clause-err : goal.returns-in-Err-clause-err
returns-in-Err-clause-err g c = unopened c.args.self.now c.args.line.now _ c.in-Err.ensures.err

pub returns-in_default-clause-err : goal.returns-in_default-clause-err
returns-in_default-clause-err g c =
    let not = c.in_default.ensures in
    let is = c.as_slice-bytes.ensures.value in
    let long = ap (λ (l : List ℕ). length l) is in
    no_seal_short c.args.self.now c.args.line.now c.in-Ok.body.items c.in-Ok.ensures.ok.0 c.in-Ok.ensures.ok.1 (omega (arith, not, long))

pub returns-then-not-is_tag-clause-err : goal.returns-then-not-is_tag-clause-err
returns-then-not-is_tag-clause-err g c =
    let key = c.self.inside.tags in
    let s : Sealing = record { tags = key; cipher = c.self.inside.cipher; count = c.self.inside.count } in
    let first = c.split_at.result.0.now in
    let last = c.split_at.result.1.now in
    let is = c.as_slice-bytes.ensures.value in
    let long = ap (λ (l : List ℕ). length l) is in
    let no = c.if-not-is_tag.true in
    let differs : last ≢ tag_of s first = λ same.
    let yes = c.is_tag.ensures.1 (same ∙ ap (λ count. hmac key (count ++ first)) (sym c.to_be_bytes.ensures)) in
    cc in
    subst (λ s. IsNoSeal s c.args.line.now) c.self.view_is
    (no_seal_split s c.args.line.now c.in-Ok.body.items first last c.in-Some.length c.in-Ok.ensures.ok.0 c.in-Ok.ensures.ok.1
    (rw is at c.split_at.ensures.front) (rw is at c.split_at.ensures.back) (let within = c.in-Some.ensures in omega (arith, within, long)) differs)
