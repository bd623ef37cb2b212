use Rattle.std.proofs.Common.{◌≡◌, ◌+◌, ◌++◌, ◌∙◌, List, ℕ, ap, drop, take}
use Rattle.byte_ends.specs.Lines.{as_line}
use Rattle.sealed_ends.proofs.Opening.{kept_opened}
use Rattle.sealed_ends.proofs.source.SealedSource.open_line.Goals as goal

pub returns-in-Ok-clause-kept : goal.returns-in-Ok-clause-kept
returns-in-Ok-clause-kept g c =
    let held = c.args.self.now.held.items in
    let at = c.in-Some.at in
    let lf = rw c.as_slice.ensures.value at c.in-Some.ensures in
    let ok = rw c.deref.ensures.value at c.in-Ok.ensures.ok in
    let items : c.open.new.into.items ≡ as_line ok.0 = ok.2 ∙ ap (λ (r : List ℕ). r ++ as_line ok.0) c.requires.none in
    rw (c.requires.none, items, ok.3, c.drop_front.ensures)
    (kept_opened c.args.self.now.seal held (take at held) (drop (at + 1) held) ok.0 (g.S.Source.left c.args.self.now.source) lf.whole lf.before ok.1)
