use Rattle.std.proofs.Common.{◌≡◌, ◌≤◌, ◌∙◌, [], List, ℕ, ap, arith, drop, length, min, take}
use Rattle.std.proofs.lemmas.List.{nil_from_length}
use Rattle.std.specs.Result.{result_unwrap_or}
use Rattle.sealed_ends.specs.Opened.{left_of}
use Rattle.sealed_ends.proofs.Opening.{handed_bytes, handed_out, kept_then, left_at_end, none_ready}
use Rattle.sealed_ends.proofs.source.SealedSourceSource.read.Goals as goal

pub returns-clause-bytes : goal.returns-clause-bytes
returns-clause-bytes g c =
    let n = c.min-count.result in
    let ready = c.fill.new.self.ready.items in
    let seal = c.fill.new.self.seal in
    let held = c.fill.new.self.held.items in
    let left = g.S.Source.left c.fill.new.self.source in
    let was = c.args.self.now in
    let into = c.args.into.now in
    let copied = c.copy_from_slice.new.self in
    let front = c.drop_front.ensures in
    let is = rw c.deref.ensures.value at c.copy_from_slice.ensures.after in
    let least : n ≡ min (length ready) (length into) = c.min-count.ensures ∙ ap (λ (l : List ℕ). min (length l) (length into)) c.as_slice.ensures.value in
    let within : n ≤ length into = omega (arith, least) in
    let same = handed_bytes copied (drop n into) into ready n is c.copy_from_slice.ensures.len within in (
      rw (front, same) (kept_then (left_of was.ready.items was.seal was.held.items (g.S.Source.left was.source)) (left_of ready seal held left)
          (left_of (drop n ready) seal held left) (take n ready) c.in_default.ensures.kept (handed_out ready seal held n left)),
      λ zero some.
          let none = none_ready copied into ready n c.copy_from_slice.ensures.len zero least some in
          let end = c.in_default.ensures.end none in
          let new : c.drop_front.new.bytes.items ≡ [] = front ∙ ap (λ m. drop m ready) zero ∙ none in
          rw (new, end.0) (left_at_end seal left end.1),
    )

pub returns-clause-honest : goal.returns-clause-honest
returns-clause-honest g c = λ none some.
    let n = c.min-count.result in
    let ready = c.fill.new.self.ready.items in
    let into = c.args.into.now in
    let least : n ≡ min (length ready) (length into) = c.min-count.ensures ∙ ap (λ (l : List ℕ). min (length l) (length into)) c.as_slice.ensures.value in
    let zero : n ≡ 0 = ap (λ r. result_unwrap_or r 0) none in
    let empty : ready ≡ [] = nil_from_length ready (omega (arith, least, zero, some)) in
    c.in_default.ensures.end empty
