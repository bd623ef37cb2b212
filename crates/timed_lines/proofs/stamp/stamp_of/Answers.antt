-- What the printer has written of the moment, and a space.
use Rattle.std.proofs.Common.{◌++◌, ◌∙◌, ap, sym, subst, Some}
use Rattle.std.specs.Prelude.{codes, option_map}
use Rattle.timed_lines.specs.Times.{IsStamp}
use Rattle.timed_lines.proofs.Stamping.{stamped}
use Rattle.timed_lines.proofs.stamp.stamp_of.Goals as goal

pub returns-in-Some : goal.returns-in-Some
returns-in-Some c =
    let stamp = c.push_str-in-Some.new.self.bytes in
    let is = c.precision.ensures ∙ ap (λ o. (o.0, o.1, Some 3)) c.new.ensures in
    let first = c.push_str.ensures.bytes ∙ ap (λ front. front ++ c.as_str.result.now) c.new-stamp.ensures in
    let joined = c.push_str-in-Some.ensures.bytes ∙ ap (λ front. front ++ codes " ") (first ∙ c.as_str.ensures.value) in
    let text = c.timestamp_text-time in
    subst (λ m. IsStamp (option_map (λ moment. moment.nanosecond) m) stamp) (sym c.in-Some.is)
    (subst (λ moment. IsStamp (Some moment.nanosecond) stamp) c.to_plain.ensures
    (stamped c.precision.result c.to_plain.result text.result.bytes stamp is text.ensures joined))
