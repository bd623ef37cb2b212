use Rattle.std.proofs.Common.{map, rules}
use Rattle.enqueue_lines.specs.Template.{template_part}
use Rattle.enqueue_lines.proofs.Braces.{plain_field, reads_rest, refused_at, spells_field}
use Rattle.enqueue_lines.proofs.Quotes.{bare_behind, bare_field}
use Rattle.enqueue_lines.proofs.template.Template.read.Goals as goal

pub returns-in-Err-clause-refused : goal.returns-in-Err-clause-refused
returns-in-Err-clause-refused c =
    refused_at c.args.text.now c.loop-plain.rest.now c.in-Some.plain.now c.in-Some.after.now (map template_part c.loop-plain.pieces.items)
    c.in-Err.fault c.loop-plain.invariant.whole c.in-Some.ensures.0 c.loop-plain.invariant.plain c.loop-plain.invariant.bare
    c.loop-plain.invariant.behind c.in-Some.ensures.1 c.in-Err.ensures.refused

pub loop-plain-preserved : goal.loop-plain-preserved
loop-plain-preserved c =
    let parts = map template_part c.loop-plain.pieces.items in
    let more = map template_part c.add_field.new.pieces.items in
    record {
      whole = spells_field c.args.text.now c.loop-plain.rest.now c.in-Some.plain.now c.in-Some.after.now c.in-Ok.found.1.now parts more
          c.in-Ok.found.0 c.loop-plain.invariant.whole c.in-Some.ensures.0 c.in-Ok.ensures.closed c.in_ok-add_field.ensures;
      plain = plain_field parts more c.in-Some.plain.now c.in-Ok.found.0 c.loop-plain.invariant.plain c.in-Some.ensures.1 c.in_ok-add_field.ensures;
      bare = bare_field parts more c.in-Some.plain.now c.in-Ok.found.0 c.loop-plain.invariant.behind c.in-Ok.ensures.bare c.in_ok-add_field.ensures c.loop-plain.invariant.bare;
      behind = bare_behind parts more c.in-Some.plain.now c.in-Ok.found.0 c.loop-plain.invariant.behind c.in-Ok.ensures.bare c.in_ok-add_field.ensures;
      text = search rules;
    }

pub returns-clause-read : goal.returns-clause-read
returns-clause-read c =
    reads_rest c.args.text.now c.loop-plain.rest.now (map template_part c.loop-plain.pieces.items) (map template_part c.add_plain.new.pieces.items)
    c.loop-plain.invariant.whole c.loop-plain.invariant.plain c.loop-plain.invariant.bare c.in_default.ensures c.in_ok-add_plain.ensures
