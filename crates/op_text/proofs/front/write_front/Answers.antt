use Rattle.std.proofs.Common.{string_bytes, subst}
use Rattle.std.specs.Prelude.{IsUtf8}
use Rattle.std.specs.Map.Iter.{deref_pair}
use Rattle.std.proofs.lemmas.Map.Iter.{rest_more, rest_all}
use Rattle.serde_json.specs.View.{view}
use Rattle.replica_core.specs.FrontShown.{reaches_shown}
use Rattle.op_text.proofs.FrontTexts.{IsWritten-start, IsWritten-more, written_text, written_spells}
use Rattle.op_text.proofs.front.write_front.Goals as goal

pub loop-row-init : goal.loop-row-init
loop-row-init c = IsWritten-start c.args.front.now (reaches_shown c.rows-row-items.result.now) c.new-items.result.items c.into_iter-row-iterator.result c.new-items.ensures.items c.into_iter-row-iterator.ensures.into_iter_gives.1 c.rows-row-items.ensures.rows

pub loop-row-preserved : goal.loop-row-preserved
loop-row-preserved c =
    IsWritten-more c.args.front.now c.loop-row.items.items c.push.new.self.items c.loop-row.row-iterator c.next.new.self
    (c.in-Some.row.now, c.in-Some.reach.now) c.in_ok-entry_value.field-0
    (rest_more deref_pair _ _ _ _ c.in-Some.is c.next.ensures.steps) c.loop-row.invariant c.in_ok-push.ensures.items c.in_ok-entry_value.ensures.«data» c.in_ok-entry_value.ensures.spells

pub returns-clause-text : goal.returns-clause-text
returns-clause-text c = written_text c.args.front.now c.loop-row.items.items c.loop-row.row-iterator _
    (view c.from-value.result) c.from-value.ensures
    (rest_all deref_pair _ _ _ c.in-None.is c.next.ensures.steps) c.loop-row.invariant c.in_ok-text.ensures.text

pub returns-clause-spells : goal.returns-clause-spells
returns-clause-spells c = written_spells c.args.front.now c.loop-row.items.items c.loop-row.row-iterator
    (string_bytes c.in_ok-text.text) (view c.from-value.result) c.from-value.ensures
    (rest_all deref_pair _ _ _ c.in-None.is c.next.ensures.steps) c.loop-row.invariant c.rows-row-items.ensures.reached
    (subst IsUtf8 c.as_str-checked.ensures.value c.as_str-checked.utf8) c.in_ok-text.ensures.reads_back
