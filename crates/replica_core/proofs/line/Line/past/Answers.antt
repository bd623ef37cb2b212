use Rattle.std.proofs.Common.{◌∙◌, ◌<◌, length, drop, ap, sym}
use Rattle.std.proofs.lemmas.List.{drop-map}
use Rattle.std.proofs.lemmas.List.Elements.{All-drop, All-same}
use Rattle.chunk_list.specs.Ranks.{rank}
use Rattle.replica_core.specs.Lines.{ops_of, ops_at, op_at}
use Rattle.replica_core.specs.Searches.{is_within, passes_at}
use Rattle.replica_core.proofs.Sought.{past_rank, within_falls}
use Rattle.replica_core.proofs.Filed.{all_of, placed_parts, placed_rank}
use Rattle.replica_core.proofs.line.Line.past.Goals as goal

pub failing-requires : goal.failing-requires
failing-requires g c =
    let line = c.args.self.now in
    placed_parts c.args.arrivals.now.items line c.requires (is_within c.args.seq)
    (within_falls line.site line.start c.args.seq) c.self.inside.places (ap (λ l. l.places) c.self.view_is)

pub returns-clause-ops : goal.returns-clause-ops
returns-clause-ops g c =
    let journal = c.args.arrivals.now.items in
    let line = c.args.self.now in
    let places = c.self.inside.places in
    let are = ap (λ l. l.places) c.self.view_is in
    let index = rank (passes_at (is_within c.args.seq) journal) places in
    ap (ops_at journal) (c.failing.ensures ∙ ap (drop index) are)
    ∙ sym (drop-map (op_at journal) index line.places)
    ∙ ap (λ n. drop n (ops_of journal line)) (placed_rank journal line c.requires (is_within c.args.seq) (within_falls line.site line.start c.args.seq) places are)
    ∙ past_rank line.site line.start c.args.seq (ops_of journal line) c.requires.ordered.sorted
    (all_of journal line c.requires)

pub returns-clause-inside : goal.returns-clause-inside
returns-clause-inside g c =
    let journal = c.args.arrivals.now.items in
    let line = c.args.self.now in
    let places = c.self.inside.places in
    let index = rank (passes_at (is_within c.args.seq) journal) places in
    All-same (λ place. place < length journal) c.failing.result (drop index line.places)
    (c.failing.ensures ∙ ap (drop index) (ap (λ l. l.places) c.self.view_is))
    (All-drop (λ place. place < length journal) index line.places c.requires.inside)
