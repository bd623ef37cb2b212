use Rattle.std.proofs.Common.{◌≡◌, ◌∙◌, ap, drop, min, refl}
use Rattle.std.specs.Prelude.{codes}
use Rattle.byte_ends.specs.Lines.{as_line}
use Rattle.site_journal.specs.Text.{header_line}
use Rattle.site_journal.proofs.Starting.{on_err, first_sync, append_done, append_fails, last_sync}
use Rattle.site_journal.proofs.opening.begin.Goals as goal

header_is : as_line (codes "reviewgate 2") ≡ header_line
unfolding header_line
header_is = refl

pub returns-in_err-append-clause-err : goal.returns-in_err-append-clause-err
returns-in_err-append-clause-err g c =
    let rest : c.split_at.result.1.now ≡ drop (min c.args.bytes 13) (as_line (codes "reviewgate 2")) = c.split_at.ensures.back ∙ ap (λ k. drop k (as_line (codes "reviewgate 2"))) c.min.ensures in
    on_err c.from_residual-in_err-append.result (
    append_fails c.args.bytes c.split_at.result.1.now (as_line (codes "reviewgate 2")) header_is rest
    (g.T.Feed.image c.args.tape.now) (g.T.Feed.image c.sync.new.self) (g.T.Feed.image c.append.new.self)
    (first_sync c.args.bytes c.split_at.result.1.now (as_line (codes "reviewgate 2")) header_is rest (g.T.Feed.image c.args.tape.now) (g.T.Feed.image c.sync.new.self) c.requires c.in_ok-sync.ensures.synced)
    c.in_err-append.ensures.written
    )

pub returns-clause-ok : goal.returns-clause-ok
returns-clause-ok g c =
    let rest : c.split_at.result.1.now ≡ drop (min c.args.bytes 13) (as_line (codes "reviewgate 2")) = c.split_at.ensures.back ∙ ap (λ k. drop k (as_line (codes "reviewgate 2"))) c.min.ensures in
    (last_sync c.args.bytes c.split_at.result.1.now (as_line (codes "reviewgate 2")) header_is rest c.sync-2.result (g.T.Feed.image c.args.tape.now) (g.T.Feed.image c.append.new.self) (g.T.Feed.image c.sync-2.new.self)
    (append_done c.args.bytes c.split_at.result.1.now (as_line (codes "reviewgate 2")) header_is rest (g.T.Feed.image c.args.tape.now) (g.T.Feed.image c.sync.new.self) (g.T.Feed.image c.append.new.self)
    (first_sync c.args.bytes c.split_at.result.1.now (as_line (codes "reviewgate 2")) header_is rest (g.T.Feed.image c.args.tape.now) (g.T.Feed.image c.sync.new.self) c.requires c.in_ok-sync.ensures.synced)
    c.in_ok-append.ensures.written)
    c.sync-2.ensures.synced).0

pub returns-clause-err : goal.returns-clause-err
returns-clause-err g c =
    let rest : c.split_at.result.1.now ≡ drop (min c.args.bytes 13) (as_line (codes "reviewgate 2")) = c.split_at.ensures.back ∙ ap (λ k. drop k (as_line (codes "reviewgate 2"))) c.min.ensures in
    (last_sync c.args.bytes c.split_at.result.1.now (as_line (codes "reviewgate 2")) header_is rest c.sync-2.result (g.T.Feed.image c.args.tape.now) (g.T.Feed.image c.append.new.self) (g.T.Feed.image c.sync-2.new.self)
    (append_done c.args.bytes c.split_at.result.1.now (as_line (codes "reviewgate 2")) header_is rest (g.T.Feed.image c.args.tape.now) (g.T.Feed.image c.sync.new.self) (g.T.Feed.image c.append.new.self)
    (first_sync c.args.bytes c.split_at.result.1.now (as_line (codes "reviewgate 2")) header_is rest (g.T.Feed.image c.args.tape.now) (g.T.Feed.image c.sync.new.self) c.requires c.in_ok-sync.ensures.synced)
    c.in_ok-append.ensures.written)
    c.sync-2.ensures.synced).1
