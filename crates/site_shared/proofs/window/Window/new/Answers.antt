-- A window that knows nothing may come, and is shown all that the desk knows.
use Rattle.site_shared.proofs.Shows.{admits, forks, merges}
use Rattle.site_shared.proofs.window.Window.new.Goals as goal

pub reader-requires : goal.reader-requires
reader-requires c = admits

pub tell-note-requires : goal.tell-note-requires
tell-note-requires c = forks _ _

pub learn-requires-clause-rule : goal.learn-requires-clause-rule
learn-requires-clause-rule c = merges _ _ _ _
