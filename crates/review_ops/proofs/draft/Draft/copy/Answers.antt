use Rattle.std.proofs.Common.{rules}
use Rattle.review_ops.proofs.draft.Draft.copy.Goals as goal

pub returns-in_ok-clone-in-PatchSet : goal.returns-in_ok-clone-in-PatchSet
returns-in_ok-clone-in-PatchSet g c = search rules
