-- A patch set as a line shows it, as contracts see it.
use Rattle.std.specs.Prelude.{option_map}
use Rattle.gerrit_events.specs.declared.patch.Patch.{Patch as DeclaredPatch}
use Rattle.gerrit_events.specs.Patches.{ShownPatch, revision_of}

abbrev pub patch_shown : DeclaredPatch → ShownPatch
patch_shown patch = record {
  change = patch.change;
  set = patch.set;
  message = patch.message.now;
  revision = option_map (λ commit. revision_of patch.project.now commit.now) patch.commit;
}
