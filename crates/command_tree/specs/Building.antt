-- A command in the making is one that clap reads so, unless memory was refused for it.
use Rattle.std.specs.Prelude.{IfOk}
use Rattle.clap.specs.Words.{App}
use Rattle.command_tree.specs.Commands.{IsApp}
use Rattle.command_tree.specs.declared.building.Building.{Building}

abbrev pub Builds : App → Building → Type 0
Builds app building = IfOk building.command (IsApp app)
