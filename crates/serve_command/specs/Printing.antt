-- What a site prints, as the words of the command line say.
use Rattle.command_line.specs.declared.asked.Printing.{Printing}
use Rattle.command_line.specs.declared.asked.Printing.TheVariants as word
use Rattle.site_serve.specs.declared.setup.Prints.{Prints}
use Rattle.site_serve.specs.declared.setup.Prints.TheVariants as site

abbrev pub prints_of : Printing → Prints
prints_of word.Report = site.Report
prints_of word.Changes = site.Changes
prints_of word.Nothing = site.Nothing
