-- The parts of a line of metrics: texts as they are, values of labels, and numbers in decimal.
use Rattle.std.specs.Prelude.{ℕ, List, decimal}
use Rattle.page_text.specs.Labels.{label_value}
use Rattle.page_text.specs.declared.lines.Part.{Part}
use Rattle.page_text.specs.declared.lines.Part.TheVariants.{Text, Label, Number}

abbrev pub part_text : Part → List ℕ
part_text (Text text) = text.now
part_text (Label text) = label_value text.now
part_text (Number number) = decimal number
