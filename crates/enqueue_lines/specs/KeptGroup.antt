-- The items of a group of lines, as the code holds them.
use Rattle.enqueue_lines.specs.Groups.{GroupItems}
use Rattle.enqueue_lines.specs.declared.handing.Group.{Group}

abbrev pub group_items : Group → GroupItems
group_items group = record { listed = group.listed.items; added = group.added.items; removed = group.removed.items }
