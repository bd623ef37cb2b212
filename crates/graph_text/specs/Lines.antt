-- The text of a picture, in the DOT language (graphviz.org/doc/info/lang.html): names and labels are in double
-- quotes, in which a quote would have a backslash before it; in a label a backslash and an `n` are a line end, and a
-- backslash would be doubled. No word here has any of them, so none is changed. Nodes of one cluster are named under
-- `subgraph` with one name. The form is the project's own.
use Rattle.std.specs.Prelude.{◌≢◌, ℕ, List, ◌++◌, All, Option, None, Some, codes, decimal, flat_map}
use Rattle.state_core.specs.declared.item.Item.{Item}
use Rattle.ready_core.specs.declared.verdicts.Refusal.{Refusal}
use Rattle.ready_core.specs.Words.{refusal_text}
use Rattle.report_text.specs.Report.{item_text}
use Rattle.graph_text.specs.declared.node.Node.{Node}

-- a byte that stands for itself between quotes
pub record IsPlainByte (byte : ℕ) : Type 0 where
  pub no_quote : byte ≢ 34
  pub no_backslash : byte ≢ 92
  pub no_line_end : byte ≢ 10

abbrev pub IsPlain : List ℕ → Type 0
IsPlain text = All IsPlainByte text

-- ---- nodes

-- green where the item is ready
abbrev pub color_name : Option Refusal → List ℕ
color_name None = codes "green"
color_name (Some refusal) = codes "red"

-- the item, and on a line of its own why it is left out
abbrev pub label_text : Item → Option Refusal → List ℕ
label_text item None = item_text item
label_text item (Some refusal) = item_text item ++ codes "\\n" ++ refusal_text refusal

-- `"N,P" [color=COLOR label="LABEL"];`
abbrev pub node_statement : Node → List ℕ
node_statement node =
    codes "\"" ++ item_text node.item ++ codes "\" [color=" ++ color_name node.refusal ++ codes " label=\""
    ++ label_text node.item node.refusal ++ codes "\"];"

-- a node's statement, in the cluster of its cycle
abbrev pub line_in : Option Item → List ℕ → List ℕ
line_in None statement = codes "  " ++ statement ++ codes "\n"
line_in (Some first) statement =
    codes "  subgraph \"cluster_" ++ item_text first ++ codes "\" { " ++ statement ++ codes " }\n"

abbrev pub node_line : Node → List ℕ
node_line node = line_in node.cycle (node_statement node)

-- a change of which no patch set is known
abbrev pub unknown_line : ℕ → List ℕ
unknown_line number = codes "  \"" ++ decimal number ++ codes "\" [style=dashed];\n"

-- ---- edges

abbrev pub edge_line : Item → Item → List ℕ
edge_line item need = codes "  \"" ++ item_text item ++ codes "\" -> \"" ++ item_text need ++ codes "\";\n"

abbrev pub wait_line : Item → ℕ → List ℕ
wait_line item number = codes "  \"" ++ item_text item ++ codes "\" -> \"" ++ decimal number ++ codes "\";\n"

-- from a node to the items that it waits for, then to the unknown changes
abbrev pub edge_lines : Node → List ℕ
edge_lines node =
    flat_map (edge_line node.item) node.needs.items ++ flat_map (wait_line node.item) node.unknown.items

-- ---- the whole text

abbrev pub graph_lines : List Node → List ℕ → List ℕ
graph_lines nodes unknown =
    codes "digraph reviewgate {\n  node [shape=box];\n" ++ flat_map node_line nodes ++ flat_map unknown_line unknown
    ++ flat_map edge_lines nodes ++ codes "}\n"
