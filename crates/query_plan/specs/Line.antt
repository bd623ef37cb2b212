-- The text of a line that a plan reads: the seconds of a clock, a blank, and what happened.
use Rattle.std.specs.Prelude.{◌≢◌, ◌<◌, ◌^◌, ℕ, List, [], ◌++◌, codes, decimal, length, slice_index}
use Rattle.query_plan.specs.declared.line.Line.{Line}
use Rattle.query_plan.specs.declared.line.Word.{Word}
use Rattle.query_plan.specs.declared.line.Word.TheVariants.{Ask, Need, All, Next, Listed, Whole, Refused, Late}
use Rattle.query_plan.specs.declared.line.Word.TheVariants.{Lost}

abbrev pub LacksBlank : List ℕ → Type 0
LacksBlank bytes = (i : ℕ) → i < length bytes → slice_index bytes i ≢ 32

-- the word alone
abbrev pub word_alone : Word → List ℕ
word_alone (Ask change) = codes "ask"
word_alone (Need change) = codes "need"
word_alone All = codes "all"
word_alone Next = codes "next"
word_alone (Listed change) = codes "listed"
word_alone Whole = codes "whole"
word_alone Refused = codes "refused"
word_alone Late = codes "late"
word_alone Lost = codes "lost"

-- the number of the change of which it speaks
abbrev pub word_rest : Word → List ℕ
word_rest (Ask change) = decimal change
word_rest (Need change) = decimal change
word_rest All = []
word_rest Next = []
word_rest (Listed change) = decimal change
word_rest Whole = []
word_rest Refused = []
word_rest Late = []
word_rest Lost = []

-- the word, and the change after a blank
abbrev pub word_text : Word → List ℕ
word_text (Ask change) = codes "ask " ++ decimal change
word_text (Need change) = codes "need " ++ decimal change
word_text All = codes "all"
word_text Next = codes "next"
word_text (Listed change) = codes "listed " ++ decimal change
word_text Whole = codes "whole"
word_text Refused = codes "refused"
word_text Late = codes "late"
word_text Lost = codes "lost"

-- the line, without its line end
abbrev pub plan_line_text : Line → List ℕ
plan_line_text line = decimal line.time ++ codes " " ++ word_text line.word

-- a change's number has at most 32 bits, and a time 64
abbrev pub WordFits : Word → Type 0
WordFits (Ask change) = change < 2 ^ 32
WordFits (Need change) = change < 2 ^ 32
WordFits All = Unit {0}
WordFits Next = Unit {0}
WordFits (Listed change) = change < 2 ^ 32
WordFits Whole = Unit {0}
WordFits Refused = Unit {0}
WordFits Late = Unit {0}
WordFits Lost = Unit {0}

pub record LineFits (line : Line) : Type 0 where
  pub time : line.time < 2 ^ 64
  pub word : WordFits line.word
