-- The template of a line: text as it is, and the names of fields in braces, for which values are put in. The form is
-- the project's own.
use Rattle.std.specs.Prelude.{◌≡◌, ◌≢◌, ◌⊎◌, ℕ, List, [], ◌∷◌, ◌++◌, All, codes, decimal, flat_map, string_bytes}
use Rattle.enqueue_lines.specs.Quoting.{quoted}
use Rattle.enqueue_lines.specs.Shell.{after_bytes}
use Rattle.enqueue_lines.specs.Texts.{LacksByte}
use Rattle.enqueue_lines.specs.declared.fault.TemplateFault.{TemplateFault}
use Rattle.enqueue_lines.specs.declared.fault.TemplateFault.TheVariants.{UnknownField, OpenBrace, QuotedField}
use Rattle.enqueue_lines.specs.declared.fault.TemplateFault.TheVariants.{NoMemory}
use Rattle.enqueue_lines.specs.declared.shell.ShellState.{ShellState}
use Rattle.enqueue_lines.specs.declared.shell.ShellState.TheVariants.{Bare}
use Rattle.enqueue_lines.specs.declared.template.Field.{Field}
use Rattle.enqueue_lines.specs.declared.template.Field.TheVariants.{Tenant, Pipeline, Project, Branch, Change, Set}
use Rattle.enqueue_lines.specs.declared.template.Piece.{Piece}
use Rattle.enqueue_lines.specs.declared.template.Piece.TheVariants.{Plain, Value}
use Rattle.enqueue_lines.specs.declared.template.Values.{Values}

abbrev pub name_of : Field → List ℕ
name_of Tenant = codes "tenant"
name_of Pipeline = codes "pipeline"
name_of Project = codes "project"
name_of Branch = codes "branch"
name_of Change = codes "change"
name_of Set = codes "set"

-- ---- how a template is written

-- a piece: a text, or a field
pub data Part : Type 0 where
  text : List ℕ → Part
  field : Field → Part

abbrev pub template_part : Piece → Part
template_part (Plain plain) = text (string_bytes plain)
template_part (Value named) = field named

abbrev pub field_spelling : Field → List ℕ
field_spelling named = codes "{" ++ name_of named ++ codes "}"

abbrev pub spelling : Part → List ℕ
spelling (text plain) = plain
spelling (field named) = field_spelling named

abbrev pub spells : List Part → List ℕ
spells parts = flat_map spelling parts

-- a text has no open brace in it, so that each brace begins a field
abbrev pub IsPlainPart : Part → Type 0
IsPlainPart (text plain) = LacksByte 123 plain
IsPlainPart (field named) = Unit {0}

-- a shell that is in this state before a piece, or before pieces, reads each field of them outside quotes, and none
-- behind a dollar
abbrev pub IsBarePart : ShellState → Part → Type 0
IsBarePart state (text plain) = Unit {0}
IsBarePart state (field named) = state ≡ Bare

abbrev pub AreBareFrom : ShellState → List Part → Type 0
AreBareFrom state [] = Unit {0}
AreBareFrom state (part ∷ parts) = IsBarePart state part × AreBareFrom (after_bytes state (spelling part)) parts

-- the pieces are a reading of the text: they spell it, none of their texts has an open brace, and none of their fields
-- stands in quotes or behind a dollar
pub record IsReadingOf (whole : List ℕ) (parts : List Part) : Type 0 where
  pub spelled : whole ≡ spells parts
  pub plain : All IsPlainPart parts
  pub bare : AreBareFrom Bare parts

-- pieces with one more text, and with a field after that
abbrev pub with_text : List Part → List ℕ → List Part
with_text parts plain = parts ++ text plain ∷ []

abbrev pub with_field : List Part → List ℕ → Field → List Part
with_field parts plain named = parts ++ (text plain ∷ field named ∷ [])

-- ---- what is put in: each value as a word of a shell

pub record Given : Type 0 where
  pub tenant : List ℕ
  pub pipeline : List ℕ
  pub project : List ℕ
  pub branch : List ℕ
  pub change : ℕ
  pub set : ℕ

abbrev pub values_given : Values → Given
values_given values = record {
  tenant = values.tenant.now;
  pipeline = values.pipeline.now;
  project = values.project.now;
  branch = values.branch.now;
  change = values.change;
  set = values.set;
}

abbrev pub field_value : Given → Field → List ℕ
field_value values Tenant = values.tenant
field_value values Pipeline = values.pipeline
field_value values Project = values.project
field_value values Branch = values.branch
field_value values Change = decimal values.change
field_value values Set = decimal values.set

abbrev pub filled_part : Given → Part → List ℕ
filled_part values (text plain) = plain
filled_part values (field named) = quoted (field_value values named)

-- the pieces with their values, one after the other
abbrev pub filled : List Part → Given → List ℕ
filled parts values = flat_map (filled_part values) parts

-- whatever values are put in before a field, a shell reads the field's own value from outside quotes on, and not behind
-- a dollar
abbrev pub ValuesStandBare : List Part → Type 0
ValuesStandBare parts = (values : Given) (before after : List Part) (named : Field)
    → parts ≡ before ++ field named ∷ after → after_bytes Bare (filled before values) ≡ Bare

-- ---- what is refused

-- what follows an open brace has no closing one; or there is one, and what is before the first is no field's name, or
-- is one that a shell reads as quoted or behind a dollar, by the state in which it reads the brace
abbrev pub IsWrongBrace : ShellState → List ℕ → TemplateFault → Type 0
IsWrongBrace state after OpenBrace = LacksByte 125 after
IsWrongBrace state after (UnknownField name) =
    (next : List ℕ) × (after ≡ name.now ++ codes "}" ++ next) × LacksByte 125 name.now
    × ((named : Field) → ¬ (name.now ≡ name_of named))
IsWrongBrace state after (QuotedField named) =
    (next : List ℕ) × (after ≡ name_of named ++ codes "}" ++ next) × (state ≢ Bare)
IsWrongBrace state after NoMemory = ⊥

-- the text begins with pieces, none of whose texts has an open brace and none of whose fields stands in quotes or
-- behind a dollar, and then has the first brace that is wrong; or memory was refused
abbrev pub IsRefusedTemplate : List ℕ → TemplateFault → Type 0
IsRefusedTemplate whole fault =
    ((parts : List Part) × (after : List ℕ) × (whole ≡ spells parts ++ codes "{" ++ after)
    × IsWrongBrace (after_bytes Bare (spells parts)) after fault × All IsPlainPart parts × AreBareFrom Bare parts)
    ⊎ (fault ≡ NoMemory)
