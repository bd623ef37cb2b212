-- Where a shell reads the fields of a template, and the values that are put in for them.
use Rattle.std.proofs.Common.{◌≡◌, ◌∙◌, ◌++◌, ◌∷◌, [], ℕ, Bool, true, false, not, List, cond, refl, sym, ap, subst}
use Rattle.std.proofs.Common.{append_assoc, append-nil, codes, flat_map, length}
use Rattle.std.specs.Prelude.{◌==◌}
use Rattle.std.specs.List.{list_all}
use Rattle.std.proofs.lemmas.List.Concat.{flat_map-append}
use Rattle.enqueue_lines.specs.Quoting.{is_bare_byte, is_plain, quoted, within_quotes}
use Rattle.enqueue_lines.specs.Shell.{after_byte, after_bytes}
use Rattle.enqueue_lines.specs.Template.{AreBareFrom, Given, Part, IsReadingOf, ValuesStandBare, field, field_spelling}
use Rattle.enqueue_lines.specs.Template.{field_value, filled, spelling, spells, text, with_field}
use Rattle.enqueue_lines.specs.declared.shell.ShellState.{ShellState}
use Rattle.enqueue_lines.specs.declared.shell.ShellState.TheVariants.{AfterBackslash, AfterDollar, Bare, Double}
use Rattle.enqueue_lines.specs.declared.shell.ShellState.TheVariants.{Single}
use Rattle.enqueue_lines.specs.declared.template.Field.{Field}
use Rattle.enqueue_lines.specs.declared.template.Field.TheVariants.{Tenant, Pipeline, Project, Branch, Change, Set}
use Rattle.enqueue_lines.proofs.Words.{both_true, differs}

pub after_append : (state : ShellState) (xs ys : List ℕ)
    → after_bytes state (xs ++ ys) ≡ after_bytes (after_bytes state xs) ys
after_append state [] ys = refl
after_append state (x ∷ xs) ys = after_append (after_byte state x) xs ys

-- no field's name has a quote or a backslash
name_bare : (named : Field) → after_bytes Bare (field_spelling named) ≡ Bare
name_bare Tenant = refl
name_bare Pipeline = refl
name_bare Project = refl
name_bare Branch = refl
name_bare Change = refl
name_bare Set = refl

-- ---- one more piece

pub bare_more : (state : ShellState) (parts more : List Part) → AreBareFrom state parts
    → AreBareFrom (after_bytes state (spells parts)) more → AreBareFrom state (parts ++ more)
bare_more state [] more all later = later
bare_more state (part ∷ parts) more all later = (
  all.0,
  bare_more (after_bytes state (spelling part)) parts more all.1
      (subst (λ s. AreBareFrom s more) (after_append state (spelling part) (spells parts)) later),
)

module _ (parts more : List Part) (plain : List ℕ) (named : Field) (there : after_bytes Bare (spells parts) ≡ Bare)
    (here : after_bytes Bare plain ≡ Bare) (made : more ≡ with_field parts plain named) where
  pub bare_field : AreBareFrom Bare parts → AreBareFrom Bare more
  bare_field all =
      subst (AreBareFrom Bare) (sym made) (bare_more Bare parts (text plain ∷ field named ∷ []) all
      (subst (λ s. AreBareFrom s (text plain ∷ field named ∷ [])) (sym there) (tt, (here, tt))))

  pub bare_behind : after_bytes Bare (spells more) ≡ Bare
  bare_behind =
      ap (λ ps. after_bytes Bare (spells ps)) made
      ∙ ap (after_bytes Bare) (flat_map-append spelling parts (text plain ∷ field named ∷ []))
      ∙ after_append Bare (spells parts) (plain ++ (field_spelling named ++ []))
      ∙ ap (λ s. after_bytes s (plain ++ (field_spelling named ++ []))) there
      ∙ after_append Bare plain (field_spelling named ++ [])
      ∙ ap (λ s. after_bytes s (field_spelling named ++ [])) here
      ∙ ap (after_bytes Bare) (append-nil (field_spelling named))
      ∙ name_bare named

-- ---- a value opens and closes its quotes

byte_within : (byte : ℕ) (is_quote : Bool) (tail : List ℕ) → (byte == 39) ≡ is_quote → after_bytes Single tail ≡ Bare
    → after_bytes Single (cond is_quote (codes "'\\''") (byte ∷ []) ++ tail) ≡ Bare
byte_within byte true tail is later = later
byte_within byte false tail is later = ap (λ t. after_bytes (cond t Bare Single) tail) is ∙ later

within_bare : (word : List ℕ) → after_bytes Single (flat_map within_quotes word ++ codes "'") ≡ Bare
within_bare [] = refl
within_bare (byte ∷ word) =
    ap (after_bytes Single) (append_assoc (within_quotes byte) (flat_map within_quotes word) (codes "'"))
    ∙ byte_within byte (byte == 39) (flat_map within_quotes word ++ codes "'") refl (within_bare word)

byte_bare : (byte : ℕ) → is_bare_byte byte ≡ true → after_byte Bare byte ≡ Bare
byte_bare byte plain =
    let no_quote = differs byte 39 (byte == 39) refl plain refl in
    let no_double = differs byte 34 (byte == 34) refl plain refl in
    let no_backslash = differs byte 92 (byte == 92) refl plain refl in
    let no_dollar = differs byte 36 (byte == 36) refl plain refl in
    ap (λ t. cond t Single (cond (byte == 34) Double (cond (byte == 92) AfterBackslash (cond (byte == 36) AfterDollar Bare)))) no_quote
    ∙ ap (λ t. cond t Double (cond (byte == 92) AfterBackslash (cond (byte == 36) AfterDollar Bare))) no_double
    ∙ ap (λ t. cond t AfterBackslash (cond (byte == 36) AfterDollar Bare)) no_backslash
    ∙ ap (λ t. cond t AfterDollar Bare) no_dollar

plain_bare : (word : List ℕ) → list_all is_bare_byte word ≡ true → after_bytes Bare word ≡ Bare
plain_bare [] all = refl
plain_bare (byte ∷ word) all =
    let both = both_true (is_bare_byte byte) (list_all is_bare_byte word) all in
    ap (λ s. after_bytes s word) (byte_bare byte both.0) ∙ plain_bare word both.1

by_test : (word : List ℕ) (plain : Bool) → is_plain word ≡ plain
    → after_bytes Bare (cond plain word (codes "'" ++ flat_map within_quotes word ++ codes "'")) ≡ Bare
by_test word true is = plain_bare word (both_true (not (length word == 0)) (list_all is_bare_byte word) is).1
by_test word false is = within_bare word

quoted_bare : (word : List ℕ) → after_bytes Bare (quoted word) ≡ Bare
quoted_bare word = by_test word (is_plain word) refl

-- ---- a template with its values

module _ (values : Given) where
  value_as_name : (state : ShellState) (named : Field) → state ≡ Bare
      → after_bytes state (quoted (field_value values named)) ≡ after_bytes state (field_spelling named)
  value_as_name state named bare =
      ap (λ s. after_bytes s (quoted (field_value values named))) bare ∙ quoted_bare (field_value values named)
      ∙ sym (ap (λ s. after_bytes s (field_spelling named)) bare ∙ name_bare named)

  value_bare : (state : ShellState) (before after : List Part) (named : Field)
      → AreBareFrom state (before ++ field named ∷ after) → after_bytes state (filled before values) ≡ Bare
  value_bare state [] after named all = all.0
  value_bare state (text plain ∷ before) after named all =
      after_append state plain (filled before values) ∙ value_bare (after_bytes state plain) before after named all.1
  value_bare state (field other ∷ before) after named all =
      after_append state (quoted (field_value values other)) (filled before values)
      ∙ ap (λ s. after_bytes s (filled before values)) (value_as_name state other all.0)
      ∙ value_bare (after_bytes state (field_spelling other)) before after named all.1

pub values_bare : (whole : List ℕ) (parts : List Part) → IsReadingOf whole parts → ValuesStandBare parts
values_bare whole parts reads values before after named split =
    value_bare values Bare before after named (subst (AreBareFrom Bare) split reads.bare)
