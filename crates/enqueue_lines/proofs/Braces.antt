-- Where the braces of a template are.
use Rattle.std.proofs.Common.{◌≡◌, ◌∙◌, ◌++◌, ◌∷◌, [], ℕ, List, Option, None, Some, Bor, sym, ap, subst}
use Rattle.std.proofs.Common.{lit<, append_assoc, codes, append-nil, All, MatchOption}
use Rattle.std.proofs.Common.{inl}
use Rattle.std.proofs.lemmas.List.Concat.{flat_map-append}
use Rattle.std.proofs.lemmas.List.Elements.{All-append, All-cons, All-nil, All-push}
use Rattle.std.proofs.lemmas.Str.Pattern.{IsSplitOnceResult, split_parts}
use Rattle.enqueue_lines.specs.declared.fault.TemplateFault.{TemplateFault}
use Rattle.enqueue_lines.specs.declared.template.Field.{Field}
use Rattle.enqueue_lines.specs.declared.shell.ShellState.{ShellState}
use Rattle.enqueue_lines.specs.declared.shell.ShellState.TheVariants.{Bare}
use Rattle.enqueue_lines.specs.Shell.{after_bytes}
use Rattle.enqueue_lines.specs.Template.{AreBareFrom, IsPlainPart, IsRefusedTemplate, IsWrongBrace, Part, IsReadingOf}
use Rattle.enqueue_lines.specs.Template.{field}
use Rattle.enqueue_lines.specs.Template.{field_spelling, name_of, spelling, spells, text, with_field, with_text}
use Rattle.enqueue_lines.specs.Texts.{LacksByte}
use Rattle.enqueue_lines.proofs.Quotes.{after_append, bare_more}

pub brace_parts : (rest : List ℕ) (cut : Option (Bor (List ℕ) × Bor (List ℕ))) → IsSplitOnceResult 123 rest cut
    → MatchOption cut (LacksByte 123 rest)
    (λ found. (rest ≡ found.0.now ++ codes "{" ++ found.1.now) × LacksByte 123 found.0.now)
brace_parts rest None cuts = split_parts 123 rest None cuts (lit< tt)
brace_parts rest (Some found) cuts =
    let parts = split_parts 123 rest (Some found) cuts (lit< tt) in
    (parts.0 ∙ sym (append_assoc found.0.now (codes "{") found.1.now), parts.1)

-- ---- one more piece

spells_text : (parts : List Part) (plain : List ℕ) → spells (with_text parts plain) ≡ spells parts ++ plain
spells_text parts plain =
    flat_map-append spelling parts (text plain ∷ []) ∙ ap (λ t. spells parts ++ t) (append-nil plain)

plain_text : (parts : List Part) (plain : List ℕ) → All IsPlainPart parts → LacksByte 123 plain
    → All IsPlainPart (with_text parts plain)
plain_text parts plain all lacks = All-push IsPlainPart parts (text plain) all lacks

bare_text : (parts : List Part) (plain : List ℕ) → AreBareFrom Bare parts → AreBareFrom Bare (with_text parts plain)
bare_text parts plain bare = bare_more Bare parts (text plain ∷ []) bare (tt, tt)

-- how a shell reads what follows that text, where it reads the text from outside quotes on
state_behind : (parts : List Part) (plain : List ℕ) → after_bytes Bare (spells parts) ≡ Bare
    → after_bytes Bare (spells (with_text parts plain)) ≡ after_bytes Bare plain
state_behind parts plain there =
    ap (after_bytes Bare) (spells_text parts plain) ∙ after_append Bare (spells parts) plain
    ∙ ap (λ s. after_bytes s plain) there

-- a text, a field and what follows them are what is left of a template
field_next : (rest plain after next : List ℕ) (named : Field) → rest ≡ plain ++ codes "{" ++ after
    → after ≡ name_of named ++ codes "}" ++ next → rest ≡ (plain ++ (field_spelling named ++ [])) ++ next
field_next rest plain after next named cut closes =
    cut ∙ append_assoc plain (codes "{") after ∙ ap (λ t. plain ++ (codes "{" ++ t)) closes
    ∙ ap (λ t. plain ++ (t ++ next)) (sym (append-nil (field_spelling named)))
    ∙ sym (append_assoc plain (field_spelling named ++ []) next)

pub spells_field : (whole rest plain after next : List ℕ) (parts more : List Part) (named : Field)
    → whole ≡ spells parts ++ rest → rest ≡ plain ++ codes "{" ++ after → after ≡ name_of named ++ codes "}" ++ next
    → more ≡ with_field parts plain named → whole ≡ spells more ++ next
spells_field whole rest plain after next parts more named is cut closes made =
    is ∙ ap (λ t. spells parts ++ t) (field_next rest plain after next named cut closes)
    ∙ sym (append_assoc (spells parts) (plain ++ (field_spelling named ++ [])) next)
    ∙ ap (λ t. t ++ next) (sym (ap spells made ∙ flat_map-append spelling parts (text plain ∷ field named ∷ [])))

pub plain_field : (parts more : List Part) (plain : List ℕ) (named : Field) → All IsPlainPart parts
    → LacksByte 123 plain → more ≡ with_field parts plain named → All IsPlainPart more
plain_field parts more plain named all lacks made =
    subst (All IsPlainPart) (sym made) (All-append IsPlainPart parts (text plain ∷ field named ∷ []) all
    (All-cons IsPlainPart (text plain) (field named ∷ []) lacks
    (All-cons IsPlainPart (field named) [] tt (All-nil IsPlainPart))))

-- the text after the last field is the last piece
pub reads_rest : (whole rest : List ℕ) (parts more : List Part) → whole ≡ spells parts ++ rest → All IsPlainPart parts
    → AreBareFrom Bare parts → LacksByte 123 rest → more ≡ with_text parts rest → IsReadingOf whole more
reads_rest whole rest parts more is all bare lacks made = record {
  spelled = is ∙ sym (ap spells made ∙ spells_text parts rest);
  plain = subst (All IsPlainPart) (sym made) (plain_text parts rest all lacks);
  bare = subst (AreBareFrom Bare) (sym made) (bare_text parts rest bare);
}

-- a text before a brace that isn't right is one more piece
pub refused_at : (whole rest plain after : List ℕ) (parts : List Part) (fault : TemplateFault)
    → whole ≡ spells parts ++ rest
    → rest ≡ plain ++ codes "{" ++ after → All IsPlainPart parts → AreBareFrom Bare parts
    → after_bytes Bare (spells parts) ≡ Bare → LacksByte 123 plain → IsWrongBrace (after_bytes Bare plain) after fault
    → IsRefusedTemplate whole fault
refused_at whole rest plain after parts fault is cut all bare there lacks wrong =
    inl (
      with_text parts plain,
      after,
      is ∙ ap (λ t. spells parts ++ t) (cut ∙ append_assoc plain (codes "{") after)
          ∙ sym (append_assoc (spells parts) plain (codes "{" ++ after))
          ∙ ap (λ t. t ++ (codes "{" ++ after)) (sym (spells_text parts plain))
          ∙ sym (append_assoc (spells (with_text parts plain)) (codes "{") after),
      subst (λ (s : ShellState). IsWrongBrace s after fault) (sym (state_behind parts plain there)) wrong,
      plain_text parts plain all lacks,
      bare_text parts plain bare,
    )
