-- All readings of a template write the same for the same values.
use Rattle.std.proofs.Common.{◌≡◌, ◌∙◌, ◌+◌, ◌++◌, ◌∷◌, [], ℕ, zero, suc, List, All, refl, sym, ap, arith}
use Rattle.std.proofs.Common.{append_assoc, append-nil, codes, cond, get_or}
use Rattle.std.proofs.Common.{Bool, true, false, eq-eqb}
use Rattle.std.specs.Prelude.{◌==◌, ◌||◌}
use Rattle.std.specs.List.{list_any}
use Rattle.std.proofs.lemmas.Bool.{false≢true}
use Rattle.std.proofs.lemmas.List.Elements.{All-head, All-tail}
use Rattle.enqueue_lines.specs.Quoting.{quoted}
use Rattle.enqueue_lines.specs.Template.{Given, IsPlainPart, Part, IsReadingOf, field, field_spelling, field_value}
use Rattle.enqueue_lines.specs.Template.{filled}
use Rattle.enqueue_lines.specs.Template.{name_of, spells, text}
use Rattle.enqueue_lines.specs.Texts.{LacksByte}
use Rattle.enqueue_lines.specs.declared.template.Field.{Field}
use Rattle.enqueue_lines.specs.declared.template.Field.TheVariants.{Tenant, Pipeline, Project, Branch, Change, Set}

-- ---- bytes before the first of a kind

lacks_rest : (byte b : ℕ) (bs : List ℕ) → LacksByte byte (b ∷ bs) → LacksByte byte bs
lacks_rest byte b bs lacks i within = lacks (suc i) (omega (arith, within))

lacks_first : (byte b : ℕ) (bs : List ℕ) → LacksByte byte (b ∷ bs) → ¬ (b ≡ byte)
lacks_first byte b bs lacks = lacks 0 (omega arith)

first_same : (byte : ℕ) (one two after then : List ℕ) → LacksByte byte one → LacksByte byte two
    → one ++ (byte ∷ after) ≡ two ++ (byte ∷ then) → (one ≡ two) × (after ≡ then)
first_same byte [] [] after then lacks others e = (refl, cc)
first_same byte [] (b ∷ two) after then lacks others e =
    let same : b ≡ byte = cc in absurd (lacks_first byte b two others same)
first_same byte (b ∷ one) [] after then lacks others e =
    let same : b ≡ byte = cc in absurd (lacks_first byte b one lacks same)
first_same byte (b ∷ one) (c ∷ two) after then lacks others e =
    let rest : one ++ (byte ∷ after) ≡ two ++ (byte ∷ then) = cc in
    let more = first_same byte one two after then (lacks_rest byte b one lacks) (lacks_rest byte c two others) rest in
    (cc (more.0), more.1)

lacks_both : (byte : ℕ) (one two : List ℕ) → LacksByte byte one → LacksByte byte two → LacksByte byte (one ++ two)
lacks_both byte [] two lacks others i within = others i within
lacks_both byte (b ∷ one) two lacks others zero within = lacks_first byte b one lacks
lacks_both byte (b ∷ one) two lacks others (suc i) within =
    lacks_both byte one two (lacks_rest byte b one lacks) others i (omega (arith, within))

has_no_such : (byte : ℕ) (one after then : List ℕ) → LacksByte byte then → ¬ (one ++ (byte ∷ after) ≡ then)
has_no_such byte [] after [] lacks e = cc
has_no_such byte [] after (b ∷ then) lacks e =
    let same : b ≡ byte = cc in absurd (lacks_first byte b then lacks same)
has_no_such byte (b ∷ one) after [] lacks e = cc
has_no_such byte (b ∷ one) after (c ∷ then) lacks e =
    let rest : one ++ (byte ∷ after) ≡ then = cc in
    has_no_such byte one after then (lacks_rest byte c then lacks) rest

-- ---- names

-- a field by its name
named_by : List ℕ → Field
named_by name =
    cond (get_or name 0 0 == 116) Tenant
    (cond (get_or name 0 0 == 98) Branch
    (cond (get_or name 0 0 == 99) Change
    (cond (get_or name 0 0 == 115) Set
    (cond (get_or name 1 0 == 105) Pipeline Project))))

its_name : (named : Field) → named_by (name_of named) ≡ named
unfolding named_by
its_name Tenant = refl
its_name Pipeline = refl
its_name Project = refl
its_name Branch = refl
its_name Change = refl
its_name Set = refl

one_name : (one two : Field) → name_of one ≡ name_of two → one ≡ two
one_name one two same = sym (its_name one) ∙ ap named_by same ∙ its_name two

or_false : (p q : Bool) → (p || q) ≡ false → (p ≡ false) × (q ≡ false)
or_false true q e = absurd (false≢true (sym e))
or_false false q e = (refl, e)

lacks_by : (byte : ℕ) (bytes : List ℕ) → list_any (λ b. b == byte) bytes ≡ false → LacksByte byte bytes
lacks_by byte [] none i within = absurd (omega (arith, within))
lacks_by byte (b ∷ bytes) none zero within = λ same.
    false≢true (sym (or_false (b == byte) (list_any (λ b. b == byte) bytes) none).0 ∙ eq-eqb b byte same)
lacks_by byte (b ∷ bytes) none (suc i) within =
    lacks_by byte bytes (or_false (b == byte) (list_any (λ b. b == byte) bytes) none).1 i (omega (arith, within))

name_closes : (named : Field) → LacksByte 125 (name_of named)
name_closes Tenant = lacks_by 125 (codes "tenant") refl
name_closes Pipeline = lacks_by 125 (codes "pipeline") refl
name_closes Project = lacks_by 125 (codes "project") refl
name_closes Branch = lacks_by 125 (codes "branch") refl
name_closes Change = lacks_by 125 (codes "change") refl
name_closes Set = lacks_by 125 (codes "set") refl

no_byte : (byte : ℕ) → LacksByte byte []
no_byte byte i within = absurd (omega (arith, within))

-- ---- two readings

module _ (values : Given) where
  -- a text without an open brace has no field, and is written as it is
  only_text : (parts : List Part) (before whole : List ℕ) → LacksByte 123 whole → before ++ spells parts ≡ whole
      → filled parts values ≡ spells parts
  only_text [] before whole lacks is = refl
  only_text (text plain ∷ parts) before whole lacks is =
      ap (λ t. plain ++ t)
      (only_text parts (before ++ plain) whole lacks (append_assoc before plain (spells parts) ∙ is))
  only_text (field named ∷ parts) before whole lacks is =
      absurd (has_no_such 123 before ((name_of named ++ codes "}") ++ spells parts) whole lacks is)

  -- a field in one of them is the next in the other one
  field_first : (named : Field) (parts : List Part)
      (then : (others : List Part) (one two : List ℕ) → All IsPlainPart others → LacksByte 123 one → LacksByte 123 two
      → one ++ spells parts ≡ two ++ spells others → one ++ filled parts values ≡ two ++ filled others values)
      (others : List Part) (one two : List ℕ) → All IsPlainPart others → LacksByte 123 one → LacksByte 123 two
      → one ++ (field_spelling named ++ spells parts) ≡ two ++ spells others
      → one ++ (quoted (field_value values named) ++ filled parts values) ≡ two ++ filled others values
  field_first named parts then [] one two all lacks others_lack e =
      absurd (has_no_such 123 one ((name_of named ++ codes "}") ++ spells parts) two others_lack (e ∙ append-nil two))
  field_first named parts then (text plain ∷ others) one two all lacks others_lack e =
      field_first named parts then others one (two ++ plain) (All-tail IsPlainPart (text plain) others all) lacks
      (lacks_both 123 two plain others_lack (All-head IsPlainPart (text plain) others all))
      (e ∙ sym (append_assoc two plain (spells others)))
      ∙ append_assoc two plain (filled others values)
  field_first named parts then (field other ∷ others) one two all lacks others_lack e =
      let cut = first_same 123 one two ((name_of named ++ codes "}") ++ spells parts) ((name_of other ++ codes "}") ++ spells others) lacks others_lack e in
      let closed = first_same 125 (name_of named) (name_of other) (spells parts) (spells others) (name_closes named)
      (name_closes other)
      (sym (append_assoc (name_of named) (codes "}") (spells parts)) ∙ cut.1
      ∙ append_assoc (name_of other) (codes "}") (spells others)) in
      let before : one ≡ two = cut.0 in
      let same : named ≡ other = one_name named other closed.0 in
      let rest : filled parts values ≡ filled others values =
      then others [] [] (All-tail IsPlainPart (field other) others all) (no_byte 123) (no_byte 123) closed.1 in
      cc

  same_filled : (parts others : List Part) (one two : List ℕ) → All IsPlainPart parts → All IsPlainPart others
      → LacksByte 123 one → LacksByte 123 two → one ++ spells parts ≡ two ++ spells others
      → one ++ filled parts values ≡ two ++ filled others values
  same_filled [] others one two all rest lacks others_lack e =
      e ∙ ap (λ t. two ++ t) (sym (only_text others two one lacks (sym e ∙ append-nil one)))
  same_filled (text plain ∷ parts) others one two all rest lacks others_lack e =
      sym (append_assoc one plain (filled parts values))
      ∙ same_filled parts others (one ++ plain) two (All-tail IsPlainPart (text plain) parts all) rest
      (lacks_both 123 one plain lacks (All-head IsPlainPart (text plain) parts all)) others_lack
      (append_assoc one plain (spells parts) ∙ e)
  same_filled (field named ∷ parts) others one two all rest lacks others_lack e =
      field_first named parts
      (λ others one two. same_filled parts others one two (All-tail IsPlainPart (field named) parts all))
      others one two rest lacks others_lack e

  pub one_reading : (whole : List ℕ) (parts others : List Part) → IsReadingOf whole parts → IsReadingOf whole others
      → filled parts values ≡ filled others values
  one_reading whole parts others reads other =
      same_filled parts others [] [] reads.plain other.plain (no_byte 123) (no_byte 123)
      (sym reads.spelled ∙ other.spelled)
