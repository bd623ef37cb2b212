-- Written texts are of one line, and spell what they were written for.
use Rattle.std.proofs.Common.{◌≡◌, ℕ, ℤ, ◌+◌, ◌/◌, ◌%◌, ◌^◌, ◌<◌, ◌≤◌, zero, suc, pos, negsuc, List, [], ◌∷◌, ◌++◌}
use Rattle.std.proofs.Common.{Bool, true, false, cond, ltb, Option, Some, None, IfSome, option_map, decimal}
use Rattle.std.proofs.Common.{refl, sym, ap, ◌∙◌, subst, arith, rules}
use Rattle.std.proofs.lemmas.Bool.{ltb-true, ltb-false}
use Rattle.std.proofs.lemmas.Bool.Decides.{nat_tests}
use Rattle.std.proofs.lemmas.Fmt.{decimal_by_steps}
use Rattle.std.proofs.lemmas.List.Elements.{All-from_recursion}
use Rattle.std.proofs.lemmas.Str.{IsUtf8-append, IsUtf8-from_ascii, IsUtf8-nil}
use Rattle.std.specs.Char.{digit_char}
use Rattle.std.specs.Int.{w8}
use Rattle.std.specs.List.{AllByRecursion}
use Rattle.std.specs.Prelude.{FitsSigned, IsUtf8, slice_index}
use Rattle.json.specs.Print.{escape_byte, escape_letter, escape, quoted}
use Rattle.json.specs.Lex.{tokens}
use Rattle.json.specs.Tree as tree
use Rattle.json.proofs.Printed.Decimals.{IsNumber-decimal, IsNumber-signed_decimal}
use Rattle.json.proofs.Printed.Tokens.{tokens-print}
use Rattle.json.proofs.Printed.Trees.{ArePrintable-json_tokens}
use Rattle.json.proofs.Printed.Utf8.{IsUtf8-are_ascii, IsUtf8-quoted}
use Rattle.serde_json.specs.Data.{Data, number, string, object, Members, no_members, member}
use Rattle.serde_json.specs.Find.{of_integer}
use Rattle.serde_json.specs.Written.{outline, members_outline, compact_text, members_text, comma_if}
use Rattle.serde_json.proofs.Texts.{print-outline}
use Rattle.review_ops.specs.Timestamp.{Timestamp, IsNumbered}
use Rattle.review_ops.specs.Deed.{Deed, change_of, set_of, message_of, parent_of, label_of, voter_of, value_of}
use Rattle.review_ops.specs.Good.{IsGood, IsFaultless-IsGood, kept_deed-IsGood}
use Rattle.review_ops.specs.Operation.{Operation}
use Rattle.op_text.specs.declared.field.Field.{Field}
use Rattle.op_text.specs.declared.field.Field.TheVariants.{Change, Label, Message, Op, Parent, Seq, Set, Site, Start}
use Rattle.op_text.specs.declared.field.Field.TheVariants.{Time, Value, Voter}
use Rattle.op_text.specs.declared.field.Kind.{Kind}
use Rattle.op_text.specs.declared.field.Kind.TheVariants.{PatchSet, Vote, Withdraw, Abandon, Restore, Merged}
use Rattle.op_text.specs.Field.{key_of, name_of}
use Rattle.op_text.specs.Spelling.{kind_of, SpellsDeed, SpellsBody, SpellsParts, SpellsOperation}
use Rattle.op_text.specs.Text.{form_of, whole, data_of, all_fields, with_member, members_over, members_of, body_text}
use Rattle.op_text.specs.Text.{operation_text, IsOneLine}
use Rattle.op_text.proofs.Spelled.{spells_written, holds_written}
use Rattle.op_text.proofs.Fitting.{FitsText-IsGood}
use Rattle.op_text.specs.Canonical.{written_text, FitsText}

abbrev pub ArePlain : List ℕ → Type 0
ArePlain = AllByRecursion (λ byte. 32 ≤ byte)

ArePlain-append : (xs ys : List ℕ) → ArePlain xs → ArePlain ys → ArePlain (xs ++ ys)
ArePlain-append [] ys p q = q
ArePlain-append (x ∷ xs) ys p q = (p.0, ArePlain-append xs ys p.1 q)

-- ---- quoted texts

letter_plain : (x : ℕ) → 0 < escape_letter x → 32 ≤ escape_letter x
letter_plain x h = grind (arith, nat_tests)

digit_plain : (d : ℕ) → 32 ≤ digit_char d
digit_plain d = grind (arith, nat_tests)

ArePlain-cond : (b : Bool) (xs ys : List ℕ) → (b ≡ true → ArePlain xs) → (b ≡ false → ArePlain ys)
    → ArePlain (cond b xs ys)
ArePlain-cond true xs ys p q = p refl
ArePlain-cond false xs ys p q = q refl

ArePlain-escape_byte : (x : ℕ) → ArePlain (escape_byte x)
unfolding escape_byte
ArePlain-escape_byte x =
    ArePlain-cond (ltb 0 (escape_letter x)) _ _
    (λ h. (omega arith, (letter_plain x (ltb-true 0 (escape_letter x) h), tt)))
    (λ _. ArePlain-cond (ltb x 32) _ _ (λ _. (omega arith, (omega arith, (omega arith, (omega arith, (digit_plain (x / 16), (digit_plain (x % 16), tt)))))))
    (λ h. (ltb-false x 32 h, tt)))

ArePlain-escape : (text : List ℕ) → ArePlain (escape text)
ArePlain-escape [] = tt
ArePlain-escape (x ∷ text) =
    ArePlain-append (escape_byte x) (escape text) (ArePlain-escape_byte x) (ArePlain-escape text)

ArePlain-quoted : (text : List ℕ) → ArePlain (quoted text)
ArePlain-quoted text = (omega arith, ArePlain-append (escape text) (34 ∷ []) (ArePlain-escape text) (omega arith, tt))

-- ---- numbers

one_ascii : (byte : ℕ) → byte < 128 → IsUtf8 (byte ∷ [])
one_ascii byte h = IsUtf8-from_ascii (byte ∷ []) at
  where
    at : (i : ℕ) → slice_index (byte ∷ []) i < 128
    at zero = h
    at (suc i) = omega arith

plain_decimal : (n : ℕ) → n < 2 ^ 64 → ArePlain (decimal n) × IsUtf8 (decimal n)
plain_decimal = decimal_by_steps (λ n digits. ArePlain digits × IsUtf8 digits)
    (λ n h. ((omega arith, tt), one_ascii (48 + n) (omega arith)))
    (λ n digits h so_far. (ArePlain-append digits _ so_far.0 (omega arith, tt), IsUtf8-append digits _ so_far.1 (one_ascii (48 + n % 10) (omega arith))))

-- ---- a value's text

pub record Printable (d : Data) : Type 0 where
  pub plain : ArePlain (compact_text d)
  pub utf8 : IsUtf8 (compact_text d)
  pub numbers : tree.HasNumbers (outline d)

pub printable_text : (text : List ℕ) → IsUtf8 text → Printable (string text)
printable_text text h = record { plain = ArePlain-quoted text; utf8 = IsUtf8-quoted text h; numbers = tt }

pub printable_whole : (n : ℕ) → n < 2 ^ 64 → Printable (whole n)
printable_whole n h = let text = plain_decimal n h in record {
  plain = text.0;
  utf8 = text.1;
  numbers = IsNumber-decimal n h;
}

pub printable_integer : (z : ℤ) → FitsSigned w8 z → Printable (number (of_integer z))
printable_integer (pos n) h = printable_whole n (search (rules, h))
printable_integer (negsuc n) h =
    let small : n < 2 ^ 63 = search (rules, h) in
    let text = plain_decimal (suc n) (omega (arith, small)) in
    record { plain = (omega arith, text.0); utf8 = IsUtf8-append (45 ∷ []) (decimal (suc n)) (one_ascii 45 (omega arith)) text.1; numbers = IsNumber-signed_decimal (negsuc n) small }

-- ---- an object's text

abbrev HavePrintable : Members → Type 0
HavePrintable no_members = Unit {0}
HavePrintable (member k d rest) = IsUtf8 k × Printable d × HavePrintable rest

plain_members : (later : Bool) (held : Members) → HavePrintable held → ArePlain (members_text later held)
plain_members later no_members h = (omega arith, tt)
plain_members later (member k d rest) h =
    ArePlain-append (comma_if later) _ (ArePlain-cond later (44 ∷ []) [] (λ _. (omega arith, tt)) (λ _. tt))
    (ArePlain-append (quoted k) _ (ArePlain-quoted k) (omega arith, ArePlain-append (compact_text d) (members_text true rest) h.1.plain (plain_members true rest h.2)))

comma_utf8 : (later : Bool) → IsUtf8 (comma_if later)
comma_utf8 true = one_ascii 44 (omega arith)
comma_utf8 false = IsUtf8-nil

utf8_members : (later : Bool) (held : Members) → HavePrintable held → IsUtf8 (members_text later held)
utf8_members later no_members h = one_ascii 125 (omega arith)
utf8_members later (member k d rest) h =
    IsUtf8-append (comma_if later) _ (comma_utf8 later)
    (IsUtf8-append (quoted k) _ (IsUtf8-quoted k h.0)
    (IsUtf8-append (58 ∷ []) (compact_text d ++ members_text true rest) (one_ascii 58 (omega arith)) (IsUtf8-append (compact_text d) (members_text true rest) h.1.utf8 (utf8_members true rest h.2))))

numbers_members : (held : Members) → HavePrintable held → tree.MembersHaveNumbers (members_outline held)
numbers_members no_members h = tt
numbers_members (member k d rest) h = (h.1.numbers, numbers_members rest h.2)

object_plain : (held : Members) → HavePrintable held → ArePlain (compact_text (object held))
object_plain held h = (omega arith, plain_members false held h)

object_utf8 : (held : Members) → HavePrintable held → IsUtf8 (compact_text (object held))
object_utf8 held h =
    IsUtf8-append (123 ∷ []) (members_text false held) (one_ascii 123 (omega arith)) (utf8_members false held h)

object_lexed : (held : Members) → HavePrintable held
    → tokens (compact_text (object held)) ≡ tree.json_tokens (outline (object held))
object_lexed held h =
    ap tokens (sym (print-outline (object held))) ∙ tokens-print (tree.json_tokens (outline (object held)))
    (ArePrintable-json_tokens (outline (object held)) (numbers_members held h))

-- ---- the members of a deed

key_utf8 : (field : Field) → IsUtf8 (key_of field)
key_utf8 Change = IsUtf8-are_ascii (key_of Change) refl
key_utf8 Label = IsUtf8-are_ascii (key_of Label) refl
key_utf8 Message = IsUtf8-are_ascii (key_of Message) refl
key_utf8 Op = IsUtf8-are_ascii (key_of Op) refl
key_utf8 Parent = IsUtf8-are_ascii (key_of Parent) refl
key_utf8 Seq = IsUtf8-are_ascii (key_of Seq) refl
key_utf8 Set = IsUtf8-are_ascii (key_of Set) refl
key_utf8 Site = IsUtf8-are_ascii (key_of Site) refl
key_utf8 Start = IsUtf8-are_ascii (key_of Start) refl
key_utf8 Time = IsUtf8-are_ascii (key_of Time) refl
key_utf8 Value = IsUtf8-are_ascii (key_of Value) refl
key_utf8 Voter = IsUtf8-are_ascii (key_of Voter) refl

name_utf8 : (kind : Kind) → IsUtf8 (name_of kind)
name_utf8 PatchSet = IsUtf8-are_ascii (name_of PatchSet) refl
name_utf8 Vote = IsUtf8-are_ascii (name_of Vote) refl
name_utf8 Withdraw = IsUtf8-are_ascii (name_of Withdraw) refl
name_utf8 Abandon = IsUtf8-are_ascii (name_of Abandon) refl
name_utf8 Restore = IsUtf8-are_ascii (name_of Restore) refl
name_utf8 Merged = IsUtf8-are_ascii (name_of Merged) refl

printable_with : (key : List ℕ) (o : Option Data) (rest : Members) → IsUtf8 key → IfSome o Printable
    → HavePrintable rest → HavePrintable (with_member key o rest)
printable_with key None rest named h later = later
printable_with key (Some d) rest named h later = (named, h, later)

printable_over : (values : Field → Option Data) → ((f : Field) → IfSome (values f) Printable) → (fs : List Field)
    → HavePrintable (members_over fs values)
printable_over values h [] = tt
printable_over values h (f ∷ fs) =
    printable_with (key_of f) (values f) (members_over fs values) (key_utf8 f) (h f) (printable_over values h fs)

IfSome-map : {A B : Type 0} (f : A → B) (P : A → Type 0) (Q : B → Type 0) → ((x : A) → P x → Q (f x)) → (o : Option A)
    → IfSome o P → IfSome (option_map f o) Q
IfSome-map f P Q g None h = tt
IfSome-map f P Q g (Some x) h = g x h

printable_number : (n : ℕ) → n < 2 ^ 32 → Printable (whole n)
printable_number n h = printable_whole n (omega (arith, h))

module _ (stamp : Option Timestamp) (deed : Deed) (numbered : IfSome stamp IsNumbered) (fits : FitsText deed) where
  printable : (f : Field) → IfSome (data_of stamp deed f) Printable
  printable Change = printable_number (change_of deed) fits.change
  printable Label = IfSome-map string IsUtf8 Printable printable_text (label_of deed) fits.label
  printable Message = IfSome-map string IsUtf8 Printable printable_text (message_of deed) fits.message
  printable Op = printable_text (name_of (kind_of deed)) (name_utf8 (kind_of deed))
  printable Parent = IfSome-map whole (λ n. n < 2 ^ 32) Printable printable_number (parent_of deed) fits.parent
  printable Seq = IfSome-map (λ t. whole t.seq) IsNumbered Printable (λ t h. printable_whole t.seq h.seq) stamp numbered
  printable Set = IfSome-map whole (λ n. n < 2 ^ 32) Printable printable_number (set_of deed) fits.set
  printable Site = IfSome-map (λ t. whole t.site) IsNumbered Printable
      (λ t h. printable_whole t.site (omega (arith, h.site))) stamp numbered
  printable Start = IfSome-map (λ t. whole t.start) IsNumbered Printable
      (λ t h. printable_whole t.start (omega (arith, h.start))) stamp numbered
  printable Time =
      IfSome-map (λ t. whole t.time) IsNumbered Printable (λ t h. printable_whole t.time h.time) stamp numbered
  printable Value =
      IfSome-map (λ z. number (of_integer z)) (FitsSigned w8) Printable printable_integer (value_of deed) fits.value
  printable Voter = IfSome-map string IsUtf8 Printable printable_text (voter_of deed) fits.voter

  held_printable : HavePrintable (members_of stamp deed)
  held_printable = printable_over (data_of stamp deed) printable all_fields

  one_line : IsOneLine (compact_text (object (members_of stamp deed)))
  one_line = record {
    rest = members_text false (members_of stamp deed);
    begins = refl;
    plain = All-from_recursion (λ byte. 32 ≤ byte) (compact_text (object (members_of stamp deed)))
        (object_plain (members_of stamp deed) held_printable);
  }

-- what is written for a deed spells it, also one that isn't good
pub written_text_spells : (stamp : Option Timestamp) (deed : Deed) → IfSome stamp IsNumbered → FitsText deed
    → SpellsDeed (form_of stamp) (written_text stamp deed) (members_of stamp deed) deed
unfolding written_text
written_text_spells stamp deed numbered fits =
    let held = held_printable stamp deed numbered fits in
    spells_written stamp deed numbered fits _ (object_lexed (members_of stamp deed) held)
    (object_utf8 (members_of stamp deed) held)

pub operation_one_line : (op : Operation) → IsNumbered op.stamp → IsGood op.deed → IsOneLine (operation_text op)
unfolding operation_text
operation_one_line op numbered good = one_line (Some op.stamp) op.deed numbered (FitsText-IsGood op.deed good)

pub operation_text_spells : (op : Operation) → IsNumbered op.stamp → IsGood op.deed
    → SpellsOperation (operation_text op) op
unfolding operation_text written_text
operation_text_spells op numbered good = record {
  members = members_of (Some op.stamp) op.deed;
  deed = op.deed;
  spells = written_text_spells (Some op.stamp) op.deed numbered (FitsText-IsGood op.deed good);
  stamp = holds_written op.stamp op.deed;
  faultless = IsFaultless-IsGood op.deed good;
  kept = sym (kept_deed-IsGood op.deed good);
}

pub body_one_line : (deed : Deed) → IsGood deed → IsOneLine (body_text deed)
unfolding body_text
body_one_line deed good = one_line None deed tt (FitsText-IsGood deed good)

pub body_text_spells : (deed : Deed) → IsGood deed → SpellsBody (body_text deed) deed
unfolding body_text written_text
body_text_spells deed good = (members_of None deed, written_text_spells None deed tt (FitsText-IsGood deed good))

-- ---- texts that are as they are written

pub canonical_body : (text : List ℕ) (deed : Deed) → text ≡ written_text None deed → FitsText deed
    → SpellsBody text deed
canonical_body text deed is fits = (
  members_of None deed,
  subst (λ bytes. SpellsDeed (form_of None) bytes (members_of None deed) deed) (sym is) (written_text_spells None deed tt fits),
)

pub canonical_parts : (text : List ℕ) (stamp : Timestamp) (deed : Deed) → text ≡ written_text (Some stamp) deed
    → IsNumbered stamp → FitsText deed → SpellsParts text stamp deed
canonical_parts text stamp deed is numbered fits = (
  members_of (Some stamp) deed,
  subst (λ bytes. SpellsDeed (form_of (Some stamp)) bytes (members_of (Some stamp) deed) deed) (sym is) (written_text_spells (Some stamp) deed numbered fits),
  holds_written stamp deed,
)
