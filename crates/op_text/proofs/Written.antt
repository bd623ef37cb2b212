-- An object's text is its change's, and those of its later members.
use Rattle.std.proofs.Common.{◌≡◌, ℕ, ◌+◌, ◌<◌, List, [], ◌∷◌, ◌++◌, true, length, take, get_or, decimal, Option, Some}
use Rattle.std.proofs.Common.{None, refl, sym, ap, ◌∙◌, append_assoc, append-nil}
use Rattle.std.proofs.lemmas.List.{take_more}
use Rattle.std.specs.Prelude.{codes}
use Rattle.json.specs.Print.{escape_byte, quoted}
use Rattle.serde_json.specs.Data.{Data, Members}
use Rattle.serde_json.specs.Written.{compact_text, members_text}
use Rattle.review_ops.specs.Timestamp.{Timestamp}
use Rattle.review_ops.specs.Deed.{Deed, change_of}
use Rattle.review_ops.specs.Operation.{Operation}
use Rattle.op_text.specs.declared.field.Field.{Field}
use Rattle.op_text.specs.Field.{key_of}
use Rattle.op_text.specs.Canonical.{Extends, member_text, members_texts, later_fields, written_text}
use Rattle.op_text.specs.Text.{data_of, with_member, members_over, body_text, operation_text}

members_texts-append : (values : Field → Option Data) (fs gs : List Field)
    → members_texts (fs ++ gs) values ≡ members_texts fs values ++ members_texts gs values
members_texts-append values [] gs = refl
members_texts-append values (f ∷ fs) gs =
    ap (λ ts. member_text (key_of f) (values f) ++ ts) (members_texts-append values fs gs)
    ∙ sym (append_assoc (member_text (key_of f) (values f)) (members_texts fs values) (members_texts gs values))

-- one more field
pub members_texts-more : (values : Field → Option Data) (fs : List Field) (i : ℕ) (d : Field) → i < length fs
    → members_texts (take (i + 1) fs) values
    ≡ members_texts (take i fs) values ++ member_text (key_of (get_or fs i d)) (values (get_or fs i d))
members_texts-more values fs i d h =
    ap (λ gs. members_texts gs values) (take_more fs i d h)
    ∙ members_texts-append values (take i fs) (get_or fs i d ∷ [])
    ∙ ap (λ ts. members_texts (take i fs) values ++ ts)
    (append-nil (member_text (key_of (get_or fs i d)) (values (get_or fs i d))))

-- ---- the text of an object

one_member : (key : List ℕ) (o : Option Data) (rest : Members) (tail : List ℕ) → members_text true rest ≡ tail
    → members_text true (with_member key o rest) ≡ member_text key o ++ tail
one_member key None rest tail is = is
one_member key (Some d) rest tail is =
    ap (λ l. 44 ∷ (quoted key ++ 58 ∷ (compact_text d ++ l))) is
    ∙ ap (λ l. 44 ∷ l) (sym (append_assoc (quoted key) (58 ∷ compact_text d) tail))

later_members : (values : Field → Option Data) (fs : List Field)
    → members_text true (members_over fs values) ≡ members_texts fs values ++ 125 ∷ []
later_members values [] = refl
later_members values (f ∷ fs) =
    one_member (key_of f) (values f) (members_over fs values) (members_texts fs values ++ 125 ∷ [])
    (later_members values fs)
    ∙ sym (append_assoc (member_text (key_of f) (values f)) (members_texts fs values) (125 ∷ []))

pub written_text-members : (stamp : Option Timestamp) (deed : Deed)
    → written_text stamp deed
    ≡ codes "{\"change\":" ++ (decimal (change_of deed) ++ (members_texts later_fields (data_of stamp deed) ++ 125 ∷ []))
unfolding written_text escape_byte
written_text-members stamp deed = ap (λ l. codes "{\"change\":" ++ (decimal (change_of deed) ++ l))
    (later_members (data_of stamp deed) later_fields)

pub operation_written : (op : Operation) → written_text (Some op.stamp) op.deed ≡ operation_text op
unfolding written_text operation_text
operation_written op = refl

pub body_written : (deed : Deed) → written_text None deed ≡ body_text deed
unfolding written_text body_text
body_written deed = refl

-- ---- a page that grows

pub Extends-trans : (a b c : List ℕ) → Extends a b → Extends b c → Extends a c
Extends-trans a b c p q = record {
  more = p.more ++ q.more;
  is = q.is ∙ ap (λ l. l ++ q.more) p.is ∙ append_assoc a p.more q.more;
}

pub begun : (old one two front digits : List ℕ) → one ≡ old ++ front → two ≡ one ++ digits
    → two ≡ old ++ (front ++ (digits ++ []))
begun old one two front digits e f =
    f ∙ ap (λ l. l ++ digits) e ∙ append_assoc old front digits ∙ ap (λ l. old ++ (front ++ l)) (sym (append-nil digits))

pub grown : (old page next front digits so_far more : List ℕ) → page ≡ old ++ (front ++ (digits ++ so_far))
    → next ≡ page ++ more → next ≡ old ++ (front ++ (digits ++ (so_far ++ more)))
grown old page next front digits so_far more e f =
    f ∙ ap (λ l. l ++ more) e ∙ append_assoc old (front ++ (digits ++ so_far)) more
    ∙ ap (λ l. old ++ l) (append_assoc front (digits ++ so_far) more ∙ ap (λ l. front ++ l) (append_assoc digits so_far more))
