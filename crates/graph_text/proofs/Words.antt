-- The words of items and refusals have no byte that would be changed between quotes.
use Rattle.std.proofs.Common.{◌≡◌, ◌≢◌, ◌<◌, ◌≤◌, ◌^◌, ◌==◌, ◌&&◌, ℕ, Bool, true, false, not, List, [], ◌∷◌, ◌++◌, refl}
use Rattle.std.proofs.Common.{sym, ap, ◌∙◌, arith, decimal, eq-eqb}
use Rattle.std.specs.Prelude.{codes}
use Rattle.std.specs.List.{All, AllByRecursion}
use Rattle.std.specs.Str.Parse.{AllDigits}
use Rattle.std.proofs.lemmas.Bool.{false≢true}
use Rattle.std.proofs.lemmas.Fmt.{decimal_is_IsNumeral}
use Rattle.std.proofs.lemmas.Str.Parse.{digit_from_value}
use Rattle.std.proofs.lemmas.List.Elements.{All-append, All-from_recursion}
use Rattle.state_core.specs.declared.item.Item.{Item}
use Rattle.gate_rules.specs.declared.condition.Side.{Side}
use Rattle.gate_rules.specs.declared.condition.Side.TheVariants.{Require, Reject}
use Rattle.gate_rules.specs.declared.condition.Clause.{Clause}
use Rattle.gate_rules.specs.declared.condition.Clause.TheVariants.{OpenState, CurrentSet, StatusIn, Approval}
use Rattle.ready_core.specs.declared.verdicts.Refusal.{Refusal}
use Rattle.ready_core.specs.declared.verdicts.Refusal.TheVariants.{Own, Cycle, Unknown, Dependency}
use Rattle.gate_rules.specs.Words.{clause_text, side_name}
use Rattle.ready_core.specs.Words.{refusal_text}
use Rattle.report_text.specs.Report.{item_text}
use Rattle.report_text.specs.Printed.{IsSmallItem, IsSmallClause, IsSmallRefusal}
use Rattle.graph_text.specs.Lines.{IsPlain, IsPlainByte}

-- ---- words that are written here
abbrev is_plain : ℕ → Bool
is_plain byte = not (byte == 34) && (not (byte == 92) && not (byte == 10))

abbrev all_plain : List ℕ → Bool
all_plain [] = true
all_plain (byte ∷ text) = is_plain byte && all_plain text

both : (a b : Bool) → (a && b) ≡ true → (a ≡ true) × (b ≡ true)
both true b e = (refl, e)
both false b e = cc

differs : (m n : ℕ) (b : Bool) → (m == n) ≡ b → not b ≡ true → m ≢ n
differs m n true is e = absurd (false≢true e)
differs m n false is e = λ same. false≢true (sym is ∙ eq-eqb m n same)

plain_byte : (byte : ℕ) → is_plain byte ≡ true → IsPlainByte byte
plain_byte byte e =
    let first = both (not (byte == 34)) (not (byte == 92) && not (byte == 10)) e in
    let rest = both (not (byte == 92)) (not (byte == 10)) first.1 in
    record {
      no_quote = differs byte 34 (byte == 34) refl first.0;
      no_backslash = differs byte 92 (byte == 92) refl rest.0;
      no_line_end = differs byte 10 (byte == 10) refl rest.1;
    }

plain_by_test : (text : List ℕ) → all_plain text ≡ true → AllByRecursion IsPlainByte text
plain_by_test [] e = tt
plain_by_test (byte ∷ text) e = let parts = both (is_plain byte) (all_plain text) e in (plain_byte byte parts.0, plain_by_test text parts.1)

written : (text : List ℕ) → all_plain text ≡ true → IsPlain text
written text e = All-from_recursion IsPlainByte text (plain_by_test text e)

-- ---- numbers
digits_plain : (ds : List ℕ) → AllDigits 10 ds → AllByRecursion IsPlainByte ds
digits_plain [] all = tt
digits_plain (d ∷ ds) all =
    let digit = digit_from_value d all.0 in (
      record { no_quote = λ e. absurd (omega (arith, digit.0, digit.1, e)); no_backslash = λ e. absurd (omega (arith, digit.0, digit.1, e)); no_line_end = λ e. absurd (omega (arith, digit.0, digit.1, e)) },
      digits_plain ds all.1,
    )

number_plain : (n : ℕ) → n < 2 ^ 64 → IsPlain (decimal n)
number_plain n small =
    All-from_recursion IsPlainByte (decimal n) (digits_plain (decimal n) (decimal_is_IsNumeral n small).0.1)

-- ---- items and refusals
pub item_plain : (item : Item) → IsSmallItem item → IsPlain (item_text item)
item_plain item small =
    All-append IsPlainByte (decimal item.change ++ codes ",") (decimal item.set)
    (All-append IsPlainByte (decimal item.change) (codes ",") (number_plain item.change small.change) (written (codes ",") refl))
    (number_plain item.set small.set)

side_plain : (side : Side) → IsPlain (side_name side)
side_plain Require = written (codes "require") refl
side_plain Reject = written (codes "reject") refl

clause_plain : (clause : Clause) → IsSmallClause clause → IsPlain (clause_text clause)
clause_plain OpenState small = written (codes "open") refl
clause_plain CurrentSet small = written (codes "current-patchset") refl
clause_plain StatusIn small = written (codes "status") refl
clause_plain (Approval number) small = All-append IsPlainByte (codes "approval ") (decimal number)
    (written (codes "approval ") refl) (number_plain number small)

pub refusal_plain : (refusal : Refusal) → IsSmallRefusal refusal → IsPlain (refusal_text refusal)
refusal_plain (Own condition) small =
    All-append IsPlainByte (side_name condition.side ++ codes " ") (clause_text condition.clause)
    (All-append IsPlainByte (side_name condition.side) (codes " ") (side_plain condition.side) (written (codes " ") refl))
    (clause_plain condition.clause small)
refusal_plain Cycle small = written (codes "cycle") refl
refusal_plain (Unknown number) small = All-append IsPlainByte (codes "unknown ") (decimal number)
    (written (codes "unknown ") refl) (number_plain number small)
refusal_plain (Dependency number) small = All-append IsPlainByte (codes "dependency ") (decimal number)
    (written (codes "dependency ") refl) (number_plain number small)
