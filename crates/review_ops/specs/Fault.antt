-- Why a draft is refused.
use Rattle.std.specs.Prelude.{◌≡◌, ℕ, ◌<◌, ◌≤◌, List, length, Option, Some, None, codes, IfSome, IsSomeAnd}
use Rattle.std.proofs.Common.{arith, subst}
use Rattle.review_ops.specs.declared.fault.BodyFault.{BodyFault}
use Rattle.review_ops.specs.declared.fault.BodyFault.TheVariants.{BadChange, BadSet, BadLabel, BadVoter, LongMessage}
use Rattle.review_ops.specs.declared.fault.BodyFault.TheVariants.{BadParent}
use Rattle.review_ops.specs.Deed.{Deed, change_of, set_of, message_of, parent_of, label_of, voter_of}
use Rattle.review_ops.specs.Good.{IsLabel, IsVoter, IsFaultless}

-- the fault's number in reports; 6 is reserved for `NoMemory`, which no check of a draft returns
abbrev pub number_of : BodyFault → ℕ
number_of BadChange = 1
number_of BadSet = 2
number_of BadLabel = 3
number_of BadVoter = 4
number_of LongMessage = 5
number_of BadParent = 7

-- the fault's name in reports
abbrev pub name_of : BodyFault → List ℕ
name_of BadChange = codes "BadChange"
name_of BadSet = codes "BadSet"
name_of BadLabel = codes "BadLabel"
name_of BadVoter = codes "BadVoter"
name_of LongMessage = codes "LongMessage"
name_of BadParent = codes "BadParent"

-- the deed has the fault, whatever other faults it has
abbrev pub HasFault : BodyFault → Deed → Type 0
HasFault BadChange deed = change_of deed ≡ 0
HasFault BadSet deed = set_of deed ≡ Some 0
HasFault BadLabel deed = IsSomeAnd (label_of deed) (λ label. ¬ IsLabel label)
HasFault BadVoter deed = IsSomeAnd (voter_of deed) (λ voter. ¬ IsVoter voter)
HasFault LongMessage deed = IsSomeAnd (message_of deed) (λ message. 65536 < length message)
HasFault BadParent deed = parent_of deed ≡ Some 0

-- the deed has the fault, and none of a lower number
pub record IsFirstBodyFault (fault : BodyFault) (deed : Deed) : Type 0 where
  pub has : HasFault fault deed
  pub first : (other : BodyFault) → number_of other < number_of fault → ¬ HasFault other deed

not_zero : (n : Option ℕ) → IfSome n (λ k. 1 ≤ k) → n ≡ Some 0 → ⊥
not_zero n counted zero = let one : 1 ≤ 0 = subst (λ o. IfSome o (λ k. 1 ≤ k)) zero counted in omega arith

not_both : {T : Type 0} (Good Bad : T → Type 0) → ((x : T) → Good x → Bad x → ⊥) → (o : Option T) → IfSome o Good
    → IsSomeAnd o Bad → ⊥
not_both Good Bad apart None good bad = bad
not_both Good Bad apart (Some x) good bad = apart x good bad

-- A deed without faults has none of them.
pub IsFaultless-HasFault : (fault : BodyFault) (deed : Deed) → IsFaultless deed → ¬ HasFault fault deed
IsFaultless-HasFault BadChange deed h f = omega (arith, h.change, f)
IsFaultless-HasFault BadSet deed h f = not_zero (set_of deed) h.set f
IsFaultless-HasFault BadLabel deed h f =
    not_both IsLabel (λ text. ¬ IsLabel text) (λ text good bad. bad good) (label_of deed) h.label f
IsFaultless-HasFault BadVoter deed h f =
    not_both IsVoter (λ text. ¬ IsVoter text) (λ text good bad. bad good) (voter_of deed) h.voter f
IsFaultless-HasFault LongMessage deed h f = not_both (λ text. length text ≤ 65536) (λ text. 65536 < length text)
    (λ text good bad. omega arith) (message_of deed) h.message f
IsFaultless-HasFault BadParent deed h f = not_zero (parent_of deed) h.parent f
