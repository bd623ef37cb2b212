-- Changes that an answer listed are marked one after the other.
use Rattle.std.proofs.Common.{◌≡◌, ◌∙◌, ℕ, Bool, true, false, List, ◌∷◌, if◌then◌else◌, refl, sym, ap}
use Rattle.std.specs.Prelude.{◌==◌, ◌||◌}
use Rattle.std.specs.List.{list_any}
use Rattle.std.specs.Ordering.{nat_cmp}
use Rattle.std.specs.BTreeMap.{is_at}
use Rattle.std.specs.Cmp.{unsigned_tied}
use Rattle.query_plan.specs.Marks.{as_listed, unmarked}
use Rattle.query_plan.specs.declared.marks.Marks.{Marks}

or_again : (p q : Bool) → ((p || q) || q) ≡ (p || q)
or_again true q = refl
or_again false true = refl
or_again false false = refl

-- what is listed twice is marked as what is listed once
again : (all : Bool) (marks : Marks) → as_listed all (as_listed all marks) ≡ as_listed all marks
again all marks = ap (λ (known : Bool). record unmarked { is_known = known }) (or_again marks.is_known all)

by_cases : (all here there : Bool) (before target : Marks)
    → (if here || there then as_listed all before else before) ≡ target
    → (if there then as_listed all (if here then as_listed all before else before)
    else (if here then as_listed all before else before)) ≡ target
by_cases all true true before target is = again all before ∙ is
by_cases all true false before target is = is
by_cases all false true before target is = is
by_cases all false false before target is = is

-- the first of those that are left is marked: once the others are, all are
pub one_is_listed : (all : Bool) (change q : ℕ) (rest left : List ℕ) (before after target : Marks) → left ≡ change ∷ rest
    → (if list_any (is_at (nat_cmp q)) left then as_listed all before else before) ≡ target
    → after ≡ (if q == change then as_listed all before else before)
    → (if list_any (is_at (nat_cmp q)) rest then as_listed all after else after) ≡ target
one_is_listed all change q rest left before after target is will now =
    let there = list_any (is_at (nat_cmp q)) rest in
    let first = ap (λ (l : List ℕ). if list_any (is_at (nat_cmp q)) l then as_listed all before else before) (sym is) ∙ will in
    let tied = ap (λ (b : Bool). if b || there then as_listed all before else before) (sym (unsigned_tied q change)) ∙ first in
    ap (λ (m : Marks). if there then as_listed all m else m) now
    ∙ by_cases all (q == change) there before target tied
