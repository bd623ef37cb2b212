-- The steps of windows and of the desk keep the rule of what is shown.
use Rattle.std.proofs.Common.{◌≡◌, ◌≢◌, ℕ, List, Option, Some, None, set, refl, subst, ⊎_elim}
use mathlib.Core.Option.{some}
use lib.ListN.{get_elem?}
use Rattle.left_right.specs.Register.{Admits, TurnsAt, Forks, Merges}
use Rattle.atomic_table.proofs.Lists.{at_set, at_snoc}
use Rattle.site_shared.specs.declared.shown.Shown.{Shown}
use Rattle.site_shared.specs.Showing.{Seeing, Goes, Begins, Keeps, Sees}
use Rattle.site_shared.proofs.Prefixes.{prefix_self, prefix_trans}

pub goes_self : (s : Seeing) → Goes s s
goes_self s = (refl, prefix_self s.log)

goes_on : (a b c : Seeing) → Goes a b → Goes b c → Goes a c
goes_on a b c p q = (subst (λ k. c.book ≡ k) p.0 q.0, prefix_trans a.log b.log c.log p.1 q.1)

begins_on : (known : Option Seeing) (x y : Shown) → Goes x.sight.seen y.sight.seen → Begins known x → Begins known y
begins_on None x y g b = b
begins_on (Some s) x y g b = goes_on s x.sight.seen y.sight.seen b g

-- a window that knows nothing may come at any time
pub admits : Admits Keeps None
admits x places keeps place known at =
    ⊎_elim (keeps place known) (λ (e : None ≡ known). subst (λ k. Begins k x) e tt) (at_snoc places None known place at)

-- a step that goes on from what is shown keeps the rule, and is seen
pub turns : (place : ℕ) (known : Option Seeing) (x y : Shown) → Goes x.sight.seen y.sight.seen
    → TurnsAt Keeps place known x y Sees
turns place known x y goes places keeps at = (
  Some y.sight.seen,
  (λ j k e. ⊎_elim (λ (t : (j ≡ place) × (Some y.sight.seen ≡ k)). subst (λ q. Begins q y) t.1 (goes_self y.sight.seen))
      (λ (t : (j ≢ place) × (get_elem? places j ≡ some k)). begins_on k x y goes (keeps j k t.1))
      (at_set places place j (Some y.sight.seen) k e)),
  (refl, begins_on known x y goes (keeps place known at)),
)

keeps_set : (x : Shown) (places : List (Option Seeing)) (place : ℕ) (known : Option Seeing) → Keeps x places
    → Begins known x → Keeps x (set places place known)
keeps_set x places place known keeps begins j k e =
    ⊎_elim (λ (t : (j ≡ place) × (known ≡ k)). subst (λ q. Begins q x) t.1 begins)
    (λ (t : (j ≢ place) × (get_elem? places j ≡ some k)). keeps j k t.1) (at_set places place j known k e)

pub forks : (place : ℕ) (known : Option Seeing) → Forks Keeps place known known known
forks place known x places keeps at j k e =
    ⊎_elim (keeps_set x places place known keeps (keeps place known at) j k)
    (λ (same : known ≡ k). subst (λ q. Begins q x) same (keeps place known at))
    (at_snoc (set places place known) known k j e)

pub merges : (place : ℕ) (known : Option Seeing) (other : ℕ) (told : Option Seeing)
    → Merges Keeps place known other told told None
merges place known other told x places keeps at apart there =
    let b : Begins told x = ⊎_elim (λ (t : (other ≡ place) × (told ≡ told)). absurd (apart t.0)) (λ (t : (other ≢ place) × (get_elem? places other ≡ some told)). keeps other told t.1) (at_set places place other told told there) in
    keeps_set x (set places place told) other None (keeps_set x places place told keeps b) tt
