-- A change is joined part by part: one that wasn't reached is the old one, and one that was joined in full is the join.
use Rattle.std.proofs.Common.{◌≡◌, ◌||◌, Option, Result, Ok, Err, OnErr, sym, ap₂, ◌∙◌, subst}
use Rattle.std.specs.Ordering.{nat_cmp, ord_max}
use Rattle.std.specs.Option.{option_map}
use Rattle.lattice_core.specs.Join.{IsBetween, IsJoin, option_joined, IsBetween-low, IsBetween-high, Covers-left}
use Rattle.lattice_core.specs.JoinMap.{map_joined}
use Rattle.review_ops.specs.Timestamp.{Timestamp}
use Rattle.change_core.specs.Slots.{slot_cmp}
use Rattle.change_core.specs.Change.{Change, change_joined, life_order, patch_order, vote_order}
use Rattle.change_core.specs.declared.life.Life.{Life}
use Rattle.change_core.proofs.Taking.{same_pair}

pub err_always : {T E P : Type 0} (r : Result T E) → P → OnErr r P
err_always (Ok x) p = tt
err_always (Err e) p = p

pub lives_are : (new old other : Option (Timestamp × Life)) → option_map (λ r. (r.0, r.1)) new ≡ option_joined
    (ord_max life_order) (option_map (λ r. (r.0, r.1)) old) (option_map (λ r. (r.0, r.1)) other) → new ≡ option_joined
    (ord_max life_order) old other
lives_are new old other e =
    sym (same_pair new) ∙ e ∙ ap₂ (option_joined (ord_max life_order)) (same_pair old) (same_pair other)

pub parts_joined : (new old other view their : Change) → view ≡ old → their ≡ other
    → new.merged ≡ (view.merged || their.merged) → new.life ≡ option_joined (ord_max life_order) view.life their.life
    → new.sets ≡ map_joined (ord_max patch_order) view.sets their.sets
    → new.votes ≡ map_joined (ord_max vote_order) view.votes their.votes
    → new ≡ change_joined old other
parts_joined new old other view their is_old is_other merged life sets votes =
    let parts : new ≡ change_joined view their = λ i. record {
      merged = merged i;
      life = life i;
      sets = sets i;
      votes = votes i;
    } in
    parts ∙ ap₂ change_joined is_old is_other

pub parts_between : (new old other view their : Change) → view ≡ old → their ≡ other
    → IsBetween ◌||◌ view.merged new.merged (view.merged || their.merged)
    → IsBetween (option_joined (ord_max life_order)) view.life new.life
    (option_joined (ord_max life_order) view.life their.life)
    → IsBetween (map_joined {order = nat_cmp} (ord_max patch_order)) view.sets new.sets
    (map_joined (ord_max patch_order) view.sets their.sets)
    → IsBetween (map_joined {order = slot_cmp} (ord_max vote_order)) view.votes new.votes
    (map_joined (ord_max vote_order) view.votes their.votes)
    → IsBetween change_joined old new (change_joined old other)
parts_between new old other view their is_old is_other merged life sets votes =
    let between : IsBetween change_joined view new (change_joined view their) = record {
      covers_low = λ i. record {
        merged = merged.covers_low i;
        life = life.covers_low i;
        sets = sets.covers_low i;
        votes = votes.covers_low i;
      };
      is_covered = λ i. record {
        merged = merged.is_covered i;
        life = life.is_covered i;
        sets = sets.is_covered i;
        votes = votes.is_covered i;
      };
    } in
    subst (λ o. IsBetween change_joined old new (change_joined old o)) is_other
    (subst (λ v. IsBetween change_joined v new (change_joined v their)) is_old between)

-- a part that was joined in full, and one that wasn't reached
module _ {S : Type 0} {joined : S → S → S} (laws : IsJoin joined) (old other : S) where
  pub joined_between : (new : S) → new ≡ joined old other → IsBetween joined old new (joined old other)
  joined_between new e = subst (λ s. IsBetween joined old s (joined old other)) (sym e)
      (IsBetween-high laws old (joined old other) (Covers-left laws old other))

  pub untouched_between : IsBetween joined old old (joined old other)
  untouched_between = IsBetween-low laws old (joined old other) (Covers-left laws old other)

-- a copy of each part is a copy of the change
abbrev life_pair : Timestamp × Life → Timestamp × Life
life_pair r = (r.0, r.1)

pub lives_same : (new old : Option (Timestamp × Life)) → option_map life_pair new ≡ option_map life_pair old
    → new ≡ old
lives_same new old e = sym (same_pair new) ∙ e ∙ same_pair old

pub parts_copied : (new old view : Change) → view ≡ old → new.merged ≡ view.merged → new.life ≡ view.life
    → new.sets ≡ view.sets → new.votes ≡ view.votes → new ≡ old
parts_copied new old view is_old merged life sets votes =
    let parts : new ≡ view = λ i. record {
      merged = merged i;
      life = life i;
      sets = sets i;
      votes = votes i;
    } in
    parts ∙ is_old
