-- Which hosts are own: a name of this machine, or one that was given.
use Rattle.std.proofs.Common.{◌≡◌, ◌∙◌, ℕ, Bool, true, false, ◌||◌, List, [], ◌∷◌, ◌++◌, map, refl, ap}
use Rattle.std.specs.List.{list_any}
use Rattle.std.specs.String.{string_bytes}
use Rattle.std.specs.declared.alloc.Global.{Global}
use Rattle.std.specs.Prelude.{String}
use Rattle.page_server.specs.Hosts.{is_own, names_host, own_names}

any_of_mapped : {A B : Type 0} (test : B → Bool) (f : A → B) (xs : List A)
    → list_any test (map f xs) ≡ list_any (λ x. test (f x)) xs
any_of_mapped test f [] = refl
any_of_mapped test f (x ∷ xs) = ap (λ (b : Bool). test (f x) || b) (any_of_mapped test f xs)

any_of_both : {A : Type 0} (test : A → Bool) (xs ys : List A)
    → list_any test (xs ++ ys) ≡ (list_any test xs || list_any test ys)
any_of_both test [] ys = refl
any_of_both test (x ∷ xs) ys = elim (test x) as (λ (b : Bool). (b || list_any test (xs ++ ys)) ≡ ((b || list_any test xs) || list_any test ys)) [
  | true ↦ refl
  | false ↦ any_of_both test xs ys
]

-- the value names this machine, or else one of the hosts that were given
pub own_or_given : (hosts : List (String Global)) (value : List ℕ)
    → is_own (map string_bytes hosts) value
    ≡ (list_any (λ host. names_host host value) own_names || list_any (λ host. names_host (string_bytes host) value) hosts)
unfolding is_own
own_or_given hosts value =
    any_of_both (λ host. names_host host value) own_names (map string_bytes hosts)
    ∙ ap (λ (b : Bool). list_any (λ host. names_host host value) own_names || b)
    (any_of_mapped (λ host. names_host host value) string_bytes hosts)
