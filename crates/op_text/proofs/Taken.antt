-- What is taken out of an object's entries.
use Rattle.std.proofs.Common.{◌≡◌, ℕ, List, Option, Some, None, IsSome, option_map, refl, sym, ap, ◌∙◌, subst, String}
use Rattle.std.proofs.Common.{Global, string_bytes}
use Rattle.std.proofs.lemmas.Bool.{false≢true}
use Rattle.std.specs.Prelude.{option_and_then}
use Rattle.serde_json.specs.Data.{Data}
use Rattle.serde_json.specs.Find.{as_str}
use Rattle.serde_json.specs.View.{view}
use Rattle.serde_json.specs.declared.value.Value.{Value}

-- the text of what was found, under another name
pub IsSome-taken : (taken : Option Value) (found : Option Data) → option_map view taken ≡ found
    → IsSome (option_and_then as_str found) → IsSome taken
IsSome-taken None found e h = absurd (false≢true (subst (λ f. IsSome (option_and_then as_str f)) (sym e) h))
IsSome-taken (Some v) found e h = refl

pub text-taken : (taken : Option Value) (found : Option Data) (v : Value) → option_map view taken ≡ found
    → taken ≡ Some v → option_and_then as_str found ≡ as_str (view v)
text-taken taken found v e is = ap (option_and_then as_str) (sym e ∙ ap (option_map view) is)

pub IsSome-text : (text : Option (String Global)) (o : Option (List ℕ)) → option_map string_bytes text ≡ o → IsSome o
    → IsSome text
IsSome-text None o e h = absurd (false≢true (subst IsSome (sym e) h))
IsSome-text (Some t) o e h = refl
