-- Lines written one after another.
use Rattle.std.proofs.Common.{◌≡◌, ℕ, List, [], ◌∷◌, ◌++◌, false, length, flat_map, Result, sym, ap, ◌∙◌, append_assoc}
use Rattle.std.proofs.Common.{append-nil, arith}
use Rattle.std.specs.Prelude.{OnOk}
use Rattle.std.proofs.lemmas.Result.{on_ok_weaker}
use Rattle.std.proofs.lemmas.List.{nil_from_length, length-append}
use Rattle.std.proofs.lemmas.List.Concat.{flat_map-append}
use Rattle.json.proofs.Printed.Tokens.{print_from_push, print_from-append}
use Rattle.json.specs.Token.{string}
use Rattle.json.specs.Print.{print, quoted}
use Rattle.report_text.specs.StateText.{joined}

-- ---- a text alone
print_nothing : print [] ≡ []
print_nothing = nil_from_length (print [])
    (omega (arith, ap length (print_from-append false [] []), length-append (print []) (print [])))

pub quoted_alone : (text : List ℕ) → print (string text ∷ []) ≡ quoted text
quoted_alone text = print_from_push false [] (string text) ∙ ap (λ l. l ++ quoted text) print_nothing

module _ {T : Type 0} (line : T → List ℕ) (whole : List ℕ) where
  -- one line more is written, and the later ones are left
  pub lines_more : (old new : List ℕ) (x : T) (rest later : List T) → rest ≡ x ∷ later → new ≡ old ++ line x
      → old ++ flat_map line rest ≡ whole → new ++ flat_map line later ≡ whole
  lines_more old new x rest later first new_is so_far =
      ap (λ t. t ++ flat_map line later) new_is ∙ append_assoc old (line x) (flat_map line later)
      ∙ ap (λ l. old ++ flat_map line l) (sym first) ∙ so_far

  pub lines_done : (text : List ℕ) (rest : List T) → rest ≡ [] → text ++ flat_map line rest ≡ whole → text ≡ whole
  lines_done text rest none so_far = sym (append-nil text) ∙ ap (λ l. text ++ flat_map line l) (sym none) ∙ so_far

-- one part more is written
pub part_more : (start : List ℕ) (done : List (List ℕ)) (old new part : List ℕ) → old ≡ start ++ joined done
    → new ≡ old ++ part → new ≡ start ++ joined (done ++ part ∷ [])
part_more start done old new part old_is new_is =
    new_is ∙ ap (λ t. t ++ part) old_is ∙ append_assoc start (joined done) part
    ∙ ap (λ t. start ++ t)
    (ap (λ p. joined done ++ p) (sym (append-nil part)) ∙ sym (flat_map-append (λ part. part) done (part ∷ [])))

pub last_part : {E : Type 0} (result : Result (Unit {0}) E) (start : List ℕ) (done : List (List ℕ))
    (old new part : List ℕ) → old ≡ start ++ joined done → OnOk result (new ≡ old ++ part) → OnOk result
    (new ≡ start ++ joined (done ++ part ∷ []))
last_part result start done old new part old_is = on_ok_weaker result (part_more start done old new part old_is)
