-- What the getters of clap's matches give, over the rows that they show.
use Rattle.std.proofs.Common.{◌≡◌, ◌∙◌, sym, List, ℕ, map, Option, Bor, option_map}
use Rattle.clap.specs.Words.{Text, all_of, first_of, first_value, matched_of, raw_values, rows_of}
use Rattle.clap.specs.declared.parser.matches.Found.{Found}
use Rattle.clap.proofs.WalkLemmas.{first_value-rows, raw_values-rows}

pub text_shown : (found : Found) (id : Text) (value : Option (Bor (List ℕ)))
    → option_map (λ s. s.now) value ≡ first_value found id → first_of id (rows_of found) ≡ option_map (λ s. s.now) value
text_shown found id value gave = sym (first_value-rows found id) ∙ sym gave

pub texts_shown : (found : Found) (id : Text) (value : Option (Bor (List (Bor (List ℕ)))))
    → option_map (λ s. map (λ v. v.now) s.now) value ≡ option_map raw_values (matched_of found id)
    → all_of id (rows_of found) ≡ option_map (λ s. map (λ v. v.now) s.now) value
texts_shown found id value gave = sym (raw_values-rows found id) ∙ sym gave
