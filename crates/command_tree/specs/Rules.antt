-- How the kinds of arguments are read, as clap's builders make them (docs.rs/clap).
use Rattle.std.specs.Prelude.{◌≡◌, ℕ, true, false, List, [], ◌∷◌, Some}
use Rattle.clap.specs.Words.{Rule, new_rule, rule_of}
use Rattle.clap.specs.declared.builder.action.ArgAction.TheVariants.{Append, SetTrue}
use Rattle.clap.specs.declared.builder.arg.Arg.{Arg}
use Rattle.clap.specs.declared.builder.value_parser.ValueParser.TheVariants.{Unsigned}

-- an argument without a dash that has to be there
abbrev pub needed : List ℕ → Rule
needed name = record (new_rule name) { required = true }

-- `--NAME VALUE`
abbrev pub option_rule : List ℕ → Rule
option_rule name = record (new_rule name) { long = Some name; value_names = 1 }

-- the same, with the value that it has where the option is left out
abbrev pub option_with : List ℕ → List ℕ → Rule
option_with name default = record (option_rule name) { defaults = default ∷ [] }

-- `--NAME VALUE`, as often as there are values
abbrev pub several_rule : List ℕ → Rule
several_rule name = record (option_rule name) { action = Some Append }

-- `--NAME`
abbrev pub flag_rule : List ℕ → Rule
flag_rule name = record (new_rule name) { long = Some name; action = Some SetTrue }

-- `--NAME NUMBER`, from the least to the greatest
abbrev pub number_rule : List ℕ → ℕ → ℕ → Rule
number_rule name least most = record (option_rule name) { parser = Some (Unsigned least most) }

-- the same, which has to be there
abbrev pub needed_number : List ℕ → ℕ → ℕ → Rule
needed_number name least most = record (number_rule name least most) { required = true }

-- the same, with the number that it is where the option is left out
abbrev pub number_with : List ℕ → List ℕ → ℕ → ℕ → Rule
number_with name default least most = record (number_rule name least most) { defaults = default ∷ [] }

-- `--NAME NUMBER`, as often as there are numbers, each from the least to the greatest
abbrev pub several_numbers : List ℕ → ℕ → ℕ → Rule
several_numbers name least most = record (number_rule name least most) { action = Some Append }

-- as many words without a dash as there are
abbrev pub words_rule : List ℕ → Rule
words_rule name = record (new_rule name) { action = Some Append }

-- an argument that clap reads by this rule, at its own command alone
abbrev pub IsRule : Rule → Arg → Type 0
IsRule rule arg = (rule_of arg ≡ rule) × (arg.global ≡ false)
