-- Lines of metrics (Prometheus, "Exposition formats", text-based format, version 0.0.4).
use Rattle.std.specs.Prelude.{ℕ, List, [], ◌∷◌, ◌++◌, ◌/◌, ◌%◌, codes, decimal}
use Rattle.report_text.specs.StateText.{joined}
use Rattle.page_text.specs.Labels.{label_value}

-- what the metric means, and its type
abbrev pub family : List ℕ → List ℕ → List ℕ → List ℕ
family name kind help =
    joined (codes "# HELP " ∷ name ∷ codes " " ∷ help ∷ codes "\n# TYPE " ∷ name ∷ codes " " ∷ kind ∷ codes "\n" ∷ [])

abbrev pub sample : List ℕ → ℕ → List ℕ
sample name value = joined (name ∷ codes " " ∷ decimal value ∷ codes "\n" ∷ [])

abbrev pub labelled : List ℕ → List ℕ → List ℕ → ℕ → List ℕ
labelled name label is value =
    joined (name ∷ codes "{" ∷ label ∷ codes "=\"" ∷ is ∷ codes "\"} " ∷ decimal value ∷ codes "\n" ∷ [])

abbrev pub gauge : List ℕ → List ℕ → ℕ → List ℕ
gauge name help value = family name (codes "gauge") help ++ sample name value

abbrev pub counter : List ℕ → List ℕ → ℕ → List ℕ
counter name help value = family name (codes "counter") help ++ sample name value

-- the last three digits of a number, and then these parts
abbrev pub three_digits : ℕ → List (List ℕ) → List (List ℕ)
three_digits number parts =
    decimal (number / 100 % 10) ∷ decimal (number / 10 % 10) ∷ decimal (number % 10) ∷ parts

-- milliseconds and microseconds, as seconds
abbrev pub milli_sample : List ℕ → ℕ → List ℕ
milli_sample name value =
    joined (name ∷ codes " " ∷ decimal (value / 1000) ∷ codes "." ∷ three_digits value (codes "\n" ∷ []))

abbrev pub micro_sample : List ℕ → ℕ → List ℕ
micro_sample name value =
    joined (name ∷ codes " " ∷ decimal (value / 1000000) ∷ codes "."
    ∷ three_digits (value / 1000) (three_digits value (codes "\n" ∷ [])))

-- of a peer
abbrev pub peer_sample : List ℕ → List ℕ → ℕ → List ℕ
peer_sample name peer value =
    joined (name ∷ codes "{peer=\"" ∷ label_value peer ∷ codes "\"} " ∷ decimal value ∷ codes "\n" ∷ [])

abbrev pub peer_milli_sample : List ℕ → List ℕ → ℕ → List ℕ
peer_milli_sample name peer value =
    joined (name ∷ codes "{peer=\"" ∷ label_value peer ∷ codes "\"} " ∷ decimal (value / 1000) ∷ codes "."
    ∷ three_digits value (codes "\n" ∷ []))
