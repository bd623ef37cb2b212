-- Why a text is no base: of what a base has to be, the first that it isn't.
use Rattle.std.specs.Prelude.{◌≡◌, ◌≢◌, ◌<◌, ◌≤◌, ℕ, List, [], ◌∷◌, ◌++◌, codes, length}
use Rattle.std.specs.List.{All}
use Rattle.footer_text.specs.Bases.{IsGraphic}
use Rattle.footer_text.specs.declared.flaw.BaseFlaw.{BaseFlaw}
use Rattle.footer_text.specs.declared.flaw.BaseFlaw.TheVariants.{Empty, TooLong, BadByte, NoSlash}

abbrev pub HasFlaw : List ℕ → BaseFlaw → Type 0
HasFlaw text Empty = text ≡ []
HasFlaw text TooLong = 256 < length text
HasFlaw text BadByte = (length text ≤ 256) × ¬ All IsGraphic text
HasFlaw text NoSlash =
    (text ≢ []) × (length text ≤ 256) × All IsGraphic text × ((front : List ℕ) → text ≢ front ++ 47 ∷ [])

abbrev pub flaw_name : BaseFlaw → List ℕ
flaw_name Empty = codes "Empty"
flaw_name TooLong = codes "TooLong"
flaw_name BadByte = codes "BadByte"
flaw_name NoSlash = codes "NoSlash"
