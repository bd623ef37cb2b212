-- The problem that says that something isn't there (RFC 9457, section 3.1, and section 4.2.1 "about:blank").
use Rattle.std.specs.Prelude.{List, [], ◌∷◌, ◌++◌, codes}
use Rattle.json.specs.Token.{Token, begin_object, end_object}
use Rattle.json_line.specs.Tokens.{numbered_tokens, worded}

abbrev pub problem_tokens : List Token
problem_tokens =
    begin_object ∷ [] ++ worded (codes "type") (codes "about:blank") ++ worded (codes "title") (codes "Not Found")
    ++ numbered_tokens (codes "status") 404 ++ end_object ∷ []
