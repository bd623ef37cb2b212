-- Which hosts are this machine: RFC 9110, section 7.2 (Host), and RFC 3986, section 3.2 (host, case, port).
use Rattle.std.specs.Prelude.{ℕ, Bool, ◌&&◌, ◌||◌, ◌==◌, List, [], ◌∷◌, ◌++◌, codes, drop, length, slice_index, take}
use Rattle.std.specs.Char.{is_ascii_digit}
use Rattle.std.specs.List.{list_all, list_any}
use Rattle.std.specs.Str.{str_eq_ignore_ascii_case}

-- nothing, or a colon and digits
abbrev pub is_port : List ℕ → Bool
is_port rest = (length rest == 0) || ((slice_index rest 0 == 58) && list_all is_ascii_digit (drop 1 rest))

-- the value is the host, in whatever case, with or without a port
abbrev pub names_host : List ℕ → List ℕ → Bool
names_host host value = str_eq_ignore_ascii_case (take (length host) value) host && is_port (drop (length host) value)

-- the names of this machine
abbrev pub own_names : List (List ℕ)
own_names = codes "localhost" ∷ codes "127.0.0.1" ∷ codes "[::1]" ∷ []

-- the value is a name of this machine, or one of these hosts
unfoldable pub is_own : List (List ℕ) → List ℕ → Bool
is_own hosts value = list_any (λ host. names_host host value) (own_names ++ hosts)
