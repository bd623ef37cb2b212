-- The words of a fault of keys in its line.
use Rattle.std.specs.Prelude.{ℕ, List, ◌++◌, codes, decimal}
use Rattle.key_file.specs.Files.{name_of}
use Rattle.key_file.specs.declared.fault.KeyFault.{KeyFault}
use Rattle.key_file.specs.declared.fault.KeyFault.TheVariants.{BadLine}

-- the fault's name, and what it is about; with the number of a bad line between them
abbrev pub words_of : KeyFault → List ℕ → List ℕ
words_of (BadLine n) about = name_of (BadLine n) ++ codes " " ++ decimal n ++ codes " " ++ about
words_of fault about = name_of fault ++ codes " " ++ about
