-- What words are read as, by what clap matched or by its fault.
use Rattle.std.proofs.Common.{◌≡◌, ◌⊎◌, ◌∙◌, sym, subst, inl, inr, List}
use Rattle.clap.specs.Words.{IsAmong, fault_of}
use Rattle.clap.specs.declared.error.kind.ErrorKind.{ErrorKind}
use Rattle.clap.specs.declared.error.kind.ErrorKind.TheVariants.{DisplayHelp, DisplayVersion, OutOfMemory}
use Rattle.command_tree.specs.declared.parsing.Parsed.{Parsed}
use Rattle.command_tree.specs.declared.parsing.Parsed.TheVariants.{Command, Help, NoMemory, Usage, Version}
use Rattle.command_tree.specs.Commands.{program}
use Rattle.command_tree.specs.Matching.{AskForHelp, AskForVersion, AreFaultlessWords, Matched, Text, matched_of}
use Rattle.command_tree.specs.Parsing.{IsReadAs, IsRefused, Parses}

pub parses_matched : (words : List Text) (matched : Matched) (parsed : Parsed) → AreFaultlessWords words
    → matched ≡ matched_of words → IsReadAs matched parsed → Parses words parsed
parses_matched words matched (Command name values) faultless same reads = (faultless, sym same ∙ reads)
parses_matched words matched (Help text) faultless same reads = absurd reads
parses_matched words matched (Version text) faultless same reads = absurd reads
parses_matched words matched (Usage text) faultless same reads = inr (faultless, sym same ∙ reads)
parses_matched words matched NoMemory faultless same reads = reads

-- the kind of a fault is among those that clap finds, or it is want of memory
abbrev HasFault : ErrorKind → List Text → Type 0
HasFault kind words = (kind ≡ OutOfMemory) ⊎ IsAmong kind (fault_of program words)

parses_help : (words : List Text) (kind : ErrorKind) → HasFault kind words → kind ≡ DisplayHelp → AskForHelp words
parses_help words kind (inl memory) is = let bad : OutOfMemory ≡ DisplayHelp = sym memory ∙ is in cc
parses_help words kind (inr among) is = subst (λ k. IsAmong k (fault_of program words)) is among

parses_version : (words : List Text) (kind : ErrorKind) → HasFault kind words → kind ≡ DisplayVersion
    → AskForVersion words
parses_version words kind (inl memory) is = let bad : OutOfMemory ≡ DisplayVersion = sym memory ∙ is in cc
parses_version words kind (inr among) is = subst (λ k. IsAmong k (fault_of program words)) is among

parses_usage : (words : List Text) (text : _) (kind : ErrorKind) → HasFault kind words → IsRefused kind (Usage text)
    → Parses words (Usage text)
parses_usage words text kind (inl memory) is = absurd (is.0 memory)
parses_usage words text kind (inr among) is = inl (kind, among, is.1, is.2)

pub parses_refused : (words : List Text) (kind : ErrorKind) (parsed : Parsed)
    → (kind ≡ OutOfMemory) ⊎ IsAmong kind (fault_of program words) → IsRefused kind parsed → Parses words parsed
parses_refused words kind (Command name values) has refused = absurd refused
parses_refused words kind (Help text) has refused = parses_help words kind has refused
parses_refused words kind (Version text) has refused = parses_version words kind has refused
parses_refused words kind (Usage text) has refused = parses_usage words text kind has refused
parses_refused words kind NoMemory has refused = refused
