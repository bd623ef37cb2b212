-- What is sent and counted when a connection is dialed.
use Rattle.std.proofs.Common.{◌≢◌, inr, ℕ, [], List, Option, Result, Ok, Err, refl}
use Rattle.std.specs.Io.KnownBytes.{Appends}
use Rattle.sealed_line.specs.declared.greeting.Greeting.{Greeting}
use Rattle.sealed_link.specs.Begins.{CountsReadFault, Dials, GreetsByKey, IsUnsentGreeting}
use Rattle.sealed_link.specs.declared.fault.DialFault.{DialFault}
use Rattle.sealed_link.specs.declared.fault.DialFault.TheVariants.{BadAnswer, NoKey, NoMemory, NotProved, ReadFault, WriteFault}
use Rattle.std.proofs.Common.{length, arith}
use Rattle.std.proofs.lemmas.List.{take_all}

pub greets_all : {T : Type 0} (line : List ℕ) (old new : Option (List ℕ)) (r : Result T DialFault) → Appends old new line → (r ≢ Err WriteFault)
    → GreetsByKey line old new r
greets_all line old new (Ok x) took other = took
greets_all line old new (Err WriteFault) took other = absurd (other refl)
greets_all line old new (Err NoMemory) took other = (length line, rw (take_all (length line) line (omega arith)) took)
greets_all line old new (Err BadAnswer) took other = took
greets_all line old new (Err NoKey) took other = took
greets_all line old new (Err NotProved) took other = took
greets_all line old new (Err ReadFault) took other = took

pub ungreeted : (secret : List ℕ) (greeting : Greeting) (left : Option (List ℕ)) (fault : DialFault) → IsUnsentGreeting fault
    → Dials secret greeting [] left (Err fault)
ungreeted secret greeting left WriteFault is = inr refl
ungreeted secret greeting left NoMemory is = inr tt
ungreeted secret greeting left BadAnswer is = absurd is
ungreeted secret greeting left NoKey is = absurd is
ungreeted secret greeting left NotProved is = absurd is
ungreeted secret greeting left ReadFault is = absurd is

pub ungreeted_reads : (n : ℕ) (fault : DialFault) → IsUnsentGreeting fault → CountsReadFault n n fault
ungreeted_reads n WriteFault is = refl
ungreeted_reads n NoMemory is = refl
ungreeted_reads n BadAnswer is = absurd is
ungreeted_reads n NoKey is = absurd is
ungreeted_reads n NotProved is = absurd is
ungreeted_reads n ReadFault is = absurd is
