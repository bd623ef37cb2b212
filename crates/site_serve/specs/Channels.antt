-- The channel of a connection, plain or sealed: which bytes become lines of its session, and what is sent of the
-- answers.
use Rattle.std.specs.Prelude.{◌≡◌, ◌⊎◌, ℕ, List, [], ◌∷◌, ◌++◌, None, Some, Result, Ok, Err, drop}
use Rattle.gossip_line.specs.declared.fault.LineFault.TheVariants.{NoMemory}
use Rattle.line_reader.specs.Lines.{HasNoLf}
use Rattle.sealed_link.specs.Lines.{IsHeldUp, OpensCame, SealsFront, SendsSealed}
use Rattle.sealed_link.specs.Wires.{Wiring}
use Rattle.sealed_link.specs.declared.fault.WireFault.{WireFault}
use Rattle.sealed_link.specs.declared.fault.WireFault.TheVariants as wire
use Rattle.site_serve.specs.declared.channel.ChannelMode.{ChannelMode}
use Rattle.site_serve.specs.declared.channel.ChannelMode.TheVariants.{Locked, Plain, Sealed, Shut}
use Rattle.site_serve.specs.declared.session_fault.SessionFault.{SessionFault}
use Rattle.site_serve.specs.declared.session_fault.SessionFault.TheVariants.{BadSeal, Line}

-- the fault of a session whose lines can't be sealed or opened
abbrev pub seal_fault : WireFault → SessionFault
seal_fault wire.NoMemory = Line NoMemory
seal_fault fault = BadSeal

abbrev pub seal_result : Result (Unit {0}) WireFault → Result (Unit {0}) SessionFault
seal_result (Ok done) = Ok done
seal_result (Err fault) = Err (seal_fault fault)

-- what came comes to what was read of the session: as it is, or the texts of the lines that are sealed in it, up to one
-- that isn't; nothing before the connection was admitted, after a line that isn't sealed, or once it is shut
abbrev pub TakesCame : ChannelMode → List ℕ → List ℕ → List ℕ → Result (Unit {0}) SessionFault → ChannelMode → Type 0
TakesCame Plain came old new (Ok done) after = (new ≡ old ++ came) × (after ≡ Plain)
TakesCame Plain came old new (Err fault) after = (new ≡ old) × (after ≡ Plain)
TakesCame Locked came old new result after = (new ≡ old) × (after ≡ Locked)
TakesCame (Sealed w) came old new result after =
    (opened : Wiring) × (after ≡ Sealed opened)
    × (w.fault ≡ None → (text : List ℕ) × (new ≡ old ++ text)
    × ((by : Result (Unit {0}) WireFault) × OpensCame w came text by opened × (result ≡ seal_result by)))
    × ((fault : WireFault) → w.fault ≡ Some fault
    → (new ≡ old) × (opened ≡ w) × (result ≡ Err (seal_fault fault)))
TakesCame Shut came old new result after = (new ≡ old) × (after ≡ Shut)

-- nothing came, or some bytes came and were taken
abbrev pub ReadsOn : ChannelMode → List ℕ → ChannelMode → List ℕ → Type 0
ReadsOn mode old after new =
    ((new ≡ old) × (after ≡ mode))
    ⊎ ((came : List ℕ) × (result : Result (Unit {0}) SessionFault) × TakesCame mode came old new result after)

-- what is sent next where the session was answered this: what is sent as it is, before all else; then the answers, or
-- the lines that they were sealed to
abbrev pub sends_of : ChannelMode → List ℕ → List ℕ
sends_of Plain answers = answers
sends_of (Sealed w) answers = w.waiting
sends_of Locked answers = []
sends_of Shut answers = []

abbrev pub outgoing_of : List ℕ → ChannelMode → List ℕ → List ℕ
outgoing_of [] mode answers = sends_of mode answers
outgoing_of (byte ∷ first) mode answers = byte ∷ first

-- this many of the bytes to send next were sent
abbrev pub PassesSent : ℕ → ChannelMode → List ℕ → ChannelMode → List ℕ → Type 0
PassesSent count Plain answers after left = (left ≡ drop count answers) × (after ≡ Plain)
PassesSent count (Sealed w) answers after left =
    (left ≡ answers) × (after ≡ Sealed (record w { waiting = drop count w.waiting }))
PassesSent count mode answers after left = (left ≡ answers) × (after ≡ mode)

abbrev pub IsSent : ℕ → List ℕ → ChannelMode → List ℕ → List ℕ → ChannelMode → List ℕ → Type 0
IsSent count [] mode answers first after left = (first ≡ []) × PassesSent count mode answers after left
IsSent count (byte ∷ begun) mode answers first after left =
    (first ≡ drop count (byte ∷ begun)) × (after ≡ mode) × (left ≡ answers)

-- where all that was sealed is sent, whole lines at the front of the answers are sealed, and aren't to be sealed again:
-- some, unless there is none. They open to these answers on the other side. Or the first isn't sealed, and the session
-- fails by that. Nothing else changes
abbrev pub SealsMore : List ℕ → ChannelMode → List ℕ → ChannelMode → List ℕ → Result (Unit {0}) SessionFault → Type 0
SealsMore [] (Sealed w) answers after left (Ok done) =
    (count : ℕ) × (sealed : Wiring) × (after ≡ Sealed sealed) × SealsFront w answers count sealed
    × SendsSealed w answers count sealed × (left ≡ drop count answers) × (count ≡ 0 → HasNoLf answers)
SealsMore [] (Sealed w) answers after left (Err fault) =
    (by : WireFault) × (fault ≡ seal_fault by) × IsHeldUp w.outward answers by × (after ≡ Sealed w) × (left ≡ answers)
SealsMore waiting mode answers after left result = (result ≡ Ok tt) × (after ≡ mode) × (left ≡ answers)
