-- A command keeps to the three ends of its console.
use Rattle.std.proofs.Common.{◌≡◌, ◌∙◌, ap, inl, inr, true, false, ℕ, List, [], ◌∷◌, Some, Ok, Err, refl}
use Rattle.std.specs.Prelude.{if◌then◌else◌}
use Rattle.byte_ends.specs.declared.faults.BytesFault.{BytesFault}
use Rattle.byte_ends.specs.declared.faults.BytesFault.TheVariants.{TooLong, ReadFault, NoMemory}
use Rattle.command_line.specs.declared.asked.Command.{Command}
use Rattle.console.specs.Printing.{Ended}
use Rattle.console.specs.Console.{ConsoleState, IsUnread, is_input, once_failed, once_read, one_more}
use Rattle.commands.specs.Ending.{Ends, Finishes, IsAnswer, inputs_of}
use Rattle.console.specs.Inputs.{AreHad, Input, IsFirstRefused, IsRefusedAs, IsTextOf, Kind, gate_file, limit_of}
use Rattle.console.specs.Inputs.{message_file, pulled, script_file, snapshot_file}
use Rattle.console.specs.declared.refusals.Refusal.{Refusal}

kept-read : (name : List ℕ) (console : ConsoleState) → (once_read name console).ends ≡ console.ends
kept-read name console =
    elim (is_input name) as (λ b. (if b then record console { left = Some [] } else console).ends ≡ console.ends) [ true ↦ refl | false ↦ refl ]

kept-failed : (name : List ℕ) (console : ConsoleState) → (once_failed name console).ends ≡ console.ends
kept-failed name console =
    elim (is_input name) as (λ b. (if b
    then record console { left = Some []; input_failed = one_more console.input_failed }
    else record console
    { files_failed = one_more console.files_failed }).ends ≡ console.ends) [ true ↦ refl | false ↦ refl ]

kept : (old new mid : ConsoleState) → mid.ends ≡ old.ends → new ≡ mid → new.ends ≡ old.ends
kept old new mid same is = ap (λ (console : ConsoleState). console.ends) is ∙ same

kept-unread : (name : List ℕ) (limit : ℕ) (old new : ConsoleState) (fault : BytesFault)
    → IsUnread name limit old new fault → new.ends ≡ old.ends
kept-unread name limit old new TooLong unread = kept old new (once_read name old) (kept-read name old) unread.1
kept-unread name limit old new ReadFault unread = kept old new (once_failed name old) (kept-failed name old) unread
kept-unread name limit old new NoMemory unread = kept old new (once_read name old) (kept-read name old) unread

kept-text : (kind : Kind) (name : List ℕ) (old new : ConsoleState) (text : List ℕ)
    → IsTextOf kind name old new text → new.ends ≡ old.ends
kept-text gate_file name old new text read = kept old new (once_read name old) (kept-read name old) read.after
kept-text message_file name old new text read = kept old new (once_read name old) (kept-read name old) read.after
kept-text script_file name old new text read = kept old new (once_read name old) (kept-read name old) read.after
kept-text snapshot_file name old new text read = kept old new (once_read name old) (kept-read name old) read.after
kept-text pulled name old new text read = ap (λ (console : ConsoleState). console.ends) read.after

kept-one : (kind : Kind) (name : List ℕ) (old new : ConsoleState) (refusal : Refusal)
    → IsRefusedAs kind name old new refusal → new.ends ≡ old.ends
kept-one gate_file name old new refusal (inl unread) =
    kept-unread name (limit_of gate_file) old new unread.0 unread.2
kept-one gate_file name old new refusal (inr flawed) = kept-text gate_file name old new flawed.0 flawed.1
kept-one message_file name old new refusal (inl unread) =
    kept-unread name (limit_of message_file) old new unread.0 unread.2
kept-one message_file name old new refusal (inr flawed) = kept-text message_file name old new flawed.0 flawed.1
kept-one script_file name old new refusal (inl unread) =
    kept-unread name (limit_of script_file) old new unread.0 unread.2
kept-one script_file name old new refusal (inr flawed) = kept-text script_file name old new flawed.0 flawed.1
kept-one snapshot_file name old new refusal (inl unread) =
    kept-unread name (limit_of snapshot_file) old new unread.0 unread.2
kept-one snapshot_file name old new refusal (inr flawed) = kept-text snapshot_file name old new flawed.0 flawed.1
kept-one pulled name old new refusal refused = ap (λ (console : ConsoleState). console.ends) refused.1

kept-refused : (inputs : List Input) (old new : ConsoleState) (refusal : Refusal)
    → IsFirstRefused inputs old new refusal → new.ends ≡ old.ends
kept-refused [] old new refusal refused = absurd refused
kept-refused (one ∷ inputs) old new refusal (inl refused) = kept-one one.kind one.name old new refusal refused
kept-refused (one ∷ inputs) old new refusal (inr later) =
    kept-refused inputs later.0 new refusal later.2
    ∙ kept-text one.kind one.name old later.0 later.1.0 later.1.1

kept-had : (inputs : List Input) (old new : ConsoleState) (texts : List (List ℕ)) → AreHad inputs old texts new
    → new.ends ≡ old.ends
kept-had [] old new [] had = ap (λ (console : ConsoleState). console.ends) had
kept-had [] old new (text ∷ texts) had = absurd had
kept-had (one ∷ inputs) old new [] had = absurd had
kept-had (one ∷ inputs) old new (text ∷ texts) had =
    kept-had inputs had.0 new texts had.3 ∙ kept-text one.kind one.name old had.0 text had.1

kept-finished : (IsTheAnswer : List ℕ → Ended → Type 0) (old new : ConsoleState) (ended : Ended)
    → Finishes IsTheAnswer old new ended → new.ends ≡ old.ends
kept-finished IsTheAnswer old new ended (inl all) = ap (λ (console : ConsoleState). console.ends) all.2.after
kept-finished IsTheAnswer old new ended (inr cut) = ap (λ (console : ConsoleState). console.ends) cut.3.after

pub ends-kept : (command : Command) (old new : ConsoleState) (ended : Ended) → Ends command old new ended
    → new.ends ≡ old.ends
ends-kept command old new (Ok done) (inl refused) = absurd refused
ends-kept command old new (Err refusal) (inl refused) = kept-refused (inputs_of command) old new refusal refused
ends-kept command old new ended (inr finished) =
    kept-finished (IsAnswer command finished.0) finished.1 new ended finished.3
    ∙ kept-had (inputs_of command) old finished.1 finished.0 finished.2
