-- What the words of a command line ask for: each command's arguments, with the limits of their numbers, and what they
-- say.
use Rattle.std.specs.Prelude.{◌≡◌, ◌⊎◌, ◌↔◌, ◌||◌, ◌∷◌, Bool, true, false, IsTrue, List, [], None, Some, codes, map, option_map}
use Rattle.std.specs.Prelude.{string_bytes, unwrap_or}
use Rattle.std.specs.List.{list_all, list_any}
use Rattle.std.specs.Str.{bytes_eq}
use Rattle.command_tree.specs.Matching.{AreFaulty, AskForHelp, AskForVersion, HasFlag, AreFaultlessWords, Matched, Row}
use Rattle.command_tree.specs.Matching.{Text, all_of, first_of, matched_of}
use Rattle.command_line.specs.declared.asked.Answer.{Answer}
use Rattle.command_line.specs.declared.asked.Answer.TheVariants.{Complete, Query, Stream}
use Rattle.command_line.specs.declared.asked.Asked.{Asked}
use Rattle.command_line.specs.declared.asked.Asked.TheVariants.{Enqueue, Events, Help, NoMemory, Queries, Recover}
use Rattle.command_line.specs.declared.asked.Asked.TheVariants.{Run, Serve, Usage, Version}
use Rattle.command_line.specs.declared.asked.Command.TheVariants.{Check, Footers, Graph, Merge, Ready, Simulate}
use Rattle.command_line.specs.declared.asked.Command.TheVariants.{ReadyItem, Why}
use Rattle.command_line.specs.declared.asked.Detail.{Detail}
use Rattle.command_line.specs.declared.asked.Detail.TheVariants.{AllConditions, Cause}
use Rattle.command_line.specs.declared.asked.EnqueueWords.{EnqueueWords}
use Rattle.command_line.specs.declared.asked.EventWords.{EventWords}
use Rattle.command_line.specs.declared.asked.OutputFormat.{OutputFormat}
use Rattle.command_line.specs.declared.asked.OutputFormat.TheVariants as format
use Rattle.command_line.specs.declared.asked.Printing.{Printing}
use Rattle.command_line.specs.declared.asked.Printing.TheVariants.{Report, Changes, Nothing}
use Rattle.command_line.specs.declared.asked.QueryWords.{QueryWords}
use Rattle.command_line.specs.declared.asked.SocketMode.{SocketMode}
use Rattle.command_line.specs.declared.asked.SocketMode.TheVariants.{Group, Owner}
use Rattle.command_line.specs.declared.asked.RecoverWords.{RecoverWords}
use Rattle.command_line.specs.declared.asked.ServeWords.{ServeWords}
use Rattle.command_line.specs.declared.asked.Strictness.{Strictness}
use Rattle.command_line.specs.declared.asked.Strictness.TheVariants.{Lenient, Strict}
use Rattle.command_line.specs.Values.{HasArgument, GivesAny, GivesItem, GivesNumber, GivesNumbers, GivesRows}
use Rattle.command_line.specs.Values.{GivesAnyItem, GivesAnyPage, GivesAnyPeer, GivesHosts, GivesPaths, GivesPeers}
use Rattle.command_line.specs.Values.{GivesTexts}
use Rattle.site_address.specs.Address.{has_slash}
use Rattle.site_address.specs.Peer.{is_there}

-- ---- what the arguments of each command say

-- what a site prints, by the word of an option
abbrev pub printing_word : Printing → Text
printing_word Report = codes "report"
printing_word Changes = codes "changes"
printing_word Nothing = codes "none"

abbrev pub GivesPrinting : List Row → Printing → Type 0
GivesPrinting rows prints = HasArgument rows (codes "print") (printing_word prints)

-- who may connect to a site's sockets, by the word of an option
abbrev pub mode_word : SocketMode → Text
mode_word Owner = codes "600"
mode_word Group = codes "660"

abbrev pub GivesMode : List Row → SocketMode → Type 0
GivesMode rows mode = HasArgument rows (codes "mode") (mode_word mode)

-- what a site is run with, but for its peers, is what the arguments give
pub record AreOptions (rows : List Row) (words : ServeWords) : Type 0 where
  pub gate : HasArgument rows (codes "GATE") words.gate.now
  pub site : GivesNumber rows (codes "site") 1 65535 words.site
  pub start : GivesAny rows (codes "start") 1 4294967294 words.start
  pub port : GivesAny rows (codes "port") 0 65535 words.port
  pub mode : GivesMode rows words.mode
  pub keys : first_of (codes "keys") rows ≡ option_map (λ name. name.now) words.keys
  pub workers : GivesNumber rows (codes "workers") 1 6 words.workers
  pub pause : GivesNumber rows (codes "pause") 1 600000 words.pause_ms
  pub sessions : GivesNumber rows (codes "sessions") 0 18446744073709551615 words.sessions
  pub idle : GivesNumber rows (codes "idle") 0 18446744073709551615 words.idle_ms
  pub connections : GivesNumber rows (codes "connections") 1 65535 words.connections
  pub ending : IsTrue words.until_input_ends ↔ HasFlag rows (codes "until-input-ends")
  pub prints : GivesPrinting rows words.prints
  pub times : IsTrue words.log_time ↔ HasFlag rows (codes "log-time")
  pub http : GivesAnyPage rows (codes "http") words.http
  pub load : first_of (codes "load") rows ≡ option_map (λ name. name.now) words.load
  pub save : first_of (codes "save") rows ≡ option_map (λ name. name.now) words.save
  pub journal : first_of (codes "journal") rows ≡ option_map (λ name. name.now) words.journal

-- a start is named, or a journal, which has those before it
abbrev pub HasStart : List Row → Type 0
HasStart rows = first_of (codes "start") rows ≡ None → ¬ (first_of (codes "journal") rows ≡ None)

-- the values of an argument that may be there more than once
abbrev pub words_of : List Row → Text → List Text
words_of rows argument = unwrap_or (all_of argument rows) []

-- a file of keys is named, or nothing on another machine: no peer, no site that is fed, and nothing to listen at
abbrev pub HasKeys : List Row → Type 0
HasKeys rows = first_of (codes "keys") rows ≡ None
    → (list_any is_there (words_of rows (codes "PEER")) ≡ false)
    × (list_any is_there (words_of rows (codes "to")) ≡ false)
    × (list_all has_slash (words_of rows (codes "listen")) ≡ true)

-- some text is there twice
abbrev pub has_repeat : List Text → Bool
has_repeat [] = false
has_repeat (text ∷ later) = list_any (bytes_eq text) later || has_repeat later

-- no peer is named twice
abbrev pub NamesEachPeerOnce : List Row → Type 0
NamesEachPeerOnce rows = has_repeat (words_of rows (codes "PEER")) ≡ false

-- the arguments ask for this site
abbrev pub IsSite : List Row → ServeWords → Type 0
IsSite rows words = AreOptions rows words × GivesPeers rows (codes "PEER") words.peers.items
    × GivesPaths rows (codes "listen") words.sockets.items × GivesHosts rows (codes "listen") words.hosts.items
    × GivesNumbers rows (codes "sites") 1 65535 words.sites.items
    × GivesTexts rows (codes "http-host") (map string_bytes words.http_hosts.items) × HasStart rows × HasKeys rows
    × NamesEachPeerOnce rows

-- the arguments ask for this recovery
pub record IsRecovery (rows : List Row) (words : RecoverWords) : Type 0 where
  pub journal : HasArgument rows (codes "JOURNAL") words.journal.now
  pub without : GivesRows rows (codes "without") words.without.items
  pub until : GivesAny rows (codes "until") 0 18446744073709551615 words.until

-- what Gerrit's lines are, by two options of which one is there at most
abbrev pub GivesAnswer : List Row → Answer → Type 0
GivesAnswer rows Stream = (¬ HasFlag rows (codes "query")) × (¬ HasFlag rows (codes "complete"))
GivesAnswer rows Query = HasFlag rows (codes "query") × (¬ HasFlag rows (codes "complete"))
GivesAnswer rows Complete = (¬ HasFlag rows (codes "query")) × HasFlag rows (codes "complete")

-- what a feed is run with, but for its projects, is what the arguments give
pub record AreFeedOptions (rows : List Row) (words : EventWords) : Type 0 where
  pub to : GivesAnyPeer rows (codes "to") words.to
  pub keys : first_of (codes "keys") rows ≡ option_map (λ name. name.now) words.keys
  pub answer : GivesAnswer rows words.answer
  pub projects_file : first_of (codes "projects") rows ≡ option_map (λ name. name.now) words.projects_file
  pub gate : first_of (codes "gate") rows ≡ option_map (λ name. name.now) words.gate

-- a site is named, or nothing that wants one
abbrev pub HasTarget : List Row → Type 0
HasTarget rows = first_of (codes "to") rows ≡ None
    → (¬ HasFlag rows (codes "complete")) × (first_of (codes "gate") rows ≡ None)

-- the arguments ask for this feed
abbrev pub IsFeed : List Row → EventWords → Type 0
IsFeed rows words = AreFeedOptions rows words
    × GivesTexts rows (codes "project") (map string_bytes words.projects.items) × HasTarget rows × HasKeys rows

-- the arguments ask for queries to be planned so
pub record IsPlanning (rows : List Row) (words : QueryWords) : Type 0 where
  pub every : GivesNumber rows (codes "every") 1 10080 words.every
  pub gather : GivesNumber rows (codes "gather") 0 3600 words.gather
  pub pause : GivesNumber rows (codes "pause") 0 3600 words.pause

-- the arguments ask for items to be handed over so
pub record IsHanding (rows : List Row) (words : EnqueueWords) : Type 0 where
  pub query : HasArgument rows (codes "QUERY") words.query.now
  pub tenant : first_of (codes "tenant") rows ≡ option_map (λ text. text.now) words.tenant
  pub pipeline : first_of (codes "pipeline") rows ≡ option_map (λ text. text.now) words.pipeline
  pub template : HasArgument rows (codes "template") words.template.now
  pub projects : first_of (codes "projects") rows ≡ option_map (λ name. name.now) words.projects
  pub handed : first_of (codes "handed") rows ≡ option_map (λ name. name.now) words.handed

-- the commands
pub data Name : Type 0 where
  ready : Name
  why : Name
  graph : Name
  merge : Name
  footers : Name
  check : Name
  simulate : Name
  serve : Name
  recover : Name
  events : Name
  queries : Name
  enqueue : Name

abbrev pub text_of : Name → Text
text_of ready = codes "ready"
text_of why = codes "why"
text_of graph = codes "graph"
text_of merge = codes "merge"
text_of footers = codes "footers"
text_of check = codes "check"
text_of simulate = codes "simulate"
text_of serve = codes "serve"
text_of recover = codes "recover"
text_of events = codes "events"
text_of queries = codes "queries"
text_of enqueue = codes "enqueue"

-- how the answer is to be written
abbrev pub GivesFormat : List Row → OutputFormat → Type 0
GivesFormat rows format.Text = ¬ HasFlag rows (codes "json")
GivesFormat rows format.Json = HasFlag rows (codes "json")

-- how much of the verdict on an item is to be explained
abbrev pub GivesDetail : List Row → Detail → Type 0
GivesDetail rows Cause = ¬ HasFlag rows (codes "all")
GivesDetail rows AllConditions = HasFlag rows (codes "all")

-- whether warnings are to be a refusal
abbrev pub GivesStrictness : List Row → Strictness → Type 0
GivesStrictness rows Lenient = ¬ HasFlag rows (codes "strict")
GivesStrictness rows Strict = HasFlag rows (codes "strict")

-- the arguments of the command say that this is asked
abbrev pub ArgumentsSay : Name → List Row → Asked → Type 0
ArgumentsSay ready rows (Run (Ready command)) =
    HasArgument rows (codes "GATE") command.gate.now × HasArgument rows (codes "SNAPSHOT") command.snapshot.now
    × GivesAnyItem rows None × GivesFormat rows command.format
ArgumentsSay ready rows (Run (ReadyItem command)) =
    HasArgument rows (codes "GATE") command.gate.now × HasArgument rows (codes "SNAPSHOT") command.snapshot.now
    × GivesAnyItem rows (Some (command.change, command.set)) × GivesFormat rows command.format
ArgumentsSay why rows (Run (Why command)) =
    HasArgument rows (codes "GATE") command.gate.now × HasArgument rows (codes "SNAPSHOT") command.snapshot.now
    × GivesItem rows command.change command.set × GivesDetail rows command.detail × GivesFormat rows command.format
ArgumentsSay graph rows (Run (Graph command)) =
    HasArgument rows (codes "GATE") command.gate.now × HasArgument rows (codes "SNAPSHOT") command.snapshot.now
    × GivesAny rows (codes "around") 0 4294967295 command.around
ArgumentsSay merge rows (Run (Merge command)) =
    HasArgument rows (codes "FIRST") command.first.now × HasArgument rows (codes "SECOND") command.second.now
ArgumentsSay footers rows (Run (Footers command)) =
    HasArgument rows (codes "GATE") command.gate.now × HasArgument rows (codes "FILE") command.message.now
    × GivesNumber rows (codes "change") 0 4294967295 command.change × GivesFormat rows command.format
ArgumentsSay check rows (Run (Check command)) =
    HasArgument rows (codes "GATE") command.gate.now
    × (first_of (codes "SNAPSHOT") rows ≡ option_map (λ name. name.now) command.snapshot)
    × GivesStrictness rows command.strictness × GivesFormat rows command.format
ArgumentsSay simulate rows (Run (Simulate command)) =
    HasArgument rows (codes "SCRIPT") command.script.now
    × (first_of (codes "GATE") rows ≡ option_map (λ name. name.now) command.gate)
ArgumentsSay serve rows (Serve words) = IsSite rows words
ArgumentsSay recover rows (Recover words) = IsRecovery rows words
ArgumentsSay events rows (Events words) = IsFeed rows words
ArgumentsSay queries rows (Queries words) = IsPlanning rows words
ArgumentsSay enqueue rows (Enqueue words) = IsHanding rows words
ArgumentsSay name rows asked = ⊥

-- ---- what words ask for

-- what clap matched is a command, whose arguments say what is asked
abbrev pub IsAskedByWords : Matched → Asked → Type 0
IsAskedByWords matched asked =
    (name : Name) × (rows : List Row) × (matched ≡ Some (text_of name, rows)) × ArgumentsSay name rows asked

-- it is none, or they say nothing: a start, a site or a file of keys is missing, an item, an address, a word, or a site
-- with a start is none, or two options differ
abbrev pub IsNothing : Matched → Type 0
IsNothing matched = (asked : Asked) → ¬ IsAskedByWords matched asked

-- the words ask for this, or it is answered in its place; memory may be refused at any words
abbrev pub WordsAsk : List Text → Asked → Type 0
WordsAsk words (Help text) = AskForHelp words
WordsAsk words (Version text) = AskForVersion words
WordsAsk words (Usage text) = AreFaulty words ⊎ (AreFaultlessWords words × IsNothing (matched_of words))
WordsAsk words NoMemory = Unit {0}
WordsAsk words asked = AreFaultlessWords words × IsAskedByWords (matched_of words) asked

-- what clap matched means this
abbrev pub Means : Matched → Asked → Type 0
Means matched (Help text) = ⊥
Means matched (Version text) = ⊥
Means matched (Usage text) = IsNothing matched
Means matched NoMemory = Unit {0}
Means matched asked = IsAskedByWords matched asked

-- something is wrong with the words, or memory was refused for saying so
abbrev pub IsUsage : Asked → Type 0
IsUsage (Usage text) = Unit {0}
IsUsage NoMemory = Unit {0}
IsUsage asked = ⊥
