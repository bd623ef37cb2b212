-- The program's commands and their arguments, as clap's builders make them (docs.rs/clap). They are the project's own.
use Rattle.std.specs.Prelude.{◌≡◌, true, false, codes}
use Rattle.clap.specs.Words.{App, app_of, new_app, new_rule, with_rule, with_subcommand}
use Rattle.clap.specs.declared.builder.command.Command.{Command}
use Rattle.clap.specs.declared.builder.command.Command.TheViews.{out-Command}
use Rattle.command_tree.specs.Rules.{flag_rule, needed, needed_number, number_rule, number_with, words_rule}
use Rattle.command_tree.specs.Rules.{option_rule, option_with, several_numbers, several_rule}

-- `ready GATE SNAPSHOT [--item CHANGE[,SET]] [--json]`
abbrev pub ready_app : App
ready_app =
    with_rule
    (with_rule (with_rule (with_rule (new_app (codes "ready")) (needed (codes "GATE"))) (needed (codes "SNAPSHOT")))
    (option_rule (codes "item")))
    (flag_rule (codes "json"))

-- `why GATE SNAPSHOT CHANGE[,SET] [--all] [--json]`
abbrev pub why_app : App
why_app =
    with_rule
    (with_rule
    (with_rule (with_rule (with_rule (new_app (codes "why")) (needed (codes "GATE"))) (needed (codes "SNAPSHOT")))
    (needed (codes "CHANGE[,SET]")))
    (flag_rule (codes "all")))
    (flag_rule (codes "json"))

-- `graph GATE SNAPSHOT [--around CHANGE]`
abbrev pub graph_app : App
graph_app =
    with_rule (with_rule (with_rule (new_app (codes "graph")) (needed (codes "GATE"))) (needed (codes "SNAPSHOT")))
    (number_rule (codes "around") 0 4294967295)

-- `merge FIRST SECOND`
abbrev pub merge_app : App
merge_app = with_rule (with_rule (new_app (codes "merge")) (needed (codes "FIRST"))) (needed (codes "SECOND"))

-- `footers GATE FILE [--change N] [--json]`
abbrev pub footers_app : App
footers_app =
    with_rule
    (with_rule (with_rule (with_rule (new_app (codes "footers")) (needed (codes "GATE"))) (needed (codes "FILE")))
    (number_with (codes "change") (codes "0") 0 4294967295))
    (flag_rule (codes "json"))

-- `check GATE [SNAPSHOT] [--strict] [--json]`
abbrev pub check_app : App
check_app =
    with_rule
    (with_rule (with_rule (with_rule (new_app (codes "check")) (needed (codes "GATE"))) (new_rule (codes "SNAPSHOT")))
    (flag_rule (codes "strict")))
    (flag_rule (codes "json"))

-- `simulate SCRIPT [GATE]`
abbrev pub simulate_app : App
simulate_app = with_rule (with_rule (new_app (codes "simulate")) (needed (codes "SCRIPT"))) (new_rule (codes "GATE"))

-- ---- `serve GATE [PEER].. --site N [option]..`

abbrev pub peered_app : App
peered_app =
    with_rule (with_rule (new_app (codes "serve")) (needed (codes "GATE"))) (words_rule (codes "PEER"))

-- with what the site is, and where it is reached
abbrev pub placed_app : App
placed_app =
    with_rule
    (with_rule (with_rule peered_app (needed_number (codes "site") 1 65535)) (number_rule (codes "start") 1 4294967294))
    (number_rule (codes "port") 0 65535)

-- with the Unix sockets and the hosts at which it is reached, and the keys of these
abbrev pub listening_app : App
listening_app =
    with_rule
    (with_rule (with_rule placed_app (several_rule (codes "listen"))) (option_with (codes "mode") (codes "600")))
    (option_rule (codes "keys"))

-- with whose operations it takes in
abbrev pub guarded_app : App
guarded_app = with_rule listening_app (several_numbers (codes "sites") 1 65535)

-- with how it works
abbrev pub paced_app : App
paced_app =
    with_rule
    (with_rule (with_rule guarded_app (number_with (codes "workers") (codes "2") 1 6))
    (number_with (codes "pause") (codes "1000") 1 600000))
    (number_with (codes "sessions") (codes "0") 0 18446744073709551615)

-- with what ends its sessions and itself
abbrev pub ending_app : App
ending_app =
    with_rule
    (with_rule (with_rule paced_app (number_with (codes "idle") (codes "300000") 0 18446744073709551615))
    (number_with (codes "connections") (codes "1024") 1 65535))
    (flag_rule (codes "until-input-ends"))

-- with what it prints, and what its lines on standard error have
abbrev pub printing_app : App
printing_app =
    with_rule (with_rule ending_app (option_with (codes "print") (codes "report"))) (flag_rule (codes "log-time"))

-- with where it shows itself to browsers
abbrev pub shown_app : App
shown_app = with_rule (with_rule printing_app (option_rule (codes "http"))) (several_rule (codes "http-host"))

-- with the files that keep its record
abbrev pub serve_app : App
serve_app =
    with_rule (with_rule (with_rule shown_app (option_rule (codes "load"))) (option_rule (codes "save")))
    (option_rule (codes "journal"))

-- ---- the others, and the program

-- `recover JOURNAL [--without SITE,START].. [--until TIME]`
abbrev pub recover_app : App
recover_app =
    with_rule
    (with_rule (with_rule (new_app (codes "recover")) (needed (codes "JOURNAL"))) (several_rule (codes "without")))
    (number_rule (codes "until") 0 18446744073709551615)

-- `events [--to ADDRESS] [--keys FILE] [--query | --complete] ..`: where Gerrit's lines go to, and what they are
abbrev pub feeding_app : App
feeding_app =
    with_rule
    (with_rule
    (with_rule (with_rule (new_app (codes "events")) (option_rule (codes "to"))) (option_rule (codes "keys")))
    (flag_rule (codes "query")))
    (flag_rule (codes "complete"))

-- with whose changes are fed, and the gate
abbrev pub events_app : App
events_app =
    with_rule
    (with_rule (with_rule feeding_app (several_rule (codes "project"))) (option_rule (codes "projects")))
    (option_rule (codes "gate"))

-- `queries [--every MINUTES] [--gather SECONDS] [--pause SECONDS]`
abbrev pub queries_app : App
queries_app =
    with_rule
    (with_rule (with_rule (new_app (codes "queries")) (number_with (codes "every") (codes "5") 1 10080))
    (number_with (codes "gather") (codes "2") 0 3600))
    (number_with (codes "pause") (codes "5") 0 3600)

-- `enqueue QUERY [--tenant TENANT] [--pipeline NAME] [--template TEXT] ..`: what is written for an item
abbrev pub templated_app : App
templated_app =
    with_rule
    (with_rule
    (with_rule (with_rule (new_app (codes "enqueue")) (needed (codes "QUERY"))) (option_rule (codes "tenant")))
    (option_rule (codes "pipeline")))
    (option_with (codes "template")
    (codes "zuul-client enqueue --tenant {tenant} --pipeline {pipeline} --project {project} --change {change},{set}"))

-- with which items it is written for
abbrev pub enqueue_app : App
enqueue_app = with_rule (with_rule templated_app (option_rule (codes "projects"))) (option_rule (codes "handed"))

-- the program, before it has its commands: its name isn't among the words, it has a version, and a command has to be
abbrev pub bare_app : App
bare_app = let app = new_app (codes "reviewgate") in
    record app { top = record app.top { no_binary_name = true; has_version = true; subcommand_required = true } }

-- the program with the commands that judge a snapshot
abbrev pub judging_app : App
judging_app = with_subcommand (with_subcommand (with_subcommand bare_app ready_app.top) why_app.top) graph_app.top

-- with those that read other files
abbrev pub reading_app : App
reading_app =
    with_subcommand
    (with_subcommand (with_subcommand (with_subcommand judging_app merge_app.top) footers_app.top) check_app.top)
    simulate_app.top

-- the program
abbrev pub program : App
program =
    with_subcommand
    (with_subcommand
    (with_subcommand (with_subcommand (with_subcommand reading_app serve_app.top) recover_app.top) events_app.top)
    queries_app.top)
    enqueue_app.top

-- a command that clap reads so, with no argument that its subcommands take
abbrev pub IsApp : App → Command → Type 0
IsApp app command = (app_of command ≡ app) × ((out-Command command).has_globals ≡ false)
