use Rattle.std.proofs.Common.{◌≡◌, ◌⊎◌, ◌∙◌, true, refl, map, ap, subst, sym}
use Rattle.clap.specs.Words.{IsAmong, app_of, fault_of, is_simple, kind_of, subcommand_of}
use Rattle.clap.specs.Faults.{is_simple_and_free}
use Rattle.clap.specs.declared.error.kind.ErrorKind.TheVariants.{OutOfMemory}
use Rattle.clap.proofs.OnLiterals.{clap_on_literals}
use Rattle.command_tree.specs.Commands.{program}
use Rattle.command_tree.proofs.Refusing.{parses_matched, parses_refused}
use Rattle.command_tree.proofs.parsing.parse.Goals as goal

simple : is_simple program ≡ true
unfolding clap_on_literals
simple = refl

free : is_simple_and_free program ≡ true
unfolding clap_on_literals
free = refl

pub returns-in-Ok-try_get_matches_from : goal.returns-in-Ok-try_get_matches_from
returns-in-Ok-try_get_matches_from g c =
    let words = map g.S.AsStr.text c.args.words.now in
    let app : app_of c.in-Ok.command ≡ program = c.in-Ok.ensures.0 in
    let matches = c.in-Ok-try_get_matches_from.ensures.matches (ap is_simple app ∙ simple) in
    let faultless = sym (ap (λ a. fault_of a words) app) ∙ c.in-Ok-try_get_matches_from.ensures.kinds (ap is_simple_and_free app ∙ free) in
    parses_matched words _ c.command_in.result faultless
    (matches.1 ∙ ap (λ a. subcommand_of a words) app) c.command_in.ensures

pub returns-in-Err : goal.returns-in-Err
returns-in-Err g c =
    let words = map g.S.AsStr.text c.args.words.now in
    let app : app_of c.in-Ok.command ≡ program = c.in-Ok.ensures.0 in
    let fails = c.in-Err.ensures.kinds (ap is_simple_and_free app ∙ free) in
    parses_refused words _ c.refused.result (subst (λ a. (kind_of c.in-Err.error ≡ OutOfMemory) ⊎ IsAmong (kind_of c.in-Err.error) (fault_of a words)) app fails) c.refused.ensures
