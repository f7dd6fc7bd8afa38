use Rattle.std.proofs.Common.{◌≡◌, true, map, sym, subst, List, Result, Ok, Err}
use Rattle.std.specs.Prelude.{IfOk}
use Rattle.clap.specs.Words.{App, FailsBy, HasMatchesOf, Text, app_of, fault_of, is_simple, is_simple_and_free, subcommand_of, subcommand_rows_of}
use Rattle.clap.specs.declared.parser.matches.ArgMatches.{ArgMatches}
use Rattle.ulfm_command.specs.CommandLines.{ulfm}
use Rattle.ulfm_command.proofs.Asking.{is_matched, is_told}
use Rattle.ulfm_command.proofs.reading.parse.Goals as goal

pub returns-clause-fails : goal.returns-clause-fails
returns-clause-fails c =
    let is : app_of c.in_ok-ulfm_command.field-0 ≡ ulfm = c.in_ok-ulfm_command.ensures.0 in
    subst
    (λ (app : App). FailsBy (fault_of app (map (λ word. word.now) c.args.words.now)) c.try_get_matches_from.result)
    is
    (c.try_get_matches_from.ensures.kinds (subst (λ (app : App). is_simple_and_free app ≡ true) (sym is) is_told))

-- what is found in the words, if they have matches
found_in : {E : Type 0} (app : App) (words : List Text) (r : Result ArgMatches E) → is_simple app ≡ true → IfOk r (HasMatchesOf app words)
    → IfOk r (λ m. subcommand_rows_of m ≡ subcommand_of app words)
found_in app words (Ok m) simple h = (h simple).1
found_in app words (Err e) simple h = tt

pub returns-clause-found : goal.returns-clause-found
returns-clause-found c =
    let is : app_of c.in_ok-ulfm_command.field-0 ≡ ulfm = c.in_ok-ulfm_command.ensures.0 in
    let words = map (λ word. word.now) c.args.words.now in
    subst (λ (app : App). IfOk c.try_get_matches_from.result (λ m. subcommand_rows_of m ≡ subcommand_of app words)) is
    (found_in (app_of c.in_ok-ulfm_command.field-0) words c.try_get_matches_from.result (subst (λ (app : App). is_simple app ≡ true) (sym is) is_matched)
    c.try_get_matches_from.ensures.matches)
