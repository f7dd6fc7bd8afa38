-- The command lines of the program, and what each of them asks for.
use Rattle.std.specs.Prelude.{◌≡◌, ◌⊎◌, ◌<◌, ◌^◌, ◌&&◌, ℕ, Bool, List, [], ◌∷◌, ⊤}
use Rattle.std.specs.Prelude.{codes, true, false, pos, nat_le, nat_lt, Option, Some, None, Result, Ok, Err, if◌then◌else◌}
use Rattle.std.specs.{Option.{option_map_or}, Str.{bytes_eq}}
use Rattle.std.specs.Str.Parse.{IsNumeral, digits_value, without_leading_plus}
use Rattle.clap.specs.Words.{App, IsAmong, Row, Rule, Text, app_of, fault_of, new_app, new_rule, one_of, subcommand_of, with_rule, with_subcommand}
use Rattle.clap.specs.declared.builder.action.ArgAction.TheVariants.{SetTrue}
use Rattle.clap.specs.declared.builder.command.Command.{Command}
use Rattle.clap.specs.declared.builder.command.Command.TheViews.{out-Command}
use Rattle.clap.specs.declared.builder.value_parser.ValueParser.{ValueParser}
use Rattle.clap.specs.declared.builder.value_parser.ValueParser.TheVariants as vp
use Rattle.clap.specs.declared.error.kind.ErrorKind.TheVariants.{DisplayHelp, DisplayVersion}
use Rattle.ulfm_command.specs.declared.asked.Asked.{Asked}
use Rattle.ulfm_command.specs.declared.asked.Asked.TheVariants as asked
use Rattle.ulfm_command.specs.declared.asked.{Task.{Task}, Task.TheVariants.{Run, Migrate, Check, Draw, Explore, Replay, Race}}
use Rattle.ulfm_command.specs.declared.asked.{RunForm.{RunForm}, RunForm.TheVariants.{Calls, Echoed, Steps}}
use Rattle.ulfm_command.specs.declared.asked.{CheckForm.{CheckForm}, CheckForm.TheVariants.{Trace, Explained, Log}}
use Rattle.ulfm_command.specs.declared.asked.{DrawOptions.{DrawOptions}, ExploreOptions.{ExploreOptions}, RaceOptions.{RaceOptions}}

-- the words of a command line, the program's own name first
abbrev pub Arguments : Type 0
Arguments = List Text

-- an option of this name, whose value passes the parser
abbrev pub number_rule : Text → ValueParser → Rule
number_rule name parser = record (new_rule name) { long = Some name; value_names = 1; parser = Some parser }

-- an option of this name that is given or not, and has no value
abbrev pub flag_rule : Text → Rule
flag_rule name = record (new_rule name) { long = Some name; action = Some SetTrue }

-- the option that says how many ranks race, which must be given
abbrev pub ranks_rule : Rule
ranks_rule = record (number_rule (codes "ranks") (vp.Signed (pos 1) (pos 64))) { required = true }

-- the option that says how often they agree, which must be given
abbrev pub rounds_rule : Rule
rounds_rule = record (number_rule (codes "rounds") (vp.Signed (pos 1) (pos 1000))) { required = true }

-- the option that says which rank is declared
abbrev pub fail_rule : Rule
fail_rule = number_rule (codes "fail") (vp.Signed (pos 0) (pos 63))

-- the command that runs a script: of single steps, or with each call printed before its reply
abbrev pub run : App
run = with_rule (with_rule (new_app (codes "run")) (flag_rule (codes "steps"))) (flag_rule (codes "echo"))

-- the command that writes a script of the first version as one of the second
abbrev pub migrate : App
migrate = new_app (codes "migrate")

-- the command that judges a trace, whose reason may be explained, or a log of calls and replies, whose trace may be wanted
abbrev pub check : App
check = with_rule (with_rule (with_rule (new_app (codes "check")) (flag_rule (codes "explain"))) (flag_rule (codes "observed"))) (flag_rule (codes "witness"))

-- the command that draws a trace: in characters, and in ASCII alone
abbrev pub draw : App
draw = with_rule (with_rule (new_app (codes "draw")) (flag_rule (codes "text"))) (flag_rule (codes "ascii"))

-- the options that say how many states there may be, and of which outcome the script is wanted
abbrev pub most_rule : Rule
most_rule = number_rule (codes "most") (vp.Signed (pos 1) (pos 1000000000))

abbrev pub outcome_rule : Rule
outcome_rule = number_rule (codes "outcome") (vp.Signed (pos 1) (pos 1000000000))

-- the command that explores a program of ranks
abbrev pub explore : App
explore = with_rule (with_rule (new_app (codes "explore")) most_rule) outcome_rule

-- the command that tells what a stored log makes
abbrev pub replay : App
replay = new_app (codes "replay")

-- the command that runs a race
abbrev pub race : App
race = with_rule (with_rule (with_rule (new_app (codes "race")) ranks_rule) rounds_rule) fail_rule

-- the program as a command that has a version and subcommands, of which one must be given, while it has none yet
abbrev pub bare : App
bare =
    let named = new_app (codes "ulfm") in
    record named { top = record named.top { has_version = true; subcommand_required = true } }

-- the program as a command, with those that run scripts, migrate them and judge traces
abbrev pub readers : App
readers = with_subcommand (with_subcommand (with_subcommand bare run.top) migrate.top) check.top

-- the same with all its subcommands: those that draw traces, explore programs, replay logs and run races, too
abbrev pub ulfm : App
ulfm = with_subcommand (with_subcommand (with_subcommand (with_subcommand readers draw.top) explore.top) replay.top) race.top

-- the command is this one, and has no global option
abbrev pub IsCommand : App → Command → Type 0
IsCommand app command = (app_of command ≡ app) × ((out-Command command).has_globals ≡ false)

-- a text is a number of so many bits in decimal, perhaps behind a plus
abbrev pub IsNumber : ℕ → Text → ℕ → Type 0
IsNumber bits text n =
    IsNumeral 10 (without_leading_plus text) × (digits_value 10 (without_leading_plus text) < 2 ^ bits) × (n ≡ digits_value 10 (without_leading_plus text))

-- an option that isn't given, or that has this number
abbrev pub IsOptional : ℕ → Option Text → Option ℕ → Type 0
IsOptional bits None number = number ≡ None
IsOptional bits (Some text) None = ⊥
IsOptional bits (Some text) (Some n) = IsNumber bits text n

-- the same as it is read, where a text that is no such number is an error
abbrev pub IsNumberRead : {E : Type 0} → ℕ → Option Text → Result (Option ℕ) E → Type 0
IsNumberRead bits given (Ok number) = IsOptional bits given number
IsNumberRead bits given (Err error) = (number : Option ℕ) → IsOptional bits given number → ⊥

-- a rank of the race is declared, or none
abbrev pub fail_is_in : ℕ → Option ℕ → Bool
fail_is_in ranks None = true
fail_is_in ranks (Some rank) = nat_lt rank ranks

-- each option of a race is in its range
abbrev pub is_in_range : RaceOptions → Bool
is_in_range options =
    nat_le 1 options.ranks && (nat_le options.ranks 64 && (nat_le 1 options.rounds && (nat_le options.rounds 1000 && fail_is_in options.ranks options.fail)))

-- the options of a race, as they are given
pub record IsRaceOf (rows : List Row) (options : RaceOptions) : Type 0 where
  pub ranks : IsOptional 16 (one_of (codes "ranks") rows) (Some options.ranks)
  pub rounds : IsOptional 16 (one_of (codes "rounds") rows) (Some options.rounds)
  pub fail : IsOptional 16 (one_of (codes "fail") rows) options.fail
  pub in_range : is_in_range options ≡ true

-- the options of a race as they are read: none where there are none that are in their ranges
abbrev pub IsRaceRead : List Row → Option RaceOptions → Type 0
IsRaceRead rows None = (options : RaceOptions) → IsRaceOf rows options → ⊥
IsRaceRead rows (Some options) = IsRaceOf rows options

-- the command that was named, with its options' values
abbrev pub Named : Type 0
Named = Option (Text × List Row)

-- whether an option that takes no value was given
abbrev pub has_flag : Text → List Row → Bool
has_flag name rows = option_map_or (λ text. bytes_eq text (codes "true")) (one_of name rows) false

-- how a script is to be run, by the options
abbrev pub run_form : List Row → RunForm
run_form rows = if has_flag (codes "steps") rows then Steps else (if has_flag (codes "echo") rows then Echoed else Calls)

-- what is to be judged, and how: a trace, which may be explained, or a log, whose witness may be wanted
abbrev pub judged_form : Bool → Bool → Bool → Option CheckForm
judged_form observed explain witness =
    if observed then (if explain then None else Some (Log witness)) else (if witness then None else Some (if explain then Explained else Trace))

-- the same by the options; none where they don't go together
abbrev pub check_form : List Row → Option CheckForm
check_form rows = judged_form (has_flag (codes "observed") rows) (has_flag (codes "explain") rows) (has_flag (codes "witness") rows)

-- the options of a picture, as they are given
pub record IsDrawRead (rows : List Row) (options : DrawOptions) : Type 0 where
  pub text : has_flag (codes "text") rows ≡ options.text
  pub ascii : has_flag (codes "ascii") rows ≡ options.ascii

-- the options of an exploration, as they are given
pub record IsExploreOf (rows : List Row) (options : ExploreOptions) : Type 0 where
  pub most : IsOptional 32 (one_of (codes "most") rows) options.most
  pub outcome : IsOptional 32 (one_of (codes "outcome") rows) options.outcome

-- the options of an exploration as they are read: none where there are none
abbrev pub IsExploreRead : List Row → Option ExploreOptions → Type 0
IsExploreRead rows None = (options : ExploreOptions) → IsExploreOf rows options → ⊥
IsExploreRead rows (Some options) = IsExploreOf rows options

-- the word that names a task
abbrev pub verb : Task → Text
verb (Run form) = codes "run"
verb Migrate = codes "migrate"
verb (Check form) = codes "check"
verb (Draw options) = codes "draw"
verb (Explore options) = codes "explore"
verb Replay = codes "replay"
verb (Race options) = codes "race"

-- the options of a task are given so
abbrev pub IsGiven : List Row → Task → Type 0
IsGiven rows (Run form) = run_form rows ≡ form
IsGiven rows Migrate = ⊤
IsGiven rows (Check form) = check_form rows ≡ Some form
IsGiven rows (Draw options) = IsDrawRead rows options
IsGiven rows (Explore options) = IsExploreOf rows options
IsGiven rows Replay = ⊤
IsGiven rows (Race options) = IsRaceOf rows options

-- the command that was named is for this task, with its options
abbrev pub Names : Named → Task → Type 0
Names named task = (rows : List Row) × (named ≡ Some (verb task, rows)) × IsGiven rows task

-- the command that was named asks for this; it is bad where it is for no task
abbrev pub IsEntered : Named → Asked → Type 0
IsEntered named (asked.Task task) = Names named task
IsEntered named (asked.Bad reason) = (task : Task) → Names named task → ⊥
IsEntered named (asked.Shown text) = ⊥
IsEntered named asked.Memory = ⊥

-- the command line crate finds no fault in the words, and they ask for this task
abbrev pub Asks : Arguments → Task → Type 0
Asks words task = (fault_of ulfm words ≡ []) × Names (subcommand_of ulfm words) task

-- it finds that help is asked for, and nothing else
abbrev pub AsksHelp : Arguments → Type 0
AsksHelp words = fault_of ulfm words ≡ DisplayHelp ∷ []

-- it finds that the version is asked for, and nothing else
abbrev pub AsksVersion : Arguments → Type 0
AsksVersion words = fault_of ulfm words ≡ DisplayVersion ∷ []

-- there is nothing that the words ask for
pub record AsksNothing (words : Arguments) : Type 0 where
  pub no_task : (task : Task) → Asks words task → ⊥
  pub no_help : IsAmong DisplayHelp (fault_of ulfm words) → ⊥
  pub no_version : IsAmong DisplayVersion (fault_of ulfm words) → ⊥

-- the words were read as bad: there is nothing that they ask for alone
pub record IsRefused (words : Arguments) : Type 0 where
  pub no_task : (task : Task) → Asks words task → ⊥
  pub no_help : AsksHelp words → ⊥
  pub no_version : AsksVersion words → ⊥

-- the words were read as asking for this
abbrev pub IsAskedBy : Arguments → Asked → Type 0
IsAskedBy words (asked.Task task) = Asks words task
IsAskedBy words (asked.Shown text) = IsAmong DisplayHelp (fault_of ulfm words) ⊎ IsAmong DisplayVersion (fault_of ulfm words)
IsAskedBy words (asked.Bad reason) = IsRefused words
IsAskedBy words asked.Memory = ⊤
