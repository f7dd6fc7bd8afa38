-- What the words ask for, by the command that they name.
use Rattle.std.proofs.Common.{◌≡◌, ◌∙◌, List, [], ◌∷◌, sym, subst}
use Rattle.clap.specs.Words.{fault_of, subcommand_of}
use Rattle.clap.specs.declared.error.kind.ErrorKind.{ErrorKind}
use Rattle.clap.specs.declared.error.kind.ErrorKind.TheVariants.{DisplayHelp, DisplayVersion}
use Rattle.ulfm_command.specs.declared.asked.Asked.{Asked}
use Rattle.ulfm_command.specs.declared.asked.Asked.TheVariants as asked
use Rattle.ulfm_command.specs.declared.asked.Task.{Task}
use Rattle.ulfm_command.specs.CommandLines.{Arguments, IsAskedBy, IsEntered, Named, Names, ulfm}

no_kind : (k : ErrorKind) (kinds : List ErrorKind) → kinds ≡ [] → kinds ≡ k ∷ [] → ⊥
no_kind k kinds none one =
    let bad : ◌≡◌ {A = List ErrorKind} [] (k ∷ []) = sym none ∙ one in
    cc

-- where no fault is found in the words, they ask for what the command asks for that they name
pub entered_is : (words : Arguments) (named : Named) (a : Asked) → fault_of ulfm words ≡ [] → named ≡ subcommand_of ulfm words → IsEntered named a → IsAskedBy words a
entered_is words named (asked.Task task) free is entered = (free, subst (λ (n : Named). Names n task) is entered)
entered_is words named (asked.Bad reason) free is entered =
    record {
      no_task = λ task asks. entered task (subst (λ (n : Named). Names n task) (sym is) asks.1);
      no_help = no_kind DisplayHelp (fault_of ulfm words) free;
      no_version = no_kind DisplayVersion (fault_of ulfm words) free;
    }
entered_is words named (asked.Shown text) free is entered = absurd entered
entered_is words named asked.Memory free is entered = absurd entered
