-- What the machine does with one line of a step script.
use Rattle.std.specs.Prelude.{◌≡◌, ℕ, Bool, List, [], ◌∷◌, ◌++◌, Option}
use Rattle.ulfm_laws.specs.{Flags.{flag_meld}, declared.flag_and.FlagAnd.{FlagAnd}}
use Rattle.ulfm_model.specs.declared.{call.Call.{Call}, refusal.Refusal.TheVariants.{NoSuchRank}, reply.Reply.TheVariants.{Refused}}
use Rattle.ulfm_words.specs.Steps.{View}
use Rattle.ulfm_model.specs.{Follows.{called}, Traces.{Told}}
use Rattle.ulfm_run.specs.Stepping.{reply_told}
use Rattle.ulfm_lines.specs.{LineTexts.{lines_text}}
use Rattle.ulfm_run.specs.{Seats.{TellsBegin, begun_piece}, declared.told.Answer.{Answer}}
use Rattle.ulfm_run.specs.Walks.{FlagSeat}

-- the lines of a call of a rank that the world doesn't have
abbrev pub unknown_piece : ℕ → ℕ → Call FlagAnd → Bool → List (Told FlagAnd)
unknown_piece r point asked padded = called asked padded ∷ reply_told r point [] (Refused NoSuchRank) ∷ []

-- a rank's call began where this is seen, and was told
pub record BeginsCall (view : View FlagAnd) (asked : Call FlagAnd) (padded : Bool) (seat : FlagSeat) (text : List ℕ) (left : FlagSeat) (more : List ℕ)
    : Type 0 where
  pub answer : Option (Answer FlagAnd)
  pub tells : TellsBegin flag_meld view.words seat view.pass asked answer left
  pub told : more ≡ text ++ lines_text (begun_piece seat.own.number asked padded answer)
