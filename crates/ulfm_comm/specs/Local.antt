-- A rank's local state (its record and its caller's view), and the parameters by which a history is read.
use Rattle.std.specs.Prelude.{Bool}
use Rattle.ulfm_model.specs.declared.limits.Limits.{Limits}
use Rattle.ulfm_model.specs.Records.{Fits, Moment, Record, moment}
use Rattle.ulfm_words.specs.Steps.{IsView, Sight, View}

-- a rank's local state, by which its calls go: its record (what it keeps between calls), and its caller's view of the words
pub record Local (P : Type 0) : Type 0 where
  pub own : Record
  pub view : View P

abbrev pub local : {P : Type 0} → Record → View P → Local P
local own view = record { own = own; view = view }

-- a rank's record fits what its caller's view has seen of the words
abbrev pub FitsView : {P : Type 0} → (P → P → P) → Local P → Type 0
FitsView meld at = Fits meld at.view.words.limits at.view.pass.seen at.own

-- what a rank's calls start from and leave: its caller's view is one of its words, and its record fits what that view has seen
pub record IsAt {P : Type 0} (meld : P → P → P) (at : Local P) : Type 0 where
  pub of : IsView meld at.view
  pub fits : FitsView meld at

-- the moment of a local state, as the model has it: the record, and the history that was seen by then
abbrev pub moment_of : {P : Type 0} → Local P → Moment P
moment_of at = moment at.own at.view.pass.seen

-- a frame, the parameters by which a history is read: how flags are combined, the world's limits, and whether nobody else steps
pub record Frame (P : Type 0) : Type 0 where
  pub meld : P → P → P
  pub limits : Limits
  pub alone : Bool

abbrev pub frame : {P : Type 0} → (P → P → P) → Limits → Bool → Frame P
frame meld limits alone = record { meld = meld; limits = limits; alone = alone }

-- the frame for a local state, with the limits of its view's words
abbrev pub frame_of : {P : Type 0} → (P → P → P) → Bool → Local P → Frame P
frame_of meld alone at = frame meld at.view.words.limits alone

-- a stance, a local state without its words: a rank's record, and its pass
pub record Stance (P : Type 0) : Type 0 where
  pub own : Record
  pub pass : Sight P

abbrev pub stance : {P : Type 0} → Record → Sight P → Stance P
stance own pass = record { own = own; pass = pass }

abbrev pub stance_of : {P : Type 0} → Local P → Stance P
stance_of at = stance at.own at.view.pass
