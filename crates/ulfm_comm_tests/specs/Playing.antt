-- A rank whose calls are taken step by step, among others over one pass.
use Rattle.std.specs.Prelude.{List, Option, MatchOption, false}
use Rattle.std.specs.List.{AllByRecursion}
use mathlib.Core.List.{IsPrefix}
use Rattle.ulfm_model.specs.Records.{Fits, Record}
use Rattle.ulfm_words.specs.Steps.{view_at, IsView, Over, Sight}
use Rattle.ulfm_comm.specs.{Counts.{Counted}, Phase.{Stands, Waits}}
use Rattle.ulfm_comm.specs.Local.{local}

-- a rank's record, and its call under way, if there is one
pub record Playing (P : Type 0) : Type 0 where
  pub own : Record
  pub doing : Option (Counted P)

-- a call under way stood here, and since then there were others' events alone
pub record HasStood {P : Type 0} (meld : P → P → P) (name : Over P) (own : Record) (pass : Sight P) (doing : Counted P) : Type 0 where
  pub old : Record
  pub before : Sight P
  pub stood : Sight P
  pub stands : Stands meld false (local old (view_at name before)) doing.way (local own (view_at name stood))
  pub waits : Waits false stood pass
  pub begins : IsPrefix before.seen pass.seen

-- the record fits what the pass has seen, or the call under way goes on
abbrev pub Plays : {P : Type 0} → (P → P → P) → Over P → Sight P → Playing P → Type 0
Plays {P} meld name pass seat = MatchOption seat.doing (Fits meld name.limits pass.seen seat.own) (HasStood meld name seat.own pass)

-- the pass is of these words, and each rank sits so
pub record IsPlay {P : Type 0} (meld : P → P → P) (name : Over P) (pass : Sight P) (seats : List (Playing P)) : Type 0 where
  pub of : IsView meld (view_at name pass)
  pub sits : AllByRecursion (Plays meld name pass) seats
