-- The look of a call, and how the call goes on after it.
use Rattle.std.specs.Prelude.{◌≡◌, ◌≤◌, ℕ, Bool, [], Some, None, IsFalse}
use Rattle.ulfm_model.specs.declared.{call.Call.{Call}, event.Caller.TheVariants.{Rank}}
use Rattle.ulfm_model.specs.{Answers.{first_refusal, refusal_of, traits_of}, History.{History, IsLegal, failures, has}}
use Rattle.ulfm_model.specs.Records.{Fits, Held, Moment, Record, held_at}
use Rattle.ulfm_model.specs.{Runs.{Did}, Terms.{comm_of, tests_of}}
use Rattle.ulfm_comm.specs.Local.{Frame, Local}

-- the rank wasn't refused for good before, its look didn't find it declared, and of its record only what it has seen is new
pub record Looked {P : Type 0} (alone : Bool) (before look : History P) (old mid : Record) : Type 0 where
  pub in_use : IsFalse old.refused
  pub did : Did alone [] before look
  pub not_declared : IsFalse (has (failures look) old.number)
  pub record_is : mid ≡ record old { seen = failures look }

-- what a rank holds since a look: of this communicator its record says the same as then, and it fits what the look found
pub record HoldsSince {P : Type 0} (by : Frame P) (c : ℕ) (x : Held) (start : Moment P) (own : Record) : Type 0 where
  pub look : History P
  pub looked : Looked by.alone start.seen look start.own own
  pub fits : Fits by.meld by.limits look own
  pub held : held_at own c ≡ Some x

-- The call goes on after its look, on a communicator that its rank holds and by a record that doesn't refuse it; since the look
-- there were others' events alone.
pub record HasLooked {P : Type 0} (by : Frame P) (asked : Call P) (start now : Moment P) : Type 0 where
  pub look : History P
  pub looked : Looked by.alone start.seen look start.own now.own
  pub legal : IsLegal by.meld by.limits look
  pub fits : Fits by.meld by.limits look now.own
  pub x : Held
  pub held : held_at now.own (comm_of asked) ≡ Some x
  pub passed : refusal_of start.own asked ≡ None
  pub waited : Did by.alone [] look now.seen

-- the look of a call has just ended, and didn't find its rank declared
pub record JustLooked {P : Type 0} (meld : P → P → P) (alone : Bool) (asked : Call P) (start now : Local P) : Type 0 where
  pub fits : Fits meld start.view.words.limits start.view.pass.seen start.own
  pub mine : (traits_of asked).by ≡ Rank start.own.number
  pub onward : start.view.pass.steps ≤ now.view.pass.steps
  pub looked : Looked alone start.view.pass.seen now.view.pass.seen start.own now.own

-- the record doesn't refuse the call, on the communicator that the rank holds
pub record Passes {P : Type 0} (own : Record) (asked : Call P) : Type 0 where
  pub x : Held
  pub held : held_at own (comm_of asked) ≡ Some x
  pub passed : first_refusal (tests_of own x asked) ≡ None
