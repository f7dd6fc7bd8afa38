-- Calls of ranks at their linearization points: what a reply to one is judged by.
use Rattle.std.specs.Prelude.{ℕ, List}
use Rattle.ulfm_model.specs.declared.{event.Event.{Event}, limits.Limits.{Limits}}
use Rattle.ulfm_model.specs.{Answers.{AtPoint}, Records.{Record}}
use Rattle.ulfm_model.specs.Kept.{record_of}
use Rattle.ulfm_judge.specs.declared.polls.View.{View as Tabled}
use Rattle.ulfm_numbers.specs.{Seen.{Seen, seen_of}, Telling.{seen_at}}

-- a rank's call at its linearization point: the limits of its world, the record of the rank, whom the call's look found declared, what the history
-- says at the point, and the call's own events
pub record CallAt (P : Type 0) : Type 0 where
  pub limits : Limits
  pub caller : Record
  pub look : List ℕ
  pub seen : Seen P
  pub own : List (Event P)

-- such a call, by the view that a reply to it rests on
abbrev pub call_of : {P : Type 0} → Limits → AtPoint P → Record → CallAt P
call_of limits view old = record { limits = limits; caller = old; look = view.look; seen = seen_of limits.ranks view.history; own = view.own }

-- and by the tables
abbrev pub call_at : {P A : Type 0} {g : _} {k : _} → Tabled P A g k → CallAt P
call_at view = record {
  limits = view.limits;
  caller = record_of view.limits view.caller.now;
  look = view.look.now;
  seen = seen_at view.numbers.now view.point;
  own = view.own.now;
}
