-- Tests that compute: which event may be a call's own. That each decides what the definitions say is proved.
use Rattle.std.specs.Prelude.{ℕ, ◌==◌, Bool, true, false, not, ◌&&◌, ◌||◌, List, Option, Some, None, is_some}
use Rattle.ulfm_model.specs.declared.{call.Call.{Call}, call.Request.{Request}, event.Caller.{Caller}, event.Event.{Event}}
use Rattle.ulfm_model.specs.Answers.{comm_of, refusal_of}
use Rattle.ulfm_model.specs.History.{has}
use Rattle.ulfm_model.specs.Records.{Held, Record, held_at}
use Rattle.ulfm_model.specs.Traces.{Traced, Under, call_by, found_by, record_in}

-- whether an event marks, in round k, a member that the look found declared
abbrev pub marks_test : {P : Type 0} → List ℕ → Held → ℕ → Event P → Bool
marks_test look x k (Event.Mark c l r mark) = (c == x.comm) && ((l == k) && (has look r && has x.group r))
marks_test look x k _ = false

-- whether an event makes a communicator of this round
abbrev pub makes_test : {P : Type 0} → ℕ → ℕ → Event P → Bool
makes_test c k (Event.Spawn j d l) = (d == c) && (l == k)
makes_test c k _ = false

-- whether an event is a contribution of a rank to a round
abbrev pub settles_test : {P : Type 0} → ℕ → ℕ → ℕ → Event P → Bool
settles_test c k r (Event.Settle d l s given) = (d == c) && ((l == k) && (s == r))
settles_test c k r _ = false

-- whether an event is a rank's arrival in a round
abbrev pub arrives_test : {P : Type 0} → ℕ → ℕ → ℕ → Event P → Bool
arrives_test c k r (Event.Arrive d l s) = (d == c) && ((l == k) && (s == r))
arrives_test c k r _ = false

-- whether an event revokes a communicator
abbrev pub revokes_test : {P : Type 0} → ℕ → Event P → Bool
revokes_test c (Event.Revoke d) = d == c
revokes_test c _ = false

-- whether the poll of a request may add an event
abbrev pub poll_test : {P : Type 0} → List ℕ → Held → Option Request → Event P → Bool
poll_test look x (Some (Request.Agree k)) event = marks_test look x k event
poll_test look x (Some (Request.Shrink k)) event = marks_test look x k event || makes_test x.comm k event
poll_test look x _ event = false

-- whether a call of rank r may add an event, on a communicator that the rank holds
abbrev pub adds_test : {P : Type 0} → List ℕ → ℕ → Held → Call P → Event P → Bool
adds_test look r x (Call.Agree rank c value) event = settles_test x.comm x.next_agreement r event
adds_test look r x (Call.Shrink rank c) event = settles_test x.comm x.next_agreement r event
adds_test look r x (Call.Barrier rank c) event = arrives_test x.comm x.next_barrier r event
adds_test look r x (Call.Poll rank c) event = poll_test look x x.request event
adds_test look r x (Call.Revoke rank c) event = revokes_test x.comm event
adds_test look r x _ event = false

-- the same, by what the rank holds
abbrev pub adds_on_test : {P : Type 0} → List ℕ → ℕ → Option Held → Call P → Event P → Bool
adds_on_test look r None asked event = false
adds_on_test look r (Some x) asked event = adds_test look r x asked event

-- whether an event may be the call's own
abbrev pub own_test : {P : Type 0} → List ℕ → Record → Call P → Event P → Bool
own_test look old asked event =
    not (has look old.number) && (not (is_some (refusal_of old asked)) && adds_on_test look old.number (held_at old (comm_of asked)) asked event)

-- whether a look is due, by the rank's record and the look that was made
abbrev pub due_test : Option Record → Option ℕ → Bool
due_test None look = false
due_test (Some own) look = not (is_some look) && not own.refused

-- whether an event is one that a rank may add, by its call and its record
abbrev pub own_call_test : {P : Type 0} → Traced P → Option (Under P) → Option Record → Event P → Bool
own_call_test now None own event = false
own_call_test now (Some u) None event = false
own_call_test now (Some u) (Some own) event = is_some u.look && own_test (found_by now u) own u.asked event

-- whether an event is one that its caller may add
abbrev pub own_by_test : {P : Type 0} → Traced P → Caller → Event P → Bool
own_by_test now Caller.Outside event = true
own_by_test now (Caller.Rank r) event = own_call_test now (call_by now (Caller.Rank r)) (record_in now r) event
