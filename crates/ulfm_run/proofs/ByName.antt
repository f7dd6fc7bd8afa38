-- Which step of a call tells a line.
use Rattle.std.proofs.Common.{◌≡◌, ◌⊎◌, ℕ, true, false, List, [], ◌∷◌, ◌++◌, length, Option, Some, None, refl, ap, sym, ◌∙◌, subst, arith, append-nil, length-append, inl, inr}
use Rattle.std.specs.Prelude.{slice_get}
use Rattle.ulfm_model.specs.declared.call.Call.TheVariants as call
use Rattle.ulfm_model.specs.declared.{call.Call.{Call}, call.Request.{Request}, call.Request.TheVariants.{Agree, Barrier, Shrink}, contribution.Offer.{Offer}, event.Caller.TheVariants.{Rank}, event.Entry.{Entry}, event.Event.{Event}, reply.Reply.{Reply}}
use Rattle.ulfm_model.specs.declared.step_name.StepName.TheVariants as step
use Rattle.ulfm_model.specs.declared.step_name.StepName.{StepName}
use Rattle.ulfm_model.specs.{Answers.{CallAdds, PollAdds}, History.{History, entries_by}, Records.{Held, Record}, Runs.{Did}}
use Rattle.ulfm_words.specs.Steps.{Sight, Over as Named, view_at}
use Rattle.ulfm_words.proofs.Trails.{did_quiet}
use Rattle.ulfm_comm.specs.{Exchange.{StartsWith}, Phase.{StandsAt, is_looking, next_step}, Step.{Adds, Makes, StepAdds}}
use Rattle.ulfm_comm.specs.declared.phases.phase.{Phase.{Phase}, Phase.TheVariants.{Over, Begun, Looking, Spreading, Settling, Arriving, Revoking, Asking, Peeking, Marking, Reading, ReadingOn, Spawning, Waiting, Checking}}
use Rattle.ulfm_comm.specs.Local.{local}
use Rattle.ulfm_model.specs.Follows.{step_of}
use Rattle.ulfm_run.proofs.{ByPhase.{in_look}, Stepped.{did_is}}
use Rattle.ulfm_comm.specs.Prepared.{Prepared}

-- what stands behind a history is known by it
pub get_last : {E : Type 0} (xs : List E) (x : E) → slice_get (xs ++ x ∷ []) (length xs) ≡ Some x
get_last [] x = refl
get_last (y ∷ xs) x = get_last xs x

same_last : {E : Type 0} (xs : List E) (x y : E) → xs ++ x ∷ [] ≡ xs ++ y ∷ [] → x ≡ y
same_last xs x y same =
    let is : Some x ≡ Some y = sym (get_last xs x) ∙ (ap (λ h. slice_get h (length xs)) same ∙ get_last xs y) in cc is

-- nothing comes where nothing is added
none_came : {P : Type 0} (entry : Entry P) (x y : History P) → x ++ entry ∷ [] ≡ y → y ≡ x → ⊥
none_came entry x y added same = omega (arith, ap length added, ap length same, length-append x (entry ∷ []))

-- a start adds its contribution
started : {P : Type 0} (old : Record) (x y : Held) (request : Request) (offer : Offer P) (look : List ℕ) (r : ℕ) (event : Event P) (asked : Call P) → StartsWith asked old x request offer → CallAdds look r y asked event
    → Some step.Settle ≡ step_of event
started old x y request offer look r event (call.Agree rank c value) starts adds = ap step_of (sym adds.1)
started old x y request offer look r event (call.Shrink rank c) starts adds = ap step_of (sym adds.1)
started old x y request offer look r event (call.Fail rank) starts adds = absurd starts
started old x y request offer look r event (call.GetFailed rank c) starts adds = absurd starts
started old x y request offer look r event (call.FailureGetAcked rank c) starts adds = absurd starts
started old x y request offer look r event (call.Ack rank c count) starts adds = absurd starts
started old x y request offer look r event (call.FailureAck rank c) starts adds = absurd starts
started old x y request offer look r event (call.Barrier rank c) starts adds = absurd starts
started old x y request offer look r event (call.Poll rank c) starts adds = absurd starts
started old x y request offer look r event (call.Revoke rank c) starts adds = absurd starts
started old x y request offer look r event (call.IsRevoked rank c) starts adds = absurd starts
started old x y request offer look r event (call.Free rank c) starts adds = absurd starts

-- a poll adds marks, and what says no step
polled : {P : Type 0} (look : List ℕ) (x : Held) (event : Event P) (n : StepName) (request : Option Request) → PollAdds look x request event → step_of event ≡ Some n → Some step.Mark ≡ Some n
polled look x event n None adds is = absurd adds
polled look x event n (Some (Agree k)) (s, mark, same, seen, among) is = ap step_of (sym same) ∙ is
polled look x event n (Some (Shrink k)) (inl (s, mark, same, seen, among)) is = ap step_of (sym same) ∙ is
polled look x event n (Some (Shrink k)) (inr (j, same)) is = absurd (cc (ap step_of same, is))
polled look x event n (Some (Barrier k)) adds is = absurd adds

-- and no mark where its look found nobody
polled_blind : {P : Type 0} (x : Held) (event : Event P) (n : StepName) (request : Option Request) → PollAdds [] x request event → step_of event ≡ Some n → ⊥
polled_blind x event n None adds is = adds
polled_blind x event n (Some (Agree k)) (s, mark, same, seen, among) is = absurd (cc seen)
polled_blind x event n (Some (Shrink k)) (inl (s, mark, same, seen, among)) is = absurd (cc seen)
polled_blind x event n (Some (Shrink k)) (inr (j, same)) is = absurd (cc (ap step_of same, is))
polled_blind x event n (Some (Barrier k)) adds is = adds

-- the event that came is the one that the step adds
makes_it : {P : Type 0} (look : List ℕ) (own : Record) (asked : Call P) (reply : Option (Reply P)) (x y : History P) (event : Event P) → Adds true look own asked reply x y
    → x ++ record { by = Rank own.number; event = event } ∷ [] ≡ y → Makes look own asked reply event
makes_it {P} look own asked reply x y event adds added = go adds.few
  where
    came : x ++ entries_by (Rank own.number) adds.events ≡ y
    came = did_is (entries_by (Rank own.number) adds.events) x y adds.did

    go : (adds.events ≡ []) ⊎ ((e : Event P) × (adds.events ≡ e ∷ []) × Makes look own asked reply e) → Makes look own asked reply event
    go (inl none) =
        let same : y ≡ x = sym came ∙ (ap (λ es. x ++ entries_by (Rank own.number) es) none ∙ append-nil x) in
        absurd (none_came (record { by = Rank own.number; event = event }) x y added same)
    go (inr (e, one, makes)) =
        let both : x ++ record { by = Rank own.number; event = e } ∷ [] ≡ x ++ record { by = Rank own.number; event = event } ∷ [] =
        ap (λ es. x ++ entries_by (Rank own.number) es) (sym one) ∙ (came ∙ sym added) in
        let same : e ≡ event = ap (λ (w : Entry P). w.event) (same_last x (record { by = Rank own.number; event = e }) (record { by = Rank own.number; event = event }) both) in
        subst (Makes look own asked reply) same makes

-- the end of a look is told by a load of the list
pub look_named : {P : Type 0} (phase : Phase P) → is_looking phase ≡ true → next_step phase ≡ Some step.List
look_named {P} = in_look (λ (phase : Phase P). next_step phase ≡ Some step.List) refl refl

-- the event of a step is told by the one that the call makes next, where it says by which
module _ {P : Type 0} (meld : P → P → P) (name : Named P) (asked : Call P) (old : Record) (before : Sight P) (prepared : Prepared) (was : Record) (stood : Sight P) (own : Record) (reply : Option (Reply P)) (x y : History P) (event : Event P)
    (added : x ++ record { by = Rank own.number; event = event } ∷ [] ≡ y) (n : StepName) (is : step_of event ≡ Some n) where
  abbrev Here : Phase P → Type 0
  Here phase = StandsAt meld false asked (local old (view_at name before)) phase prepared (local was (view_at name stood))

  quiet : (phase : Phase P) → Did true [] x y → next_step phase ≡ Some n
  quiet phase did = absurd (none_came (record { by = Rank own.number; event = event }) x y added (did_quiet true x y did refl))

  made : (look : List ℕ) → Adds true look own asked reply x y → Makes look own asked reply event
  made look adds = makes_it look own asked reply x y event adds added

  pub event_named : (phase : Phase P) → Here phase → StepAdds true own asked phase reply x y → next_step phase ≡ Some n
  event_named Over at did = quiet Over did
  event_named Begun at did = quiet Begun did
  event_named Looking at did = quiet Looking did
  event_named (Spreading request offer) at did = quiet (Spreading request offer) did
  event_named (Settling request offer) at adds =
      let m = made own.seen adds in started old at.0.x m.x request offer own.seen own.number event asked at.1 m.adds ∙ is
  event_named (Arriving round) at adds =
      let m = made own.seen adds in
      let one = subst (λ (a : Call P). CallAdds own.seen own.number m.x a event) at.1 m.adds in ap step_of (sym one) ∙ is
  event_named Revoking at adds =
      let m = made own.seen adds in
      let one = subst (λ (a : Call P). CallAdds own.seen own.number m.x a event) at.1 m.adds in ap step_of (sym one) ∙ is
  event_named Asking at did = quiet Asking did
  event_named (Peeking peek shrinks) at did = quiet (Peeking peek shrinks) did
  event_named (Marking marks blocks shrinks) at adds =
      let m = made own.seen adds in
      polled own.seen m.x event n m.x.request (subst (λ (a : Call P). CallAdds own.seen own.number m.x a event) at.0 m.adds) is
  event_named (Reading reading shrinks) at did = quiet (Reading reading shrinks) did
  event_named (ReadingOn on made) at did = quiet (ReadingOn on made) did
  event_named (Spawning append context reach) at adds =
      let m = made [] adds in
      absurd (polled_blind m.x event n m.x.request (subst (λ (a : Call P). CallAdds [] own.number m.x a event) at.0 m.adds) is)
  event_named (Waiting arrivals) at did = quiet (Waiting arrivals) did
  event_named (Checking missing) at did = quiet (Checking missing) did
