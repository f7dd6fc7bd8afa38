-- What one step of a call adds.
use Rattle.std.specs.List.{slice_index}
use Rattle.std.proofs.Common.{◌≡◌, ℕ, ◌<◌, length, Bool, true, false, List, [], ◌∷◌, Option, Some, Result, Ok, Err, refl, ap, sym, ◌∙◌, subst, inl, inr, IsTrue}
use Rattle.std.proofs.Common.{MatchBool}
use Rattle.ulfm_words.specs.declared.accesses.Settled.{Settled}
use Rattle.ulfm_model.specs.declared.call.Call.TheVariants as call
use Rattle.ulfm_model.specs.declared.{call.Call.{Call}, call.Request.{Request}, contribution.Contribution.{Contribution}, contribution.MarkCount.{MarkCount}}
use Rattle.ulfm_model.specs.declared.{contribution.Offer.{Offer}}
use Rattle.ulfm_model.specs.declared.{event.Caller.TheVariants.{Rank}, event.Event.{Event}, event.Event.TheVariants.{Arrive, Mark, Revoke, Settle}}
use Rattle.ulfm_model.specs.declared.{limits.Limits.{Limits}, reply.Reply.{Reply}, reply.Reply.TheVariants.{AlreadyRevoked, Revoked, Started}}
use Rattle.ulfm_model.specs.{Answers.{CallAdds, MarksDeclared, PollAdds, traits_of}, History.{History, IsLegal, entries_by, failures, has}}
use Rattle.ulfm_model.specs.{Records.{Fits, Held, Record, held_at}, Runs.{Did}}
use Rattle.ulfm_model.specs.Terms.{comm_of}
use Rattle.ulfm_words.specs.Steps.{IsAdded, IsView, Over as Named, Sight, view_at}
use Rattle.ulfm_model.proofs.Stable.{fits_stays}
use Rattle.ulfm_model.specs.Records.{moment}
use Rattle.ulfm_words.proofs.Trails.{did_added, did_prefix, did_wait}
use Rattle.ulfm_steps.proofs.Reading.{has_at}
use Rattle.ulfm_steps.specs.Marks.{MarksOnce}
use Rattle.ulfm_steps.specs.declared.{blocks.MarkAll.{MarkAll}, blocks.RoundBlocks.{RoundBlocks}}
use Rattle.ulfm_comm.specs.{Calls.{reply_of}, Requests.{agreement}, Step.{Adds, Makes, StepAdds}, Look.{HasLooked}, Revokes.{revoked}, Agreement.{IsMarking}}
use Rattle.ulfm_comm.specs.Phase.{Stands}
use Rattle.ulfm_comm.specs.Exchange.{Settles, start_leaves, start_result}
use Rattle.ulfm_comm.specs.declared.phases.phase.Phase.{Phase}
use Rattle.ulfm_comm.specs.declared.phases.phase.Phase.TheVariants.{Over, Begun, Looking, Spreading, Settling, Arriving, Revoking, Asking, Peeking, Marking, Reading}
use Rattle.ulfm_comm.specs.declared.phases.phase.Phase.TheVariants.{ReadingOn, Spawning, Waiting, Checking}
use Rattle.ulfm_comm.proofs.{Exchange.{fits_now, found_same, is_starting, number_is, passes_tests}, Holding.{comm_is}}
use Rattle.ulfm_comm.specs.Local.{frame, local}
use Rattle.ulfm_comm.specs.Prepared.{Prepared}

module _ {P : Type 0} (quiet : Bool) (look : List ℕ) (own : Record) (asked : Call P) (reply : Option (Reply P)) (old new : History P) where
  -- nothing
  pub adds_none : Did quiet [] old new → Adds quiet look own asked reply old new
  adds_none did = record { events = []; did = did; few = inl refl }

  -- one event
  pub adds_one : (event : Event P) → Makes look own asked reply event → Did quiet (entries_by (Rank own.number) (event ∷ [])) old new
      → Adds quiet look own asked reply old new
  adds_one event makes did = record { events = event ∷ []; did = did; few = inr (event, refl, makes) }

-- a start leaves what was seen
pub start_keeps : (own : Record) (c : ℕ) (request : Request) (settled : Result (Unit {0}) Settled)
    → (start_leaves own c request settled).seen ≡ own.seen
start_keeps own c request (Ok done) = refl
start_keeps own c request (Err Settled.Marked) = refl
start_keeps own c request (Err Settled.Contributed) = refl

module _ {P : Type 0} (meld : P → P → P) (quiet : Bool) (name : Named P) (asked : Call P) (request : Request) (offer : Offer P) (prepared : Prepared) (old : Record)
    (before : Sight P) (own : Record) (now : Sight P) (after : History P)
    (stood : Stands meld false (local old (view_at name before)) (record { asked = asked; phase = Settling request offer; prepared = prepared }) (local own (view_at name now))) (x : Held)
    (held : held_at own (comm_of asked) ≡ Some x) where
  -- the rank's contribution is one that its call may add
  may_settle : (given : Contribution P) → CallAdds own.seen own.number x asked (Settle x.comm x.next_agreement own.number given)
  may_settle given =
      let p = stood.at.0 in
      let has = is_starting meld name.limits asked old p.x request offer (passes_tests meld name.limits false asked old before.seen own now.seen p)
      stood.at.1 in
      subst (λ (y : Held). CallAdds own.seen own.number y asked (Settle y.comm y.next_agreement own.number given))
      (found_same meld name.limits false asked old before.seen own now.seen p x held)
      (subst (λ n. CallAdds own.seen n p.x asked (Settle p.x.comm p.x.next_agreement n given))
      (sym (number_is meld name.limits false asked old before.seen own now.seen p)) (has.adds own.seen given))

  -- the exchange of a contribution
  pub adds_settled : (settled : Result (Unit {0}) Settled) → Settles quiet now.seen after own x offer settled
      → Adds quiet own.seen own asked (Some (reply_of (λ _. Started) (start_result settled))) now.seen after
  adds_settled (Ok done) gave =
      adds_one quiet own.seen own asked (Some Started) now.seen after (Settle x.comm x.next_agreement own.number gave.given) (record {
        x = x;
        held = held;
        adds = may_settle gave.given;
        wins = λ starts. inl refl;
      }) gave.did
  adds_settled (Err put) was = adds_none quiet own.seen own asked (Some (reply_of (λ _. Started) (start_result (Err put)))) now.seen after was.did

-- the exchange of an arrival, and of a revocation
module _ {P : Type 0} (meld : P → P → P) (quiet : Bool) (limits : Limits) (asked : Call P) (old : Record) (before : History P) (own : Record)
    (now after : History P) (legal : IsLegal meld limits now)
    (p : HasLooked (frame meld limits false) asked (moment old before) (moment own now)) where
  named : p.x.comm ≡ comm_of asked
  named = comm_is meld limits now own (comm_of asked) p.x (fits_now meld limits false asked old before own now p legal) p.held

  pub adds_arrived : (rank round : ℕ) → asked ≡ call.Barrier rank (comm_of asked) → round ≡ p.x.next_barrier → IsAdded quiet (record {
    by = Rank own.number;
    event = Arrive (comm_of asked) round own.number;
  }) now after
      → Adds quiet own.seen own asked (Some Started) now after
  adds_arrived rank round is round_is added =
      let same : Arrive (comm_of asked) round own.number ≡ Arrive p.x.comm p.x.next_barrier own.number = ap (λ c. Arrive c round own.number) (sym named)
      ∙ ap (λ k. Arrive p.x.comm k own.number) round_is in
      adds_one quiet own.seen own asked (Some Started) now after (Arrive (comm_of asked) round own.number)
      (record {
        x = p.x;
        held = p.held;
        adds = subst (λ (a : Call P). CallAdds own.seen own.number p.x a (Arrive (comm_of asked) round own.number)) (sym is) same;
        wins = λ starts. inl refl;
      })
      (did_added quiet _ now after added)

  pub adds_revoked : (rank : ℕ) → asked ≡ call.Revoke rank (comm_of asked) → (won : Bool)
      → MatchBool won (IsAdded quiet (record { by = Rank own.number; event = Revoke (comm_of asked) }) now after) (Did quiet [] now after)
      → Adds quiet own.seen own asked (Some (revoked won)) now after
  adds_revoked rank is true added =
      adds_one quiet own.seen own asked (Some Revoked) now after (Revoke (comm_of asked))
      (record {
        x = p.x;
        held = p.held;
        adds = subst (λ (a : Call P). CallAdds own.seen own.number p.x a (Revoke (comm_of asked))) (sym is) (ap Revoke (sym named));
        wins = λ starts. inr refl;
      })
      (did_added quiet _ now after added)
  adds_revoked rank is false did = adds_none quiet own.seen own asked (Some AlreadyRevoked) now after did

-- the exchange of a mark
module _ {P : Type 0} (meld : P → P → P) (quiet : Bool) (name : Named P) (asked : Call P) (marks : MarkAll) (blocks : RoundBlocks P) (shrinks : Bool)
    (prepared : Prepared) (old : Record) (before : Sight P) (own : Record) (now : Sight P) (after : History P) (of : IsView meld (view_at name now))
    (stood : Stands meld false (local old (view_at name before)) (record {
      asked = asked;
      phase = Marking marks blocks shrinks;
      prepared = prepared;
    }) (local own (view_at name now))) (reply : Option (Reply P)) where
  abbrev marking : IsMarking (frame meld name.limits false) (comm_of asked) shrinks marks blocks (moment old before.seen) (moment own now.seen)
  marking = stood.at.1

  marking_seen : own.seen ≡ failures marking.since.look
  marking_seen = ap (λ (w : Record). w.seen) marking.since.looked.record_is

  mine : marks.rank ≡ own.number
  mine = marking.mine ∙ sym (ap (λ (w : Record). w.number) marking.since.looked.record_is)

  marking_fits : Fits meld name.limits now.seen own
  marking_fits =
      let did = did_wait false (entries_by (Rank old.number) marking.has_marked.own) marking.since.look marking.marked now.seen marking.has_marked.did
      marking.waited in
      fits_stays meld name.limits marking.since.look now.seen own (did_prefix false (entries_by (Rank old.number) marking.has_marked.own) marking.since.look now.seen did)
      of.legal marking.since.fits

  more : marks.next < length own.seen
  more = subst (λ s. marks.next < length s) (sym marking_seen) stood.at.2

  there : marking.x.comm ≡ marks.comm
  there = comm_is meld name.limits now.seen own (comm_of asked) marking.x marking_fits marking.since.held ∙ sym marking.there

  a_mark : (mark : MarkCount) → MarksDeclared {P = P} own.seen marking.x marks.round (Mark marks.comm marks.round (slice_index own.seen marks.next) mark)
  a_mark mark = (
    slice_index own.seen marks.next,
    mark,
    ap (λ c. Mark c marks.round (slice_index own.seen marks.next) mark) (sym there),
    has_at own.seen marks.next 0 more,
    subst (λ s. IsTrue (has marking.x.group (slice_index s marks.next))) (sym marking_seen) (marking.at.member stood.at.2),
  )

  by_request : (b : Bool) (mark : MarkCount) → PollAdds {P = P} own.seen marking.x (Some (agreement b marks.round))
      (Mark marks.comm marks.round (slice_index own.seen marks.next) mark)
  by_request false mark = a_mark mark
  by_request true mark = inl (a_mark mark)

  pub adds_marked : MarksOnce quiet marks.rank marks.comm marks.round (slice_index own.seen marks.next) now.seen after
      → Adds quiet own.seen own asked reply now.seen after
  adds_marked (inl none) = adds_none quiet own.seen own asked reply now.seen after none
  adds_marked (inr (mark, added)) =
      let event : Event P = Mark marks.comm marks.round (slice_index own.seen marks.next) mark in
      adds_one quiet own.seen own asked reply now.seen after event
      (record {
        x = marking.x;
        held = marking.since.held;
        adds = subst (λ (a : Call P). CallAdds own.seen own.number marking.x a event) (sym stood.at.0)
            (subst (λ request. PollAdds own.seen marking.x request event) (sym marking.open_is) (by_request shrinks mark));
        wins = λ no_poll. absurd (cc (no_poll, ap (λ (a : Call P). (traits_of a).polls) stood.at.0));
      })
      (subst (λ n. Did quiet (entries_by (Rank n) (event ∷ [])) now.seen after) mine (did_added quiet _ now.seen after added))

-- one step adds own events alone
pub step_did : {P : Type 0} (quiet : Bool) (own : Record) (asked : Call P) (reply : Option (Reply P)) (old new : History P) (phase : Phase P)
    → StepAdds quiet own asked phase reply old new
    → (events : List (Event P)) × Did quiet (entries_by (Rank own.number) events) old new
step_did quiet own asked reply old new Over adds = ([], adds)
step_did quiet own asked reply old new Begun adds = ([], adds)
step_did quiet own asked reply old new Looking adds = ([], adds)
step_did quiet own asked reply old new (Spreading request offer) adds = ([], adds)
step_did quiet own asked reply old new (Settling request offer) adds = (adds.events, adds.did)
step_did quiet own asked reply old new (Arriving round) adds = (adds.events, adds.did)
step_did quiet own asked reply old new Revoking adds = (adds.events, adds.did)
step_did quiet own asked reply old new Asking adds = ([], adds)
step_did quiet own asked reply old new (Peeking peek shrinks) adds = ([], adds)
step_did quiet own asked reply old new (Marking marks blocks shrinks) adds = (adds.events, adds.did)
step_did quiet own asked reply old new (Reading reading shrinks) adds = ([], adds)
step_did quiet own asked reply old new (ReadingOn on made) adds = ([], adds)
step_did quiet own asked reply old new (Spawning append context reach) adds = (adds.events, adds.did)
step_did quiet own asked reply old new (Waiting arrivals) adds = ([], adds)
step_did quiet own asked reply old new (Checking missing) adds = ([], adds)
