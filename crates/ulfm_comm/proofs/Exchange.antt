-- The one step of a start or of a question, after its look and after what others did since.
use Rattle.std.proofs.Common.{◌≡◌, ℕ, ◌+◌, ◌<◌, ◌≤◌, Bool, true, false, List, [], ◌∷◌, nat_le, is_some, Some, None, Result, Ok, Err, refl, ap, sym, ◌∙◌, subst}
use Rattle.std.proofs.Common.{arith, inr, IsTrue, MatchBool}
use Rattle.std.proofs.lemmas.Bool.Decides.{nat_tests}
use Rattle.std.specs.List.{list_any}
use mathlib.Core.List.{IsPrefix}
use Rattle.ulfm_model.specs.declared.call.Call.TheVariants as call
use Rattle.ulfm_model.specs.declared.{call.Call.{Call}, call.Request.{Request}, call.Request.TheVariants.{Barrier}, contribution.Contribution.{Contribution}}
use Rattle.ulfm_model.specs.declared.{contribution.Offer.{Offer}}
use Rattle.ulfm_model.specs.declared.{event.Caller.TheVariants.{Rank}, event.Entry.{Entry}, event.Event.{Event}}
use Rattle.ulfm_model.specs.declared.{event.Event.TheVariants.{Arrive, Revoke, Settle}, limits.Limits.{Limits}, refusal.Refusal.{Refusal}}
use Rattle.ulfm_model.specs.declared.{refusal.Refusal.TheVariants.{Busy, RoundsUsedUp, ShrinkOpen, Twice}, reply.Reply.TheVariants.{Refused, Standing, Started}}
use Rattle.ulfm_model.specs.Answers.{CallAdds, Replies, StartReplies, AtPoint, first_refusal, opened, refusal_on, traits_of}
use Rattle.ulfm_model.specs.{History.{History, IsLegal, failures, has_arrived, is_revoked}, Records.{Fits, Held, Record, held_at, is_shrink, with_held}}
use Rattle.ulfm_model.specs.{Runs.{Did}, Words.{MayOpen}}
use Rattle.ulfm_model.specs.Terms.{comm_of, tests_of}
use Rattle.ulfm_model.proofs.Stable.{fits_stays}
use Rattle.ulfm_model.specs.Records.{moment}
use Rattle.ulfm_words.specs.{Places.{IsCell}, Steps.{IsAdded, IsView, Over, Sight}, Tries.{MayArrive, MayEnd}}
use Rattle.ulfm_words.proofs.Trails.{added_after, did_added, did_after, did_prefix}
use Rattle.ulfm_words.specs.Steps.{view_at}
use Rattle.ulfm_words.specs.declared.accesses.Settled.{Settled}
use Rattle.ulfm_steps.specs.Settles.{IsSpreadIn, WingStands}
use Rattle.ulfm_model.specs.Kept.{HasNext}
use Rattle.ulfm_comm.proofs.Stands.{looked_lasts}
use Rattle.ulfm_comm.specs.{Calls.{Linearizes, reply_of}, Phase.{Answered, Stands}, Look.{HasLooked}}
use Rattle.ulfm_comm.specs.Requests.{contributes}
use Rattle.ulfm_comm.specs.{Exchange.{StartsWith, Settles, start_leaves, start_result}, Step.{Walks}, Revokes.{revoked}}
use Rattle.ulfm_comm.specs.declared.phases.phase.Phase.TheVariants.{Settling, Spreading}
use Rattle.ulfm_comm.proofs.BarrierStart.{barrier_may_come, barrier_within, calls_entered, calls_entered_before}
use Rattle.ulfm_comm.proofs.{AmongOthers.{added_loosely, did_loosely, tried_loosely}, WholeCall.{held_before}}
use Rattle.ulfm_comm.proofs.Revokes.{calls_revoked, calls_standing, held_below, held_may_end}
use Rattle.ulfm_comm.proofs.Starts.{calls_spread, calls_started}
use Rattle.ulfm_comm.specs.Local.{frame, local}
use Rattle.ulfm_comm.specs.Prepared.{Prepared}

-- no test holds, so the first doesn't
passes_first : (test : Bool) (refusal : Refusal) (tests : List (Bool × Refusal)) → first_refusal ((test, refusal) ∷ tests) ≡ None
    → (test ≡ false) × (first_refusal tests ≡ None)
passes_first true refusal tests is = absurd (cc is)
passes_first false refusal tests is = (refl, is)

before_late : (rounds next : ℕ) → nat_le rounds next ≡ false → next < rounds
before_late rounds next is = grind (arith, nat_tests)

-- what a start of an agreement needs
pub record IsStarting {P : Type 0} (meld : P → P → P) (limits : Limits) (asked : Call P) (old : Record) (x : Held) (request : Request)
    (offer : Offer P) : Type 0 where
  pub no_poll : (traits_of asked).polls ≡ false
  pub starts : (traits_of asked).starts x ≡ Some request
  pub adds : (look : List ℕ) (given : Contribution P) → CallAdds look old.number x asked (Settle x.comm x.next_agreement old.number given)
  pub replies : (view : AtPoint P) → (reply : _) → StartReplies view old x offer reply → Replies meld limits view old x asked reply
  pub contributing : contributes asked ≡ true
  pub room : x.next_agreement < old.limits.rounds
  pub next : old.limits.rounds ≤ 4096 → HasNext request

-- it has it, where it begins this request with this offer
starting_with : {P : Type 0} {meld : P → P → P} {limits : Limits} {asked : Call P} {old : Record} {x : Held} {request began : Request} {offer mine : Offer P}
    → request ≡ began → offer ≡ mine → (traits_of asked).polls ≡ false → (traits_of asked).starts x ≡ Some began
    → ((look : List ℕ) (given : Contribution P) → CallAdds look old.number x asked (Settle x.comm x.next_agreement old.number given))
    → ((view : AtPoint P) → (reply : _) → StartReplies view old x mine reply → Replies meld limits view old x asked reply) → contributes asked ≡ true
    → x.next_agreement < old.limits.rounds → (old.limits.rounds ≤ 4096 → HasNext began) → IsStarting meld limits asked old x request offer
starting_with {old = old} {x = x} request_is offer_is no_poll starts adds replies contributing room next =
    record {
      no_poll = no_poll;
      starts = starts ∙ ap Some (sym request_is);
      adds = adds;
      replies = λ view reply is. replies view reply (subst (λ o. StartReplies view old x o reply) offer_is is);
      contributing = contributing;
      room = room;
      next = λ few. subst HasNext (sym request_is) (next few);
    }

-- it has it
pub is_starting : {P : Type 0} (meld : P → P → P) (limits : Limits) (asked : Call P) (old : Record) (x : Held) (request : Request) (offer : Offer P)
    → first_refusal (tests_of old x asked) ≡ None → StartsWith asked old x request offer
    → IsStarting meld limits asked old x request offer
is_starting meld limits (call.Agree rank c value) old x request offer passes starts =
    let late : Bool = nat_le old.limits.rounds (x.next_agreement + 1) in
    let others = passes_first (is_some x.request) Busy ((late, RoundsUsedUp) ∷ []) passes in
    let room : x.next_agreement + 1 < old.limits.rounds = before_late old.limits.rounds (x.next_agreement + 1) (passes_first late RoundsUsedUp [] others.1).0 in
    starting_with starts.0 starts.1 refl refl (λ look given. (given, refl)) (λ view reply is. is) refl (omega (arith, room)) (λ few. omega (arith, room, few))
is_starting meld limits (call.Shrink rank c) old x request offer passes starts =
    let late : Bool = nat_le old.limits.rounds x.next_agreement in
    let shrinking : Bool = list_any (λ y. is_shrink y.request) old.held in
    let others = passes_first (is_some x.request) Busy ((shrinking, ShrinkOpen) ∷ (late, RoundsUsedUp) ∷ []) passes in
    let rest = passes_first shrinking ShrinkOpen ((late, RoundsUsedUp) ∷ []) others.1 in
    let room : x.next_agreement < old.limits.rounds = before_late old.limits.rounds x.next_agreement (passes_first late RoundsUsedUp [] rest.1).0 in
    starting_with starts.0 starts.1 refl refl (λ look given. (given, refl)) (λ view reply is. is) refl room (λ few. omega (arith, room, few))
is_starting meld limits _ old x request offer passes starts = absurd starts

-- what is known of a call after its look, where others may have stepped since
module _ {P : Type 0} (meld : P → P → P) (limits : Limits) (alone : Bool) (asked : Call P) (old : Record) (before : History P) (own : Record) (now : History P)
    (p : HasLooked (frame meld limits alone) asked (moment old before) (moment own now)) where
  -- the record fits still
  pub fits_now : IsLegal meld limits now → Fits meld limits now own
  fits_now legal = fits_stays meld limits p.look now own (did_prefix alone [] p.look now p.waited) legal p.fits

  pub seen_is : own.seen ≡ failures p.look
  seen_is = ap (λ (r : Record). r.seen) p.looked.record_is

  pub number_is : own.number ≡ old.number
  number_is = ap (λ (r : Record). r.number) p.looked.record_is

  -- what is found of the communicator is what the look found
  pub found_same : (x : Held) → held_at own (comm_of asked) ≡ Some x → p.x ≡ x
  found_same x held = cc (held, p.held)

  -- the call's communicator is one of the world's, and may be revoked while it isn't
  pub asked_below : IsLegal meld limits now → MayOpen limits → comm_of asked < limits.comms
  asked_below legal may = held_below meld limits now own (comm_of asked) p.x (fits_now legal) p.held legal may

  pub asked_may_end : IsLegal meld limits now → MayEnd meld limits now (comm_of asked)
  asked_may_end legal = held_may_end meld limits now own (comm_of asked) p.x (fits_now legal) p.held

  -- no test of the record holds
  pub passes_tests : first_refusal (tests_of old p.x asked) ≡ None
  passes_tests = sym (ap (λ w. refusal_on old w asked) (held_before meld limits alone before p.look old own p.looked (comm_of asked) (Some p.x) p.held))
      ∙ p.passed

-- an exchange that was won or lost, after others' events
pub tried_after : {P : Type 0} (alone won : Bool) (e : _) (x y z : History P) → Did alone [] x y → MatchBool won (IsAdded alone e y z) (Did alone [] y z)
    → MatchBool won (IsAdded alone e x z) (Did alone [] x z)
tried_after alone true e x y z did outcome = added_after alone e x y z did outcome
tried_after alone false e x y z did outcome = did_after alone [] x y z did outcome

module _ {P : Type 0} (meld : P → P → P) (quiet : Bool) (name : Over P) (number : ℕ) (old new : Sight P) (of : IsView meld (view_at name new))
    (one : new.steps ≡ old.steps + 1) (cached : IsPrefix old.cached new.cached) where
  -- one step without an event
  pub walks_none : Did quiet [] old.seen new.seen → Walks meld quiet number (view_at name old) (view_at name new)
  walks_none did = record { of = of; own = []; did = did; onward = omega (arith, one); cached = cached }

  -- one exchange
  pub walks_tried : (won : Bool) (event : Event P) → MatchBool won (IsAdded quiet (record { by = Rank number; event = event }) old.seen new.seen)
      (Did quiet [] old.seen new.seen) → Walks meld quiet number (view_at name old) (view_at name new)
  walks_tried true event outcome = record {
    of = of;
    own = event ∷ [];
    did = did_added quiet _ old.seen new.seen outcome;
    onward = omega (arith, one);
    cached = cached;
  }
  walks_tried false event outcome = walks_none outcome

  -- the exchange of a contribution
  pub walks_settled : (own : Record) (x : Held) (offer : Offer P) (settled : Result (Unit {0}) Settled) → own.number ≡ number
      → Settles quiet old.seen new.seen own x offer settled → Walks meld quiet number (view_at name old) (view_at name new)
  walks_settled own x offer (Ok done) mine gave =
      record {
        of = of;
        own = Settle x.comm x.next_agreement own.number gave.given ∷ [];
        did = subst (λ n. Did quiet (record {
          by = Rank n;
          event = Settle x.comm x.next_agreement own.number gave.given;
        } ∷ []) old.seen new.seen) mine gave.did;
        onward = omega (arith, one);
        cached = cached;
      }
  walks_settled own x offer (Err put) mine was = walks_none was.did

-- what holds of an exchange where the words are alone holds among others' steps
settles_loosely : {P : Type 0} (alone quiet : Bool) → (IsTrue alone → IsTrue quiet)
    → (now after : History P) (own : Record) (x : Held) (offer : Offer P) (settled : Result (Unit {0}) Settled) → Settles quiet now after own x offer settled
    → Settles alone now after own x offer settled
settles_loosely alone quiet only now after own x offer (Ok done) gave =
    record {
      given = gave.given;
      did = did_loosely alone quiet only _ now after gave.did;
      stands = gave.stands;
      offer_is = gave.offer_is;
      known = gave.known;
      acked = gave.acked;
    }
settles_loosely alone quiet only now after own x offer (Err put) was = record { did = did_loosely alone quiet only [] now after was.did; stands = was.stands }

module _ {P : Type 0} (meld : P → P → P) (alone quiet : Bool) (only : IsTrue alone → IsTrue quiet) (name : Over P) (asked : Call P) (request : Request)
    (offer : Offer P) (prepared : Prepared) (old : Record) (before : Sight P) (own : Record) (now after : Sight P) (went : now.steps ≤ after.steps)
    (stood : Stands meld alone (local old (view_at name before)) (record { asked = asked; phase = Settling request offer; prepared = prepared }) (local own (view_at name now))) (x : Held)
    (held : held_at own (comm_of asked) ≡ Some x) where
  by_exchange : (settled : Result (Unit {0}) Settled) (new : Record) → IsView meld (view_at name after) → Settles quiet now.seen after.seen own x offer settled
      → new ≡ start_leaves own (comm_of asked) request settled
      → Linearizes meld alone asked (local old (view_at name before)) (reply_of (λ _. Started) (start_result settled)) (local new (view_at name after))
  by_exchange settled new of settles leaves =
      let p = stood.at.0 in
      let same = found_same meld name.limits alone asked old before.seen own now.seen p x held in
      let has = is_starting meld name.limits asked old p.x request offer (passes_tests meld name.limits alone asked old before.seen own now.seen p)
      stood.at.1 in
      calls_started meld alone name before (record now { seen = p.look }) after (omega (arith, stood.onward, went)) asked old own stood.fits p.looked p.x p.held
      p.passed now.seen p.waited offer request has.no_poll has.starts (has.adds (failures p.look)) has.replies has.contributing
      settled (start_result settled) new of
      (subst (λ y. Settles alone now.seen after.seen own y offer settled) (sym same)
      (settles_loosely alone quiet only now.seen after.seen own x offer settled settles)) refl leaves

  -- a start is answered as its exchange says
  pub start_answered : (settled : Result (Unit {0}) Settled) (new : Record) → IsView meld (view_at name after) → Settles quiet now.seen after.seen own x offer settled
      → new ≡ start_leaves own (comm_of asked) request settled
      → Answered meld alone asked (local old (view_at name before)) (reply_of (λ _. Started) (start_result settled)) (local new (view_at name after))
  start_answered (Ok done) new of settles leaves = record { ends = inr (by_exchange (Ok done) new of settles leaves); pending = λ is. absurd (cc is) }
  start_answered (Err Settled.Marked) new of settles leaves = record {
    ends = inr (by_exchange (Err Settled.Marked) new of settles leaves);
    pending = λ is. absurd (cc is);
  }
  start_answered (Err Settled.Contributed) new of settles leaves = record {
    ends = inr (by_exchange (Err Settled.Contributed) new of settles leaves);
    pending = λ is. absurd (cc is);
  }

-- the first exchange of a start of an agreement
module _ {P : Type 0} (meld : P → P → P) (alone quiet : Bool) (only : IsTrue alone → IsTrue quiet) (name : Over P) (asked : Call P) (request : Request)
    (offer : Offer P) (prepared : Prepared) (old : Record) (before : Sight P) (own : Record) (now after : Sight P) (went : now.steps ≤ after.steps)
    (stood : Stands meld alone (local old (view_at name before)) (record { asked = asked; phase = Spreading request offer; prepared = prepared }) (local own (view_at name now))) (x : Held)
    (held : held_at own (comm_of asked) ≡ Some x) (of : IsView meld (view_at name after)) (did : Did quiet [] now.seen after.seen) where
  -- where the wing stood before, the start is answered `twice`
  pub spread_before : WingStands (view_at name after) x.comm x.next_agreement own.number
      → Answered meld alone asked (local old (view_at name before)) (Refused Twice) (local own (view_at name after))
  spread_before stands =
      let p = stood.at.0 in
      let same = found_same meld name.limits alone asked old before.seen own now.seen p x held in
      let has = is_starting meld name.limits asked old p.x request offer (passes_tests meld name.limits alone asked old before.seen own now.seen p)
      stood.at.1 in
      record {
        ends = inr (calls_spread meld alone name before (record now { seen = p.look }) after (omega (arith, stood.onward, went)) asked old own stood.fits p.looked p.x
            p.held p.passed now.seen p.waited offer request has.no_poll has.starts (has.adds (failures p.look)) has.replies has.contributing of
            (did_loosely alone quiet only [] now.seen after.seen did)
            (subst (λ (z : Held). WingStands (view_at name after) z.comm z.next_agreement own.number) (sym same) stands));
        pending = λ is. absurd (cc is);
      }

  -- where it is set by this step, the rank contributes next
  pub spread_goes : IsSpreadIn (view_at name after) x.comm x.next_agreement own.number offer
      → Stands meld alone (local old (view_at name before)) (record { asked = asked; phase = Settling request offer; prepared = prepared }) (local own (view_at name after))
  spread_goes set =
      let p = stood.at.0 in
      let same = found_same meld name.limits alone asked old before.seen own now.seen p x held in
      record {
        fits = stood.fits;
        mine = stood.mine;
        onward = omega (arith, stood.onward, went);
        at = (
          looked_lasts meld name.limits alone old before.seen own now.seen after.seen (did_loosely alone quiet only [] now.seen after.seen did) of.legal asked p,
          stood.at.1,
          subst (λ (z : Held). IsSpreadIn (view_at name after) z.comm z.next_agreement own.number offer) (sym same) set,
        );
      }

-- the start of a barrier, among others' steps since its look
module _ {P : Type 0} (meld : P → P → P) (limits : Limits) (alone : Bool) (asked : Call P) (old : Record) (before : History P) (own : Record) (now : History P)
    (p : HasLooked (frame meld limits alone) asked (moment old before) (moment own now))
    (own_fits : Fits meld limits before old) (is : asked ≡ call.Barrier old.number (comm_of asked)) where
  -- a round is left
  pub barrier_room : p.x.next_barrier < limits.rounds
  barrier_room =
      let passes = subst (λ (a : Call P). first_refusal (tests_of old p.x a) ≡ None) is (passes_tests meld limits alone asked old before own now p) in
      let late : Bool = nat_le old.limits.rounds p.x.next_barrier in
      let others = passes_first (is_some p.x.request) Busy ((late, RoundsUsedUp) ∷ []) passes in
      let room : p.x.next_barrier < old.limits.rounds = before_late old.limits.rounds p.x.next_barrier (passes_first late RoundsUsedUp [] others.1).0 in
      subst (λ (l : Limits). p.x.next_barrier < l.rounds) own_fits.same_limits room

  pub arriving_within : IsLegal meld limits now → MayOpen limits → IsCell limits (comm_of asked) p.x.next_barrier own.number
  arriving_within legal may = barrier_within meld limits now own (comm_of asked) p.x (fits_now meld limits alone asked old before own now p legal) p.held
      barrier_room legal may

  pub arriving_may : IsLegal meld limits now → MayArrive meld limits now (comm_of asked) p.x.next_barrier own.number
  arriving_may legal = barrier_may_come meld limits now own (comm_of asked) p.x (fits_now meld limits alone asked old before own now p legal) p.held
      barrier_room

module _ {P : Type 0} (meld : P → P → P) (alone quiet : Bool) (only : IsTrue alone → IsTrue quiet) (name : Over P) (c round : ℕ) (old : Record) (before : Sight P)
    (own : Record) (now after : Sight P) (onward : before.steps ≤ after.steps) (fits : Fits meld name.limits before.seen old)
    (p : HasLooked (frame meld name.limits alone) (call.Barrier old.number c) (moment old before.seen) (moment own now.seen)) (round_is : round ≡ p.x.next_barrier)
    (of : IsView meld (view_at name after)) (stands : IsTrue (has_arrived after.seen c round own.number)) where
  -- the rank has arrived by this call, or before
  pub arrived_now : (new : Record) → IsAdded quiet (record { by = Rank own.number; event = Arrive c round own.number }) now.seen after.seen
      → new ≡ with_held own c (λ y. opened y (Some (Barrier round)))
      → Answered meld alone (call.Barrier old.number c) (local old (view_at name before)) Started (local new (view_at name after))
  arrived_now new added is =
      let look : Sight P = record now { seen = p.look } in
      let e : Entry P = record { by = Rank own.number; event = Arrive c round own.number } in
      let passed = passes_tests meld name.limits alone (call.Barrier old.number c) old before.seen own now.seen p in
      let since = added_after alone e p.look now.seen after.seen p.waited (added_loosely alone quiet only e now.seen after.seen added) in
      record {
        ends = inr (calls_entered meld alone name before look after onward old.number c old own fits p.looked p.fits p.x p.held passed of
            (subst (λ k. IsTrue (has_arrived after.seen c k own.number)) round_is stands) new
            (subst (λ k. IsAdded alone (record { by = Rank own.number; event = Arrive c k own.number }) p.look after.seen) round_is since)
            (is ∙ ap (λ k. with_held own c (λ y. opened y (Some (Barrier k)))) round_is));
        pending = λ same. absurd (cc same);
      }

  pub arrived_before : Did quiet [] now.seen after.seen → Answered meld alone (call.Barrier old.number c) (local old (view_at name before)) (Refused Twice) (local own (view_at name after))
  arrived_before did =
      let look : Sight P = record now { seen = p.look } in
      let passed = passes_tests meld name.limits alone (call.Barrier old.number c) old before.seen own now.seen p in
      record {
        ends = inr (calls_entered_before meld alone name before look after onward old.number c old own fits p.looked p.fits p.x p.held passed of
            (subst (λ k. IsTrue (has_arrived after.seen c k own.number)) round_is stands)
            (did_after alone [] p.look now.seen after.seen p.waited (did_loosely alone quiet only [] now.seen after.seen did)));
        pending = λ same. absurd (cc same);
      }

-- a revocation, and the question after it
module _ {P : Type 0} (meld : P → P → P) (alone quiet : Bool) (only : IsTrue alone → IsTrue quiet) (name : Over P) (c : ℕ) (old : Record) (before : Sight P)
    (own : Record) (now after : Sight P) (onward : before.steps ≤ after.steps) (fits : Fits meld name.limits before.seen old) (of : IsView meld (view_at name after)) where
  revoked_once : (p : HasLooked (frame meld name.limits alone) (call.Revoke old.number c) (moment old before.seen) (moment own now.seen)) (won : Bool)
      → MatchBool won (IsAdded quiet (record { by = Rank own.number; event = Revoke c }) now.seen after.seen) (Did quiet [] now.seen after.seen)
      → IsTrue (is_revoked after.seen c)
      → Linearizes meld alone (call.Revoke old.number c) (local old (view_at name before)) (revoked won) (local own (view_at name after))
  revoked_once p won outcome stands =
      let mine = number_is meld name.limits alone (call.Revoke old.number c) old before.seen own now.seen p in
      let e : Entry P = record { by = Rank old.number; event = Revoke c } in
      let tried = tried_loosely alone quiet only won e now.seen after.seen
      (subst (λ n. MatchBool won (IsAdded quiet (record { by = Rank n; event = Revoke c }) now.seen after.seen) (Did quiet [] now.seen after.seen)) mine
      outcome) in
      calls_revoked meld alone name before (record now { seen = p.look }) after onward old.number c old own fits p.looked p.fits p.x p.held won of
      (tried_after alone won e p.look now.seen after.seen p.waited tried) stands

  -- the communicator is revoked
  pub revoke_answered : HasLooked (frame meld name.limits alone) (call.Revoke old.number c) (moment old before.seen) (moment own now.seen) → (won : Bool)
      → MatchBool won (IsAdded quiet (record { by = Rank own.number; event = Revoke c }) now.seen after.seen) (Did quiet [] now.seen after.seen)
      → IsTrue (is_revoked after.seen c)
      → Answered meld alone (call.Revoke old.number c) (local old (view_at name before)) (revoked won) (local own (view_at name after))
  revoke_answered p true outcome stands = record { ends = inr (revoked_once p true outcome stands); pending = λ same. absurd (cc same) }
  revoke_answered p false outcome stands = record { ends = inr (revoked_once p false outcome stands); pending = λ same. absurd (cc same) }

  -- whether it is
  pub asked_answered : HasLooked (frame meld name.limits alone) (call.IsRevoked old.number c) (moment old before.seen) (moment own now.seen) → (found : Bool)
      → Did quiet [] now.seen after.seen → found ≡ is_revoked after.seen c
      → Answered meld alone (call.IsRevoked old.number c) (local old (view_at name before)) (Standing found) (local own (view_at name after))
  asked_answered p found did is =
      record {
        ends = inr (calls_standing meld alone name before (record now { seen = p.look }) after onward old.number c old own fits p.looked p.fits p.x p.held found
            of
            (did_after alone [] p.look now.seen after.seen p.waited (did_loosely alone quiet only [] now.seen after.seen did)) is);
        pending = λ same. absurd (cc same);
      }
