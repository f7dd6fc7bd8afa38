-- The start of an agree or of a shrink.
use Rattle.std.proofs.Common.{◌≡◌, ℕ, ◌<◌, ◌≤◌, ◌-◌, Bool, true, false, [], ◌∷◌, length, filter, Some, None, Result, Ok, Err, is_ok, refl, ap, sym, ◌∙◌, subst}
use Rattle.ulfm_comm.specs.Requests.{contributes}
use Rattle.std.proofs.Common.{arith, inl, inr, IsTrue, MatchBool, MatchResult}
use Rattle.ulfm_model.specs.declared.{call.Call.{Call}, call.Request.{Request}, contribution.Contribution.{Contribution}, contribution.MarkCount.{MarkCount}}
use Rattle.ulfm_model.specs.declared.{contribution.Offer.{Offer}, contribution.Slot.TheVariants.{Given, Mark as Marked}}
use Rattle.ulfm_model.specs.declared.{event.Caller.TheVariants.{Rank}, event.Event.TheVariants.{Settle}, limits.Limits.{Limits}, refusal.Refusal.{Refusal}}
use Rattle.ulfm_model.specs.declared.{refusal.Refusal.TheVariants.{Twice}, reply.Reply.{Reply}, reply.Reply.TheVariants.{Refused, Started}}
use Rattle.ulfm_model.specs.Answers.{CallAdds, Replies, StartReplies, AtPoint, opened, refusal_of, traits_of}
use Rattle.ulfm_model.specs.{History.{History, IsLegal, IsPlace, failed, failures, has, members, slot}, Records.{Fits, Held, Record, held_at}, Runs.{Did}}
use Rattle.ulfm_model.specs.Terms.{comm_of}
use Rattle.ulfm_model.proofs.{Decisions.{slot_stands}, Marking.{failed_few}, Lists.{has_at, has_filter, length_prefix}}
use Rattle.ulfm_model.specs.Records.{moment}
use Rattle.ulfm_words.specs.Steps.{IsAdded, IsView, Over, Sight, view_at}
use Rattle.ulfm_words.proofs.Trails.{did_added, did_after}
use Rattle.ulfm_words.specs.{Tries.{IsSettledBy}, declared.accesses.Settled.{Settled}}
use Rattle.ulfm_steps.specs.Settles.{MayGive, WingStands}
use Rattle.ulfm_comm.specs.{Calls.{FindsTwice, Linearizes, reply_of}, Ends.{IsEndRun}, Look.{Looked}, Exchange.{IsOffered, Settles, start_leaves, start_result}}
use Rattle.ulfm_comm.proofs.{CallRuns.{calls_is}, Helds.{change_alike}, Holding.{comm_is, exists_is, failed_is, group_is, holds}, LeftOut.{filter_begins}}
use Rattle.ulfm_comm.proofs.WholeCall.{held_before, replied, replied_with, self_failed}
use Rattle.ulfm_comm.specs.Local.{local}

-- a rank whose place is marked is declared
marked_declared : {P : Type 0} (meld : P → P → P) (limits : Limits) (h : History P) (c k r : ℕ) (mark : MarkCount) → IsLegal meld limits h
    → slot h c k r ≡ Some (Marked mark) → IsTrue (has (failures h) r)
marked_declared meld limits h c k r mark legal stands =
    has_filter (has (members limits.ranks h c)) (failures h) r (has_at (failed limits.ranks h c) (mark.known.count - 1) r
    (slot_stands meld limits h legal c k r (Marked mark) stands).names)

-- what the exchange of the rank's own place has done
pub settles_is : {P : Type 0} (alone : Bool) (now after : History P) (own : Record) (x : Held) (offer : Offer P) (given : Contribution P) (r : ℕ)
    (settled : Result (Unit {0}) Settled) → r ≡ own.number
    → MatchBool (is_ok settled) (IsAdded alone (record { by = Rank r; event = Settle x.comm x.next_agreement r given }) now after) (Did alone [] now after)
    → MatchResult settled (λ _. slot after x.comm x.next_agreement r ≡ Some (Given given)) (IsSettledBy (slot after x.comm x.next_agreement r))
    → given.offer ≡ offer → given.known.count ≡ length (filter (has x.group) own.seen) → given.acked.count ≡ x.acked
    → Settles alone now after own x offer settled
settles_is {P} alone now after own x offer given r (Ok done) mine outcome stands is known acked =
    record {
      given = given;
      did = subst (λ n. Did alone (record { by = Rank n; event = Settle x.comm x.next_agreement n given } ∷ []) now after) mine
          (did_added alone _ now after outcome);
      stands = subst (λ n. slot after x.comm x.next_agreement n ≡ Some (Given given)) mine stands;
      offer_is = is;
      known = known;
      acked = acked;
    }
settles_is {P} alone now after own x offer given r (Err by) mine outcome stands is known acked =
    record { did = outcome; stands = subst (λ n. IsSettledBy (slot after x.comm x.next_agreement n) by) mine stands }

-- a start that its record doesn't refuse
module _ {P : Type 0} (meld : P → P → P) (alone : Bool) (name : Over P) (before look after : Sight P) (onward : before.steps ≤ after.steps) (asked : Call P)
    (old mid : Record) (fits : Fits meld name.limits before.seen old)
    (looked : Looked alone before.seen look.seen old mid) (x : Held) (held : held_at mid (comm_of asked) ≡ Some x) (passed : refusal_of old asked ≡ None)
    (now : History P) (waited : Did alone [] look.seen now)
    (offer : Offer P) (request : Request) (no_poll : (traits_of asked).polls ≡ false) (starts : (traits_of asked).starts x ≡ Some request)
    (adds : (given : Contribution P) → CallAdds (failures look.seen) old.number x asked (Settle x.comm x.next_agreement old.number given))
    (replies : (view : AtPoint P) (reply : Reply P) → StartReplies view old x offer reply → Replies meld name.limits view old x asked reply)
    (contributing : contributes asked ≡ true) where
  mine : mid.number ≡ old.number
  mine = ap (λ (w : Record). w.number) looked.record_is

  by_outcome : (settled : Result (Unit {0}) Settled) (new : Record) → IsLegal meld name.limits after.seen → Settles alone now after.seen mid x offer settled
      → new ≡ start_leaves mid (comm_of asked) request settled
      → IsEndRun meld name.limits alone (moment old before.seen) asked (reply_of (λ _. Started) (start_result settled)) (moment new after.seen)
  by_outcome (Ok done) new legal gave leaves =
      replied meld name.limits alone before.seen look.seen old mid looked after.seen (Settle x.comm x.next_agreement old.number gave.given ∷ []) asked Started
      new x
      (did_after alone _ look.seen now after.seen waited (subst (λ n. Did alone (record {
        by = Rank n;
        event = Settle x.comm x.next_agreement n gave.given;
      } ∷ []) now after.seen) mine gave.did)) legal
      (held_before meld name.limits alone before.seen look.seen old mid looked (comm_of asked) (Some x) held) passed (adds gave.given, tt)
      (replies (record { look = failures look.seen; history = after.seen; own = Settle x.comm x.next_agreement old.number gave.given ∷ []; spread = false }) Started (inl (
        refl,
        record {
          given = gave.given;
          own = refl;
          stands = subst (λ n. slot after.seen x.comm x.next_agreement n ≡ Some (Given gave.given)) mine gave.stands;
          offer_is = gave.offer_is;
          known = gave.known ∙ ap (λ (w : Record). length (filter (has x.group) w.seen)) looked.record_is;
          acked = gave.acked;
        },
      )))
      (leaves ∙ ap (λ hs. record mid { held = hs }) (change_alike mid.held (comm_of asked) x (λ y. opened y (Some request))
      (λ y. opened y ((traits_of asked).starts y)) held (ap (opened x) (sym starts))))
      (λ here polls. absurd (cc (polls, no_poll)))
  by_outcome (Err Settled.Marked) new legal was leaves =
      self_failed meld name.limits alone before.seen look.seen old after.seen asked new looked.in_use looked.did
      (did_after alone [] look.seen now after.seen waited was.did) legal
      (subst (λ n. IsTrue (has (failures after.seen) n)) mine (marked_declared meld name.limits after.seen x.comm x.next_agreement mid.number was.stands.0 legal
      was.stands.1))
      (leaves ∙ ap (λ (w : Record). record w { refused = true }) looked.record_is)
  by_outcome (Err Settled.Contributed) new legal was leaves =
      replied meld name.limits alone before.seen look.seen old mid looked after.seen [] asked (Refused Twice) new x
      (did_after alone [] look.seen now after.seen waited was.did) legal
      (held_before meld name.limits alone before.seen look.seen old mid looked (comm_of asked) (Some x) held) passed tt
      (replies (record { look = failures look.seen; history = after.seen; own = []; spread = false }) (Refused Twice)
      (inr (refl, refl, inl (was.stands.0, subst (λ n. slot after.seen x.comm x.next_agreement n ≡ Some (Given was.stands.0)) mine was.stands.1)))) leaves
      (λ here polls. absurd (cc (polls, no_poll)))

  -- what the rank held of the communicator is what its look found
  held_is : (y : Held) → held_at old (comm_of asked) ≡ Some y → x ≡ y
  held_is y is = let same = held_before meld name.limits alone before.seen look.seen old mid looked (comm_of asked) (Some x) held in cc (same, is)

  -- where it is answered `twice`, a contribution stands
  twice_of : (settled : Result (Unit {0}) Settled) → Settles alone now after.seen mid x offer settled → reply_of {P = P} (λ _. Started) (start_result settled) ≡ Refused Twice
      → FindsTwice asked old (view_at name after)
  twice_of (Ok done) gave is = absurd (cc is)
  twice_of (Err Settled.Marked) was is = absurd (cc is)
  twice_of (Err Settled.Contributed) was is = λ starts y found.
      inl (
        was.stands.0,
        subst (λ (z : Held). slot after.seen z.comm z.next_agreement old.number ≡ Some (Given was.stands.0)) (held_is y found)
            (subst (λ n. slot after.seen x.comm x.next_agreement n ≡ Some (Given was.stands.0)) mine was.stands.1),
      )

  -- a start whose wing stood before is answered `twice`
  pub calls_spread : IsView meld (view_at name after) → Did alone [] now after.seen → WingStands (view_at name after) x.comm x.next_agreement mid.number
      → Linearizes meld alone asked (local old (view_at name before)) (Refused Twice) (local mid (view_at name after))
  calls_spread of did stood =
      calls_is meld alone name before after onward asked old (Refused Twice) mid of fits
      (λ is starts y found. inr (subst (λ (z : Held). WingStands (view_at name after) z.comm z.next_agreement old.number) (held_is y found)
      (subst (λ n. WingStands (view_at name after) x.comm x.next_agreement n) mine stood)))
      (replied_with meld name.limits alone before.seen look.seen old mid looked true after.seen [] asked (Refused Twice) mid x
      (did_after alone [] look.seen now after.seen waited did) of.legal
      (held_before meld name.limits alone before.seen look.seen old mid looked (comm_of asked) (Some x) held) passed tt
      (replies (record { look = failures look.seen; history = after.seen; own = []; spread = true }) (Refused Twice) (inr (refl, refl, inr refl))) refl
      (λ here polls. absurd (cc (polls, no_poll))) (λ on. (contributing, refl)))

  -- it is answered as its exchange says
  pub calls_started : (settled : Result (Unit {0}) Settled) (result : Result (Unit {0}) Refusal) (new : Record) → IsView meld (view_at name after)
      → Settles alone now after.seen mid x offer settled → result ≡ start_result settled
      → new ≡ start_leaves mid (comm_of asked) request settled → Linearizes meld alone asked (local old (view_at name before)) (reply_of (λ _. Started) result) (local new (view_at name after))
  calls_started settled result new of settles gives leaves =
      subst (λ r. Linearizes meld alone asked (local old (view_at name before)) (reply_of (λ _. Started) r) (local new (view_at name after))) (sym gives)
      (calls_is meld alone name before after onward asked old (reply_of (λ _. Started) (start_result settled)) new of fits (twice_of settled settles)
      (by_outcome settled new of.legal settles leaves))

-- what a start asks of its exchange, where others may have stepped since the rank's look
module _ {P : Type 0} (meld : P → P → P) (limits : Limits) (now : History P) (own : Record) (c : ℕ) (x : Held) (fits : Fits meld limits now own)
    (held : held_at own c ≡ Some x) where
  -- the rank's own place is one of the world's
  pub own_place : x.next_agreement < limits.rounds → IsPlace limits now c x.next_agreement own.number
  own_place room =
      record {
        exists = exists_is meld limits now own c x fits held;
        member = ap (λ group. has group own.number) (sym (group_is meld limits now own c x fits held)) ∙ (holds meld limits now own c x fits held).member;
        in_rounds = room;
      }

  -- no more failures are known than there are in the group
  pub known_within : length (filter (has x.group) own.seen) ≤ length (failed limits.ranks now c)
  known_within =
      let all = failed_is meld limits now own c x fits held in
      subst (λ fs. length (filter (has x.group) own.seen) ≤ length fs) all
      (length_prefix (filter (has x.group) own.seen) (filter (has x.group) (failures now)) (filter_begins (has x.group) own.seen (failures now) fits.seen))

  -- and no more than the world has ranks
  pub known_few : IsLegal meld limits now → length (filter (has x.group) own.seen) ≤ limits.ranks
  known_few legal =
      let few = failed_few meld limits now x.group legal in
      let all = ap length (failed_is meld limits now own c x fits held) in
      omega (arith, few, all, known_within)

  -- where these are all of them, the rank has acknowledged no more
  pub acked_known : own.seen ≡ failures now → x.acked ≤ length (filter (has x.group) own.seen)
  acked_known seen =
      let few = (holds meld limits now own c x fits held).acked in
      let at = ap (λ w. length (failed limits.ranks now w)) (comm_is meld limits now own c x fits held) in
      let all = ap length (failed_is meld limits now own c x fits held) in
      let same = ap (λ s. length (filter (has x.group) s)) seen in
      omega (arith, few, at, all, same)

-- a contribution that is offered may be made as long as its place is empty
pub offered_may : {P : Type 0} (meld : P → P → P) (limits : Limits) (now : History P) (own : Record) (x : Held) → Fits meld limits now own → held_at own x.comm ≡ Some x
    → x.next_agreement < limits.rounds → (offer : Offer P) (given : Contribution P) → IsOffered own x offer given → MayGive limits now x.comm x.next_agreement own.number given
offered_may meld limits now own x fits held room offer given offered = record {
  place = own_place meld limits now own x.comm x fits held room;
  known = let few = known_within meld limits now own x.comm x fits held in let is = offered.known in omega (arith, few, is);
}

-- .. and one that knows of no failure
pub spreading_may : {P : Type 0} (meld : P → P → P) (limits : Limits) (now : History P) (own : Record) (x : Held) → Fits meld limits now own → held_at own x.comm ≡ Some x
    → x.next_agreement < limits.rounds → (given : Contribution P) → given.known.count ≡ 0 → MayGive limits now x.comm x.next_agreement own.number given
spreading_may meld limits now own x fits held room given none = record { place = own_place meld limits now own x.comm x fits held room; known = omega (arith, none) }
