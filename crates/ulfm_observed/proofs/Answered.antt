-- A reply to a rank's call, and what the rank's walk says behind it.
use Rattle.std.proofs.Common.{◌≡◌, ◌⊎◌, ℕ, ◌+◌, ◌-◌, ◌==◌, Bool, true, false, Option, Some, None, inl, inr, refl, ap, sym, ◌∙◌, subst, arith, take, is_some, if◌then◌else◌, IsTrue}
use Rattle.std.specs.Prelude.{drop}
use Rattle.std.proofs.lemmas.{Bool.{eqb-true}, List.{take-append-drop}, Option.{same_Some}}
use mathlib.Core.List.{IsPrefix}
use Rattle.ulfm_laws.specs.{Flags.{flag_meld}, declared.flag_and.FlagAnd.{FlagAnd}}
use Rattle.ulfm_model.specs.declared.{call.Call.{Call}, limits.Limits.{Limits}, refusal.Refusal.{Refusal}, reply.Reply.{Reply}}
use Rattle.ulfm_model.specs.declared.call.Call.TheVariants as call
use Rattle.ulfm_model.specs.declared.call.Request.TheVariants as request
use Rattle.ulfm_model.specs.declared.contribution.Offer.TheVariants.{Flag}
use Rattle.ulfm_model.specs.declared.refusal.Refusal.TheVariants.{SelfFailed, Twice}
use Rattle.ulfm_model.specs.declared.reply.Reply.TheVariants as reply_of
use Rattle.ulfm_model.specs.{Answers.{AgreeReplies, PollReplies, Replies, RepliesBy, StartReplies, comm_of, opened, refusal_of, traits_of}, History.{Exists, History, decision, is_decided}}
use Rattle.ulfm_model.specs.Records.{Held, Record, held_at}
use Rattle.ulfm_model.proofs.Lists.{each_always, find_holds}
use Rattle.ulfm_model.specs.Traces.{AnswersRank, Traced, Under, found_by, record_in, taken_in, view_at}
use Rattle.ulfm_model.proofs.Kept.{IsKept}
use Rattle.ulfm_observed.specs.declared.log.{Seen.{Seen}, Seen.TheVariants.{Agreed, Shrunk, Whole}}
use Rattle.ulfm_observed.specs.{Explains.{IsSeen}, Stages.{starts}}
use Rattle.ulfm_observed.specs.declared.walk.Walk.{Walk}
use Rattle.ulfm_observed.specs.Refuted.{answered, begun, is_due, is_refused, is_started, one_less, polled, polled_world, start_answered, went_on}
use Rattle.ulfm_observed.specs.Tells.{IsAt, IsSaid, MayReach, Reaches, Tells}
use Rattle.ulfm_observed.proofs.Left.{left_acked, left_agreed, left_done, left_elsewhere, left_shrunk, left_started}
use Rattle.ulfm_model.specs.Rounds.{Gave, IsDecision}
use Rattle.ulfm_model.proofs.Staying.{decision_lasts, gave_lasts}

-- two things found at one place are one
same_found : {X : Type 0} (o : Option X) (x y : X) → o ≡ Some x → o ≡ Some y → x ≡ y
same_found o x y here there = cc (here, there)

-- a reply that was told as a decision is one
seen_agreed : (value : Option FlagAnd) (failed : Option ℕ) (raised : Bool) (reply : Reply FlagAnd) → IsSeen (Agreed value failed raised) reply
    → (v : FlagAnd) × (n : ℕ) × (e : Bool) × (reply ≡ reply_of.Agreed e n v)
seen_agreed value failed raised (reply_of.Agreed e n v) is = (v, n, e, refl)
seen_agreed value failed raised _ is = absurd is

seen_shrunk : (comm : ℕ) (context : Option ℕ) (reply : Reply FlagAnd) → IsSeen (Shrunk comm context) reply → (j i n : ℕ) × (reply ≡ reply_of.Shrunk j i n)
seen_shrunk comm context (reply_of.Shrunk j i n) is = (j, i, n, refl)
seen_shrunk comm context _ is = absurd is

-- what tells a refusal or a start
seen_refused : (seen : Seen) (why : Refusal) → IsSeen seen (reply_of.Refused why) → is_refused seen ≡ true
seen_refused (Whole told) why is = ap (λ (g : Reply FlagAnd). is_refused (Whole g)) is
seen_refused (Agreed value failed raised) why is = absurd is
seen_refused (Shrunk comm context) why is = absurd is

pub started_seen : (seen : Seen) → IsSeen seen reply_of.Started → is_started seen ≡ true
started_seen (Whole told) is = ap (λ (g : Reply FlagAnd). is_started (Whole g)) is
started_seen (Agreed value failed raised) is = absurd is
started_seen (Shrunk comm context) is = absurd is

pub seen_started : (seen : Seen) (reply : Reply FlagAnd) → is_started seen ≡ true → IsSeen seen reply → reply ≡ reply_of.Started
seen_started (Whole reply_of.Started) reply it is = sym is
seen_started _ reply it is = absurd (cc it)

-- a call that asks or tells, and neither starts, polls nor gives back
abbrev is_plain : Call FlagAnd → Bool
is_plain (call.GetFailed p c) = true
is_plain (call.FailureGetAcked p c) = true
is_plain (call.Ack p c n) = true
is_plain (call.FailureAck p c) = true
is_plain (call.Revoke p c) = true
is_plain (call.IsRevoked p c) = true
is_plain a = false

-- the round that is asked for is due where none is left before it
due_is : (l : Option ℕ) → is_due l ≡ true → l ≡ Some 0
due_is None due = absurd (cc due)
due_is (Some n) due = ap (λ m. Some m) (eqb-true n 0 due)

due_left : (m k : ℕ) (l : Option ℕ) → ((n : ℕ) → l ≡ Some n → m + n ≡ k) → is_due l ≡ true → m ≡ k
due_left m k l at due = let is = at 0 (due_is l due) in omega (arith, is)

-- and one less is left behind a further round
less_left : (m k : ℕ) (l : Option ℕ) → ((n : ℕ) → l ≡ Some n → m + n ≡ k) → (n : ℕ) → one_less l ≡ Some n → (m + 1) + n ≡ k
less_left m k None at n is = absurd (cc is)
less_left m k (Some j) at n is = go (j == 0) refl is
  where
    go : (b : Bool) → (j == 0) ≡ b → (if b then None else Some (j - 1)) ≡ Some n → (m + 1) + n ≡ k
    go true none is = absurd (cc is)
    go false some is =
        let less : j - 1 ≡ n = same_Some {A = ℕ} _ _ is in
        let first = at j refl in
        grind (arith, some, less, first)

-- a reply to a rank of this record, at a point of what was said
module _ (limits : Limits) (r k : ℕ) (now : Traced FlagAnd) (kept : IsKept flag_meld now) (limits_is : now.limits ≡ limits) (own : Record) (at_r : record_in now r ≡ Some own) (u : Under FlagAnd) (point : ℕ) (reply : Reply FlagAnd)
    (answers : AnswersRank flag_meld now u point reply (Some own)) where
  number_is : own.number ≡ r
  number_is = eqb-true own.number r (find_holds (λ x. x.number == r) (λ x. Unit {0}) now.records own (each_always (λ x. Unit {0}) (λ x. tt) now.records) at_r).1

  abbrev h : History FlagAnd
  h = take point now.history

  begins : IsPrefix h now.history
  begins = (drop point now.history, take-append-drop point now.history)

  -- a reply that isn't a refusal is one on a communicator that the rank holds
  pub record On : Type 0 where
    pub y : Held
    pub held : held_at own (comm_of u.asked) ≡ Some y
    pub replies : Replies flag_meld now.limits (view_at now u point) own y u.asked reply

  on_held : (held : Option Held) (why : Option Refusal) → held_at own (comm_of u.asked) ≡ held → RepliesBy (λ x. Replies flag_meld now.limits (view_at now u point) own x u.asked reply) reply held why
      → ((w : Refusal) × (reply ≡ reply_of.Refused w)) ⊎ On
  on_held held (Some why) at is = inl (why, is)
  on_held (Some y) None at replies = inr (record { y = y; held = at; replies = replies })
  on_held None None at replies = absurd replies

  pub refused_or_on : ((w : Refusal) × (reply ≡ reply_of.Refused w)) ⊎ On
  refused_or_on = go answers
    where
      go : AnswersRank flag_meld now u point reply (Some own) → ((w : Refusal) × (reply ≡ reply_of.Refused w)) ⊎ On
      go (inl (refused, is)) = inl (SelfFailed, is)
      go (inr (in_use, looked, inl failed)) = inl (SelfFailed, failed.reply_is)
      go (inr (in_use, looked, inr replied)) = on_held (held_at own (comm_of u.asked)) (refusal_of own u.asked) refl replied.replies

  abbrev looked : Record
  looked = record own { seen = if is_some u.look then found_by now u else own.seen }

  abbrev left : Reply FlagAnd → Record
  left given = taken_in now u point given own

  module _ (x : Held) (held : held_at own 0 ≡ Some x) (walk : Walk) (is_at : IsAt k x walk) (said : IsSaid limits r k now.history walk) where
    -- a call on another communicator changes nothing
    elsewhere : (comm_of u.asked == 0) ≡ false → Reaches limits r k now.history (left reply) walk
    elsewhere other = record { x = x; held = left_elsewhere now.limits.ranks h looked u.asked x held other reply; at = is_at; said = said }

    -- what a poll of the world's communicator was told
    module _ (p : ℕ) (asked : u.asked ≡ call.Poll p 0) where
      here : comm_of u.asked ≡ 0
      here = ap comm_of asked

      exists : Exists h 0
      exists = omega arith

      told_at : (v : FlagAnd) (n : ℕ) (e : Bool) → reply ≡ reply_of.Agreed e n v → walk.waits ≡ true → On → IsDecision flag_meld now.limits now.history 0 k reply
      told_at v n e is waits on =
          let same : on.y ≡ x = same_found (held_at own 0) on.y x (subst (λ c. held_at own c ≡ Some on.y) here on.held) held in
          let open_is : on.y.request ≡ Some (request.Agree k) = ap (λ (y : Held). y.request) same ∙ is_at.waits waits in
          let comm_is : on.y.comm ≡ 0 = eqb-true on.y.comm 0 (find_holds (λ z. z.comm == 0) (λ z. Unit {0}) own.held on.y (each_always (λ z. Unit {0}) (λ z. tt) own.held) (held ∙ ap (λ z. Some z) (sym same))).1 in
          let replies = subst (λ a. Replies flag_meld now.limits (view_at now u point) own on.y a reply) asked on.replies in
          go comm_is (subst (λ q. PollReplies flag_meld now.limits (view_at now u point) own.number on.y q reply) open_is replies)
        where
          decides : (c : ℕ) → c ≡ 0 → IsTrue (is_decided now.limits.ranks h c k) → AgreeReplies (decision flag_meld now.limits.ranks h c k) reply → IsDecision flag_meld now.limits now.history 0 k reply
          decides c zero_is decided (inl (value, body, given)) =
              decision_lasts flag_meld now.limits h now.history begins kept.legal 0 k reply exists
              (subst (λ d. IsDecision flag_meld now.limits h d k reply) zero_is (record { decided = decided; value = value; body = body; reply_is = given }))
          decides c zero_is decided (inr clash) = absurd (cc (clash.1, is))

          go : {y : Held} → y.comm ≡ 0 → PollReplies flag_meld now.limits (view_at now u point) own.number y (Some (request.Agree k)) reply → IsDecision flag_meld now.limits now.history 0 k reply
          go comm_is (inl pending) = absurd (cc (pending.1, is))
          go {y} comm_is (inr decided) = decides y.comm comm_is decided.0 decided.1

      -- what was told is what was decided, where the agree of that round was open
      told_by : (value : Option FlagAnd) (failed : Option ℕ) (raised : Bool) → IsSeen (Agreed value failed raised) reply → (other : Seen)
          → (if walk.waits then Some (Agreed value failed raised) else walk.told) ≡ Some other → Tells limits k now.history other
      told_by value failed raised seen_is other = by_waits walk.waits refl
        where
          given : (v : FlagAnd) × (n : ℕ) × (e : Bool) × (reply ≡ reply_of.Agreed e n v)
          given = seen_agreed value failed raised reply seen_is

          decided : walk.waits ≡ true → ((w : Refusal) × (reply ≡ reply_of.Refused w)) ⊎ On → IsDecision flag_meld limits now.history 0 k reply
          decided waits (inl refused) = absurd (cc (refused.1, given.3))
          decided waits (inr on) = subst (λ l. IsDecision flag_meld l now.history 0 k reply) limits_is (told_at given.0 given.1 given.2 given.3 waits on)

          by_waits : (b : Bool) → walk.waits ≡ b → (if b then Some (Agreed value failed raised) else walk.told) ≡ Some other → Tells limits k now.history other
          by_waits true waits is =
              subst (λ (s : Seen). Tells limits k now.history s) (same_Some {A = Seen} _ _ is)
              (record { reply = reply; decided = decided waits refused_or_on; seen_is = seen_is })
          by_waits false waits is = said.told other is

      abbrev ended : Held
      ended = record x { request = None }

      ended_by : (g : Reply FlagAnd) → reply ≡ g → held_at (left g) 0 ≡ Some ended → held_at (left reply) 0 ≡ Some ended
      ended_by g is there = subst (λ g. held_at (left g) 0 ≡ Some ended) (sym is) there

      polled_here : (seen : Seen) → IsSeen seen reply → MayReach limits r k now.history (left reply) (polled_world seen walk)
      polled_here (Agreed value failed raised) seen_is =
          let given = seen_agreed value failed raised reply seen_is in
          record {
            x = ended;
            held = ended_by (reply_of.Agreed given.2 given.1 given.0) given.3 (left_agreed now.limits.ranks h looked u.asked x held here given.0 given.1 given.2);
            at = record { left = is_at.left; waits = λ none. absurd (cc none) };
            said = record { gave = said.gave; told = told_by value failed raised seen_is };
          }
      polled_here (Shrunk comm context) seen_is =
          let given = seen_shrunk comm context reply seen_is in
          record {
            x = ended;
            held = ended_by (reply_of.Shrunk given.0 given.1 given.2) given.3 (left_shrunk now.limits.ranks h looked u.asked x held here given.0 given.1 given.2);
            at = record { left = is_at.left; waits = λ none. absurd (cc none) };
            said = record { gave = said.gave; told = said.told };
          }
      polled_here (Whole reply_of.Done) seen_is =
          record {
            x = ended;
            held = ended_by reply_of.Done (sym seen_is) (left_done now.limits.ranks h looked u.asked x held here);
            at = record { left = is_at.left; waits = λ none. absurd (cc none) };
            said = record { gave = said.gave; told = said.told };
          }
      polled_here (Whole reply_of.Pending) seen_is =
          record { x = x; held = subst (λ g. held_at (left g) 0 ≡ Some x) seen_is held; at = is_at; said = said }
      polled_here (Whole _) seen_is = tt

    -- behind the reply to another call, on another communicator
    went_elsewhere : (seen : Seen) → (comm_of u.asked == 0) ≡ false → MayReach limits r k now.history (left reply) (went_on seen walk)
    went_elsewhere seen other = go (is_refused seen)
      where
        go : (b : Bool) → MayReach limits r k now.history (left reply) (if b then None else Some walk)
        go true = tt
        go false = elsewhere other

    pub polled_left : (p c : ℕ) → u.asked ≡ call.Poll p c → (seen : Seen) → IsSeen seen reply → MayReach limits r k now.history (left reply) (polled c seen walk)
    polled_left p c asked seen seen_is = go (c == 0) refl
      where
        go : (b : Bool) → (c == 0) ≡ b → MayReach limits r k now.history (left reply) (if b then polled_world seen walk else went_on seen walk)
        go true zero_is = polled_here p (asked ∙ ap (call.Poll p) (eqb-true c 0 zero_is)) seen seen_is
        go false other = went_elsewhere seen (ap (λ a. comm_of a == 0) asked ∙ other)

    -- a start that was answered `started`
    module _ (started : reply ≡ reply_of.Started) where
      opened_here : comm_of u.asked ≡ 0 → held_at (left reply) 0 ≡ Some (opened x ((traits_of u.asked).starts x))
      opened_here zero_is =
          subst (λ g. held_at (left g) 0 ≡ Some (opened x ((traits_of u.asked).starts x))) (sym started) (left_started now.limits.ranks h looked u.asked x held zero_is)

      opened_as : (a : Call FlagAnd) → u.asked ≡ a → comm_of a ≡ 0 → held_at (left reply) 0 ≡ Some (opened x ((traits_of a).starts x))
      opened_as a asked zero_is =
          subst (λ b. held_at (left reply) 0 ≡ Some (opened x ((traits_of b).starts x))) asked (opened_here (ap comm_of asked ∙ zero_is))

      gave_here : (p : ℕ) (flag : FlagAnd) → u.asked ≡ call.Agree p 0 flag → x.next_agreement ≡ k → Gave now.history 0 k r flag
      gave_here p flag asked due = go refused_or_on
        where
          by_start : (y : Held) → y ≡ x → y.comm ≡ 0 → StartReplies (view_at now u point) own y (Flag flag) reply → Gave now.history 0 k r flag
          by_start y same comm_is (inl (is, gives)) =
              let round_is : y.next_agreement ≡ k = ap (λ (z : Held). z.next_agreement) same ∙ due in
              gave_lasts flag_meld now.limits h now.history begins kept.legal 0 k r flag
              (subst (λ n. Gave h 0 k n flag) number_is
              (subst (λ n. Gave h 0 n own.number flag) round_is
              (subst (λ n. Gave h n y.next_agreement own.number flag) comm_is
              (record { given = gives.given; stands = gives.stands; flag_is = gives.offer_is }))))
          by_start y same comm_is (inr twice) = absurd (cc (twice.0, started))

          go : ((w : Refusal) × (reply ≡ reply_of.Refused w)) ⊎ On → Gave now.history 0 k r flag
          go (inl refused) = absurd (cc (refused.1, started))
          go (inr on) =
              let same : on.y ≡ x = same_found (held_at own 0) on.y x (subst (λ c. held_at own c ≡ Some on.y) (ap comm_of asked) on.held) held in
              let comm_is : on.y.comm ≡ 0 = eqb-true on.y.comm 0 (find_holds (λ z. z.comm == 0) (λ z. Unit {0}) own.held on.y (each_always (λ z. Unit {0}) (λ z. tt) own.held) (held ∙ ap (λ z. Some z) (sym same))).1 in
              by_start on.y same comm_is (subst (λ a. Replies flag_meld now.limits (view_at now u point) own on.y a reply) asked on.replies)

      agree_here : (p : ℕ) (flag : FlagAnd) → u.asked ≡ call.Agree p 0 flag
          → Reaches limits r k now.history (left reply) (record walk { left = one_less walk.left; gave = if is_due walk.left then Some flag else walk.gave; waits = is_due walk.left })
      agree_here p flag asked =
          record {
            x = opened x (Some (request.Agree x.next_agreement));
            held = opened_as (call.Agree p 0 flag) asked refl;
            at = record { left = less_left x.next_agreement k walk.left is_at.left; waits = λ due. ap (λ n. Some (request.Agree n)) (due_left x.next_agreement k walk.left is_at.left due) };
            said = record { gave = gave; told = said.told };
          }
        where
          gave : (other : FlagAnd) → (if is_due walk.left then Some flag else walk.gave) ≡ Some other → Gave now.history 0 k r other
          gave other = by_due (is_due walk.left) refl
            where
              by_due : (b : Bool) → is_due walk.left ≡ b → (if b then Some flag else walk.gave) ≡ Some other → Gave now.history 0 k r other
              by_due true due is = subst (λ f. Gave now.history 0 k r f) (same_Some {A = FlagAnd} _ _ is) (gave_here p flag asked (due_left x.next_agreement k walk.left is_at.left due))
              by_due false due is = said.gave other is

      shrink_here : (p : ℕ) → u.asked ≡ call.Shrink p 0 → Reaches limits r k now.history (left reply) (record walk { left = one_less walk.left; waits = false })
      shrink_here p asked =
          record {
            x = opened x (Some (request.Shrink x.next_agreement));
            held = opened_as (call.Shrink p 0) asked refl;
            at = record { left = less_left x.next_agreement k walk.left is_at.left; waits = λ none. absurd (cc none) };
            said = record { gave = said.gave; told = said.told };
          }

      barrier_here : (p : ℕ) → u.asked ≡ call.Barrier p 0 → Reaches limits r k now.history (left reply) (record walk { waits = false })
      barrier_here p asked =
          record {
            x = opened x (Some (request.Barrier x.next_barrier));
            held = opened_as (call.Barrier p 0) asked refl;
            at = record { left = is_at.left; waits = λ none. absurd (cc none) };
            said = record { gave = said.gave; told = said.told };
          }

      pub started_left : (a : Call FlagAnd) (d : ℕ) → starts a ≡ Some d → u.asked ≡ a → Reaches limits r k now.history (left reply) (begun a walk)
      started_left (call.Agree p c flag) d is asked = go (c == 0) refl
        where
          go : (b : Bool) → (c == 0) ≡ b → Reaches limits r k now.history (left reply)
              (if b then record walk { left = one_less walk.left; gave = if is_due walk.left then Some flag else walk.gave; waits = is_due walk.left } else walk)
          go true zero_is = agree_here p flag (asked ∙ ap (λ n. call.Agree p n flag) (eqb-true c 0 zero_is))
          go false other = elsewhere (ap (λ a. comm_of a == 0) asked ∙ other)
      started_left (call.Shrink p c) d is asked = go (c == 0) refl
        where
          go : (b : Bool) → (c == 0) ≡ b → Reaches limits r k now.history (left reply) (if b then record walk { left = one_less walk.left; waits = false } else walk)
          go true zero_is = shrink_here p (asked ∙ ap (call.Shrink p) (eqb-true c 0 zero_is))
          go false other = elsewhere (ap (λ a. comm_of a == 0) asked ∙ other)
      started_left (call.Barrier p c) d is asked = go (c == 0) refl
        where
          go : (b : Bool) → (c == 0) ≡ b → Reaches limits r k now.history (left reply) (if b then record walk { waits = false } else walk)
          go true zero_is = barrier_here p (asked ∙ ap (call.Barrier p) (eqb-true c 0 zero_is))
          go false other = elsewhere (ap (λ a. comm_of a == 0) asked ∙ other)
      started_left _ d is asked = absurd (cc is)

    -- a reply to another call on the world's communicator, which leaves the rounds and the request
    kept_by : (g : Reply FlagAnd) → reply ≡ g → (y : Held) → held_at (left g) 0 ≡ Some y → y.next_agreement ≡ x.next_agreement → y.request ≡ x.request
        → (seen : Seen) → MayReach limits r k now.history (left reply) (went_on seen walk)
    kept_by g is y there same open_is seen = go (is_refused seen)
      where
        go : (b : Bool) → MayReach limits r k now.history (left reply) (if b then None else Some walk)
        go true = tt
        go false =
            record {
              x = y;
              held = subst (λ g. held_at (left g) 0 ≡ Some y) (sym is) there;
              at = record { left = λ n some. ap (λ m. m + n) same ∙ is_at.left n some; waits = λ it. open_is ∙ is_at.waits it };
              said = said;
            }

    refused_goes : (seen : Seen) → is_refused seen ≡ true → MayReach limits r k now.history (left reply) (went_on seen walk)
    refused_goes seen refused = subst (λ (b : Bool). MayReach limits r k now.history (left reply) (if b then None else Some walk)) (sym refused) tt

    -- a call that neither starts nor polls, nor gives a communicator back
    plain_here : (a : Call FlagAnd) → is_plain a ≡ true → u.asked ≡ a → comm_of a ≡ 0 → (seen : Seen) → IsSeen seen reply → MayReach limits r k now.history (left reply) (went_on seen walk)
    plain_here a plain asked zero_is seen seen_is = go refused_or_on
      where
        by_call : (b : Call FlagAnd) → is_plain b ≡ true → (y : Held) → Replies flag_meld now.limits (view_at now u point) own y b reply → MayReach limits r k now.history (left reply) (went_on seen walk)
        by_call (call.GetFailed p c) plain y (looks, is) = kept_by _ is x held refl refl seen
        by_call (call.FailureGetAcked p c) plain y (looks, is) = kept_by _ is x held refl refl seen
        by_call (call.Ack p c n) plain y (looks, is) = kept_by _ is _ (left_acked now.limits.ranks h looked u.asked x held (ap comm_of asked ∙ zero_is) _) refl refl seen
        by_call (call.FailureAck p c) plain y (looks, is) = kept_by _ is _ (left_acked now.limits.ranks h looked u.asked x held (ap comm_of asked ∙ zero_is) _) refl refl seen
        by_call (call.Revoke p c) plain y (revoked, inl done) = kept_by reply_of.Revoked done.0 x held refl refl seen
        by_call (call.Revoke p c) plain y (revoked, inr found) = kept_by reply_of.AlreadyRevoked found.0 x held refl refl seen
        by_call (call.IsRevoked p c) plain y is = kept_by _ is x held refl refl seen
        by_call _ plain y replies = absurd (cc plain)

        go : ((w : Refusal) × (reply ≡ reply_of.Refused w)) ⊎ On → MayReach limits r k now.history (left reply) (went_on seen walk)
        go (inl refused) = refused_goes seen (seen_refused seen refused.0 (subst (IsSeen seen) refused.1 seen_is))
        go (inr on) = by_call a plain on.y (subst (λ b. Replies flag_meld now.limits (view_at now u point) own on.y b reply) asked on.replies)

    plain_left : (a : Call FlagAnd) → is_plain a ≡ true → u.asked ≡ a → (seen : Seen) → IsSeen seen reply → MayReach limits r k now.history (left reply) (went_on seen walk)
    plain_left a plain asked seen seen_is = go (comm_of a == 0) refl
      where
        go : (b : Bool) → (comm_of a == 0) ≡ b → MayReach limits r k now.history (left reply) (went_on seen walk)
        go true zero_is = plain_here a plain asked (eqb-true (comm_of a) 0 zero_is) seen seen_is
        go false other = went_elsewhere seen (ap (λ a. comm_of a == 0) asked ∙ other)

    -- a start is answered `started`, or refused
    start_says : (a : Call FlagAnd) (d : ℕ) → starts a ≡ Some d → u.asked ≡ a → (reply ≡ reply_of.Started) ⊎ ((w : Refusal) × (reply ≡ reply_of.Refused w))
    start_says a d is asked = go refused_or_on
      where
        by_call : (b : Call FlagAnd) → starts b ≡ Some d → (y : Held) → Replies flag_meld now.limits (view_at now u point) own y b reply → (reply ≡ reply_of.Started) ⊎ ((w : Refusal) × (reply ≡ reply_of.Refused w))
        by_call (call.Agree p c flag) is y (inl (it, gives)) = inl it
        by_call (call.Agree p c flag) is y (inr twice) = inr (Twice, twice.0)
        by_call (call.Shrink p c) is y (inl (it, gives)) = inl it
        by_call (call.Shrink p c) is y (inr twice) = inr (Twice, twice.0)
        by_call (call.Barrier p c) is y (arrived, inl done) = inl done.0
        by_call (call.Barrier p c) is y (arrived, inr found) = inr (Twice, found.0)
        by_call _ is y replies = absurd (cc is)

        go : ((w : Refusal) × (reply ≡ reply_of.Refused w)) ⊎ On → (reply ≡ reply_of.Started) ⊎ ((w : Refusal) × (reply ≡ reply_of.Refused w))
        go (inl refused) = inr refused
        go (inr on) = by_call a is on.y (subst (λ b. Replies flag_meld now.limits (view_at now u point) own on.y b reply) asked on.replies)

    start_left : (a : Call FlagAnd) (c d : ℕ) → starts a ≡ Some d → u.asked ≡ a → (seen : Seen) → IsSeen seen reply → MayReach limits r k now.history (left reply) (start_answered c a seen walk)
    start_left a c d is asked seen seen_is = go (is_started seen) refl
      where
        refused_polled : (v : Walk) → is_refused seen ≡ true → MayReach limits r k now.history (left reply) (polled c seen v)
        refused_polled v refused = by_comm (c == 0)
          where
            by_seen : (s : Seen) → is_refused s ≡ true → MayReach limits r k now.history (left reply) (polled_world s v)
            by_seen (Whole (reply_of.Refused w)) it = tt
            by_seen _ it = absurd (cc it)

            by_comm : (b : Bool) → MayReach limits r k now.history (left reply) (if b then polled_world seen v else went_on seen v)
            by_comm true = by_seen seen refused
            by_comm false = subst (λ (b : Bool). MayReach limits r k now.history (left reply) (if b then None else Some v)) (sym refused) tt

        not_started : (reply ≡ reply_of.Started) ⊎ ((w : Refusal) × (reply ≡ reply_of.Refused w)) → is_started seen ≡ false → MayReach limits r k now.history (left reply) (polled c seen (begun a walk))
        not_started (inl it) late = absurd (cc (started_seen seen (subst (IsSeen seen) it seen_is), late))
        not_started (inr refused) late = refused_polled (begun a walk) (seen_refused seen refused.0 (subst (IsSeen seen) refused.1 seen_is))

        go : (b : Bool) → is_started seen ≡ b → MayReach limits r k now.history (left reply) (if b then Some (begun a walk) else polled c seen (begun a walk))
        go true it = started_left (seen_started seen reply it seen_is) a d is asked
        go false late = not_started (start_says a d is asked) late

    -- behind the reply to a call
    pub answered_left : (a : Call FlagAnd) → u.asked ≡ a → (seen : Seen) → IsSeen seen reply → MayReach limits r k now.history (left reply) (answered a seen walk)
    answered_left (call.Agree p c flag) asked seen seen_is = start_left (call.Agree p c flag) c c refl asked seen seen_is
    answered_left (call.Shrink p c) asked seen seen_is = start_left (call.Shrink p c) c c refl asked seen seen_is
    answered_left (call.Barrier p c) asked seen seen_is = start_left (call.Barrier p c) c c refl asked seen seen_is
    answered_left (call.Poll p c) asked seen seen_is = polled_left p c asked seen seen_is
    answered_left (call.Free p c) asked seen seen_is = go (c == 0) refl
      where
        go : (b : Bool) → (c == 0) ≡ b → MayReach limits r k now.history (left reply) (if b then None else went_on seen walk)
        go true zero_is = tt
        go false other = went_elsewhere seen (ap (λ a. comm_of a == 0) asked ∙ other)
    answered_left (call.Fail p) asked seen seen_is = tt
    answered_left (call.GetFailed p c) asked seen seen_is = plain_left (call.GetFailed p c) refl asked seen seen_is
    answered_left (call.FailureGetAcked p c) asked seen seen_is = plain_left (call.FailureGetAcked p c) refl asked seen seen_is
    answered_left (call.Ack p c n) asked seen seen_is = plain_left (call.Ack p c n) refl asked seen seen_is
    answered_left (call.FailureAck p c) asked seen seen_is = plain_left (call.FailureAck p c) refl asked seen seen_is
    answered_left (call.Revoke p c) asked seen seen_is = plain_left (call.Revoke p c) refl asked seen seen_is
    answered_left (call.IsRevoked p c) asked seen seen_is = plain_left (call.IsRevoked p c) refl asked seen seen_is
