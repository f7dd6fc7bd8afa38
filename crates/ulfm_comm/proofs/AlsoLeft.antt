-- How many steps a call makes at most beside a load for each failure that its rank has seen more.
use Rattle.std.proofs.Common.{◌≡◌, ℕ, ◌+◌, ◌-◌, ◌*◌, ◌<◌, ◌≤◌, Bool, true, false, List, [], length, take, min, nat_lt, Option, Some, None, IsTrue, is_some}
use Rattle.std.proofs.Common.{if◌then◌else◌, refl, ap, sym, ◌∙◌, subst, append-nil, arith}
use Rattle.std.proofs.lemmas.{Bool.{lt-ltb, ltb-true}, List.{length-take}}
use mathlib.Core.List.{IsPrefix}
use Rattle.ulfm_model.specs.declared.call.Call.TheVariants as call
use Rattle.ulfm_model.specs.declared.{block.Beside.{Beside}, block.Side.{Side}, block.Side.TheVariants.{Front, Back}}
use Rattle.ulfm_model.specs.declared.{call.Call.{Call}, call.Request.{Request}, call.Request.TheVariants.{Agree, Shrink, Barrier}, limits.Limits.{Limits}}
use Rattle.ulfm_model.specs.declared.{contribution.Offer.{Offer}, refusal.Refusal.{Refusal}, reply.Reply.{Reply}}
use Rattle.ulfm_model.specs.{Answers.{refusal_of}, Blocks.{has_block, width}, History.{History, IsLegal, failures, has}, Records.{Held, Record, held_at}}
use Rattle.ulfm_model.specs.Terms.{comm_of, request_of}
use Rattle.ulfm_model.proofs.Blocks.{has_block_stays}
use Rattle.ulfm_words.specs.Steps.{Sight}
use Rattle.ulfm_steps.specs.{Appends.{turns_left}, Arriving.{arrivals_left, in_order}, Blocks.{FindsSet, block_at, has_back, is_whole, peeks_left}}
use Rattle.ulfm_steps.specs.declared.{append.Append.{Append}, arrivals.Arrivals.{Arrivals}, arrivals.Missing.{Missing}, blocks.Peek.{Peek}}
use Rattle.ulfm_steps.specs.declared.read_on.ReadOn.{ReadOn}
use Rattle.ulfm_steps.proofs.{Arriving.{in_order_few}, InBlocks.{apart_lt, peeks_most}}
use Rattle.ulfm_comm.specs.AlsoLeft.{AlsoFollows, AlsoLooks, AlsoSpends, AlsoTurns, FindsSetIn, FindsSetNext, also_after_look, also_after_round}
use Rattle.ulfm_comm.specs.AlsoLeft.{also_behind_look, also_in, also_left, also_polling}
use Rattle.ulfm_comm.specs.{Begins.{reads_again}, Requests.{BlocksStand}, Bound.{also_bound, also_call_bound, also_poll_bound}, Look.{Passes}}
use Rattle.ulfm_comm.specs.{Phase.{NextBelow, is_looking}, Step.{LooksOn}, Requests.{agreement}, StepsLeft.{FewerLeft, Spends, group_of, steps_left}}
use Rattle.ulfm_comm.specs.declared.{phases.phase.Made.{Made}, phases.phase.Next.{Next}, phases.phase.Next.TheVariants.{Goes, Ends}, phases.phase.Phase.{Phase}}
use Rattle.ulfm_comm.specs.declared.phases.phase.Phase.TheVariants.{Over, Begun, Looking, Spreading, Settling, Arriving, Revoking, Asking, Peeking, Marking, Reading}
use Rattle.ulfm_comm.specs.declared.phases.phase.Phase.TheVariants.{ReadingOn, Spawning, Waiting, Checking}
use Rattle.ulfm_comm.proofs.StepsLeft.{passes_none, refusal_same}
use Rattle.ulfm_comm.specs.Local.{stance}

module _ {P : Type 0} (limits : Limits) (own new : Record) (seen : List ℕ) (asked : Call P) (kept : new ≡ record own { seen = seen }) where
  -- what was seen makes no difference to what follows a look
  also_after_same : also_after_look limits new asked ≡ also_after_look limits own asked
  also_after_same =
      ap (λ (w : Record). also_after_look limits w asked) kept
      ∙ ap (λ (r : Option Refusal). if is_some r then 0 else also_behind_look limits own asked) (refusal_same own seen asked)

  -- nor to where the blocks of an open request are, of which more may be known
  pub blocks_stay : (cached longer : List Beside) → IsPrefix cached longer → BlocksStand own asked cached → BlocksStand new asked longer
  blocks_stay cached longer begins = go asked
    where
      same : (c : ℕ) → held_at new c ≡ held_at own c
      same c = ap (λ (w : Record). held_at w c) kept

      go : (asked : Call P) → BlocksStand own asked cached → BlocksStand new asked longer
      go (call.Poll rank c) stand = λ x shrinks k held open_is side is. has_block_stays cached longer (block_at c k side) begins
          (stand x shrinks k (sym (same c) ∙ held) open_is side is)
      go _ stand = tt

  -- a look that goes on makes as many loads as it finds
  pub also_looks_on : (now after : Sight P) → length own.seen < limits.ranks → length new.seen < limits.ranks
      → after.steps + (limits.ranks - length new.seen) ≤ now.steps + (limits.ranks - length own.seen)
      → AlsoLooks (also_left limits own asked Looking) limits asked (stance own now) (Goes Looking) (stance new after)
  also_looks_on now after more still few = record { few = omega (arith, also_after_same, more, still, few); sets = λ stand. tt }

  -- one that has ended makes one more, at most
  pub also_looks_over : (now after : Sight P) → length own.seen < limits.ranks → length new.seen ≤ limits.ranks
      → after.steps + (limits.ranks - length new.seen - 1) ≤ now.steps + (limits.ranks - length own.seen)
      → (left : Record) (next : Next P) → AlsoFollows limits asked new next left
      → AlsoLooks (also_left limits own asked Looking) limits asked (stance own now) next (stance left after)
  also_looks_over now after more within few left next follows =
      let rest = follows.few in
      record {
        few = omega (arith, also_after_same, more, within, few, rest, ap length follows.sees);
        sets = λ stand. follows.sets after.cached (blocks_stay after.cached after.cached ([], append-nil after.cached) stand);
      }

-- where not all ranks were seen, none is read again
reads_none : (ranks : ℕ) (seen : List ℕ) → length seen < ranks → reads_again ranks seen ≡ 0
reads_none ranks seen more = ap (λ b. if b then 0 else 1) (lt-ltb (length seen) ranks more)

-- what a look reads again was seen
reads_enough : (ranks : ℕ) (seen : List ℕ) → length seen ≤ ranks → length seen ≤ min (ranks - 1) (length seen) + reads_again ranks seen
reads_enough ranks seen within = go (nat_lt (length seen) ranks) refl
  where
    go : (b : Bool) → nat_lt (length seen) ranks ≡ b → length seen ≤ min (ranks - 1) (length seen) + (if b then 0 else 1)
    go true is = omega (arith, ltb-true (length seen) ranks is)
    go false is = omega (arith, within)

-- a call that begins its look, behind what was seen or at the last of all ranks
module _ {P : Type 0} (limits : Limits) (own resumed : Record) (asked : Call P) (ranks : own.limits.ranks ≡ limits.ranks)
    (is : resumed ≡ record own { seen = take (own.limits.ranks - 1) own.seen }) where
  -- how much it has seen then
  resumed_size : length resumed.seen ≡ min (own.limits.ranks - 1) (length own.seen)
  resumed_size = ap (λ (w : Record). length w.seen) is ∙ length-take (own.limits.ranks - 1) own.seen

  pub also_resumes : length own.seen ≤ limits.ranks → (now after : Sight P) (next : Next P) (new : Record)
      → AlsoLooks (also_left limits resumed asked Looking) limits asked (stance resumed now) next (stance new after)
      → AlsoLooks (also_left limits own asked Begun) limits asked (stance own now) next (stance new after)
  also_resumes within now after next new looks =
      let seen = take (own.limits.ranks - 1) own.seen in
      let few = looks.few in
      let same = also_after_same limits own resumed seen asked is in
      let again = reads_enough limits.ranks own.seen within in
      record {
        few = omega (arith, few, same, resumed_size, ranks, again);
        sets = λ stand. looks.sets (blocks_stay limits own resumed seen asked is after.cached after.cached ([], append-nil after.cached) stand);
      }

  -- its loads are those of a look that goes on from there
  pub looks_resumed : 0 < limits.ranks → (now after : Sight P) (next : Next P) (new : Record) → LooksOn limits resumed now next new after
      → LooksOn limits own now next new after
  looks_resumed some now after next new looks =
      let few = looks.few in
      record {
        few = omega (arith, few, resumed_size, ranks, some);
        found = λ more. let found = looks.found (omega (arith, resumed_size, ranks, more)) in omega (arith, found, resumed_size, ranks, more);
        sees = looks.sees;
        ends = λ past declared. looks.ends past (subst (λ (w : Record). IsTrue (has new.seen w.number)) (sym is) declared);
      }

module _ {P : Type 0} (limits : Limits) (own : Record) (asked : Call P) where
  -- a reply after a look
  pub follows_ends : (reply : Reply P) (new : Record) → new.seen ≡ own.seen → AlsoFollows limits asked own (Ends reply) new
  follows_ends reply new sees = record { few = omega arith; sees = sees; sets = λ cached stand. tt }

  also_passed : refusal_of own asked ≡ None → also_after_look limits own asked ≡ also_behind_look limits own asked
  also_passed passed = ap (λ (r : Option Refusal). if is_some r then 0 else also_behind_look limits own asked) passed

  -- a call that makes so many steps after its look
  pub follows_behind : (phase : Phase P) (left : ℕ) → also_left limits own asked phase ≡ left → ((cached : List Beside) → FindsSetIn own asked cached phase)
      → Passes own asked → also_behind_look limits own asked ≡ left → AlsoFollows limits asked own (Goes phase) own
  follows_behind phase left here sets p is = record {
    few = omega (arith, also_passed (passes_none own asked p), here, is);
    sees = refl;
    sets = λ cached stand. sets cached;
  }

-- the poll of a request, right after its look
module _ (P : Type 0) (limits : Limits) (own : Record) (rank c : ℕ) (passed : refusal_of {P = P} own (call.Poll rank c) ≡ None) (x : Held)
    (held : held_at own c ≡ Some x) where
  abbrev polls : Call P
  polls = call.Poll rank c

  poll_after : (request : Option Request) → x.request ≡ request → also_after_look limits own polls ≡ also_polling limits (length x.group) request
  poll_after request is_open =
      also_passed limits own polls passed ∙ (ap (λ h. also_polling limits (length (group_of h)) (request_of h)) held
      ∙ ap (also_polling limits (length x.group)) is_open)

  poll_waits : (meld : P → P → P) (h : History P) (legal : IsLegal meld limits h) (begins : IsPrefix own.seen (failures h)) (k : ℕ) (arrivals : Arrivals)
      → x.request ≡ Some (Barrier k) → AlsoFollows limits polls own (Goes (Waiting arrivals)) own
  poll_waits meld h legal begins k arrivals is_open =
      let few : length (in_order x.group own.seen) ≤ length x.group = in_order_few meld limits h x.group own.seen legal begins in
      let all = poll_after (Some (Barrier k)) is_open in
      record {
        few = subst (λ g. arrivals_left g own.seen arrivals + 1 ≤ also_after_look limits own polls) (sym (ap group_of held)) (omega (arith, all, few));
        sees = refl;
        sets = λ cached stand. tt;
      }

  poll_peeks : (k : ℕ) (shrinks : Bool) (peek : Peek P) → x.request ≡ Some (agreement shrinks k) → peek.comm ≡ c → peek.round ≡ k → peek.side ≡ Front
      → 0 < length x.group → AlsoFollows limits polls own (Goes (Peeking peek shrinks)) own
  poll_peeks k shrinks peek is_open comm round side any =
      record {
        few = by_kind shrinks is_open;
        sees = refl;
        sets = λ cached stand.
            record {
              front = λ at. subst (λ j. has_block cached (block_at j peek.round Front) ≡ true) (sym comm)
                  (subst (λ j. has_block cached (block_at c j Front) ≡ true) (sym round) (stand x shrinks k held is_open Front any));
              known = λ at. let other : Front ≡ Back = sym side ∙ at in absurd (cc other);
              back = λ apart.
                  let some : width (length x.group) < length x.group = apart_lt (length x.group)
                  (subst (λ g. has_back (length g) ≡ true) (ap group_of held) apart) in
                  subst (λ j. has_block cached (block_at j peek.round Back) ≡ true) (sym comm)
                  (subst (λ j. has_block cached (block_at c j Back) ≡ true) (sym round) (stand x shrinks k held is_open Back some));
            };
      }
    where
      four : peeks_left (length (group_of (held_at own c))) peek ≤ 4
      four = peeks_most (length (group_of (held_at own c))) peek

      by_kind : (b : Bool) → x.request ≡ Some (agreement b k) → peeks_left (length (group_of (held_at own c))) peek + also_after_round limits b ≤
          also_after_look limits own polls
      by_kind false is_open = let all = poll_after (Some (Agree k)) is_open in omega (arith, all, four)
      by_kind true is_open = let all = poll_after (Some (Shrink k)) is_open in omega (arith, all, four)

-- .. by what the code knows of the call
module _ {P : Type 0} (limits : Limits) (own : Record) (asked : Call P) (rank c : ℕ) (is : asked ≡ call.Poll rank c) (passed : refusal_of own asked ≡ None)
    (x : Held) (held : held_at own (comm_of asked) ≡ Some x) where
  pub follows_waits : (meld : P → P → P) (h : History P) (legal : IsLegal meld limits h) (begins : IsPrefix own.seen (failures h)) (k : ℕ) (arrivals : Arrivals)
      → x.request ≡ Some (Barrier k) → AlsoFollows limits asked own (Goes (Waiting arrivals)) own
  follows_waits meld h legal begins k arrivals is_open =
      subst (λ (a : Call P). refusal_of own a ≡ None → held_at own (comm_of a) ≡ Some x → AlsoFollows limits a own (Goes (Waiting arrivals)) own) (sym is)
      (λ passed held. poll_waits P limits own rank c passed x held meld h legal begins k arrivals is_open) passed held

  pub follows_peeks : (k : ℕ) (shrinks : Bool) (peek : Peek P) → x.request ≡ Some (agreement shrinks k) → peek.comm ≡ comm_of asked → peek.round ≡ k
      → peek.side ≡ Front → 0 < length x.group → AlsoFollows limits asked own (Goes (Peeking peek shrinks)) own
  follows_peeks k shrinks peek is_open comm round side any =
      subst (λ (a : Call P). refusal_of own a ≡ None → held_at own (comm_of a) ≡ Some x → peek.comm ≡ comm_of a
      → AlsoFollows limits a own (Goes (Peeking peek shrinks)) own) (sym is)
      (λ passed held comm. poll_peeks P limits own rank c passed x held k shrinks peek is_open comm round side any) passed held comm

-- a poll that knows its round's decision doesn't load its blocks any more
pub sets_next : {P : Type 0} (own : Record) (asked : Call P) (cached : List Beside) (next : Next P) → NextBelow 5 next → FindsSetNext own asked cached next
sets_next own asked cached (Ends reply) below = tt
sets_next own asked cached (Goes Over) below = tt
sets_next own asked cached (Goes Begun) below = absurd (omega (arith, below))
sets_next own asked cached (Goes Looking) below = absurd (omega (arith, below))
sets_next own asked cached (Goes (Spreading request offer)) below = tt
sets_next own asked cached (Goes (Settling request offer)) below = tt
sets_next own asked cached (Goes (Arriving round)) below = tt
sets_next own asked cached (Goes Revoking) below = tt
sets_next own asked cached (Goes Asking) below = tt
sets_next own asked cached (Goes (Peeking peek shrinks)) below = absurd (omega (arith, below))
sets_next own asked cached (Goes (Marking marks blocks shrinks)) below = absurd (omega (arith, below))
sets_next own asked cached (Goes (Reading reading shrinks)) below = absurd (omega (arith, below))
sets_next own asked cached (Goes (ReadingOn on made)) below = tt
sets_next own asked cached (Goes (Spawning append context reach)) below = tt
sets_next own asked cached (Goes (Waiting arrivals)) below = tt
sets_next own asked cached (Goes (Checking missing)) below = tt

-- a shrink that has read on has no more left than its way through the list of communicators
pub also_reached : {P : Type 0} (limits : Limits) (own : Record) (asked : Call P) (next : Next P) → NextBelow 4 next
    → FewerLeft (2 * (limits.comms - 1) + 1) limits own asked next → also_in limits own asked next ≤ also_after_round limits true
also_reached limits own asked (Ends reply) below fewer = omega arith
also_reached limits own asked (Goes Over) below fewer = omega arith
also_reached limits own asked (Goes Begun) below fewer = absurd (omega (arith, below))
also_reached limits own asked (Goes Looking) below fewer = absurd (omega (arith, below))
also_reached limits own asked (Goes (Spreading request offer)) below fewer = omega (arith, fewer)
also_reached limits own asked (Goes (Settling request offer)) below fewer = omega (arith, fewer)
also_reached limits own asked (Goes (Arriving round)) below fewer = omega (arith, fewer)
also_reached limits own asked (Goes Revoking) below fewer = omega (arith, fewer)
also_reached limits own asked (Goes Asking) below fewer = omega (arith, fewer)
also_reached limits own asked (Goes (Peeking peek shrinks)) below fewer = absurd (omega (arith, below))
also_reached limits own asked (Goes (Marking marks blocks shrinks)) below fewer = absurd (omega (arith, below))
also_reached limits own asked (Goes (Reading reading shrinks)) below fewer = absurd (omega (arith, below))
also_reached limits own asked (Goes (ReadingOn on made)) below fewer = absurd (omega (arith, below))
also_reached limits own asked (Goes (Spawning append context reach)) below fewer = omega (arith, fewer)
also_reached limits own asked (Goes (Waiting arrivals)) below fewer = omega (arith, fewer)
also_reached limits own asked (Goes (Checking missing)) below fewer = omega (arith, fewer)

-- the loads of a round's blocks
module _ {P : Type 0} (limits : Limits) (own : Record) (asked : Call P) (x : Held) (held : held_at own (comm_of asked) ≡ Some x) (shrinks : Bool)
    (members : List ℕ) (members_are : members ≡ x.group)
    (peek next : Peek P) (now after : Sight P) (comm : next.comm ≡ peek.comm) (round : next.round ≡ peek.round)
    (front : peek.side ≡ Front → next.side ≡ Back → FindsSet now.cached next Front) (onward : peek.side ≡ Back → next.side ≡ Back)
    (kept : peek.side ≡ Back → next.blocks.front ≡ peek.blocks.front)
    (all : FindsSetIn own asked now.cached (Peeking peek shrinks)) where
  size : length members ≡ length (group_of (held_at own (comm_of asked)))
  size = ap length (members_are ∙ sym (ap group_of held))

  -- the front block is known once the peek is past it
  front_known : next.side ≡ Back → is_some next.blocks.front ≡ true
  front_known past = go peek.side refl
    where
      go : (s : Side) → peek.side ≡ s → is_some next.blocks.front ≡ true
      go Front at = front at past (subst (λ j. has_block now.cached (block_at j next.round Front) ≡ true) (sym comm)
          (subst (λ j. has_block now.cached (block_at peek.comm j Front) ≡ true) (sym round) (all.front at)))
      go Back at = ap is_some (kept at) ∙ all.known at

  -- one that isn't past it wasn't before
  still_front : next.side ≡ Front → peek.side ≡ Front
  still_front at = go peek.side refl
    where
      go : (s : Side) → peek.side ≡ s → peek.side ≡ Front
      go Front is = is
      go Back is = let past = onward is in absurd (cc (at, past))

  -- a peek that goes on
  pub also_peeks_on : IsPrefix now.cached after.cached
      → after.steps + peeks_left (length members) next ≤ now.steps + peeks_left (length members) peek
      → AlsoSpends (also_left limits own asked (Peeking peek shrinks)) limits asked (stance own now) (Goes (Peeking next shrinks)) (stance own after)
  also_peeks_on begins turns =
      let few = subst (λ n. after.steps + peeks_left n next ≤ now.steps + peeks_left n peek) size turns in
      record {
        few = omega (arith, few);
        sets = record {
          front = λ at. stays Front (all.front (still_front at));
          known = front_known;
          back = λ apart. stays Back (all.back apart);
        };
      }
    where
      stays : (s : Side) → has_block now.cached (block_at peek.comm peek.round s) ≡ true → has_block after.cached (block_at next.comm next.round s) ≡ true
      stays s is =
          has_block_stays now.cached after.cached (block_at next.comm next.round s) begins
          (subst (λ j. has_block now.cached (block_at j next.round s) ≡ true) (sym comm)
          (subst (λ j. has_block now.cached (block_at peek.comm j s) ≡ true) (sym round) is))

  -- one that has ended knows all blocks
  pub also_whole : next.side ≡ Back → (has_back (length members) ≡ true → FindsSet now.cached next Back) → is_whole next.blocks (length members) ≡ true
  also_whole past back = go (has_back (length members)) refl
    where
      go : (b : Bool) → has_back (length members) ≡ b → (if b then (if is_some next.blocks.front then is_some next.blocks.back else false) else is_some
          next.blocks.front) ≡ true
      go true apart =
          let behind : is_some next.blocks.back ≡ true =
          back apart (subst (λ j. has_block now.cached (block_at j next.round Back) ≡ true) (sym comm)
          (subst (λ j. has_block now.cached (block_at peek.comm j Back) ≡ true) (sym round) (all.back (subst (λ n. has_back n ≡ true) size apart)))) in
          ap (λ t. if t then is_some next.blocks.back else false) (front_known past) ∙ behind
      go false whole = front_known past

  -- with what comes next
  pub also_peeks_over : after.steps ≤ now.steps + peeks_left (length members) peek → (new : Record) (following : Next P) → new.seen ≡ own.seen
      → NextBelow 5 following → also_in limits new asked following ≤ also_after_round limits shrinks
      → AlsoSpends (also_left limits own asked (Peeking peek shrinks)) limits asked (stance own now) following (stance new after)
  also_peeks_over turns new following sees below rest =
      let few = subst (λ n. after.steps ≤ now.steps + peeks_left n peek) size turns in
      record { few = omega (arith, few, rest, ap length sees); sets = sets_next new asked after.cached following below }

-- what a turn of a call behind its look spends
pub also_behind : {P : Type 0} (limits : Limits) (asked : Call P) (phase : Phase P) (own : Record) (now : Sight P) (next : Next P) (new : Record)
    (after : Sight P) → is_looking phase ≡ false → AlsoTurns limits asked phase (stance own now) next (stance new after)
    → FindsSetIn own asked now.cached phase → AlsoSpends (also_left limits own asked phase) limits asked (stance own now) next (stance new after)
also_behind limits asked Begun own now next new after past turn = absurd (cc past)
also_behind limits asked Looking own now next new after past turn = absurd (cc past)
also_behind limits asked _ own now next new after past turn = turn

-- it may make as many steps as its bound says
also_begun : {P : Type 0} (limits : Limits) (own : Record) (asked : Call P) (f : ℕ) → own.refused ≡ false → length own.seen < limits.ranks → 0 < limits.comms
    → also_left limits own asked Begun + f ≤ also_bound limits own asked f
also_begun {P} limits own asked f in_use more some =
    let n = length (group_of (held_at own (comm_of asked))) in
    let request = request_of (held_at own (comm_of asked)) in
    subst (λ b. also_left limits own asked Begun + f ≤ (if b then 0 else (if is_some (refusal_of own asked) then f + 1 else also_call_bound f n limits.comms
    request asked)))
    (sym in_use) (by_refusal (is_some (refusal_of own asked)))
  where
    again : ℕ
    again = reads_again limits.ranks own.seen

    none : again ≡ 0
    none = reads_none limits.ranks own.seen more

    by_request : (n : ℕ) (request : Option Request) → again + 1 + also_polling limits n request + f ≤ also_poll_bound f n limits.comms request
    by_request n None = omega (arith, none)
    by_request n (Some (Agree k)) = omega (arith, none)
    by_request n (Some (Shrink k)) = omega (arith, none, some)
    by_request n (Some (Barrier k)) = omega (arith, none)

    by_call : (asked : Call P) → again + 1 + also_behind_look limits own asked + f ≤ also_call_bound f (length (group_of (held_at own (comm_of asked))))
        limits.comms (request_of (held_at own (comm_of asked))) asked
    by_call (call.Poll rank c) = by_request (length (group_of (held_at own c))) (request_of (held_at own c))
    by_call _ = omega (arith, none)

    by_refusal : (b : Bool) → again + 1 + (if b then 0 else also_behind_look limits own asked) + f
        ≤ (if b then f + 1 else also_call_bound f (length (group_of (held_at own (comm_of asked)))) limits.comms
        (request_of (held_at own (comm_of asked))) asked)
    by_refusal true = omega (arith, none)
    by_refusal false = by_call asked

-- so a call that has ended has made no more
pub also_ended : {P : Type 0} (limits : Limits) (asked : Call P) (own new : Record) (now after : Sight P) → own.refused ≡ false → length own.seen < limits.ranks
    → 0 < limits.comms
    → after.steps + length own.seen ≤ now.steps + also_left limits own asked Begun + length new.seen
    → after.steps ≤ now.steps + also_bound limits own asked (length new.seen - length own.seen)
also_ended limits asked own new now after in_use more some few =
    let bound = also_begun limits own asked (length new.seen - length own.seen) in_use more some in
    omega (arith, few, bound)

-- a phase that ends the call, by so many steps at most
pub also_ends : {P : Type 0} (most : ℕ) (limits : Limits) (asked : Call P) (own new : Record) (now after : Sight P) (reply : Reply P)
    → after.steps ≤ now.steps + most → new.seen ≡ own.seen → AlsoSpends most limits asked (stance own now) (Ends reply) (stance new after)
also_ends most limits asked own new now after reply few sees = record { few = omega (arith, few, ap length sees); sets = tt }

-- the exchange of a contribution's wing, behind which the contribution's own comes
pub also_spreads : {P : Type 0} (limits : Limits) (asked : Call P) (own : Record) (now after : Sight P) (request : Request) (offer : Offer P)
    → after.steps ≡ now.steps + 1
    → AlsoSpends (also_left limits own asked (Spreading request offer)) limits asked (stance own now) (Goes (Settling request offer)) (stance own after)
also_spreads limits asked own now after request offer one = record { few = omega (arith, one); sets = tt }

-- a reading of arrivals that goes on, or has ended
pub also_waits : {P : Type 0} (limits : Limits) (asked : Call P) (own : Record) (now after : Sight P) (arrivals next : Arrivals)
    → Spends (steps_left limits own asked (Waiting arrivals)) limits own asked (Goes (Waiting next)) now after
    → AlsoSpends (also_left limits own asked (Waiting arrivals)) limits asked (stance own now) (Goes (Waiting next)) (stance own after)
also_waits limits asked own now after arrivals next spends = record { few = omega (arith, spends); sets = tt }

pub also_checks : {P : Type 0} (limits : Limits) (asked : Call P) (own : Record) (now after : Sight P) (arrivals : Arrivals) (missing : Missing)
    → Spends (steps_left limits own asked (Waiting arrivals)) limits own asked (Goes (Checking missing)) now after
    → AlsoSpends (also_left limits own asked (Waiting arrivals)) limits asked (stance own now) (Goes (Checking missing)) (stance own after)
also_checks limits asked own now after arrivals missing spends = record { few = omega (arith, spends); sets = tt }

-- a step on the way through the list of communicators
pub also_spawns : {P : Type 0} (limits : Limits) (asked : Call P) (own new : Record) (now after : Sight P) (append next : Append) (context reach : ℕ)
    → after.steps + turns_left (limits.comms - 1) next ≤ now.steps + turns_left (limits.comms - 1) append → new ≡ own
    → AlsoSpends (also_left limits own asked (Spawning append context reach)) limits asked (stance own now) (Goes (Spawning next context reach)) (stance new after)
also_spawns limits asked own new now after append next context reach few same = record {
  few = omega (arith, few, ap (λ (w : Record). length w.seen) same);
  sets = tt;
}

-- loads on in the list of failures
pub also_reads_on : {P : Type 0} (limits : Limits) (asked : Call P) (own mid new : Record) (now after : Sight P) (on : ReadOn) (made : Made) (next : Next P)
    → after.steps + length own.seen ≡ now.steps + length mid.seen → new.seen ≡ mid.seen
    → also_in limits new asked next ≤ also_after_round limits true → NextBelow 5 next
    → AlsoSpends (also_left limits own asked (ReadingOn on made)) limits asked (stance own now) next (stance new after)
also_reads_on limits asked own mid new now after on made next loads sees few below =
    record { few = omega (arith, loads, ap length sees, few); sets = sets_next new asked after.cached next below }

-- whatever a call does first
pub also_first_bound : {P : Type 0} (limits : Limits) (own : Record) (asked : Call P) → length own.seen < limits.ranks → 0 < limits.comms
    → also_left limits own asked (if own.refused then Over else Begun) ≤ also_bound limits own asked 0
also_first_bound {P} limits own asked more some = go own.refused refl
  where
    go : (b : Bool) → own.refused ≡ b → also_left limits own asked (if own.refused then Over else Begun) ≤ also_bound limits own asked 0
    go true e = subst (λ b. also_left {P = P} limits own asked (if b then Over else Begun) ≤ also_bound limits own asked 0) (sym e) (omega arith)
    go false e =
        let bound = also_begun limits own asked 0 e more some in
        subst (λ b. also_left {P = P} limits own asked (if b then Over else Begun) ≤ also_bound limits own asked 0) (sym e) (omega (arith, bound))
