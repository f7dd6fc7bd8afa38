-- One step of a call, as what it makes of a rank over words of its own.
use Rattle.std.proofs.Common.{◌≡◌, ◌⊎◌, inl, inr, ◌<◌, ◌++◌, ◌∷◌, Bool, true, false, [], Option, Some, None, is_some, nat_lt, if◌then◌else◌, refl, ap, sym, ◌∙◌, subst, arith, append-nil}
use mathlib.Core.List.{IsPrefix}
use Rattle.ulfm_model.specs.declared.{call.Call.{Call}, call.Request.{Request}, contribution.Offer.{Offer}, event.Caller.{Caller}, event.Caller.TheVariants.{Rank}, event.Entry.{Entry}, reply.Reply.{Reply}}
use Rattle.ulfm_model.specs.declared.step_name.StepName.TheVariants as step
use Rattle.ulfm_model.specs.{History.{History, MayFollow}, Records.{Record}, Terms.{comm_of}}
use Rattle.ulfm_model.proofs.Lists.{prefix_trans}
use Rattle.ulfm_words.specs.Steps.{Name, Over, Sight, View, over, view_at, view_of}
use Rattle.ulfm_words.proofs.Trails.{did_prefix}
use Rattle.ulfm_comm.specs.{Local.{local}, Phase.{Answered, MayStep, StandsOrEnds, UnderWay, next_of, next_step}, Step.{StepAdds, StepSees, Stepped}, StepsLeft.{steps_left}}
use Rattle.ulfm_comm.specs.{Proposals.{HasWon, OffersOwn, Proposes, WinsNext, proposes}, Wings.{WingsIn, WingsNext, WingsSettled}}
use Rattle.ulfm_comm.specs.declared.phases.phase.Phase.{Phase}
use Rattle.ulfm_comm.specs.declared.phases.phase.Phase.TheVariants.{Over as IsOver, Begun, Looking, Spreading, Settling, Arriving, Revoking, Asking, Peeking, Marking, Reading, ReadingOn, Spawning, Waiting, Checking}
use Rattle.ulfm_comm.proofs.{AmongOthers.{waits_none}, Stands.{stands_own}}
use Rattle.ulfm_replica.specs.Replicas.{Calling, IsCalling, IsWanted, MakesWanted, Rules, StepsOn, is_settle}
use Rattle.ulfm_replica.proofs.Fitting.{answered_fits}

-- whatever a call does, what was seen is so still behind its step
pub adds_on : {P : Type 0} (quiet : Bool) (own : Record) (asked : Call P) (phase : Phase P) (reply : Option (Reply P)) (old new : History P)
    → StepAdds quiet own asked phase reply old new → IsPrefix old new
adds_on quiet own asked (Settling request offer) reply old new p = did_prefix quiet _ old new p.did
adds_on quiet own asked (Arriving round) reply old new p = did_prefix quiet _ old new p.did
adds_on quiet own asked Revoking reply old new p = did_prefix quiet _ old new p.did
adds_on quiet own asked (Marking marks blocks shrinks) reply old new p = did_prefix quiet _ old new p.did
adds_on quiet own asked (Spawning append context reach) reply old new p = did_prefix quiet _ old new p.did
adds_on quiet own asked IsOver reply old new p = did_prefix quiet _ old new p
adds_on quiet own asked Begun reply old new p = did_prefix quiet _ old new p
adds_on quiet own asked Looking reply old new p = did_prefix quiet _ old new p
adds_on quiet own asked (Spreading request offer) reply old new p = did_prefix quiet _ old new p
adds_on quiet own asked Asking reply old new p = did_prefix quiet _ old new p
adds_on quiet own asked (Peeking peek shrinks) reply old new p = did_prefix quiet _ old new p
adds_on quiet own asked (Reading reading shrinks) reply old new p = did_prefix quiet _ old new p
adds_on quiet own asked (ReadingOn on made) reply old new p = did_prefix quiet _ old new p
adds_on quiet own asked (Waiting arrivals) reply old new p = did_prefix quiet _ old new p
adds_on quiet own asked (Checking missing) reply old new p = did_prefix quiet _ old new p

-- where no contribution's word comes next, what is known of the wings is that none stands without its place
settled_both : {P : Type 0} (own : Record) (asked : Call P) (phase : Phase P) (view : View P) → is_settle (next_step phase) ≡ false
    → (WingsIn own asked phase view → WingsSettled view) × (WingsSettled view → WingsIn own asked phase view)
settled_both own asked (Settling request offer) view un = absurd (cc un)
settled_both own asked (Arriving round) view un = ((λ p. p), (λ p. p))
settled_both own asked Revoking view un = ((λ p. p), (λ p. p))
settled_both own asked (Marking marks blocks shrinks) view un = ((λ p. p), (λ p. p))
settled_both own asked (Spawning append context reach) view un = ((λ p. p), (λ p. p))
settled_both own asked IsOver view un = ((λ p. p), (λ p. p))
settled_both own asked Begun view un = ((λ p. p), (λ p. p))
settled_both own asked Looking view un = ((λ p. p), (λ p. p))
settled_both own asked (Spreading request offer) view un = ((λ p. p), (λ p. p))
settled_both own asked Asking view un = ((λ p. p), (λ p. p))
settled_both own asked (Peeking peek shrinks) view un = ((λ p. p), (λ p. p))
settled_both own asked (Reading reading shrinks) view un = ((λ p. p), (λ p. p))
settled_both own asked (ReadingOn on made) view un = ((λ p. p), (λ p. p))
settled_both own asked (Waiting arrivals) view un = ((λ p. p), (λ p. p))
settled_both own asked (Checking missing) view un = ((λ p. p), (λ p. p))

pub settled_in : {P : Type 0} (own : Record) (asked : Call P) (phase : Phase P) (name : Over P) (pass : Sight P) → is_settle (next_step phase) ≡ false
    → WingsIn own asked phase (view_at name pass) → WingsSettled (view_at name pass)
settled_in own asked phase name pass un p = (settled_both own asked phase (view_at name pass) un).0 p

pub settled_out : {P : Type 0} (own : Record) (asked : Call P) (phase : Phase P) (name : Over P) (pass : Sight P) → is_settle (next_step phase) ≡ false
    → WingsSettled (view_at name pass) → WingsIn own asked phase (view_at name pass)
settled_out own asked phase name pass un p = (settled_both own asked phase (view_at name pass) un).1 p

-- a rank with a call that goes on, or was answered
abbrev pub going : {P : Type 0} → Name → Record → Sight P → UnderWay P → Calling P
going words own pass doing = record { words = words; own = own; pass = pass; call = Some doing; reply = None }

abbrev pub ended : {P : Type 0} → Name → Record → Sight P → Reply P → Calling P
ended words own pass reply = record { words = words; own = own; pass = pass; call = None; reply = Some reply }

-- what a step leaves
abbrev pub left_by : {P : Type 0} → Name → Record → Sight P → UnderWay P → Option (Reply P) → Calling P
left_by words own pass doing None = going words own pass doing
left_by words own pass doing (Some reply) = ended words own pass reply

module _ {P : Type 0} (by : Rules P) (words : Name) (own later : Record) (now after : Sight P) (was is : UnderWay P) (asked_is : is.asked ≡ was.asked) where
  -- a step, as the rank's own contract has it
  pub record OneStep (result : Option (Reply P)) : Type 0 where
    pub stepped : Stepped by.meld true was (local own (view_of by.pack words now)) (next_of result is.phase) (local later (view_of by.pack words after))
    pub stands : StandsOrEnds by.meld true was (local own (view_of by.pack words now)) result is (local later (view_of by.pack words after))

  begins_of : (result : Option (Reply P)) → OneStep result → IsPrefix now.seen after.seen
  begins_of result s = adds_on true own was.asked was.phase _ now.seen after.seen s.stepped.adds

  pub steps_once : (result : Option (Reply P)) → OneStep result → StepsOn by (going words own now was) (left_by words later after is result)
  steps_once None s =
      record {
        keeps = record {
          words = refl;
          idle = λ none. absurd (cc none);
          since = λ began before asked u. (asked_is ∙ u.0, after, s.stands false (λ here. absurd (cc here)) began before u.1 u.2 u.3, waits_none after);
        };
        nearer = omega (arith, subst (λ (a : Call P). steps_left words.limits later a is.phase < steps_left words.limits own was.asked was.phase) (sym asked_is) s.stepped.nearer);
        begins = begins_of None s;
      }
  steps_once (Some reply) s =
      record {
        keeps = record {
          words = refl;
          idle = λ none. absurd (cc none);
          since = λ began before asked u. (after, subst (λ (a : Call P). Answered by.meld false a (local began (view_of by.pack words before)) reply (local later (view_of by.pack words after))) u.0 (s.stands false (λ here. absurd (cc here)) began before u.1 u.2 u.3), waits_none after);
        };
        nearer = omega arith;
        begins = begins_of (Some reply) s;
      }

  -- where it may step it may step on
  pub may_step_on : OneStep None → MayStep by.meld was (local own (view_of by.pack words now)) → MayStep by.meld is (local later (view_of by.pack words after))
  may_step_on s may = (may.0, may.1, after, s.stands false (λ here. absurd (cc here)) may.0 may.1 may.2 may.3 may.4, waits_none after)

  -- what it leaves is such a rank again
  pub goes_well : OneStep None → MayStep by.meld was (local own (view_of by.pack words now)) → is_settle (next_step is.phase) ≡ false
      → WingsNext later is.asked (next_of None is.phase) (view_of by.pack words after) → IsCalling by (going words later after is)
  goes_well s may un wings =
      record {
        of = s.stepped.of;
        settled = settled_in later is.asked is.phase (over by.pack words) after un wings;
        unspread = un;
        stands = (refl, may_step_on s may);
      }

  pub ends_well : (reply : Reply P) → OneStep (Some reply) → MayStep by.meld was (local own (view_of by.pack words now))
      → WingsNext later was.asked (next_of (Some reply) is.phase) (view_of by.pack words after) → IsCalling by (ended words later after reply)
  ends_well reply s may wings =
      record {
        of = s.stepped.of;
        settled = wings;
        unspread = tt;
        stands = answered_fits by.meld (over by.pack words) may.0 later may.1 after was.asked reply s.stepped.of may.3.fits (s.stands false (λ here. absurd (cc here)) may.0 may.1 may.2 may.3 may.4);
      }

-- where the exchange of a contribution's word comes next, the call is about to contribute
pub settle_is : {P : Type 0} (phase : Phase P) → is_settle (next_step phase) ≡ true → (request : Request) × (offer : Offer P) × (phase ≡ Settling request offer)
settle_is (Settling request offer) is = (request, offer, refl)
settle_is (Arriving round) is = absurd (cc is)
settle_is Revoking is = absurd (cc is)
settle_is (Marking marks blocks shrinks) is = absurd (cc is)
settle_is (Spawning append context reach) is = spawns append.empty is
  where
    spawns : {W : Type 0} (b : Bool) → is_settle (Some (if b then step.Spawn else step.Comm)) ≡ true → W
    spawns true is = absurd (cc is)
    spawns false is = absurd (cc is)
settle_is IsOver is = absurd (cc is)
settle_is Begun is = absurd (cc is)
settle_is Looking is = absurd (cc is)
settle_is (Spreading request offer) is = absurd (cc is)
settle_is Asking is = absurd (cc is)
settle_is (Peeking peek shrinks) is = wings (is_some peek.first) is
  where
    wings : {W : Type 0} (b : Bool) → is_settle (Some (if b then step.Wing else step.Block)) ≡ true → W
    wings true is = absurd (cc is)
    wings false is = absurd (cc is)
settle_is (Reading reading shrinks) is = reads (nat_lt reading.read reading.width) (is_some reading.first) reading.winged is
  where
    reads : {W : Type 0} (more first winged : Bool) → is_settle (Some (if more then (if first then step.Wing else step.Slot) else (if winged then step.Cache else step.Wing))) ≡ true → W
    reads true true winged is = absurd (cc is)
    reads true false winged is = absurd (cc is)
    reads false first true is = absurd (cc is)
    reads false first false is = absurd (cc is)
settle_is (ReadingOn on made) is = absurd (cc is)
settle_is (Waiting arrivals) is = absurd (cc is)
settle_is (Checking missing) is = absurd (cc is)

-- what won was a contribution's wing, or the entry has come
pub won_or_spread : {P : Type 0} (phase : Phase P) (e : Entry P) (old : History P) (result : Option (Reply P)) (f : Phase P) (new : History P) → HasWon phase e old (next_of result f) new
    → ((request : Request) × (offer : Offer P) × (phase ≡ Spreading request offer) × (new ≡ old) × (next_of result f ≡ next_of None (Settling request offer))) ⊎ (new ≡ old ++ e ∷ [])
won_or_spread (Spreading request offer) e old result f new won = inl (request, offer, refl, won.0, won.1)
won_or_spread (Settling request offer) e old result f new won = inr won
won_or_spread (Arriving round) e old result f new won = inr won
won_or_spread Revoking e old result f new won = inr won
won_or_spread (Marking marks blocks shrinks) e old result f new won = inr won
won_or_spread (Spawning append context reach) e old result f new won = inr won
won_or_spread IsOver e old result f new won = inr won
won_or_spread Begun e old result f new won = inr won
won_or_spread Looking e old result f new won = inr won
won_or_spread Asking e old result f new won = inr won
won_or_spread (Peeking peek shrinks) e old result f new won = inr won
won_or_spread (Reading reading shrinks) e old result f new won = inr won
won_or_spread (ReadingOn on made) e old result f new won = inr won
won_or_spread (Waiting arrivals) e old result f new won = inr won
won_or_spread (Checking missing) e old result f new won = inr won

-- what a contribution's step makes
module _ {P : Type 0} (by : Rules P) (words : Name) (own : Record) (now after : Sight P) (was : UnderWay P) where
  abbrev pub Wins : Option (Reply P) → Phase P → Type 0
  Wins result f = WinsNext by.meld true was.asked was.phase (local own (view_of by.pack words now)) (next_of result f) (view_of by.pack words after)

module _ {P : Type 0} (by : Rules P) (words : Name) (own later : Record) (now after : Sight P) (was is : UnderWay P) where
  -- the entry that was waited for has come, or the wing of its contribution is set
  pub wins : (result : Option (Reply P)) (f : Phase P) → Wins by words own now after was result f → WingsIn own was.asked was.phase (view_of by.pack words now) → (entry : Entry P) → IsWanted by (going words own now was) entry
      → ((request : Request) × (offer : Offer P) × (was.phase ≡ Spreading request offer) × (after.seen ≡ now.seen) × (next_of result f ≡ next_of None (Settling request offer)))
      ⊎ (after.seen ≡ now.seen ++ entry ∷ [])
  wins result f won wings entry wanted =
      let doing_is : wanted.doing ≡ was = sym (cc wanted.waits) in
      let is_for = subst (λ (d : UnderWay P). proposes d.phase ≡ true) doing_is wanted.is_for in
      let event = subst (λ (d : UnderWay P). Proposes own d.asked d.phase entry.event) doing_is wanted.event in
      let e : Entry P = record { by = Rank own.number; event = entry.event } in
      let entry_is : e ≡ entry = ap (λ (c : Caller). let x : Entry P = record { by = c; event = entry.event } in x) (sym wanted.mine) in
      subst (λ (x : Entry P). ((request : Request) × (offer : Offer P) × (was.phase ≡ Spreading request offer) × (after.seen ≡ now.seen) × (next_of result f ≡ next_of None (Settling request offer))) ⊎ (after.seen ≡ now.seen ++ x ∷ []))
      entry_is (won_or_spread was.phase e now.seen result f after.seen ((won refl wings is_for entry.event event).0 wanted.follows))

  pub prefix_of : (entry : Entry P) → after.seen ≡ now.seen ++ entry ∷ [] → IsPrefix (now.seen ++ entry ∷ []) after.seen
  prefix_of entry same = ([], append-nil (now.seen ++ entry ∷ []) ∙ sym same)

  -- where the call has ended
  pub ends_wanted : (reply : Reply P) → Wins by words own now after was (Some reply) is.phase → WingsIn own was.asked was.phase (view_of by.pack words now) → MakesWanted by (going words own now was) (ended words later after reply)
  ends_wanted reply won wings entry wanted =
      elim (wins (Some reply) is.phase won wings entry wanted) [
        | inl spread ↦ absurd (cc spread.4)
        | inr same ↦ prefix_of entry same
      ]

  -- where it goes on, and not to a contribution
  pub goes_wanted : Wins by words own now after was None is.phase → WingsIn own was.asked was.phase (view_of by.pack words now) → is_settle (next_step is.phase) ≡ false
      → MakesWanted by (going words own now was) (going words later after is)
  goes_wanted won wings un entry wanted =
      elim (wins None is.phase won wings entry wanted) [
        | inl spread ↦ let phase_is : is.phase ≡ Settling spread.0 spread.1 = cc spread.4 in absurd (cc (un, phase_is))
        | inr same ↦ prefix_of entry same
      ]

-- what two steps make, where the first may have set the wing of a contribution
module _ {P : Type 0} (by : Rules P) (words : Name) (own later : Record) (now after : Sight P) (was is : UnderWay P) (asked_is : is.asked ≡ was.asked)
    (s : OneStep by words own later now after was is asked_is None) (may : MayStep by.meld was (local own (view_of by.pack words now))) where
  -- a contribution's wing left the rank as it was
  own_same : (request : Request) (offer : Offer P) → was.phase ≡ Spreading request offer → later ≡ own
  own_same request offer spread =
      let stands = s.stands false (λ here. absurd (cc here)) may.0 may.1 may.2 may.3 may.4 in
      let one = stands_own by.meld false (over by.pack words) was.asked may.0 may.1 was.prepared own may.2 was.phase may.3.at in
      let two = stands_own by.meld false (over by.pack words) is.asked may.0 may.1 is.prepared later after is.phase stands.at in
      let seen : later.seen ≡ own.seen = subst (λ (f : Phase P). StepSees f own.seen later.seen) spread s.stepped.sees in
      two ∙ (ap (λ xs. record may.0 { seen = xs }) seen ∙ sym one)

  -- what is waited for behind the wing
  still_wanted : (entry : Entry P) → IsWanted by (going words own now was) entry → (request : Request) (offer : Offer P) → was.phase ≡ Spreading request offer
      → after.seen ≡ now.seen → is.phase ≡ Settling request offer → IsWanted by (going words later after is) entry
  still_wanted entry wanted request offer spread same settles =
      let left = own_same request offer spread in
      let doing_is : wanted.doing ≡ was = sym (cc wanted.waits) in
      let event = subst (λ (d : UnderWay P). Proposes own d.asked d.phase entry.event) doing_is wanted.event in
      let offers = subst (λ (f : Phase P). Proposes own was.asked f entry.event) spread event in
      let mine = subst (λ (r : Record). OffersOwn r (comm_of was.asked) offer entry.event) (sym left) offers in
      let asked = subst (λ (a : Call P). OffersOwn later (comm_of a) offer entry.event) (sym asked_is) mine in
      record {
        mine = wanted.mine ∙ ap (λ (r : Record). Rank r.number) (sym left);
        follows = subst (λ (h : History P). MayFollow by.meld words.limits h entry.event) (sym same) wanted.follows;
        doing = is;
        waits = refl;
        is_for = subst (λ (f : Phase P). proposes f ≡ true) (sym settles) refl;
        event = subst (λ (f : Phase P). Proposes later is.asked f entry.event) (sym settles) asked;
      }

  pub then_wanted : Wins by words own now after was None is.phase → WingsIn own was.asked was.phase (view_of by.pack words now) → (new : Calling P)
      → MakesWanted by (going words later after is) new → IsPrefix after.seen new.pass.seen → MakesWanted by (going words own now was) new
  then_wanted won wings new second begins entry wanted =
      elim (wins by words own later now after was is None is.phase won wings entry wanted) [
        | inl spread ↦
            let settles : is.phase ≡ Settling spread.0 spread.1 = cc spread.4 in
            subst (λ (h : History P). IsPrefix (h ++ entry ∷ []) new.pass.seen) spread.3 (second entry (still_wanted entry wanted spread.0 spread.1 spread.2 spread.3 settles))
        | inr same ↦ prefix_trans (now.seen ++ entry ∷ []) after.seen new.pass.seen (prefix_of by words own later now after was is entry same) begins
      ]

-- one step after another
pub steps_then : {P : Type 0} (by : Rules P) (one two three : Calling P) (was : UnderWay P) → one.call ≡ Some was → StepsOn by one two → StepsOn by two three → StepsOn by one three
steps_then by one two three was is first second =
    record {
      keeps = record {
        words = second.keeps.words ∙ first.keeps.words;
        idle = λ none. absurd (cc (is, none));
        since = λ began before asked u. second.keeps.since began before asked (first.keeps.since began before asked u);
      };
      nearer = omega (arith, first.nearer, second.nearer);
      begins = prefix_trans one.pass.seen two.pass.seen three.pass.seen first.begins second.begins;
    }
