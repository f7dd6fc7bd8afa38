-- A record that a call leaves fits what its caller has seen then.
use Rattle.std.proofs.Common.{◌≡◌, ◌⊎◌, inl, inr, ◌≤◌, ◌++◌, ◌∷◌, Bool, true, false, List, [], length, length-append, Option, Some, None, is_some, refl, ap, ◌∙◌, sym, subst, arith, append-nil}
use Rattle.std.specs.Prelude.{IfOk, Result, Ok, Err}
use mathlib.Core.List.{IsPrefix}
use Rattle.ulfm_model.specs.declared.{call.Call.{Call}, event.Entry.{Entry}, limits.Limits.{Limits}, reply.Reply.{Reply}}
use Rattle.ulfm_model.specs.{History.{History}, Records.{Fits, Record}}
use Rattle.ulfm_model.proofs.Stable.{fits_stays}
use Rattle.ulfm_model.proofs.Lists.{prefix_trans}
use Rattle.ulfm_words.specs.Steps.{IsView, Name, Over, Sight, view_at, view_of}
use Rattle.ulfm_words.proofs.Trails.{did_prefix, did_wait}
use Rattle.ulfm_comm.specs.{Calls.{RepliedAs, wants_memory}, Ends.{IsRefusedAgain}, Local.{local}, Phase.{Answered, Idles, UnderWay, Waits}}
use Rattle.ulfm_comm.proofs.AmongOthers.{did_among}
use Rattle.ulfm_replica.specs.Replays.{Feeds}
use Rattle.ulfm_replica.specs.Replicas.{Calling, KeepsCall, Rules, SinceIn, StandsIn}

module _ {P : Type 0} (meld : P → P → P) (name : Over P) (began own : Record) (before now : Sight P) where
  -- what was seen begins with what was seen when the call began
  pub answered_fits : (asked : Call P) (reply : Reply P) → IsView meld (view_at name now) → Fits meld name.limits before.seen began
      → Answered meld false asked (local began (view_at name before)) reply (local own (view_at name now)) → Fits meld name.limits now.seen own
  answered_fits asked reply of fits answered = by_end answered.ends
    where
      replied : (b : Bool) → RepliedAs meld false asked (local began (view_at name before)) reply b (local own (view_at name now)) → Fits meld name.limits now.seen own
      replied true out = out.0.fits
      replied false linearizes = linearizes.fits

      by_end : (IsRefusedAgain began reply own × Idles false before now) ⊎ RepliedAs meld false asked (local began (view_at name before)) reply (wants_memory reply) (local own (view_at name now))
          → Fits meld name.limits now.seen own
      by_end (inl again) =
          subst (λ (r : Record). Fits meld name.limits now.seen r) (sym again.0.record_is)
          (fits_stays meld name.limits before.seen now.seen began (did_prefix false _ before.seen now.seen again.1.did) of.legal fits)
      by_end (inr done) = replied (wants_memory reply) done

-- what holds of a value that is there holds more
pub if_ok_both : {X E : Type 0} {Holds More : X → Type 0} → ((x : X) → Holds x → More x) → (answer : Result X E) → IfOk answer Holds → IfOk answer More
if_ok_both more (Ok x) holds = more x holds
if_ok_both more (Err e) holds = tt

pub if_ok_two : {X E : Type 0} {Holds Also More : X → Type 0} → ((x : X) → Holds x → Also x → More x) → (answer : Result X E) → IfOk answer Holds → IfOk answer Also → IfOk answer More
if_ok_two more (Ok x) holds also = more x holds also
if_ok_two more (Err e) holds also = tt

-- what has nothing
pub none_of : {X : Type 0} (o : Option X) → is_some o ≡ false → o ≡ None
none_of None is = refl
none_of (Some x) is = absurd (cc is)

-- an entry leaves what was seen
pub feeds_on : {P : Type 0} (meld : P → P → P) (limits : Limits) (e : Entry P) (taken : Bool) (old new : History P) → Feeds meld limits e taken old new → IsPrefix old new
feeds_on meld limits e true old new p = (e ∷ [], sym p.1)
feeds_on meld limits e false old new p = ([], append-nil old ∙ sym p.1)

-- a call waits on while more is seen
pub waits_on : {P : Type 0} (stood now later : Sight P) → Waits false stood now → IsPrefix now.seen later.seen → IsPrefix now.cached later.cached → now.steps ≤ later.steps → Waits false stood later
waits_on stood now later w begins keeps onward =
    let first = w.onward in
    record {
      did = did_wait false [] stood.seen now.seen later.seen w.did (did_among now.seen later.seen begins);
      cached = prefix_trans stood.cached now.cached later.cached w.cached keeps;
      onward = omega (arith, first, onward);
    }

-- more that is seen leaves a rank where it stands
module _ {P : Type 0} (by : Rules P) (words : Name) (own : Record) (now later : Sight P) (begins : IsPrefix now.seen later.seen) (keeps : IsPrefix now.cached later.cached) (onward : now.steps ≤ later.steps) where
  abbrev pub at_pass : Sight P → Option (UnderWay P) → Option (Reply P) → Calling P
  at_pass pass call reply = record { words = words; own = own; pass = pass; call = call; reply = reply }

  pub stands_on : IsView by.meld (view_of by.pack words later) → (call : Option (UnderWay P)) (reply : Option (Reply P)) → StandsIn by (at_pass now call reply) call reply → StandsIn by (at_pass later call reply) call reply
  stands_on of None reply fits = fits_stays by.meld words.limits now.seen later.seen own begins of.legal fits
  stands_on of (Some doing) reply stands =
      let may = stands.1 in
      (stands.0, (may.0, may.1, may.2, may.3, waits_on may.2 now later may.4 begins keeps onward))

  since_on : (began : Record) (before : Sight P) (asked : Call P) (call : Option (UnderWay P)) (reply : Option (Reply P))
      → SinceIn by began before asked (at_pass now call reply) call reply → SinceIn by began before asked (at_pass later call reply) call reply
  since_on began before asked None None p = p
  since_on began before asked (Some doing) reply p = (p.0, p.1, p.2, waits_on p.1 now later p.3 begins keeps onward)
  since_on began before asked None (Some reply) p = (p.0, p.1, waits_on p.0 now later p.2 begins keeps onward)

  pub keeps_on : (call : Option (UnderWay P)) (reply : Option (Reply P)) → KeepsCall by (at_pass now call reply) (at_pass later call reply)
  keeps_on call reply = record { words = refl; idle = λ none. refl; since = λ began before asked u. since_on began before asked call reply u }

-- a list with a beginning of its own length is this
pub same_seen : {X : Type 0} (xs ys : List X) → IsPrefix xs ys → length ys ≡ length xs → ys ≡ xs
same_seen xs ys begins count = sym begins.1 ∙ (ap (λ w. xs ++ w) (empty begins.0 (omega (arith, count, sym (ap length begins.1), length-append xs begins.0))) ∙ append-nil xs)
  where
    empty : {X : Type 0} (zs : List X) → length zs ≡ 0 → zs ≡ []
    empty [] n = refl
    empty (z ∷ zs) n = absurd (omega (arith, n))

-- a rank that stays as it was keeps its call
pub keeps_same : {P : Type 0} (by : Rules P) (r : Calling P) → KeepsCall by r r
keeps_same by r = record { words = refl; idle = λ none. refl; since = λ began before asked u. u }
