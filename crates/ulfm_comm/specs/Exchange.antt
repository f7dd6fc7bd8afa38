-- The last step of a start after its look: what is contributed, and what the exchange gave.
use Rattle.std.specs.Prelude.{◌≡◌, ℕ, Bool, true, [], ◌∷◌, Some, length, filter, Result, Ok, Err}
use Rattle.ulfm_words.specs.{Tries.{IsSettledBy}, declared.{accesses.Settled.{Settled}, accesses.Settled.TheVariants.{Contributed, Marked}}}
use Rattle.ulfm_model.specs.declared.call.Call.TheVariants as call
use Rattle.ulfm_model.specs.declared.{call.Call.{Call}, call.Request.{Request}, call.Request.TheVariants.{Agree, Shrink}, contribution.Offer.{Offer}}
use Rattle.ulfm_model.specs.declared.{contribution.Offer.TheVariants.{Flag, Ctx}, event.Caller.TheVariants.{Rank}}
use Rattle.ulfm_model.specs.declared.{refusal.Refusal.TheVariants.{SelfFailed, Twice}, contribution.Contribution.{Contribution}}
use Rattle.ulfm_model.specs.declared.{contribution.Slot.TheVariants.{Given}, event.Event.TheVariants.{Settle}, refusal.Refusal.{Refusal}}
use Rattle.ulfm_model.specs.{History.{History, has, slot}, Records.{Held, Record, free_ids, with_held}, Runs.{Did}, Answers.{opened}}

-- this is an offer with the failures that a rank's look found, and how many of them its record has acknowledged
pub record IsOffered {P : Type 0} (own : Record) (x : Held) (offer : Offer P) (given : Contribution P) : Type 0 where
  pub offer_is : given.offer ≡ offer
  pub known : given.known.count ≡ length (filter (has x.group) own.seen)
  pub acked : given.acked.count ≡ x.acked

-- a rank's own place in its next agreement round has its contribution: this offer, the failures that its look found, and how many of
-- them its record has acknowledged
pub record HasGiven {P : Type 0} (alone : Bool) (now after : History P) (own : Record) (x : Held) (offer : Offer P) : Type 0 where
  pub given : Contribution P
  pub did : Did alone (record { by = Rank own.number; event = Settle x.comm x.next_agreement own.number given } ∷ []) now after
  pub stands : slot after x.comm x.next_agreement own.number ≡ Some (Given given)
  pub offer_is : given.offer ≡ offer
  pub known : given.known.count ≡ length (filter (has x.group) own.seen)
  pub acked : given.acked.count ≡ x.acked

-- that place was settled by something else, and the rank has added nothing
pub record WasSettled {P : Type 0} (alone : Bool) (now after : History P) (own : Record) (x : Held) (by : Settled) : Type 0 where
  pub did : Did alone [] now after
  pub stands : IsSettledBy (slot after x.comm x.next_agreement own.number) by

-- one of the two, by what the exchange gave
abbrev pub Settles : {P : Type 0} → Bool → History P → History P → Record → Held → Offer P → Result (Unit {0}) Settled → Type 0
Settles alone now after own x offer (Ok _) = HasGiven alone now after own x offer
Settles alone now after own x offer (Err by) = WasSettled alone now after own x by

-- what a start answers, by what its exchange gave
abbrev pub start_result : Result (Unit {0}) Settled → Result (Unit {0}) Refusal
start_result (Ok done) = Ok done
start_result (Err Marked) = Err SelfFailed
start_result (Err Contributed) = Err Twice

-- what it leaves of the record
abbrev pub start_leaves : Record → ℕ → Request → Result (Unit {0}) Settled → Record
start_leaves own c request (Ok _) = with_held own c (λ y. opened y (Some request))
start_leaves own c request (Err Marked) = record own { refused = true }
start_leaves own c request (Err Contributed) = own

-- what the start of an agree or of a shrink contributes, and the request that it opens
abbrev pub StartsWith : {P : Type 0} → Call P → Record → Held → Request → Offer P → Type 0
StartsWith (call.Agree rank c value) own x request offer = (request ≡ Agree x.next_agreement) × (offer ≡ Flag value)
StartsWith (call.Shrink rank c) own x request offer = (request ≡ Shrink x.next_agreement) × (offer ≡ Ctx (free_ids own.held))
StartsWith _ own x request offer = ⊥
