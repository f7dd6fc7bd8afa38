-- What is known where a call proposes an event.
use Rattle.std.proofs.Common.{◌≡◌, ℕ, ◌+◌, ◌-◌, ◌<◌, ◌≤◌, Bool, List, [], append-nil, length, filter, slice_index, Some, ap, sym, ◌∙◌, subst, arith}
use Rattle.std.specs.List.Sorted.{IsStrictlyIncreasing}
use Rattle.ulfm_model.specs.declared.{call.Call.{Call}, contribution.Contribution.{Contribution}, contribution.MarkCount.{MarkCount}, contribution.Offer.{Offer}}
use Rattle.ulfm_model.specs.declared.{event.Event.{Event}, event.Event.TheVariants.{Mark, Settle}, limits.Limits.{Limits}}
use Rattle.ulfm_model.specs.{History.{History, IsLegal, failures, has}, Records.{Held, Record, held_at, moment}, Terms.{comm_of}, Words.{MayOpen}}
use Rattle.ulfm_steps.specs.declared.{blocks.MarkAll.{MarkAll}, blocks.RoundBlocks.{RoundBlocks}}
use Rattle.ulfm_steps.proofs.Marking.{count_fits}
use Rattle.ulfm_comm.specs.{Agreement.{IsMarking}, Local.{frame}, Look.{HasLooked}, Proposals.{OffersOwn}}
use Rattle.ulfm_comm.proofs.{Exchange.{fits_now, seen_is}, Holding.{group_rises}, Starts.{acked_known, known_few}}

-- what a contribution rests on
pub record MayOffer (own : Record) (c : ℕ) : Type 0 where
  pub x : Held
  pub held : held_at own c ≡ Some x
  pub rises : IsStrictlyIncreasing x.group
  pub few : length (filter (has x.group) own.seen) ≤ 1024
  pub acked : x.acked ≤ length (filter (has x.group) own.seen)

module _ {P : Type 0} (meld : P → P → P) (limits : Limits) (alone : Bool) (old : Record) (before : History P) (own : Record) (now : History P) (legal : IsLegal meld limits now) (opens : MayOpen limits) where
  -- a start that has looked knows no more failures than there are ranks, and has acknowledged no more than it knows
  pub may_offer : (asked : Call P) → HasLooked (frame meld limits alone) asked (moment old before) (moment own now) → MayOffer own (comm_of asked)
  may_offer asked p =
      let fits = fits_now meld limits alone asked old before own now p legal in
      let some = known_few meld limits now own (comm_of asked) p.x fits p.held legal in
      record {
        x = p.x;
        held = p.held;
        rises = group_rises meld limits now own (comm_of asked) p.x fits p.held;
        few = omega (arith, some, opens.in_range.ranks);
        acked = acked_known meld limits p.look own (comm_of asked) p.x p.fits p.held (seen_is meld limits alone asked old before own now p);
      }

  -- a marking has counted fewer members than there may be ranks, and comes to one that was seen
  pub marks_on : (c : ℕ) (shrinks : Bool) (marks : MarkAll) (blocks : RoundBlocks P) (p : IsMarking (frame meld limits alone) c shrinks marks blocks (moment old before) (moment own now))
      → marks.next < length (failures p.since.look) → (marks.known < 1024) × (marks.next < length own.seen)
  marks_on c shrinks marks blocks p more =
      let fits = count_fits meld limits p.since.look p.x.group (failures p.since.look) marks.next p.legal opens ([], append-nil (failures p.since.look)) more in
      let seen : length own.seen ≡ length (failures p.since.look) = ap (λ (r : Record). length r.seen) p.since.looked.record_is in
      (omega (arith, fits, p.at.counted), omega (arith, more, seen))

-- a mark that was made of what was counted
pub mark_is : {P : Type 0} (c k next known : ℕ) (seen same : List ℕ) (mark : MarkCount) → seen ≡ same → mark.known.count ≡ known + 1
    → (x : MarkCount) × (x.known.count ≡ known + 1) × ((let e : Event P = Mark c k (slice_index seen next) mark in e) ≡ Mark c k (slice_index same next) x)
mark_is {P} c k next known seen same mark is count = (mark, count, ap (λ (w : List ℕ). let e : Event P = Mark c k (slice_index w next) mark in e) is)

-- a contribution that was made of what was counted
pub given_is : {P : Type 0} (own : Record) (c : ℕ) (offer : Offer P) (x : Held) (number : ℕ) (given : Contribution P) → held_at own c ≡ Some x → number ≡ own.number → given.offer ≡ offer
    → given.known.count ≡ length (filter (has x.group) own.seen) → given.acked.count ≡ x.acked → OffersOwn own c offer (Settle x.comm x.next_agreement number given)
given_is {P} own c offer x number given held mine offer_is known acked =
    record {
      x = x;
      held = held;
      given = given;
      is = ap (λ (n : ℕ). let e : Event P = Settle x.comm x.next_agreement n given in e) mine;
      offered = record { offer_is = offer_is; known = known; acked = acked };
    }
