-- The poll of a request that is open, right after its look.
use Rattle.std.proofs.Common.{◌≡◌, ℕ, ◌<◌, Bool, false, List, [], length, Option, None, Some, is_some, ap, sym, ◌∙◌, subst}
use Rattle.ulfm_laws.specs.declared.summary.Summary.{Summary}
use Rattle.ulfm_model.specs.declared.call.Call.TheVariants as call
use Rattle.ulfm_model.specs.declared.{call.Call.{Call}, call.Request.TheVariants.{Barrier}}
use Rattle.ulfm_model.specs.declared.{block.Side.TheVariants.{Front, Back}}
use Rattle.ulfm_model.specs.{Blocks.{IsSide, block_of}, History.{History, failures}, Records.{Fits, Held, Record, held_at}, Terms.{comm_of}}
use Rattle.ulfm_model.specs.Records.{moment}
use Rattle.ulfm_words.specs.Steps.{IsView, Over, Sight, view_at}
use Rattle.ulfm_words.proofs.Trails.{did_none}
use Rattle.ulfm_steps.specs.declared.{arrivals.Arrivals.{Arrivals}, blocks.Peek.{Peek}}
use Rattle.ulfm_steps.specs.{Arriving.{AtArrival, IsAsked, asked_before}, Blocks.{MembersTell}}
use Rattle.ulfm_steps.proofs.Arriving.{at_arrival_new}
use Rattle.ulfm_comm.specs.{Requests.{agreement}, Agreement.{IsPeeking}, Barrier.{IsWaiting}, Look.{HoldsSince, JustLooked}, Phase.{Stands}}
use Rattle.ulfm_comm.specs.declared.phases.phase.Phase.TheVariants.{Peeking, Waiting}
use Rattle.ulfm_comm.proofs.{CallRuns.{looked_fits}, Agreement.{poll_mine, some_member}, Holding.{holds}}
use Rattle.ulfm_comm.specs.Local.{frame, local}
use Rattle.ulfm_comm.specs.Prepared.{Prepared}

-- of a block that isn't known nothing is told
tells_none : {P : Type 0} (meld : P → P → P) (h : History P) (c k : ℕ) (group : List ℕ) (said : Option (Summary P)) → is_some said ≡ false
    → MembersTell meld h c k group said
tells_none meld h c k group None none = tt
tells_none meld h c k group (Some all) none = absurd (cc none)

-- the poll of a request that is open, right after its look
module _ {P : Type 0} (meld : P → P → P) (alone : Bool) (name : Over P) (asked : Call P) (old : Record) (before : Sight P) (own : Record) (now : Sight P)
    (just : JustLooked meld alone asked (local old (view_at name before)) (local own (view_at name now))) (of : IsView meld (view_at name now)) where
  pub just_fits : Fits meld name.limits now.seen own
  just_fits = looked_fits meld alone name before now just.onward old own of just.fits just.looked

  just_seen : own.seen ≡ failures now.seen
  just_seen = ap (λ (w : Record). w.seen) just.looked.record_is

  just_number : own.number ≡ old.number
  just_number = ap (λ (w : Record). w.number) just.looked.record_is

  module _ (prepared : Prepared) (x : Held) (w : ℕ) (found : held_at own w ≡ Some x) (w_is : w ≡ comm_of asked) (rank comm : ℕ)
      (polls : asked ≡ call.Poll rank comm) where
    just_held : held_at own (comm_of asked) ≡ Some x
    just_held = sym (ap (held_at own) w_is) ∙ found

    -- which it holds since
    abbrev just_since : HoldsSince (frame meld name.limits alone) (comm_of asked) x (moment old before.seen) own
    just_since = record { look = now.seen; looked = just.looked; fits = just_fits; held = just_held }

    -- of an agreement: the blocks of its round are loaded
    pub ready_peeking : (peek : Peek P) (shrinks : Bool) (k : ℕ) → x.request ≡ Some (agreement shrinks k) → peek.comm ≡ w → peek.round ≡ k → peek.side ≡ Front
        → (is_some peek.blocks.front ≡ false) × (is_some peek.blocks.back ≡ false) → peek.first ≡ None
        → Stands meld alone (local old (view_at name before)) (record { asked = asked; phase = Peeking peek shrinks; prepared = prepared }) (local own (view_at name now))
    ready_peeking peek shrinks k open_is there round first none bare =
        let some : 0 < length x.group = some_member x.group own.number (holds meld name.limits now.seen own (comm_of asked) x just_fits just_held).member in
        let peeking : IsPeeking (frame meld name.limits alone) (comm_of asked) shrinks peek (moment old before.seen) (moment own now.seen) =
        record {
          x = x;
          since = just_since;
          legal = of.legal;
          open_is = open_is ∙ ap (λ v. Some (agreement shrinks v)) (sym round);
          there = there ∙ w_is;
          are = record {
            front = tells_none meld now.seen peek.comm peek.round (block_of Front x.group) peek.blocks.front none.0;
            back = tells_none meld now.seen peek.comm peek.round (block_of Back x.group) peek.blocks.back none.1;
          };
          waited = did_none alone now.seen;
        } in
        record {
          fits = just.fits;
          mine = just.mine;
          onward = just.onward;
          at = (poll_mine asked old rank comm polls just.mine, peeking, subst (λ s. IsSide s x.group) (sym first) some, rw bare tt);
        }

    module _ (members declared : List ℕ) (members_are : members ≡ x.group) (declared_are : declared ≡ own.seen) where
      -- of a barrier: who has arrived is read
      pub ready_waiting : (arrivals : Arrivals) (k : ℕ) → arrivals.comm ≡ w → arrivals.round ≡ k → x.request ≡ Some (Barrier k)
          → IsAsked members declared arrivals.others arrivals.next → asked_before members declared arrivals.others arrivals.next ≡ []
          → Stands meld alone (local old (view_at name before)) (record { asked = asked; phase = Waiting arrivals; prepared = prepared }) (local own (view_at name now))
      ready_waiting arrivals k there round open_is asks first =
          let waits : IsWaiting (frame meld name.limits alone) (comm_of asked) arrivals.round x (moment old before.seen) (moment own now.seen) =
          record {
            since = just_since;
            legal = of.legal;
            open_is = open_is ∙ ap (λ n. Some (Barrier n)) (sym round);
            waited = did_none alone now.seen;
          } in
          let at : AtArrival members declared arrivals now.seen = at_arrival_new members declared arrivals now.seen asks first in
          let there_now : AtArrival x.group own.seen arrivals now.seen = subst (λ ms. AtArrival ms own.seen arrivals now.seen) members_are
          (subst (λ fs. AtArrival members fs arrivals now.seen) declared_are at) in
          record {
            fits = just.fits;
            mine = just.mine;
            onward = just.onward;
            at = (poll_mine asked old rank comm polls just.mine, there ∙ w_is, x, waits, there_now);
          }
