-- The poll of an agreement while it loads its round's blocks, and how it goes on.
use Rattle.std.proofs.Common.{◌≡◌, ℕ, ◌<◌, ◌≤◌, Bool, true, false, cond, not, List, [], ◌∷◌, length, filter, Some, is_some, refl, ap, ap₂, sym, ◌∙◌, subst}
use Rattle.ulfm_model.specs.declared.step_name.StepName.TheVariants as step
use Rattle.ulfm_model.specs.declared.block.Wing.{Wing}
use Rattle.std.proofs.Common.{if◌then◌else◌}
use Rattle.ulfm_comm.proofs.Agreement.{starts_half}
use Rattle.ulfm_steps.specs.Blocks.{peek_site}
use Rattle.ulfm_steps.specs.Blocks.{HoldsFirst}
use Rattle.std.proofs.Common.{arith, IsTrue}
use Rattle.std.specs.List.{AllByRecursion, list_all}
use Rattle.std.specs.List.Sorted.{IsStrictlyIncreasing}
use Rattle.ulfm_laws.specs.declared.summary.Summary.{Summary}
use Rattle.ulfm_model.specs.declared.{call.Call.{Call}, limits.Limits.{Limits}}
use Rattle.ulfm_model.specs.{Blocks.{IsSide, IsSummed}, History.{History, IsLegal, failures, has, slot}}
use Rattle.ulfm_model.specs.{Records.{Fits, Held, Record, held_at}, Runs.{Did}, Terms.{comm_of}}
use Rattle.ulfm_model.proofs.{Lists.{each_from, filter_none}, OnlyReply.{all_member}, Stable.{fits_stays}}
use Rattle.ulfm_model.specs.Records.{moment}
use Rattle.ulfm_words.specs.{Steps.{IsView, Over, Sight}, declared.step.Site.{Site}}
use Rattle.ulfm_words.proofs.Trails.{did_none, did_prefix, did_quiet, did_wait}
use Rattle.ulfm_words.specs.Steps.{view_at}
use Rattle.ulfm_steps.specs.declared.{blocks.MarkAll.{MarkAll}, blocks.Peek.{Peek}, blocks.ReadBlocks.{ReadBlocks}}
use Rattle.ulfm_steps.specs.{Blocks.{BothTell, MayPeek, block_at, is_whole, starts_at}, Marks.{IsAt, Marks, members_in}, Rounds.{IsRoundOf}, Turns.{IsStepAt}}
use Rattle.ulfm_steps.proofs.{InBlocks.{few_members}, Groups.{members_rise}, Marking.{marks_none}}
use Rattle.ulfm_steps.specs.Turns.{running}
use Rattle.ulfm_comm.specs.{Polls.{PollHasMarked}, Requests.{agreement}, Phase.{Stands, next_step}, StepsLeft.{MakesStep}}
use Rattle.ulfm_comm.specs.Agreement.{HasPeeked, HasReadAll, IsMarking, IsPeeking}
use Rattle.ulfm_comm.specs.declared.phases.phase.Phase.TheVariants.{Marking, Peeking, Reading}
use Rattle.ulfm_comm.proofs.{Agreement.{all_in, polls_stand, reading_begins, some_member}, AmongOthers.{did_loosely}, Holding.{holds, same_held}, Stands.{peeking_then}}
use Rattle.ulfm_comm.proofs.Polls.{open_members}
use Rattle.ulfm_comm.specs.Local.{frame, local}
use Rattle.ulfm_comm.specs.Requests.{polled_round}
use Rattle.ulfm_comm.specs.Prepared.{Prepared}

-- where all members are settled, so are those among these ranks
members_settled : (p : ℕ → Bool) (group declared : List ℕ) → list_all p group ≡ true → AllByRecursion (λ r. IsTrue (p r)) (filter (has group) declared)
members_settled p group [] all = tt
members_settled p group (r ∷ declared) all = go (has group r) refl (members_settled p group declared all)
  where
    go : (b : Bool) → has group r ≡ b → AllByRecursion (λ x. IsTrue (p x)) (filter (has group) declared)
        → AllByRecursion (λ x. IsTrue (p x)) (cond b (r ∷ filter (has group) declared) (filter (has group) declared))
    go true is rest = (all_member p group r all is, rest)
    go false is rest = rest

-- then nobody is left to be marked
settled_marks : {P : Type 0} (alone : Bool) (number c k : ℕ) (group declared : List ℕ) (look now : History P) → Did alone [] look now
    → list_all (λ r. is_some (slot now c k r)) group ≡ true → Marks alone number c k (filter (has group) declared) look now
settled_marks {P} alone number c k group declared look now did each =
    let ranks = filter (has group) declared in
    let settled = members_settled (λ r. is_some (slot now c k r)) group declared each in
    record {
      own = [];
      did = did;
      marks = tt;
      settled = settled;
      exact = λ here.
          let before : (r : ℕ) → IsTrue (is_some (slot now c k r)) → not (is_some (slot look c k r)) ≡ false = λ r is.
          ap (λ (h : History P). not (is_some (slot h c k r))) (sym (did_quiet alone look now did here)) ∙ ap not is in
          sym (filter_none (λ r. not (is_some (slot look c k r))) ranks (each_from (λ r. IsTrue (is_some (slot now c k r)))
          (λ r. not (is_some (slot look c k r)) ≡ false) before ranks settled));
      others = λ here r out. ap (λ (h : History P). slot h c k r) (did_quiet alone look now did here);
    }

module _ {P : Type 0} (meld : P → P → P) (limits : Limits) (alone : Bool) (c : ℕ) (shrinks : Bool) (peek : Peek P) (old : Record) (before : History P)
    (own : Record) (now : History P) (p : IsPeeking (frame meld limits alone) c shrinks peek (moment old before) (moment own now)) where
  -- the round is one of the members' that the rank holds
  peeking_round : IsLegal meld limits now → IsRoundOf limits now peek.comm peek.round p.x.group
  peeking_round legal =
      let fits : Fits meld limits now own = fits_stays meld limits p.since.look now own (did_prefix alone [] p.since.look now p.waited) legal p.since.fits in
      subst (λ w. IsRoundOf limits now w peek.round p.x.group) (sym p.there)
      (open_members meld limits now own c peek.round shrinks p.x legal fits p.since.held p.open_is)

  -- after a further load
  peeking_on : (quiet : Bool) → (IsTrue alone → IsTrue quiet) → (after : History P) → Did quiet [] now after → (next : Peek P) → next.comm ≡ peek.comm
      → next.round ≡ peek.round → BothTell meld after next.comm next.round p.x.group next.blocks
      → IsPeeking (frame meld limits alone) c shrinks next (moment old before) (moment own after)
  peeking_on quiet only after did next comm round are = peeking_then meld limits alone old before own now after
      (did_loosely alone quiet only [] now after did) c shrinks peek p next comm round are

  -- where all members are settled, no mark is due
  peeking_marked : IsLegal meld limits now → (all : Summary P) → IsSummed meld now c peek.round p.x.group all
      → PollHasMarked (frame meld limits alone) c (polled_round shrinks peek.round) p.x (moment old before) (moment own now)
  peeking_marked legal all read =
      record {
        since = p.since;
        open_is = p.open_is;
        marked = now;
        marks = settled_marks alone old.number c peek.round p.x.group (failures p.since.look) p.since.look now p.waited read.each;
        waited = did_none alone now;
        legal = legal;
      }

-- a call that loads its round's blocks, by what the code knows of the communicator
module _ {P : Type 0} (meld : P → P → P) (name : Over P) (asked : Call P) (peek : Peek P) (shrinks : Bool) (prepared : Prepared) (own : Record) (now : Sight P)
    (of : IsView meld (view_at name now)) (y : Held) (w : ℕ) (found : held_at own w ≡ Some y) (w_is : w ≡ comm_of asked)
    (members : List ℕ) (members_are : members ≡ y.group) (alone : Bool) (old : Record) (before : Sight P)
    (st : Stands meld alone (local old (view_at name before)) (record { asked = asked; phase = Peeking peek shrinks; prepared = prepared }) (local own (view_at name now))) where
  abbrev peeking : IsPeeking (frame meld name.limits alone) (comm_of asked) shrinks peek (moment old before.seen) (moment own now.seen)
  peeking = st.at.1

  peek_same : members ≡ peeking.x.group
  peek_same = members_are ∙ ap (λ (z : Held). z.group) (same_held own (comm_of asked) w peeking.x y w_is found peeking.since.held)

  peek_round : IsRoundOf name.limits now.seen peek.comm peek.round members
  peek_round = subst (λ ms. IsRoundOf name.limits now.seen peek.comm peek.round ms) (sym peek_same)
      (peeking_round meld name.limits alone (comm_of asked) shrinks peek old before.seen own now.seen peeking of.legal)

  -- the next one may be loaded
  pub peek_may : MayPeek meld members (running peek (view_at name now))
  peek_may =
      record {
        of = of;
        round = peek_round;
        some = subst (IsSide peek.side) (sym peek_same) st.at.2;
        first = st.at.3;
        are = subst (λ ms. BothTell meld now.seen peek.comm peek.round ms peek.blocks) (sym peek_same) peeking.are;
      }

  pub peek_few : length members ≤ 1024
  peek_few = few_members name.limits now.seen peek.comm peek.round members of.may_open peek_round

  pub peek_any : 0 < length members
  peek_any = subst (λ ms. 0 < length ms) (sym peek_same) (some_member peeking.x.group own.number
      (holds meld name.limits peeking.since.look own (comm_of asked) peeking.x peeking.since.fits peeking.since.held).member)

  -- after a further load
  module _ (quiet : Bool) (only : IsTrue alone → IsTrue quiet) (after : Sight P) (later : IsView meld (view_at name after)) (did : Did quiet [] now.seen after.seen)
      (steps : now.steps ≤ after.steps) (next : Peek P) (comm : next.comm ≡ peek.comm)
      (round : next.round ≡ peek.round) (are : BothTell meld after.seen peek.comm peek.round members next.blocks) where
    are_there : BothTell meld after.seen next.comm next.round peeking.x.group next.blocks
    are_there =
        subst (λ c. BothTell meld after.seen c next.round peeking.x.group next.blocks) (sym comm)
        (subst (λ k. BothTell meld after.seen peek.comm k peeking.x.group next.blocks) (sym round)
        (subst (λ ms. BothTell meld after.seen peek.comm peek.round ms next.blocks) peek_same are))

    abbrev on : IsPeeking (frame meld name.limits alone) (comm_of asked) shrinks next (moment old before.seen) (moment own after.seen)
    on = peeking_on meld name.limits alone (comm_of asked) shrinks peek old before.seen own now.seen peeking quiet only after.seen did next comm round are_there

    -- one more is left
    pub peek_goes : IsSide next.side members → HoldsFirst meld (view_at name after) next → Stands meld alone (local old (view_at name before)) (record { asked = asked; phase = Peeking next shrinks; prepared = prepared }) (local own (view_at name after))
    unfolding peeking_on
    peek_goes more first = record {
      fits = st.fits;
      mine = st.mine;
      onward = omega (arith, st.onward, steps);
      at = (st.at.0, on, subst (IsSide next.side) peek_same more, first);
    }

    -- not all were set
    pub peek_unread : is_whole next.blocks (length members) ≡ false → HasPeeked meld alone asked shrinks next (local old (view_at name before)) (local own (view_at name after))
    unfolding peeking_on
    peek_unread unknown = record {
      on = record { fits = st.fits; polls = st.at.0; onward = omega (arith, st.onward, steps) };
      peeked = on;
      unknown = subst (λ ms. is_whole next.blocks (length ms) ≡ false) peek_same unknown;
    }

    -- all were: this is what they say
    pub peek_ends : (all : Summary P) → IsSummed meld after.seen peek.comm peek.round members all
        → HasReadAll meld alone asked (polled_round shrinks next.round) all (local old (view_at name before)) (local own (view_at name after))
    unfolding peeking_on
    peek_ends all said =
        let there : IsSummed meld after.seen (comm_of asked) next.round peeking.x.group all =
        subst (λ c. IsSummed meld after.seen c next.round peeking.x.group all) peeking.there
        (subst (λ k. IsSummed meld after.seen peek.comm k peeking.x.group all) (sym round)
        (subst (λ ms. IsSummed meld after.seen peek.comm peek.round ms all) peek_same said)) in
        record {
          on = record { fits = st.fits; polls = st.at.0; onward = omega (arith, st.onward, steps) };
          x = peeking.x;
          marked = peeking_marked meld name.limits alone (comm_of asked) shrinks next old before.seen own after.seen on later.legal all there;
          read = there;
        }

-- the load that a peek makes is the one that is named
pub peek_named : {P : Type 0} (peek : Peek P) (shrinks : Bool) (rank c : ℕ) (old new : Sight P) → peek.comm ≡ c
    → IsStepAt (peek_site peek) true old new → MakesStep (next_step (Peeking peek shrinks)) rank c old new
peek_named {P} peek shrinks rank c old new there one = go (is_some peek.first) one
  where
    go : (b : Bool) → IsStepAt (if b then Site.Wing (Wing.Block (block_at peek.comm peek.round peek.side)) else Site.Block (block_at peek.comm peek.round peek.side)) true old new
        → MakesStep (Some (if b then step.Wing else step.Block)) rank c old new
    go true at = (Wing.Block (block_at peek.comm peek.round peek.side), true, there, at)
    go false at = (peek.round, peek.side, subst (λ w. IsStepAt (Site.Block (block_at w peek.round peek.side)) true old new) there at)

-- not all blocks were set: what comes next, by what the code knows of the communicator
module _ {P : Type 0} (meld : P → P → P) (alone : Bool) (name : Over P) (asked : Call P) (shrinks : Bool) (peek : Peek P) (old : Record) (before : Sight P)
    (own : Record) (now : Sight P) (of : IsView meld (view_at name now))
    (h : HasPeeked meld alone asked shrinks peek (local old (view_at name before)) (local own (view_at name now))) (prepared : Prepared) (y : Held) (w : ℕ) (found : held_at own w ≡ Some y)
    (w_is : w ≡ comm_of asked) (members declared : List ℕ) (members_are : members ≡ y.group)
    (declared_are : declared ≡ own.seen) where
  abbrev p : IsPeeking (frame meld name.limits alone) (comm_of asked) shrinks peek (moment old before.seen) (moment own now.seen)
  p = h.peeked

  unread_same : members ≡ p.x.group
  unread_same = members_are ∙ ap (λ (z : Held). z.group) (same_held own (comm_of asked) w p.x y w_is found p.since.held)

  abbrev fs : List ℕ
  fs = failures p.since.look

  seen_are : declared ≡ fs
  seen_are = declared_are ∙ ap (λ (r : Record). r.seen) p.since.looked.record_is

  -- the round is that of the communicator's members
  pub unread_round : IsRoundOf name.limits now.seen peek.comm peek.round members
  unread_round = subst (λ ms. IsRoundOf name.limits now.seen peek.comm peek.round ms) (sym unread_same)
      (peeking_round meld name.limits alone (comm_of asked) shrinks peek old before.seen own now.seen p of.legal)

  -- whose ranks rise
  pub unread_rises : IsStrictlyIncreasing members
  unread_rises = subst IsStrictlyIncreasing (sym unread_round.group_is) (members_rise name.limits.ranks now.seen peek.comm)

  -- and are some, and no more than ranks
  pub unread_sized : (0 < length members) × (length members ≤ 1024)
  unread_sized = (
    subst (λ ms. 0 < length ms) (sym unread_same) (some_member p.x.group own.number
        (holds meld name.limits p.since.look own (comm_of asked) p.x p.since.fits p.since.held).member),
    few_members name.limits now.seen peek.comm peek.round members of.may_open unread_round,
  )

  pub unread_unknown : is_whole peek.blocks (length members) ≡ false
  unread_unknown = subst (λ ms. is_whole peek.blocks (length ms) ≡ false) (sym unread_same) h.unknown

  module _ (marks : MarkAll) (at : IsAt members declared marks.next marks.known) (first : members_in members declared marks.next ≡ []) where
    at_look : IsAt p.x.group fs marks.next marks.known
    at_look = subst (λ ms. IsAt ms fs marks.next marks.known) unread_same (subst (λ s. IsAt members s marks.next marks.known) seen_are at)

    none_yet : members_in p.x.group fs marks.next ≡ []
    none_yet = sym (ap₂ (λ ms s. members_in ms s marks.next) unread_same seen_are) ∙ first

    -- a declared member is marked
    pub unread_marking : (n : ℕ) → marks.rank ≡ n → n ≡ own.number → marks.comm ≡ w → marks.round ≡ peek.round → marks.next < length declared
        → Stands meld alone (local old (view_at name before)) (record { asked = asked; phase = Marking marks peek.blocks shrinks; prepared = prepared }) (local own (view_at name now))
    unread_marking n rank_is n_is there round more =
        let here : marks.comm ≡ comm_of asked = there ∙ w_is in
        let marking : IsMarking (frame meld name.limits alone) (comm_of asked) shrinks marks peek.blocks (moment old before.seen) (moment own now.seen) =
        record {
          x = p.x;
          since = p.since;
          legal = p.legal;
          open_is = p.open_is ∙ ap (λ v. Some (agreement shrinks v)) (sym round);
          mine = rank_is ∙ (n_is ∙ ap (λ (r : Record). r.number) p.since.looked.record_is);
          there = here;
          at = at_look;
          marked = p.since.look;
          has_marked = subst (λ rs. Marks alone old.number (comm_of asked) marks.round rs p.since.look p.since.look) (sym none_yet)
              (marks_none alone old.number (comm_of asked) marks.round p.since.look);
          waited = p.waited;
          are = subst (λ c. BothTell meld now.seen c marks.round p.x.group peek.blocks) (p.there ∙ sym here)
              (subst (λ k. BothTell meld now.seen peek.comm k p.x.group peek.blocks) (sym round) p.are);
          unknown = h.unknown;
        } in
        polls_stand h.on.fits h.on.polls h.on.onward (h.on.polls, marking, subst (λ s. marks.next < length s) seen_are more)

    -- or, where there is none, the blocks are read
    pub unread_reading : (reading : ReadBlocks P) (size : ℕ) → reading ≡ starts_at w peek.round peek.blocks size → size ≡ length members
        → length declared ≤ marks.next
        → Stands meld alone (local old (view_at name before)) (record { asked = asked; phase = Reading reading shrinks; prepared = prepared }) (local own (view_at name now))
    unread_reading reading size is size_is past =
        let nobody : filter (has p.x.group) fs ≡ [] = sym (all_in p.x.group fs marks.next at_look.within (subst (λ s. length s ≤ marks.next) seen_are past))
        ∙ none_yet in
        let marked : PollHasMarked (frame meld name.limits alone) (comm_of asked) (polled_round shrinks peek.round) p.x (moment old before.seen) (moment own now.seen) =
        record {
          since = p.since;
          open_is = p.open_is;
          marked = p.since.look;
          marks = subst (λ rs. Marks alone old.number (comm_of asked) peek.round rs p.since.look p.since.look) (sym nobody)
              (marks_none alone old.number (comm_of asked) peek.round p.since.look);
          waited = p.waited;
          legal = of.legal;
        } in
        let are : BothTell meld now.seen w peek.round p.x.group peek.blocks = subst (λ c. BothTell meld now.seen c peek.round p.x.group peek.blocks)
        (p.there ∙ sym w_is) p.are in
        polls_stand h.on.fits h.on.polls h.on.onward (
          h.on.polls,
          reading_begins meld name.limits alone (comm_of asked) shrinks peek.round p.x old before.seen own now.seen marked peek.blocks w peek.round size are
              h.unknown reading is w_is refl (size_is ∙ ap length unread_same),
          starts_half (view_at name now) _ reading w peek.round peek.blocks size is,
        )
