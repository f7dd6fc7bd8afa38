-- The poll of an agreement, step by step.
use Rattle.std.proofs.Common.{◌≡◌, ℕ, ◌<◌, ◌≤◌, ◌++◌, Bool, true, false, List, [], ◌∷◌, length, filter, Some, nat_lt, refl, ap, ap₂, sym, ◌∙◌, subst, arith}
use Rattle.std.proofs.Common.{is_some}
use Rattle.ulfm_model.specs.declared.block.Wing.{Wing}
use Rattle.ulfm_steps.specs.Blocks.{HoldsHalf}
use Rattle.ulfm_words.specs.Steps.{View}
use Rattle.std.proofs.Common.{inr, IsTrue, if◌then◌else◌}
use Rattle.ulfm_laws.specs.declared.{summary.Body.{Body}, summary.Body.TheVariants.{Unit as NoBody, Flag as OfFlags, Ctx as OfIds, Clash}}
use Rattle.ulfm_laws.specs.declared.summary.Summary.{Summary}
use Rattle.ulfm_model.specs.declared.call.Call.TheVariants as call
use Rattle.ulfm_model.specs.declared.{call.Call.{Call}, event.Caller.TheVariants.{Rank}, limits.Limits.{Limits}, refusal.Refusal.TheVariants.{Mismatch}}
use Rattle.ulfm_model.specs.declared.{reply.Reply.{Reply}, reply.Reply.TheVariants.{Agreed, Pending, Refused}}
use Rattle.ulfm_model.specs.{Answers.{closed, traits_of}, History.{History, IsLegal, entries_by, failures, has, slot}, Records.{Fits, Held, Record, held_at}}
use Rattle.ulfm_model.specs.{Runs.{Did}, Terms.{comm_of}}
use Rattle.ulfm_model.proofs.Stable.{fits_stays}
use Rattle.ulfm_words.specs.{Steps.{IsView, Over, Sight}, declared.step.Site.{Site}}
use Rattle.ulfm_model.specs.declared.place.Place.TheVariants.{Slot as SlotAt}
use Rattle.ulfm_model.specs.declared.step_name.StepName.TheVariants as step
use Rattle.ulfm_words.proofs.Trails.{did_none, did_prefix, did_wait}
use Rattle.ulfm_words.specs.Steps.{view_at}
use Rattle.ulfm_steps.specs.declared.{blocks.MarkAll.{MarkAll}, blocks.ReadBlocks.{ReadBlocks}, blocks.RoundBlocks.{RoundBlocks}}
use Rattle.ulfm_steps.specs.Blocks.{BothTell, AtBlock, MayReadBlocks, block_at, is_whole, next_in_block, site_of, starts_at}
use Rattle.ulfm_steps.specs.{Marks.{HasMarked as MarkedOn, IsAt, Marks, MayMarkAll, members_in}, Rounds.{IsMissing, IsRoundOf}, Turns.{IsStepAt}}
use Rattle.ulfm_model.specs.Blocks.{IsSummed}
use Rattle.ulfm_model.specs.Records.{moment}
use Rattle.ulfm_steps.proofs.{InBlocks.{are_later, few_members, starts}, Marking.{marks_join, marks_wait, new_members, take_all}}
use Rattle.ulfm_steps.specs.Turns.{running}
use Rattle.ulfm_steps.specs.Among.{among}
use Rattle.ulfm_comm.specs.{Polls.{PollHasMarked}, Requests.{agreement}, Phase.{Answered, Stands, StandsAt, next_step, under_way}, StepsLeft.{MakesStep}}
use Rattle.ulfm_comm.specs.Agreement.{HasReadAll, IsMarking, IsReading, agreed_reply}
use Rattle.ulfm_comm.specs.declared.phases.phase.{Phase.{Phase}, Phase.TheVariants.{Marking, Reading}}
use Rattle.ulfm_comm.proofs.{CallRuns.{calls_is}, Stands.{marked_lasts, marking_then}, Holding.{holds, same_held}, AmongOthers.{did_loosely, marks_loosely}}
use Rattle.ulfm_comm.proofs.Polls.{held_first, later, not_found, not_marked, open_members, poll_agreed, poll_mismatch, poll_pending}
use Rattle.ulfm_comm.specs.Local.{Local, frame, local}
use Rattle.ulfm_comm.specs.Requests.{polled_round}
use Rattle.ulfm_comm.specs.Prepared.{Prepared}

-- the poll of a rank is one in its own name
pub poll_mine : {P : Type 0} (asked : Call P) (old : Record) (rank comm : ℕ) → asked ≡ call.Poll rank comm → (traits_of asked).by ≡ Rank old.number
    → asked ≡ call.Poll old.number (comm_of asked)
poll_mine {P} asked old rank comm is mine =
    let by : Rank rank ≡ Rank old.number = sym (ap (λ (a : Call P). (traits_of a).by) is) ∙ mine in
    let same : rank ≡ old.number = cc by in
    is ∙ ap₂ call.Poll same (sym (ap (λ (a : Call P). comm_of a) is))

-- it stands so
pub polls_stand : {P : Type 0} {meld : P → P → P} {alone : Bool} {asked : Call P} {start now : Local P} {phase : Phase P} {prepared : Prepared}
    → Fits meld start.view.words.limits start.view.pass.seen start.own → asked ≡ call.Poll start.own.number (comm_of asked)
    → start.view.pass.steps ≤ now.view.pass.steps → StandsAt meld alone asked start phase prepared now → Stands meld alone start (under_way asked phase prepared) now
polls_stand {P} fits polls onward at = record { fits = fits; mine = ap (λ (a : Call P). (traits_of a).by) polls; onward = onward; at = at }

-- a group with a member isn't empty
pub some_member : (xs : List ℕ) (r : ℕ) → has xs r ≡ true → 0 < length xs
some_member [] r is = absurd (cc is)
some_member (x ∷ xs) r is = omega arith

-- all members among these ranks were marked
pub all_in : (group declared : List ℕ) (n : ℕ) → n ≤ length declared → length declared ≤ n → members_in group declared n ≡ filter (has group) declared
all_in group declared n within past =
    let last : n ≡ length declared = omega (arith, within, past) in ap (members_in group declared) last ∙ ap (filter (has group)) (take_all declared)

-- once all declared members are marked, the reading of those blocks begins that aren't known
pub reading_begins : {P : Type 0} (meld : P → P → P) (limits : Limits) (alone : Bool) (c : ℕ) (shrinks : Bool) (k : ℕ) (x : Held) (old : Record)
    (before : History P) (mid : Record) (now : History P)
    → PollHasMarked (frame meld limits alone) c (polled_round shrinks k) x (moment old before) (moment mid now) → (blocks : RoundBlocks P) (comm round members : ℕ)
    → BothTell meld now comm round x.group blocks → is_whole blocks (length x.group) ≡ false
    → (reading : ReadBlocks P) → reading ≡ starts_at comm round blocks members → comm ≡ c → round ≡ k → members ≡ length x.group
    → IsReading (frame meld limits alone) c shrinks reading (moment old before) (moment mid now)
reading_begins {P} meld limits alone c shrinks k x old before mid now p blocks comm round members are unknown reading is there at size =
    let some : 0 < length x.group = some_member x.group mid.number (holds meld limits p.since.look mid c x p.since.fits p.since.held).member in
    let begun : IsReading (frame meld limits alone) c shrinks (starts_at comm round blocks (length x.group)) (moment old before) (moment mid now) =
    record {
      x = x;
      marked = subst (λ w. PollHasMarked (frame meld limits alone) c (polled_round shrinks w) x (moment old before) (moment mid now)) (sym at) p;
      there = there;
      at = starts meld now comm round x.group blocks some are unknown;
    } in
    subst (λ (r : ReadBlocks P). IsReading (frame meld limits alone) c shrinks r (moment old before) (moment mid now)) (sym (is ∙ ap (starts_at comm round blocks) size)) begun

-- a reading that begins holds nothing of two words
pub starts_half : {P : Type 0} (view : View P) (group : List ℕ) (reading : ReadBlocks P) (c k : ℕ) (blocks : RoundBlocks P) (n : ℕ) → reading ≡ starts_at c k blocks n → HoldsHalf view group reading
starts_half view group reading c k blocks n is = rw is (record { first = tt; more = λ some. absurd (cc some); winged = λ set. absurd (cc set) })

-- between two marks
module _ {P : Type 0} (meld : P → P → P) (limits : Limits) (alone : Bool) (c : ℕ) (shrinks : Bool) (marks : MarkAll) (blocks : RoundBlocks P) (old : Record)
    (before : History P) (own : Record) (now : History P) (legal : IsLegal meld limits now)
    (p : IsMarking (frame meld limits alone) c shrinks marks blocks (moment old before) (moment own now)) where
  marking_fits : Fits meld limits now own
  marking_fits =
      let did = did_wait alone (entries_by (Rank old.number) p.has_marked.own) p.since.look p.marked now p.has_marked.did p.waited in
      fits_stays meld limits p.since.look now own (did_prefix alone (entries_by (Rank old.number) p.has_marked.own) p.since.look now did) legal p.since.fits

  abbrev found : List ℕ
  found = failures p.since.look

  marking_seen : own.seen ≡ found
  marking_seen = ap (λ (w : Record). w.seen) p.since.looked.record_is

  -- the next one may be made
  marking_may : MayMarkAll limits now marks.comm marks.round p.x.group own.seen
  marking_may =
      let round = open_members meld limits now own c marks.round shrinks p.x legal marking_fits p.since.held p.open_is in
      record { round = subst (λ w. IsRoundOf limits now w marks.round p.x.group) (sym p.there) round; begins = marking_fits.seen }

  -- after more of them
  module _ (quiet : Bool) (only : IsTrue alone → IsTrue quiet) (after : History P) (n : ℕ) (between : List ℕ)
      (members_are : members_in p.x.group own.seen n ≡ members_in p.x.group own.seen marks.next ++ between)
      (last : Marks quiet marks.rank marks.comm marks.round between now after) where
    marks_further : Marks alone old.number c marks.round (members_in p.x.group found n) p.since.look after
    marks_further =
        let before = members_in p.x.group found marks.next in
        let all : members_in p.x.group found n ≡ before ++ between = subst (λ s. members_in p.x.group s n ≡ members_in p.x.group s marks.next ++ between)
        marking_seen members_are in
        let mine : Marks quiet old.number c marks.round between now after =
        subst (λ r. Marks quiet r c marks.round between now after) p.mine (subst (λ w. Marks quiet marks.rank w marks.round between now after) p.there last) in
        let first : Marks alone old.number c marks.round before p.since.look now = marks_wait alone old.number c marks.round before p.since.look p.marked now p.has_marked
        p.waited in
        subst (λ rs. Marks alone old.number c marks.round rs p.since.look after) (sym all)
        (marks_join alone old.number c marks.round before between p.since.look now after (new_members meld limits p.since.look p.x.group n before between p.legal all) first
        (marks_loosely alone quiet only old.number c marks.round between now after mine))

    -- what is known of the blocks is so still
    marks_blocks : (next : MarkAll) → next.comm ≡ marks.comm → next.round ≡ marks.round → BothTell meld after next.comm next.round p.x.group blocks
    marks_blocks next comm round =
        let longer = are_later meld now after marks.comm marks.round p.x.group blocks
        (did_prefix quiet (entries_by (Rank marks.rank) last.own) now after last.did) p.are in
        subst (λ k. BothTell meld after next.comm k p.x.group blocks) (sym round) (subst (λ w. BothTell meld after w marks.round p.x.group blocks) (sym comm) longer)

    -- it goes on
    marking_on : (next : MarkAll) → next.next ≡ n → next.rank ≡ marks.rank → next.comm ≡ marks.comm → next.round ≡ marks.round
        → IsAt p.x.group own.seen next.next next.known → IsMarking (frame meld limits alone) c shrinks next blocks (moment old before) (moment own after)
    marking_on next n_is rank comm round at =
        marking_then meld limits alone old before own now after c shrinks marks blocks p next rank comm round
        (subst (λ s. IsAt p.x.group s next.next next.known) marking_seen at) after
        (subst (λ k. Marks alone old.number c k (members_in p.x.group found next.next) p.since.look after) (sym round)
        (subst (λ m. Marks alone old.number c marks.round (members_in p.x.group found m) p.since.look after) (sym n_is) marks_further)) (did_none alone after)
        (marks_blocks next comm round)

    -- or all are marked
    marking_ends : (known : ℕ) → IsAt p.x.group own.seen n known → length own.seen ≤ n → IsLegal meld limits after
        → PollHasMarked (frame meld limits alone) c (polled_round shrinks marks.round) p.x (moment old before) (moment own after)
    marking_ends known at past longer =
        let all = all_in p.x.group found n (subst (λ s. n ≤ length s) marking_seen at.within) (subst (λ s. length s ≤ n) marking_seen past) in
        record {
          since = p.since;
          open_is = p.open_is;
          marked = after;
          marks = subst (λ rs. Marks alone old.number c marks.round rs p.since.look after) all marks_further;
          waited = did_none alone after;
          legal = longer;
        }

-- a call that stands between two marks, by what the code knows of the communicator
module _ {P : Type 0} (meld : P → P → P) (name : Over P) (asked : Call P) (marks : MarkAll) (blocks : RoundBlocks P) (shrinks : Bool) (prepared : Prepared)
    (own : Record) (now : Sight P) (of : IsView meld (view_at name now)) (y : Held) (w : ℕ) (found : held_at own w ≡ Some y) (w_is : w ≡ comm_of asked)
    (members declared : List ℕ) (members_are : members ≡ y.group) (declared_are : declared ≡ own.seen) (alone : Bool) (old : Record) (before : Sight P)
    (st : Stands meld alone (local old (view_at name before)) (record { asked = asked; phase = Marking marks blocks shrinks; prepared = prepared }) (local own (view_at name now))) where
  abbrev marking : IsMarking (frame meld name.limits alone) (comm_of asked) shrinks marks blocks (moment old before.seen) (moment own now.seen)
  marking = st.at.1

  group_same : members ≡ marking.x.group
  group_same = members_are ∙ ap (λ (z : Held). z.group) (same_held own (comm_of asked) w marking.x y w_is found marking.since.held)

  -- the next one may be made
  pub marking_may_on : MayMarkAll name.limits now.seen marks.comm marks.round members declared
  marking_may_on =
      let may = marking_may meld name.limits alone (comm_of asked) shrinks marks blocks old before.seen own now.seen of.legal marking in
      subst (λ ms. MayMarkAll name.limits now.seen marks.comm marks.round ms declared) (sym group_same)
      (subst (λ s. MayMarkAll name.limits now.seen marks.comm marks.round marking.x.group s) (sym declared_are) may)

  -- what it stands at, and in whose name
  found_in : declared ≡ failures marking.since.look
  found_in = declared_are ∙ marking_seen meld name.limits alone (comm_of asked) shrinks marks blocks old before.seen own now.seen of.legal marking

  pub marking_at : IsAt members declared marks.next marks.known
  marking_at = subst (λ ms. IsAt ms declared marks.next marks.known) (sym group_same)
      (subst (λ s. IsAt marking.x.group s marks.next marks.known) (sym found_in) marking.at)

  pub marking_more : marks.next < length declared
  marking_more = subst (λ s. marks.next < length s) (sym found_in) st.at.2

  pub marking_mine : marks.rank ≡ own.number
  marking_mine = marking.mine ∙ sym (ap (λ (w : Record). w.number) marking.since.looked.record_is)

  -- the members are some, and no more than ranks
  pub marking_sized : (0 < length members) × (length members ≤ 1024)
  marking_sized = (
    subst (λ ms. 0 < length ms) (sym group_same) (some_member marking.x.group own.number
        (holds meld name.limits marking.since.look own (comm_of asked) marking.x marking.since.fits marking.since.held).member),
    few_members name.limits now.seen marks.comm marks.round members of.may_open marking_may_on.round,
  )

  -- not all blocks were set
  pub marking_unknown : is_whole blocks (length members) ≡ false
  marking_unknown = subst (λ ms. is_whole blocks (length ms) ≡ false) (sym group_same) marking.unknown

  module _ (quiet : Bool) (only : IsTrue alone → IsTrue quiet) (after : Sight P) (next : MarkAll) (rank : next.rank ≡ marks.rank)
      (comm : next.comm ≡ marks.comm) (round : next.round ≡ marks.round) (at : IsAt members declared next.next next.known)
      (marked : MarkedOn meld quiet marks (among members declared) next.next (view_at name now) (view_at name after)) where
    at_next : IsAt marking.x.group own.seen next.next next.known
    at_next = subst (λ ms. IsAt ms own.seen next.next next.known) group_same (subst (λ s. IsAt members s next.next next.known) declared_are at)

    members_next : members_in marking.x.group own.seen next.next ≡ members_in marking.x.group own.seen marks.next ++ marked.between
    members_next =
        subst (λ ms. members_in ms own.seen next.next ≡ members_in ms own.seen marks.next ++ marked.between) group_same
        (subst (λ s. members_in members s next.next ≡ members_in members s marks.next ++ marked.between) declared_are marked.members_are)

    -- more are left
    pub marking_goes : next.next < length declared → Stands meld alone (local old (view_at name before)) (record {
      asked = asked;
      phase = Marking next blocks shrinks;
      prepared = prepared;
    }) (local own (view_at name after))
    unfolding marking_on
    marking_goes more =
        let on = marking_on meld name.limits alone (comm_of asked) shrinks marks blocks old before.seen own now.seen of.legal marking quiet only after.seen
        next.next marked.between members_next marked.marks.marks next refl rank comm round at_next in
        polls_stand st.fits st.at.0 (omega (arith, st.onward, marked.marks.onward)) (
          st.at.0,
          on,
          subst (λ s. next.next < length s) (declared_are ∙ marking_seen meld name.limits alone
              (comm_of asked) shrinks marks blocks old before.seen own now.seen of.legal marking) more,
        )

    -- none is left
    pub marking_reads : (reading : ReadBlocks P) (size : ℕ) → reading ≡ starts_at next.comm next.round blocks size → size ≡ length members
        → length declared ≤ next.next
        → Stands meld alone (local old (view_at name before)) (record { asked = asked; phase = Reading reading shrinks; prepared = prepared }) (local own (view_at name after))
    marking_reads reading size is size_is past =
        let ended = marking_ends meld name.limits alone (comm_of asked) shrinks marks blocks old before.seen own now.seen of.legal marking quiet only after.seen
        next.next marked.between members_next marked.marks.marks next.known at_next
        (subst (λ s. length s ≤ next.next) declared_are past) marked.marks.of.legal in
        let are = marks_blocks meld name.limits alone (comm_of asked) shrinks marks blocks old before.seen own now.seen of.legal marking quiet only after.seen
        next.next marked.between members_next marked.marks.marks next comm round in
        polls_stand st.fits st.at.0 (omega (arith, st.onward, marked.marks.onward)) (
          st.at.0,
          reading_begins meld name.limits alone (comm_of asked) shrinks marks.round marking.x old before.seen own after.seen ended blocks next.comm next.round
              size are marking.unknown reading is (comm ∙ marking.there) round
              (size_is ∙ ap length group_same),
          starts_half (view_at name after) _ reading next.comm next.round blocks size is,
        )

-- one step of the reading
module _ {P : Type 0} (meld : P → P → P) (limits : Limits) (alone : Bool) (c : ℕ) (shrinks : Bool) (reading : ReadBlocks P) (old : Record) (before : History P)
    (own : Record) (now : History P) (p : IsReading (frame meld limits alone) c shrinks reading (moment old before) (moment own now)) where
  -- the round is one of the members' that the rank holds
  reading_round : IsRoundOf limits now reading.comm reading.round p.x.group
  reading_round =
      let fits = later meld limits alone before old own c shrinks reading.round p.x now p.marked in
      let round = open_members meld limits now own c reading.round shrinks p.x p.marked.legal fits p.marked.since.held p.marked.open_is in
      subst (λ w. IsRoundOf limits now w reading.round p.x.group) (sym p.there) round

  module _ (quiet : Bool) (only : IsTrue alone → IsTrue quiet) (after : History P) (did : Did quiet [] now after) (legal : IsLegal meld limits after) where
    reading_marked : PollHasMarked (frame meld limits alone) c (polled_round shrinks reading.round) p.x (moment old before) (moment own after)
    reading_marked = marked_lasts meld limits alone old before own now after (did_loosely alone quiet only [] now after did) legal c shrinks
        reading.round p.x p.marked

    -- it goes on
    reading_on : (next : ReadBlocks P) → next.comm ≡ reading.comm → next.round ≡ reading.round → AtBlock meld after p.x.group next
        → IsReading (frame meld limits alone) c shrinks next (moment old before) (moment own after)
    reading_on next comm round at =
        record {
          x = p.x;
          marked = subst (λ k. PollHasMarked (frame meld limits alone) c (polled_round shrinks k) p.x (moment old before) (moment own after)) (sym round) reading_marked;
          there = comm ∙ p.there;
          at = at;
        }

-- the poll of an agreement that was read
module _ {P : Type 0} (meld : P → P → P) (alone : Bool) (name : Over P) (c k : ℕ) (old : Record) (before : Sight P) (mid : Record) (after : Sight P)
    (fits : Fits meld name.limits before.seen old) (of : IsView meld (view_at name after)) (onward : before.steps ≤ after.steps) where
  abbrev polling : Call P
  polling = call.Poll old.number c

  -- one of its members is missing
  answers_pending : (shrinks : Bool) (x : Held) → PollHasMarked (frame meld name.limits alone) c (polled_round shrinks k) x (moment old before.seen) (moment mid after.seen) → before.steps < after.steps
      → IsMissing after.last after.seen c k x.group → Answered meld alone polling (local old (view_at name before)) Pending (local mid (view_at name after))
  answers_pending shrinks x m in_call one =
      let limits = name.limits in
      let ended = poll_pending meld limits alone before.seen old mid c shrinks k x after.seen m one.rank mid one.member one.empty refl in
      let alive = not_marked meld limits alone before.seen old mid c shrinks k x after.seen m one.rank one.member one.empty in
      record {
        ends = inr (calls_is meld alone name before after onward polling old Pending mid of fits (λ is no. absurd (cc (is, no))) ended);
        pending = λ is agrees. record {
          run = ended.run;
          at_end = ended.at_end;
          x = x;
          held = held_first meld limits alone before.seen old mid c shrinks k x after.seen m;
          shrinks = shrinks;
          round = k;
          open_is = m.open_is;
          member = one.rank;
          in_group = one.member;
          not_declared = not_found meld limits alone before.seen old mid c shrinks k x after.seen m one.rank Pending mid alive refl ended.run;
          unsettled = ap (λ h. slot h c k one.rank) ended.at_end ∙ one.empty;
          in_call = in_call;
          loaded = one.found;
        };
      }

  -- an agree is decided
  answers_agreed : (x : Held) → PollHasMarked (frame meld name.limits alone) c (polled_round false k) x (moment old before.seen) (moment mid after.seen) → (all : Summary P)
      → IsSummed meld after.seen c k x.group all → (new : Record) → new ≡ closed mid c → (reply : Reply P) → reply ≡ agreed_reply all all.body
      → Answered meld alone polling (local old (view_at name before)) reply (local new (view_at name after))
  answers_agreed x m all read new left reply reply_is =
      subst (λ (r : Reply P). Answered meld alone polling (local old (view_at name before)) r (local new (view_at name after))) (sym reply_is) (by_body all.body refl)
    where
      mismatch : ((flag : P) → all.body ≡ OfFlags flag → ⊥) → Answered meld alone polling (local old (view_at name before)) (Refused Mismatch) (local new (view_at name after))
      mismatch other =
          record {
            ends = inr (calls_is meld alone name before after onward polling old (Refused Mismatch) new of fits (λ is no. absurd (cc (is, no)))
                (poll_mismatch meld name.limits alone before.seen old mid c k x after.seen m all new read other left));
            pending = λ is agrees. absurd (cc is);
          }

      by_body : (body : Body P) → all.body ≡ body → Answered meld alone polling (local old (view_at name before)) (agreed_reply all body) (local new (view_at name after))
      by_body NoBody is = mismatch (λ flag same. absurd (cc (is, same)))
      by_body (OfFlags value) is =
          let count = all.known.count in
          let raised = nat_lt all.acked.count count in
          record {
            ends = inr (calls_is meld alone name before after onward polling old (Agreed raised count value) new of fits (λ is no. absurd (cc (is, no)))
                (poll_agreed meld name.limits alone before.seen old mid c k x after.seen m all new read value is left));
            pending = λ same agrees. absurd (cc same);
          }
      by_body (OfIds mask) is = mismatch (λ flag same. absurd (cc (is, same)))
      by_body Clash is = mismatch (λ flag same. absurd (cc (is, same)))

-- a call that reads its round's blocks, by what the code knows of the communicator
module _ {P : Type 0} (meld : P → P → P) (name : Over P) (asked : Call P) (reading : ReadBlocks P) (shrinks : Bool) (prepared : Prepared) (own : Record)
    (now : Sight P) (y : Held) (w : ℕ) (found : held_at own w ≡ Some y) (w_is : w ≡ comm_of asked)
    (members : List ℕ) (members_are : members ≡ y.group) (alone : Bool) (old : Record) (before : Sight P) (st : Stands meld alone (local old (view_at name before)) (record {
      asked = asked;
      phase = Reading reading shrinks;
      prepared = prepared;
    }) (local own (view_at name now))) where
  abbrev reads : IsReading (frame meld name.limits alone) (comm_of asked) shrinks reading (moment old before.seen) (moment own now.seen)
  reads = st.at.1

  read_same : members ≡ reads.x.group
  read_same = members_are ∙ ap (λ (z : Held). z.group) (same_held own (comm_of asked) w reads.x y w_is found reads.marked.since.held)

  -- the next one may be made
  pub reading_may : IsView meld (view_at name now) → MayReadBlocks meld members (running reading (view_at name now))
  reading_may of =
      record {
        of = of;
        round = subst (λ ms. IsRoundOf name.limits now.seen reading.comm reading.round ms) (sym read_same)
            (reading_round meld name.limits alone (comm_of asked) shrinks reading old before.seen own now.seen reads);
        at = subst (λ ms. AtBlock meld now.seen ms reading) (sym read_same) reads.at;
        half = subst (λ ms. HoldsHalf (view_at name now) ms reading) (sym read_same) st.at.2;
      }

  module _ (quiet : Bool) (only : IsTrue alone → IsTrue quiet) (after : Sight P) (of : IsView meld (view_at name after)) (did : Did quiet [] now.seen after.seen)
      (steps : now.steps ≤ after.steps) where
    marked_on : PollHasMarked (frame meld name.limits alone) (comm_of asked) (polled_round shrinks reading.round) reads.x (moment old before.seen) (moment own after.seen)
    marked_on = reading_marked meld name.limits alone (comm_of asked) shrinks reading old before.seen own now.seen reads quiet only after.seen did of.legal

    module _ (next : ReadBlocks P) (comm : next.comm ≡ reading.comm) (round : next.round ≡ reading.round) where
      -- a member is missing
      pub reading_pends : now.steps < after.steps → IsMissing after.last after.seen next.comm next.round members
          → Answered meld alone asked (local old (view_at name before)) Pending (local own (view_at name after))
      reading_pends further missing =
          let there : IsMissing after.last after.seen (comm_of asked) reading.round reads.x.group =
          subst (λ ms. IsMissing after.last after.seen (comm_of asked) reading.round ms) read_same
          (subst (λ c. IsMissing after.last after.seen c reading.round members) (comm ∙ reads.there)
          (subst (λ k. IsMissing after.last after.seen next.comm k members) round missing)) in
          subst (λ (a : Call P). Answered meld alone a (local old (view_at name before)) Pending (local own (view_at name after))) (sym st.at.0)
          (answers_pending meld alone name (comm_of asked) reading.round old before own after st.fits of (omega (arith, st.onward, steps)) shrinks reads.x
          marked_on (omega (arith, st.onward, further)) there)

      -- more is left
      pub reading_goes : AtBlock meld after.seen members next → HoldsHalf (view_at name after) members next → Stands meld alone (local old (view_at name before)) (record { asked = asked; phase = Reading next shrinks; prepared = prepared }) (local own (view_at name after))
      unfolding reading_on
      reading_goes at half =
          let on = reading_on meld name.limits alone (comm_of asked) shrinks reading old before.seen own now.seen reads quiet only after.seen did of.legal next
          comm round (subst (λ ms. AtBlock meld after.seen ms next) read_same at) in
          record { fits = st.fits; mine = st.mine; onward = omega (arith, st.onward, steps); at = (st.at.0, on, subst (λ ms. HoldsHalf (view_at name after) ms next) read_same half) }

      -- nothing is left: this is what all say
      pub reading_ends : (all : Summary P) → IsSummed meld after.seen next.comm next.round members all
          → HasReadAll meld alone asked (polled_round shrinks next.round) all (local old (view_at name before)) (local own (view_at name after))
      reading_ends all read =
          record {
            on = record { fits = st.fits; polls = st.at.0; onward = omega (arith, st.onward, steps) };
            x = reads.x;
            marked = subst (λ k. PollHasMarked (frame meld name.limits alone) (comm_of asked) (polled_round shrinks k) reads.x (moment old before.seen) (moment own after.seen)) (sym round) marked_on;
            read = subst (λ c. IsSummed meld after.seen c next.round reads.x.group all) (comm ∙ reads.there)
                (subst (λ ms. IsSummed meld after.seen next.comm next.round ms all) read_same read);
          }

-- the step that a reading makes is the one that is named
pub reads_named : {P : Type 0} (members : List ℕ) (r : ReadBlocks P) (shrinks : Bool) (rank c : ℕ) (old new : Sight P) → r.comm ≡ c
    → IsStepAt (site_of members r) (nat_lt r.read r.width) old new → MakesStep (next_step (Reading r shrinks)) rank c old new
reads_named {P} members r shrinks rank c old new there one = go (nat_lt r.read r.width) one
  where
    member : (f : Bool) → IsStepAt (if f then Site.Wing (Wing.Slot r.comm r.round (next_in_block members r)) else Site.Place (SlotAt r.comm r.round (next_in_block members r))) true old new
        → MakesStep (Some (if f then step.Wing else step.Slot)) rank c old new
    member true at = (Wing.Slot r.comm r.round (next_in_block members r), true, (there, λ no. absurd (cc no)), at)
    member false at = (r.round, next_in_block members r, subst (λ w. IsStepAt (Site.Place (SlotAt w r.round (next_in_block members r))) true old new) there at)

    block : (w : Bool) → IsStepAt (if w then Site.Block (block_at r.comm r.round r.side) else Site.Wing (Wing.Block (block_at r.comm r.round r.side))) false old new
        → MakesStep (Some (if w then step.Cache else step.Wing)) rank c old new
    block true at = (r.round, r.side, subst (λ w. IsStepAt (Site.Block (block_at w r.round r.side)) false old new) there at)
    block false at = (Wing.Block (block_at r.comm r.round r.side), false, there, at)

    go : (b : Bool) → IsStepAt (if b then (if is_some r.first then Site.Wing (Wing.Slot r.comm r.round (next_in_block members r)) else Site.Place (SlotAt r.comm r.round (next_in_block members r)))
        else (if r.winged then Site.Block (block_at r.comm r.round r.side) else Site.Wing (Wing.Block (block_at r.comm r.round r.side)))) b old new
        → MakesStep (Some (if b then (if is_some r.first then step.Wing else step.Slot) else (if r.winged then step.Cache else step.Wing))) rank c old new
    go true at = member (is_some r.first) at
    go false at = block r.winged at

-- an agree is answered once all that its round's members say is known
pub round_agrees : {P : Type 0} (meld : P → P → P) (alone : Bool) (name : Over P) (asked : Call P) (shrinks : Bool) (k : ℕ) (all : Summary P) (old : Record)
    (before : Sight P) (mid : Record) (now : Sight P) → IsView meld (view_at name now)
    → HasReadAll meld alone asked (polled_round shrinks k) all (local old (view_at name before)) (local mid (view_at name now)) → shrinks ≡ false → (w : ℕ) → w ≡ comm_of asked → (new : Record) → new ≡ closed mid w
    → (reply : Reply P) → reply ≡ agreed_reply all all.body
    → Answered meld alone asked (local old (view_at name before)) reply (local new (view_at name now))
round_agrees {P} meld alone name asked shrinks k all old before mid now of r is w w_is new left reply reply_is =
    subst (λ (a : Call P). Answered meld alone a (local old (view_at name before)) reply (local new (view_at name now))) (sym r.on.polls)
    (answers_agreed meld alone name (comm_of asked) k old before mid now r.on.fits of r.on.onward r.x
    (subst (λ b. PollHasMarked (frame meld name.limits alone) (comm_of asked) (polled_round b k) r.x (moment old before.seen) (moment mid now.seen)) is r.marked) all r.read new
    (left ∙ ap (closed mid) w_is) reply
    reply_is)

-- a shrink's goes on
pub round_shrinks : {P : Type 0} (meld : P → P → P) (alone : Bool) (name : Over P) (asked : Call P) (shrinks : Bool) (k : ℕ) (all : Summary P) (old : Record)
    (before : Sight P) (mid : Record) (now : Sight P)
    → HasReadAll meld alone asked (polled_round shrinks k) all (local old (view_at name before)) (local mid (view_at name now)) → shrinks ≡ true → HasReadAll meld alone asked (polled_round true k) all (local old (view_at name before)) (local mid (view_at name now))
round_shrinks meld alone name asked shrinks k all old before mid now r is = subst (λ b. HasReadAll meld alone asked (polled_round b k) all (local old (view_at name before)) (local mid (view_at name now))) is r
