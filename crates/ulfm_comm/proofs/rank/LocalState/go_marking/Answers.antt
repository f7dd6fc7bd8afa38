use Rattle.std.proofs.Common.{rules, ◌≡◌, ◌<◌, ◌≤◌, false, length, ap, sym, ◌∙◌, arith}
use Rattle.ulfm_words.proofs.Trails.{did_prefix}
use Rattle.ulfm_comm.proofs.Wings.{turn_same}
use Rattle.ulfm_words.specs.Steps.{over}
use Rattle.ulfm_model.specs.Records.{Held, held_at}
use Rattle.ulfm_comm.proofs.Agreement.{marking_goes, marking_may_on, marking_reads, marking_sized, marking_unknown}
use Rattle.ulfm_comm.proofs.StepsLeft.{marks_read}
use Rattle.ulfm_comm.proofs.StepAdds.{adds_marked}
use Rattle.ulfm_steps.specs.Blocks.{AreSet}
use Rattle.ulfm_steps.proofs.KnownBlocks.{set_later}
use Rattle.ulfm_comm.specs.Step.{Adds}
use Rattle.std.proofs.Common.{Option}
use Rattle.ulfm_model.specs.declared.reply.Reply.{Reply}
use Rattle.ulfm_comm.proofs.rank.LocalState.go_marking.Goals as goal
use Rattle.ulfm_comm.proofs.rank.LocalState.go_marking.Goals.{After-advance, After-deref, After-len-members}
use Rattle.std.proofs.Common.{ℕ, ◌+◌, subst, IsTrue}
use Rattle.std.specs.List.{slice_index}
use Rattle.ulfm_model.specs.declared.{contribution.MarkCount.{MarkCount}, event.Caller.TheVariants.{Rank}, event.Event.{Event}, event.Event.TheVariants.{Mark}}
use Rattle.ulfm_comm.proofs.Agreement.{marking_at, marking_mine, marking_more}
use Rattle.ulfm_comm.proofs.Wins.{Comes, marks_comes, next_settled}

-- the members that the code reads
members : (g : _) (c : After-deref g) → c.deref.result.now ≡ c.held_comm-x.result.now.group
members g c = c.deref.ensures.value ∙ ap (λ (y : Held). y.group) c.x.view_is

pub advance-requires-clause-may : goal.advance-requires-clause-may
advance-requires-clause-may g c =
    let stands = c.requires.stands.1 in
    marking_may_on g.P.Meld.meld (over g.P.Packed.pack (g.W.Words.name c.args.words.now)) c.args.asked.now c.args.marks c.args.blocks c.args.shrinks c.requires.stands.0
    c.args.self.now (g.W.Words.sight c.args.pass.now) c.requires.of
    c.held_comm-x.result.now c.comm_of.result c.held_comm-x.ensures c.comm_of.ensures c.deref.result.now c.failures-seen.result.now
    (members g (goal.at.advance-requires-clause-may g c).After-deref) c.failures-seen.ensures false stands.0 stands.1 stands.2

-- what its exchange adds
adds : (g : _) (c : After-advance g) (reply : Option (Reply g.row.P.Denot)) → c.args.whole ≡ false
    → Adds g.W.Words.alone c.args.self.now.seen c.args.self.now c.args.asked.now reply (g.W.Words.sight c.args.pass.now).seen
    (g.W.Words.sight c.advance.new.pass).seen
adds g c reply not =
    let s = c.requires.stands in
    let now = (g.W.Words.sight c.args.pass.now).seen in
    let after = (g.W.Words.sight c.advance.new.pass).seen in
    adds_marked g.P.Meld.meld g.W.Words.alone (over g.P.Packed.pack (g.W.Words.name c.args.words.now)) c.args.asked.now c.args.marks c.args.blocks c.args.shrinks s.0 s.1.0 s.1.1
    c.args.self.now (g.W.Words.sight c.args.pass.now) after c.requires.of s.1.2 reply
    (rw (← c.failures-seen.ensures) (c.advance.ensures.once not))

-- what it knows of blocks it still knows
later : (g : _) (c : After-advance g) → AreSet (g.W.Words.sight c.args.pass.now).cached c.args.marks.comm c.args.marks.round c.args.blocks
    → AreSet (g.W.Words.sight c.advance.new.pass).cached c.args.marks.comm c.args.marks.round c.args.blocks
later g c known = set_later (g.W.Words.sight c.args.pass.now).cached (g.W.Words.sight c.advance.new.pass).cached c.args.marks.comm c.args.marks.round
    c.args.blocks c.advance.ensures.marks.marks.cached known

pub returns-then-marks-seen-clause-turn : goal.returns-then-marks-seen-clause-turn
returns-then-marks-seen-clause-turn g c =
    λ prepared.
    record {
      walks = search rules;
      beside = turn_same _ _ _ _ _ (λ w. w) (did_prefix g.W.Words.alone _ _ _ c.advance.ensures.marks.marks.marks.did) c.advance.ensures.marks.marks.caches;
      named = search rules;
      nearer = search rules;
      spends = search rules;
      also = λ never. absurd never;
      further = search rules;
      adds = adds g (goal.at.returns-then-marks-seen-clause-turn g c).After-advance _;
      sees = search rules;
      looks = λ at. absurd (cc at);
      knows = λ known. rw (c.advance.ensures.comm, c.advance.ensures.round) (later g (goal.at.returns-then-marks-seen-clause-turn g c).After-advance known);
      leads = search rules;
      turns = λ alone only old before stands.
          marking_goes g.P.Meld.meld (over g.P.Packed.pack (g.W.Words.name c.args.words.now)) c.args.asked.now c.args.marks c.args.blocks c.args.shrinks prepared c.args.self.now
          (g.W.Words.sight c.args.pass.now) c.requires.of
          c.held_comm-x.result.now c.comm_of.result c.held_comm-x.ensures c.comm_of.ensures c.deref.result.now c.failures-seen.result.now
          (members g (goal.at.returns-then-marks-seen-clause-turn g c).After-deref) c.failures-seen.ensures alone old before stands
          g.W.Words.alone only (g.W.Words.sight c.advance.new.pass) c.advance.new.self c.advance.ensures.rank c.advance.ensures.comm c.advance.ensures.round
          c.advance.ensures.at c.advance.ensures.marks c.if-marks-seen.true;
    }

-- .. and their number
length_is : (g : _) (c : After-len-members g) → c.len-members.result ≡ length c.deref.result.now
length_is g c = c.len-members.ensures ∙ sym c.deref.ensures.len

-- they are some, and no more than ranks
sized : (g : _) (c : After-len-members g) → (0 < c.len-members.result) × (c.len-members.result ≤ 1024)
sized g c =
    let stood = c.requires.stands in
    let stands = stood.1 in
    let size = marking_sized g.P.Meld.meld (over g.P.Packed.pack (g.W.Words.name c.args.words.now)) c.args.asked.now c.args.marks c.args.blocks c.args.shrinks stood.0
    c.args.self.now (g.W.Words.sight c.args.pass.now) c.requires.of
    c.held_comm-x.result.now c.comm_of.result c.held_comm-x.ensures c.comm_of.ensures c.deref.result.now c.failures-seen.result.now
    (members g (goal.at.After-len-members g c).After-deref) c.failures-seen.ensures false stands.0 stands.1 stands.2 in
    rw (length_is g c) size

pub overflow_cast-members : goal.overflow_cast-members
overflow_cast-members g c = let few = (sized g (goal.at.overflow_cast-members g c).After-len-members).1 in omega (arith, few)

pub new-requires : goal.new-requires
new-requires g c = let some = (sized g (goal.at.new-requires g c).After-len-members).0 in omega (arith, some)

pub returns-clause-turn : goal.returns-clause-turn
returns-clause-turn g c =
    let stood = c.requires.stands in
    let stands = stood.1 in
    let takes = c.advance.ensures.takes in
    let unknown = marking_unknown g.P.Meld.meld (over g.P.Packed.pack (g.W.Words.name c.args.words.now)) c.args.asked.now c.args.marks c.args.blocks c.args.shrinks stood.0
    c.args.self.now (g.W.Words.sight c.args.pass.now) c.requires.of
    c.held_comm-x.result.now c.comm_of.result c.held_comm-x.ensures c.comm_of.ensures c.deref.result.now c.failures-seen.result.now
    (members g (goal.at.returns-clause-turn g c).After-deref) c.failures-seen.ensures false stands.0 stands.1 stands.2 in
    let held = ap (held_at c.args.self.now) (sym c.comm_of.ensures) ∙ c.held_comm-x.ensures in
    let left = marks_read (g.W.Words.name c.args.words.now).limits c.args.self.now c.args.asked.now c.held_comm-x.result.now held c.args.shrinks
    c.args.blocks c.deref.result.now c.failures-seen.result.now
    (members g (goal.at.returns-clause-turn g c).After-deref) c.failures-seen.ensures c.args.marks c.new.result _ _ c.len-members.result c.new.ensures
    (length_is g (goal.at.returns-clause-turn g c).After-len-members) unknown
    (g.W.Words.sight c.args.pass.now).steps (g.W.Words.sight c.advance.new.pass).steps _ takes.turns in
    λ prepared.
    record {
      walks = search rules;
      beside = turn_same _ _ _ _ _ (λ w. w) (did_prefix g.W.Words.alone _ _ _ c.advance.ensures.marks.marks.marks.did) c.advance.ensures.marks.marks.caches;
      named = search rules;
      nearer = λ single. omega (arith, left, takes.some);
      spends = left;
      also = λ never. absurd never;
      further = search rules;
      adds = adds g (goal.at.returns-clause-turn g c).After-advance _;
      sees = search rules;
      looks = λ at. absurd (cc at);
      knows = λ known. rw (c.new.ensures, c.advance.ensures.comm, c.advance.ensures.round) (later g (goal.at.returns-clause-turn g c).After-advance known);
      leads = search rules;
      turns = λ alone only old before stands.
          marking_reads g.P.Meld.meld (over g.P.Packed.pack (g.W.Words.name c.args.words.now)) c.args.asked.now c.args.marks c.args.blocks c.args.shrinks prepared c.args.self.now
          (g.W.Words.sight c.args.pass.now) c.requires.of
          c.held_comm-x.result.now c.comm_of.result c.held_comm-x.ensures c.comm_of.ensures c.deref.result.now c.failures-seen.result.now
          (members g (goal.at.returns-clause-turn g c).After-deref) c.failures-seen.ensures alone old before stands
          g.W.Words.alone only (g.W.Words.sight c.advance.new.pass) c.advance.new.self c.advance.ensures.rank c.advance.ensures.comm c.advance.ensures.round
          c.advance.ensures.at c.advance.ensures.marks c.new.result c.len-members.result c.new.ensures
          (length_is g (goal.at.returns-clause-turn g c).After-len-members) (omega (arith, c.if-marks-seen.false));
    }

-- the mark comes where it may
wins : (g : _) (c : After-advance g) → c.args.whole ≡ false → IsTrue g.W.Words.alone → (event : Event g.row.P.Denot)
    → (mark : MarkCount) × (mark.known.count ≡ c.args.marks.known + 1)
    × (event ≡ Mark c.args.marks.comm c.args.marks.round (slice_index c.args.self.now.seen c.args.marks.next) mark)
    → Comes g.P.Meld.meld (g.W.Words.name c.args.words.now).limits (Rank c.args.self.now.number) event (g.W.Words.sight c.args.pass.now).seen
    (g.W.Words.sight c.advance.new.pass).seen
wins g c not here event is =
    let limits = (g.W.Words.name c.args.words.now).limits in
    let name = over g.P.Packed.pack (g.W.Words.name c.args.words.now) in
    let own = c.args.self.now in
    let now = g.W.Words.sight c.args.pass.now in
    let after = g.W.Words.sight c.advance.new.pass in
    let m = c.args.marks in
    let s = c.requires.stands in
    let members_are = members g (goal.at.After-advance g c).After-deref in
    let group = c.deref.result.now in
    let declared = c.failures-seen.result.now in
    let may = marking_may_on g.P.Meld.meld name c.args.asked.now m c.args.blocks c.args.shrinks s.0 own now c.requires.of
    c.held_comm-x.result.now c.comm_of.result c.held_comm-x.ensures c.comm_of.ensures group declared members_are c.failures-seen.ensures false s.1.0 s.1.1 s.1.2 in
    let at = marking_at g.P.Meld.meld name c.args.asked.now m c.args.blocks c.args.shrinks s.0 own now c.requires.of
    c.held_comm-x.result.now c.comm_of.result c.held_comm-x.ensures c.comm_of.ensures group declared members_are c.failures-seen.ensures false s.1.0 s.1.1 s.1.2 in
    let more = marking_more g.P.Meld.meld name c.args.asked.now m c.args.blocks c.args.shrinks s.0 own now c.requires.of
    c.held_comm-x.result.now c.comm_of.result c.held_comm-x.ensures c.comm_of.ensures group declared members_are c.failures-seen.ensures false s.1.0 s.1.1 s.1.2 in
    let mine = marking_mine g.P.Meld.meld name c.args.asked.now m c.args.blocks c.args.shrinks s.0 own now c.requires.of
    c.held_comm-x.result.now c.comm_of.result c.held_comm-x.ensures c.comm_of.ensures group declared members_are c.failures-seen.ensures false s.1.0 s.1.1 s.1.2 in
    let marked = c.advance.ensures.marks in
    let stood = next_settled g.P.Meld.meld limits now.seen after.seen marked.marks.of.legal m.comm m.round group declared m.next m.known may at more
    c.advance.new.self.next marked.between c.advance.ensures.onward marked.members_are c.requires.of.legal marked.marks.marks.settled in
    let comes = marks_comes g.P.Meld.meld limits now.seen after.seen marked.marks.of.legal m.comm m.round group declared m.next m.known may at more
    g.W.Words.alone here m.rank (c.advance.ensures.once not) stood c.requires.of.legal is.0 is.1 in
    let named : Mark m.comm m.round (slice_index declared m.next) is.0 ≡ event = ap (λ w. Mark m.comm m.round (slice_index w m.next) is.0) c.failures-seen.ensures ∙ sym is.2 in
    subst (λ e. Comes g.P.Meld.meld limits (Rank own.number) e now.seen after.seen) named
    (subst (λ n. Comes g.P.Meld.meld limits (Rank n) (Mark m.comm m.round (slice_index declared m.next) is.0) now.seen after.seen) mine comes)

pub returns-then-marks-seen-clause-wins : goal.returns-then-marks-seen-clause-wins
returns-then-marks-seen-clause-wins g c = λ not here wings some. wins g (goal.at.returns-then-marks-seen-clause-wins g c).After-advance not here

pub returns-clause-wins : goal.returns-clause-wins
returns-clause-wins g c = λ not here wings some. wins g (goal.at.returns-clause-wins g c).After-advance not here
