use Rattle.std.proofs.Common.{◌≡◌, ◌<◌, ◌≤◌, false, length, ap, sym, ◌∙◌, arith}
use Rattle.ulfm_words.specs.Steps.{over}
use Rattle.ulfm_model.specs.Records.{Held}
use Rattle.ulfm_comm.proofs.Peeking.{unread_marking, unread_reading, unread_rises, unread_sized}
use Rattle.ulfm_comm.proofs.rank.LocalState.unread.Goals as goal
use Rattle.ulfm_comm.proofs.rank.LocalState.unread.Goals.{After-deref, After-len-members}
use Rattle.ulfm_comm.specs.Prepared.{unprepared}

-- the members that the code reads, and their number
members : (g : _) (c : After-deref g) → c.deref.result.now ≡ c.held_comm-x.result.now.group
members g c = c.deref.ensures.value ∙ ap (λ (y : Held). y.group) c.x.view_is

length_is : (g : _) (c : After-len-members g) → c.len-members.result ≡ length c.deref.result.now
length_is g c = c.len-members.ensures ∙ sym c.deref.ensures.len

pub new-marks-requires : goal.new-marks-requires
new-marks-requires g c =
    let k = c.requires.peeked in
    record {
      rises = unread_rises g.P.Meld.meld false (over g.P.Packed.pack (g.W.Words.name c.args.words.now)) c.args.asked.now c.args.shrinks c.args.peek k.0 k.1 c.args.self.now
          (g.W.Words.sight c.args.pass.now) c.requires.of k.2 unprepared c.held_comm-x.result.now c.comm_of-comm.result c.held_comm-x.ensures c.comm_of-comm.ensures
          c.deref.result.now c.failures-seen.result.now (members g (goal.at.new-marks-requires g c).After-deref) c.failures-seen.ensures;
    }

-- they are some, and no more than ranks
sized : (g : _) (c : After-len-members g) → (0 < c.len-members.result) × (c.len-members.result ≤ 1024)
sized g c =
    let k = c.requires.peeked in
    let size = unread_sized g.P.Meld.meld false (over g.P.Packed.pack (g.W.Words.name c.args.words.now)) c.args.asked.now c.args.shrinks c.args.peek k.0 k.1 c.args.self.now
    (g.W.Words.sight c.args.pass.now) c.requires.of k.2 unprepared c.held_comm-x.result.now c.comm_of-comm.result c.held_comm-x.ensures c.comm_of-comm.ensures
    c.deref.result.now c.failures-seen.result.now (members g (goal.at.After-len-members g c).After-deref) c.failures-seen.ensures in
    rw (length_is g c) size

pub overflow_cast-members : goal.overflow_cast-members
overflow_cast-members g c = let few = (sized g (goal.at.overflow_cast-members g c).After-len-members).1 in omega (arith, few)

pub new-requires : goal.new-requires
new-requires g c = let some = (sized g (goal.at.new-requires g c).After-len-members).0 in omega (arith, some)

pub returns-then-marks-seen-clause-turns : goal.returns-then-marks-seen-clause-turns
returns-then-marks-seen-clause-turns g c = λ prepared alone old before h.
    unread_marking g.P.Meld.meld alone (over g.P.Packed.pack (g.W.Words.name c.args.words.now)) c.args.asked.now c.args.shrinks c.args.peek old before c.args.self.now
    (g.W.Words.sight c.args.pass.now) c.requires.of h prepared c.held_comm-x.result.now c.comm_of-comm.result c.held_comm-x.ensures c.comm_of-comm.ensures
    c.deref.result.now c.failures-seen.result.now (members g (goal.at.returns-then-marks-seen-clause-turns g c).After-deref) c.failures-seen.ensures
    c.new-marks.result c.new-marks.ensures.at c.new-marks.ensures.first c.number.result c.new-marks.ensures.rank c.number.ensures c.new-marks.ensures.comm
    c.new-marks.ensures.round c.if-marks-seen.true

pub returns-clause-turns : goal.returns-clause-turns
returns-clause-turns g c = λ prepared alone old before h.
    unread_reading g.P.Meld.meld alone (over g.P.Packed.pack (g.W.Words.name c.args.words.now)) c.args.asked.now c.args.shrinks c.args.peek old before c.args.self.now
    (g.W.Words.sight c.args.pass.now) c.requires.of h prepared c.held_comm-x.result.now c.comm_of-comm.result c.held_comm-x.ensures c.comm_of-comm.ensures
    c.deref.result.now c.failures-seen.result.now (members g (goal.at.returns-clause-turns g c).After-deref) c.failures-seen.ensures c.new-marks.result
    c.new-marks.ensures.at c.new-marks.ensures.first c.new.result c.len-members.result c.new.ensures
    (length_is g (goal.at.returns-clause-turns g c).After-len-members) (omega (arith, c.if-marks-seen.false))

-- the round's communicator
there : (g : _) (c : After-deref g) → c.comm_of-comm.result ≡ c.args.peek.comm
there g c = c.comm_of-comm.ensures ∙ sym c.requires.peeked.2.peeked.there

pub returns-then-marks-seen-clause-knows : goal.returns-then-marks-seen-clause-knows
returns-then-marks-seen-clause-knows g c = λ cached known. rw (
  c.new-marks.ensures.comm,
  there g (goal.at.returns-then-marks-seen-clause-knows g c).After-deref,
  c.new-marks.ensures.round,
) known

pub returns-clause-knows : goal.returns-clause-knows
returns-clause-knows g c = λ cached known. rw (c.new.ensures, there g (goal.at.returns-clause-knows g c).After-deref) known
