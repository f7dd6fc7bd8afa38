use Rattle.std.proofs.Common.{◌≡◌, ◌≤◌, ◌+◌, ℕ, Bool, true, false, List, [], IsTrue, ap, subst, sym, arith, refl}
use Rattle.std.proofs.lemmas.Bool.{false≢true}
use Rattle.ulfm_model.specs.Records.{Record}
use Rattle.ulfm_model.specs.declared.reply.Reply.{Reply}
use Rattle.ulfm_words.specs.Steps.{over, view_at, Goes, Sight}
use Rattle.ulfm_comm.proofs.Waiting.{goes_none}
use Rattle.ulfm_comm.specs.{Local.{local}, Requests.{is_of_round}, Phase.{NextIs, Stands, under_way}, StepsLeft.{Spends, reads_first, steps_left}}
use Rattle.ulfm_comm.specs.declared.phases.phase.Next.TheVariants.{Ends, Goes as GoesOn}
use Rattle.ulfm_comm.proofs.{AmongOthers.{did_loosely}, Stands.{stands_lasts}, StepsLeft.{reads_few}}
use Rattle.ulfm_comm.proofs.rank.LocalState.go_unread.Goals as goal
use Rattle.ulfm_comm.proofs.rank.LocalState.go_unread.Goals.{After-waits_still}
use Rattle.ulfm_comm.specs.Prepared.{unprepared}

pub waits_still-requires-clause-stands : goal.waits_still-requires-clause-stands
waits_still-requires-clause-stands g c =
    let k = c.requires.peeked in (unprepared, (k.0, k.1, c.unread-phase.ensures.turns unprepared false k.0 k.1 k.2))

pub returns-then-not-whole-clause-goes : goal.returns-then-not-whole-clause-goes
returns-then-not-whole-clause-goes g c =
    goes_none g.P.Meld.meld g.W.Words.alone (over g.P.Packed.pack (g.W.Words.name c.args.words.now)) 1 (g.W.Words.sight c.args.pass.now) c.requires.of

pub returns-then-not-whole-clause-spends : goal.returns-then-not-whole-clause-spends
returns-then-not-whole-clause-spends g c = omega (arith, c.unread-phase.ensures.nearer)

pub returns-then-not-whole-clause-turns : goal.returns-then-not-whole-clause-turns
returns-then-not-whole-clause-turns g c = λ prepared alone only old before h. c.unread-phase.ensures.turns prepared alone old before h

-- a load at most
goes : (g : _) (c : After-waits_still g) → Goes g.P.Meld.meld g.W.Words.alone false 1 (view_at (over g.P.Packed.pack (g.W.Words.name c.args.words.now)) (g.W.Words.sight c.args.pass.now)) (view_at (over g.P.Packed.pack (g.W.Words.name c.args.words.now)) (g.W.Words.sight c.waits_still.new.pass))
goes g c =
    let went = c.waits_still.ensures.goes in
    record { of = went.of; did = went.did; cached = went.cached; caches = went.caches; onward = went.onward; steps = omega (arith, went.steps, reads_few c.unread-phase.result) }

pub returns-in-None-clause-goes : goal.returns-in-None-clause-goes
returns-in-None-clause-goes g c = goes g (goal.at.returns-in-None-clause-goes g c).After-waits_still

pub returns-in-Some-clause-goes : goal.returns-in-Some-clause-goes
returns-in-Some-clause-goes g c = goes g (goal.at.returns-in-Some-clause-goes g c).After-waits_still

pub returns-in-None-clause-spends : goal.returns-in-None-clause-spends
returns-in-None-clause-spends g c =
    let limits = (g.W.Words.name c.args.words.now).limits in
    let same = ap (λ (w : Record). steps_left limits w c.args.asked.now c.unread-phase.result) c.waits_still.ensures.kept in
    omega (arith, c.unread-phase.ensures.nearer, c.waits_still.ensures.goes.steps, same)

pub returns-in-Some-clause-spends : goal.returns-in-Some-clause-spends
returns-in-Some-clause-spends g c = omega (arith, c.unread-phase.ensures.nearer, c.waits_still.ensures.goes.steps)

pub returns-in-Some-clause-knows : goal.returns-in-Some-clause-knows
returns-in-Some-clause-knows g c = λ cached known of.
    absurd (false≢true (subst (λ (r : Reply g.row.P.Denot). is_of_round r ≡ true) c.in-Some.ensures.waits of))

pub returns-in-None-clause-turns : goal.returns-in-None-clause-turns
returns-in-None-clause-turns g c =
    let name = over g.P.Packed.pack (g.W.Words.name c.args.words.now) in
    let now = g.W.Words.sight c.args.pass.now in
    let after = g.W.Words.sight c.waits_still.new.pass in
    let went = c.waits_still.ensures.goes in
    λ prepared alone only old before h.
    subst (λ (w : Record). Stands g.P.Meld.meld alone (local old (view_at name before)) (under_way c.args.asked.now c.unread-phase.result prepared) (local w (view_at name after)))
    (sym c.waits_still.ensures.kept)
    (stands_lasts g.P.Meld.meld alone name old before (under_way c.args.asked.now c.unread-phase.result prepared) c.args.self.now now after
    (c.unread-phase.ensures.turns prepared alone old before h)
    (record { did = did_loosely alone g.W.Words.alone only [] now.seen after.seen went.did; cached = went.cached; onward = went.onward }) went.of)

pub returns-in-Some-clause-turns : goal.returns-in-Some-clause-turns
returns-in-Some-clause-turns g c = λ prepared alone only old before h.
    c.in-Some.ensures.pends prepared alone only old before (c.unread-phase.ensures.turns prepared alone old before h)

pub returns-then-not-whole-clause-knows : goal.returns-then-not-whole-clause-knows
returns-then-not-whole-clause-knows g c = λ cached known. c.unread-phase.ensures.knows cached known

pub returns-in-None-clause-knows : goal.returns-in-None-clause-knows
returns-in-None-clause-knows g c = λ cached known. c.unread-phase.ensures.knows cached known
