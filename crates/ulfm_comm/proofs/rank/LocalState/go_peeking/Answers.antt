use Rattle.std.proofs.lemmas.Bool.{false≢true}
use Rattle.ulfm_words.proofs.Trails.{did_prefix}
use Rattle.ulfm_comm.proofs.{Turning.{turn_past}, Wings.{turn_same}}
use Rattle.std.proofs.Common.{Bool, IsTrue, ◌≡◌, ◌+◌, ◌<◌, ◌≤◌, ℕ, Some, true, false, [], length, refl, ap, subst, sym, ◌∙◌, arith}
use Rattle.ulfm_model.specs.{Blocks.{IsSummed}, Records.{Held, Record, held_at}, Terms.{comm_of}}
use Rattle.ulfm_steps.specs.{Blocks.{AllSet, AreSet, is_whole, peek_site}, Turns.{IsStepAt}}
use Rattle.ulfm_steps.proofs.KnownBlocks.{all_known, set_later}
use Rattle.ulfm_comm.proofs.Waiting.{goes_then}
use Rattle.ulfm_comm.specs.{Known.{KnowsNext}, Phase.{IsFurther, IsPast, NextBelow, Turns}, Step.{TakesTurn}, StepsLeft.{FewerLeft, Spends, steps_left}}
use Rattle.ulfm_comm.specs.declared.{phases.phase.Next.{Next}, phases.phase.Phase.TheVariants.{Peeking}}
use Rattle.ulfm_comm.specs.AlsoLeft.{AlsoSpends, FindsSetIn, also_left}
use Rattle.ulfm_comm.proofs.AlsoLeft.{also_peeks_on, also_peeks_over, also_whole}
use Rattle.ulfm_comm.proofs.{Known.{known_next, round_known}, Peeking.{peek_any, peek_ends, peek_few, peek_goes, peek_may, peek_named, peek_unread}}
use Rattle.ulfm_comm.proofs.StepsLeft.{below_more, peeks_fewer, peeks_on, peeks_over, peeks_past, peeks_spend}
use Rattle.ulfm_comm.proofs.rank.LocalState.go_peeking.Goals as goal
use Rattle.ulfm_comm.proofs.rank.LocalState.go_peeking.Goals.{After-deref, After-advance, After-len-members, In-None, In-Some}
use Rattle.ulfm_comm.specs.Local.{stance, local}
use Rattle.ulfm_comm.specs.{Agreement.{HasPeeked, HasReadAll}, Phase.{Stands, under_way}, Requests.{polled_round}}
use Rattle.ulfm_comm.specs.Step.{coming}
use Rattle.ulfm_words.specs.Steps.{view_of, over, Goes, Sight}
use Rattle.ulfm_comm.specs.Prepared.{Prepared}

-- a step was made, so that fewer are left
fewer : (after left now most : ℕ) → after + left ≤ now + most → now < after → left < most
fewer after left now most few made = omega arith

-- the members that the code reads
members : (g : _) (c : After-deref g) → c.deref.result.now ≡ c.held_comm-x.result.now.group
members g c = c.deref.ensures.value ∙ ap (λ (y : Held). y.group) c.x.view_is

pub advance-requires : goal.advance-requires
advance-requires g c =
    peek_may g.P.Meld.meld (over g.P.Packed.pack (g.W.Words.name c.args.words.now)) c.args.asked.now c.args.peek c.args.shrinks c.args.prepared.now c.args.self.now
    (g.W.Words.sight c.args.pass.now) c.requires.of
    c.held_comm-x.result.now c.comm_of.result c.held_comm-x.ensures c.comm_of.ensures c.deref.result.now (members g (goal.at.advance-requires g c).After-deref)
    false c.requires.stands.0 c.requires.stands.1 c.requires.stands.2

-- .. and their number
length_is : (g : _) (c : After-len-members g) → c.len-members.result ≡ length c.deref.result.now
length_is g c = c.len-members.ensures ∙ sym c.deref.ensures.len

-- the communicator is held
held : (g : _) (c : After-deref g) → held_at c.args.self.now (comm_of c.args.asked.now) ≡ Some c.held_comm-x.result.now
held g c = ap (held_at c.args.self.now) (sym c.comm_of.ensures) ∙ c.held_comm-x.ensures

pub overflow_cast-members : goal.overflow_cast-members
overflow_cast-members g c =
    let stands = c.requires.stands in
    let few = peek_few g.P.Meld.meld (over g.P.Packed.pack (g.W.Words.name c.args.words.now)) c.args.asked.now c.args.peek c.args.shrinks c.args.prepared.now c.args.self.now
    (g.W.Words.sight c.args.pass.now) c.requires.of
    c.held_comm-x.result.now c.comm_of.result c.held_comm-x.ensures c.comm_of.ensures c.deref.result.now
    (members g (goal.at.overflow_cast-members g c).After-deref) false stands.0 stands.1 stands.2 in
    omega (arith, few, length_is g (goal.at.overflow_cast-members g c).After-len-members)

pub all-requires : goal.all-requires
all-requires g c =
    let stands = c.requires.stands in
    let some = peek_any g.P.Meld.meld (over g.P.Packed.pack (g.W.Words.name c.args.words.now)) c.args.asked.now c.args.peek c.args.shrinks c.args.prepared.now c.args.self.now
    (g.W.Words.sight c.args.pass.now) c.requires.of
    c.held_comm-x.result.now c.comm_of.result c.held_comm-x.ensures c.comm_of.ensures c.deref.result.now (members g (goal.at.all-requires g c).After-deref)
    false stands.0 stands.1 stands.2 in
    omega (arith, some, length_is g (goal.at.all-requires g c).After-len-members)

-- the loads add nothing; what comes after them leaves the failures that were seen
peeks : (g : _) (c : After-advance g) (most : ℕ) (after : Sight g.row.P.Denot)
    → Goes g.P.Meld.meld g.W.Words.alone false most (view_of g.P.Packed.pack (g.W.Words.name c.args.words.now) (g.W.Words.sight c.args.pass.now)) (view_of g.P.Packed.pack (g.W.Words.name c.args.words.now) after)
    → (c.args.whole ≡ false → IsStepAt (peek_site c.args.peek) true (g.W.Words.sight c.args.pass.now) after)
    → (next : Next g.row.P.Denot) (left : Prepared) (new : Record)
    → (c.args.whole ≡ false → FewerLeft (steps_left (g.W.Words.name c.args.words.now).limits c.args.self.now c.args.asked.now
    (Peeking c.args.peek c.args.shrinks)) (g.W.Words.name c.args.words.now).limits new c.args.asked.now next)
    → Spends (steps_left (g.W.Words.name c.args.words.now).limits c.args.self.now c.args.asked.now (Peeking c.args.peek c.args.shrinks))
    (g.W.Words.name c.args.words.now).limits new c.args.asked.now next (g.W.Words.sight c.args.pass.now) after
    → (c.args.whole ≡ true → IsFurther (Peeking c.args.peek c.args.shrinks) next) → new.seen ≡ c.args.self.now.seen → IsPast next
    → (FindsSetIn c.args.self.now c.args.asked.now (g.W.Words.sight c.args.pass.now).cached (Peeking c.args.peek c.args.shrinks)
    → AlsoSpends (also_left (g.W.Words.name c.args.words.now).limits c.args.self.now c.args.asked.now (Peeking c.args.peek c.args.shrinks)) (g.W.Words.name c.args.words.now).limits c.args.asked.now (stance c.args.self.now (g.W.Words.sight c.args.pass.now)) next (stance new after))
    → (AreSet (g.W.Words.sight c.args.pass.now).cached c.args.peek.comm c.args.peek.round c.args.peek.blocks
    → KnowsNext c.args.self.now c.args.asked.now after.cached next)
    → Turns g.P.Meld.meld g.W.Words.alone (under_way c.args.asked.now (Peeking c.args.peek c.args.shrinks) c.args.prepared.now) (local c.args.self.now (view_of g.P.Packed.pack (g.W.Words.name c.args.words.now) (g.W.Words.sight c.args.pass.now))) next left (local new (view_of g.P.Packed.pack (g.W.Words.name c.args.words.now) after))
    → TakesTurn g.P.Meld.meld g.W.Words.alone c.args.whole (under_way c.args.asked.now (Peeking c.args.peek c.args.shrinks) c.args.prepared.now) (local c.args.self.now (view_of g.P.Packed.pack (g.W.Words.name c.args.words.now) (g.W.Words.sight c.args.pass.now))) (coming next left) (local new (view_of g.P.Packed.pack (g.W.Words.name c.args.words.now) after))
peeks g c most after goes one next left new nearer spends further sees leads also knows turns =
    let now = g.W.Words.sight c.args.pass.now in
    turn_past refl (record { of = goes.of; own = []; did = goes.did; onward = goes.onward; cached = goes.cached })
    (turn_same _ _ _ _ _ (λ w. w) (did_prefix g.W.Words.alone _ _ _ goes.did) goes.caches)
    (λ single. (peek_named c.args.peek c.args.shrinks c.args.self.now.number (comm_of c.args.asked.now) now after c.requires.stands.2.at.1.there (one single), nearer single))
    spends also further goes.did sees knows leads turns

pub returns-then-not-advance : goal.returns-then-not-advance
returns-then-not-advance g c =
    let takes = c.if-not-advance.ensures.takes in
    let after = g.W.Words.sight c.advance.new.pass in
    let left = peeks_on (g.W.Words.name c.args.words.now).limits c.args.self.now c.args.asked.now c.held_comm-x.result.now
    (held g (goal.at.returns-then-not-advance g c).After-deref) c.args.shrinks c.deref.result.now
    (members g (goal.at.returns-then-not-advance g c).After-deref) c.args.peek c.advance.new.self (g.W.Words.sight c.args.pass.now).steps after.steps
    takes.turns in
    peeks g (goal.at.returns-then-not-advance g c).After-advance 4 after c.advance.ensures.goes takes.one _ _ _ (λ single. fewer after.steps
    (steps_left (g.W.Words.name c.args.words.now).limits c.args.self.now c.args.asked.now (Peeking c.advance.new.self c.args.shrinks))
    (g.W.Words.sight c.args.pass.now).steps (steps_left (g.W.Words.name c.args.words.now).limits c.args.self.now c.args.asked.now
    (Peeking c.args.peek c.args.shrinks)) left takes.some) left (λ whole. absurd (false≢true (sym c.if-not-advance.true ∙ c.advance.ensures.ends whole)))
    refl refl
    (λ all. also_peeks_on (g.W.Words.name c.args.words.now).limits c.args.self.now c.args.asked.now c.held_comm-x.result.now
    (held g (goal.at.returns-then-not-advance g c).After-deref) c.args.shrinks c.deref.result.now
    (members g (goal.at.returns-then-not-advance g c).After-deref) c.args.peek c.advance.new.self (g.W.Words.sight c.args.pass.now) after
    c.advance.ensures.comm c.advance.ensures.round c.advance.ensures.front c.advance.ensures.onward c.advance.ensures.kept all c.advance.ensures.goes.cached
    takes.turns)
    (λ known. rw (c.advance.ensures.comm, c.advance.ensures.round) (c.advance.ensures.sets known))
    (λ alone only old before stands.
    peek_goes g.P.Meld.meld (over g.P.Packed.pack (g.W.Words.name c.args.words.now)) c.args.asked.now c.args.peek c.args.shrinks c.args.prepared.now c.args.self.now
    (g.W.Words.sight c.args.pass.now) c.requires.of
    c.held_comm-x.result.now c.comm_of.result c.held_comm-x.ensures c.comm_of.ensures c.deref.result.now
    (members g (goal.at.returns-then-not-advance g c).After-deref) alone old before stands
    g.W.Words.alone only (g.W.Words.sight c.advance.new.pass) c.advance.ensures.goes.of c.advance.ensures.goes.did c.advance.ensures.goes.onward
    c.advance.new.self c.advance.ensures.comm c.advance.ensures.round c.advance.ensures.are (c.if-not-advance.ensures.some refl) (c.if-not-advance.ensures.first refl))

-- a call that stood so
abbrev StoodAt : (g : _) → After-advance g → Bool → Record → Sight g.row.P.Denot → Type 0
StoodAt g c alone old before = Stands g.P.Meld.meld alone (local old (view_of g.P.Packed.pack (g.W.Words.name c.args.words.now) before)) (under_way c.args.asked.now (Peeking c.args.peek c.args.shrinks) c.args.prepared.now) (local c.args.self.now (view_of g.P.Packed.pack (g.W.Words.name c.args.words.now) (g.W.Words.sight c.args.pass.now)))

-- not all were set
not_all : (g : _) (c : In-None g) → is_whole c.advance.new.self.blocks (length c.deref.result.now) ≡ false
not_all g c = ap (is_whole c.advance.new.self.blocks) (sym (length_is g (goal.at.In-None g c).After-len-members)) ∙ sym c.in-None.ensures.whole

unread : (g : _) (c : In-None g) (alone : Bool) → (IsTrue alone → IsTrue g.W.Words.alone) → (old : Record) (before : Sight g.row.P.Denot)
    → StoodAt g (goal.at.In-None g c).After-advance alone old before
    → HasPeeked g.P.Meld.meld alone c.args.asked.now c.args.shrinks c.advance.new.self (local old (view_of g.P.Packed.pack (g.W.Words.name c.args.words.now) before)) (local c.args.self.now (view_of g.P.Packed.pack (g.W.Words.name c.args.words.now) (g.W.Words.sight c.advance.new.pass)))
unread g c alone only old before stands =
    peek_unread g.P.Meld.meld (over g.P.Packed.pack (g.W.Words.name c.args.words.now)) c.args.asked.now c.args.peek c.args.shrinks c.args.prepared.now c.args.self.now
    (g.W.Words.sight c.args.pass.now) c.requires.of
    c.held_comm-x.result.now c.comm_of.result c.held_comm-x.ensures c.comm_of.ensures c.deref.result.now (members g (goal.at.In-None g c).After-deref)
    alone old before stands g.W.Words.alone only (g.W.Words.sight c.advance.new.pass) c.advance.ensures.goes.of c.advance.ensures.goes.did
    c.advance.ensures.goes.onward c.advance.new.self c.advance.ensures.comm c.advance.ensures.round c.advance.ensures.are (not_all g c)

pub go_unread-requires-clause-peeked : goal.go_unread-requires-clause-peeked
go_unread-requires-clause-peeked g c =
    let s = c.requires.stands in
    (s.0, s.1, unread g (goal.at.go_unread-requires-clause-peeked g c).In-None false (λ here. absurd (false≢true here)) s.0 s.1 s.2)

pub returns-in-None : goal.returns-in-None
returns-in-None g c =
    let name = over g.P.Packed.pack (g.W.Words.name c.args.words.now) in
    let limits = (g.W.Words.name c.args.words.now).limits in
    let takes = c.if-not-advance.ensures.takes in
    let start = g.W.Words.sight c.args.pass.now in
    let mid = g.W.Words.sight c.advance.new.pass in
    let after = g.W.Words.sight c.go_unread.new.pass in
    let first = c.advance.ensures.goes in
    let then = c.go_unread.ensures in
    let at = (goal.at.returns-in-None g c).After-deref in
    let here = not_all g (goal.at.returns-in-None g c).In-None in
    peeks g (goal.at.returns-in-None g c).After-advance 5 after (goes_then g.P.Meld.meld g.W.Words.alone name 4 1 start mid after first then.goes)
    (λ single. subst (λ s. IsStepAt (peek_site c.args.peek) true start s) (sym (then.single single)) (takes.one single)) _ _ _
    (λ single. peeks_past limits c.args.self.now c.args.asked.now c.held_comm-x.result.now (held g at) c.args.shrinks c.deref.result.now (members g at) c.args.peek
    _ _ mid after (ap (λ (s : Sight g.row.P.Denot). s.steps) (then.single single)) then.spends)
    (peeks_over limits c.args.self.now c.args.asked.now c.held_comm-x.result.now (held g at) c.args.shrinks c.deref.result.now (members g at) c.args.peek
    _ _ start mid after (omega (arith, takes.turns)) then.spends)
    (λ whole. then.further) (ap (λ (w : Record). w.seen) then.kept) then.past
    (λ all. let whole = also_whole limits c.args.self.now c.args.asked.now c.held_comm-x.result.now (held g at) c.args.shrinks c.deref.result.now (members g at) c.args.peek
    c.advance.new.self start mid c.advance.ensures.comm c.advance.ensures.round c.advance.ensures.front
    c.advance.ensures.onward c.advance.ensures.kept all (c.advance.ensures.last c.if-not-advance.false) (c.advance.ensures.back c.if-not-advance.false) in absurd (false≢true (sym here ∙ whole)))
    (λ known. then.knows after.cached (set_later mid.cached after.cached c.advance.new.self.comm c.advance.new.self.round c.advance.new.self.blocks then.goes.cached
    (rw (c.advance.ensures.comm, c.advance.ensures.round) (c.advance.ensures.sets known))))
    (λ alone only old before stands.
    then.turns c.args.prepared.now alone only old before (unread g (goal.at.returns-in-None g c).In-None alone only old before stands))

-- all were: this is what they say
said : (g : _) (c : In-Some g) → IsSummed g.P.Meld.meld (g.W.Words.sight c.advance.new.pass).seen c.args.peek.comm c.args.peek.round c.deref.result.now
    c.in-Some.all
said g c = c.in-Some.ensures.tells (g.W.Words.sight c.advance.new.pass).seen c.args.peek.comm c.args.peek.round c.deref.result.now
    (c.deref.ensures.len ∙ sym c.len-members.ensures) c.advance.ensures.are

all_said : (g : _) (c : In-Some g) (alone : Bool) → (IsTrue alone → IsTrue g.W.Words.alone) → (old : Record) (before : Sight g.row.P.Denot)
    → StoodAt g (goal.at.In-Some g c).After-advance alone old before
    → HasReadAll g.P.Meld.meld alone c.args.asked.now (polled_round c.args.shrinks c.advance.new.self.round) c.in-Some.all (local old (view_of g.P.Packed.pack (g.W.Words.name c.args.words.now) before)) (local c.args.self.now (view_of g.P.Packed.pack (g.W.Words.name c.args.words.now) (g.W.Words.sight c.advance.new.pass)))
all_said g c alone only old before stands =
    peek_ends g.P.Meld.meld (over g.P.Packed.pack (g.W.Words.name c.args.words.now)) c.args.asked.now c.args.peek c.args.shrinks c.args.prepared.now c.args.self.now
    (g.W.Words.sight c.args.pass.now) c.requires.of
    c.held_comm-x.result.now c.comm_of.result c.held_comm-x.ensures c.comm_of.ensures c.deref.result.now (members g (goal.at.In-Some g c).After-deref)
    alone old before stands g.W.Words.alone only (g.W.Words.sight c.advance.new.pass) c.advance.ensures.goes.of c.advance.ensures.goes.did
    c.advance.ensures.goes.onward c.advance.new.self c.advance.ensures.comm c.advance.ensures.round c.advance.ensures.are c.in-Some.all (said g c)

pub decided-requires-clause-read : goal.decided-requires-clause-read
decided-requires-clause-read g c =
    let s = c.requires.stands in
    (s.0, s.1, all_said g (goal.at.decided-requires-clause-read g c).In-Some false (λ here. absurd (false≢true here)) s.0 s.1 s.2)

-- so the round's blocks are all known to be set
known : (g : _) (c : After-advance g) (next : Next g.row.P.Denot) → NextBelow 5 next
    → AllSet (g.W.Words.sight c.advance.new.pass).cached c.args.peek.comm c.args.peek.round c.deref.result.now
    → KnowsNext c.args.self.now c.args.asked.now (g.W.Words.sight c.advance.new.pass).cached next
known g c next below all =
    let before = (goal.at.After-advance g c).After-deref in
    let at = c.requires.stands.2.at in
    let x = c.held_comm-x.result.now in
    let both : Some x ≡ Some at.1.x = sym (held g before) ∙ at.1.since.held in
    let same : x ≡ at.1.x = cc both in
    let cached = (g.W.Words.sight c.advance.new.pass).cached in
    known_next c.args.self.now c.args.asked.now cached next below
    (round_known c.args.self.now c.args.asked.now c.requires.stands.0.number at.0 x (held g before) c.args.shrinks c.args.peek.round
    (ap (λ (z : Held). z.request) same ∙ at.1.open_is)
    c.args.peek.comm at.1.there c.deref.result.now (members g before) cached all)

pub returns-in-Some : goal.returns-in-Some
returns-in-Some g c =
    let takes = c.if-not-advance.ensures.takes in
    let after = g.W.Words.sight c.advance.new.pass in
    peeks g (goal.at.returns-in-Some g c).After-advance 4 after c.advance.ensures.goes takes.one _ _ _
    (λ single. peeks_fewer (g.W.Words.name c.args.words.now).limits c.args.self.now c.args.asked.now c.held_comm-x.result.now
    (held g (goal.at.returns-in-Some g c).After-deref) c.args.shrinks c.deref.result.now (members g (goal.at.returns-in-Some g c).After-deref) c.args.peek _
    _ c.decided.ensures.nearer)
    (peeks_spend (g.W.Words.name c.args.words.now).limits c.args.self.now c.args.asked.now c.held_comm-x.result.now
    (held g (goal.at.returns-in-Some g c).After-deref) c.args.shrinks c.deref.result.now (members g (goal.at.returns-in-Some g c).After-deref) c.args.peek _
    _ (g.W.Words.sight c.args.pass.now) after (omega (arith, takes.turns)) c.decided.ensures.nearer)
    (λ whole. below_more 5 7 (omega arith) _ c.decided.ensures.further) c.decided.ensures.sees c.decided.ensures.past
    (λ all. also_peeks_over (g.W.Words.name c.args.words.now).limits c.args.self.now c.args.asked.now c.held_comm-x.result.now
    (held g (goal.at.returns-in-Some g c).After-deref) c.args.shrinks c.deref.result.now (members g (goal.at.returns-in-Some g c).After-deref) c.args.peek
    c.advance.new.self (g.W.Words.sight c.args.pass.now) after c.advance.ensures.comm c.advance.ensures.round c.advance.ensures.front
    c.advance.ensures.onward c.advance.ensures.kept all (omega (arith, takes.turns)) _ _ c.decided.ensures.sees c.decided.ensures.further c.decided.ensures.also)
    (λ are. known g (goal.at.returns-in-Some g c).After-advance _ c.decided.ensures.further
    (all_known after.cached c.args.peek.comm c.args.peek.round c.deref.result.now c.advance.new.self.blocks (c.advance.ensures.sets are)
    (ap (is_whole c.advance.new.self.blocks) (sym (length_is g (goal.at.returns-in-Some g c).After-len-members)) ∙ sym c.in-Some.ensures.whole)))
    (λ alone only old before stands.
    c.decided.ensures.turns alone old before (all_said g (goal.at.returns-in-Some g c).In-Some alone only old before stands))
