use Rattle.std.proofs.Common.{◌≡◌, ℕ, ◌+◌, ◌≤◌, true, false, cond, [], ◌∷◌, length, length-append, subst, ap, sym, ◌∙◌, arith}
use Rattle.ulfm_words.specs.Steps.{over}
use Rattle.std.specs.List.{list_all}
use Rattle.ulfm_model.specs.History.{has_arrived}
use Rattle.ulfm_model.specs.declared.place.Place.TheVariants.{Arrival as ArrivalAt}
use Rattle.ulfm_words.proofs.Trails.{did_prefix}
use Rattle.ulfm_steps.specs.{Arriving.{AtArrival, MissingAre, arrivals_left, asked_before, rank_at}, Turns.{TakesFirst}}
use Rattle.ulfm_steps.specs.declared.arrivals.Missing.TheVariants.{Others, Declared}
use Rattle.ulfm_steps.proofs.{Arriving.{arrived_further, asked_left, asked_member, asked_next, at_arrival_next, at_arrival_stays, missing_found, nobody_missing}, Groups.{round_rises}, Reading.{member_within}, Turning.{takes_load}}
use Rattle.ulfm_steps.proofs.arrivals.Arrivals.step.Goals as goal
use Rattle.ulfm_steps.proofs.arrivals.Arrivals.step.Goals.{Joined-self, After-load_arrival, then-self, else-self}

-- the load is of the place of the member who is asked about
rank_is : (g : _) (c : Joined-self g) → c.if-self.rank ≡ rank_at c.args.group.now c.args.declared.now c.args.self.now.others c.args.self.now.next
rank_is g c =
    let at = c.args.self.now.next in
    elim c.if-self.branch [
      | then-self w ↦ w.rank-is ∙ ap (λ b. rank_at c.args.group.now c.args.declared.now b at) (sym w.if-self.true)
      | else-self w ↦ w.rank-is ∙ ap (λ b. rank_at c.args.group.now c.args.declared.now b at) (sym w.if-self.false)
    ]

pub load_arrival-requires-clause-within : goal.load_arrival-requires-clause-within
load_arrival-requires-clause-within g c =
    let a = c.args.self.now in
    let group = c.args.group.now in
    rw (rank_is g (goal.at.load_arrival-requires-clause-within g c).Joined-self)
    (member_within (g.W.Words.name c.args.words.now).limits g.P.Meld.meld (g.W.Words.sight c.args.pass.now).seen a.comm a.round (rank_at group c.args.declared.now a.others a.next) group c.requires.of.legal c.requires.of.may_open c.requires.round
    (asked_member group c.args.declared.now a.others a.next c.requires.at.asked))

-- after it, all before that member have arrived still
still : (g : _) (c : After-load_arrival g) → AtArrival c.args.group.now c.args.declared.now c.args.self.now (g.W.Words.sight c.load_arrival.new.pass).seen
still g c =
    let old = (g.W.Words.sight c.args.pass.now).seen in
    let new = (g.W.Words.sight c.load_arrival.new.pass).seen in
    at_arrival_stays c.args.group.now c.args.declared.now c.args.self.now old new (did_prefix g.W.Words.alone [] old new c.load_arrival.ensures.loads.did) c.requires.at

-- .. and it tells whether the member has
found : (g : _) (c : After-load_arrival g) → c.load_arrival.result ≡ has_arrived (g.W.Words.sight c.load_arrival.new.pass).seen c.args.self.now.comm c.args.self.now.round (rank_at c.args.group.now c.args.declared.now c.args.self.now.others c.args.self.now.next)
found g c = c.load_arrival.ensures.arrived ∙ ap (has_arrived (g.W.Words.sight c.load_arrival.new.pass).seen c.args.self.now.comm c.args.self.now.round) (rank_is g (goal.at.After-load_arrival g c).Joined-self)

-- .. a missing one is of the declared ranks or of the others
missing : (g : _) (c : After-load_arrival g) → c.load_arrival.result ≡ false
    → MissingAre (g.W.Words.sight c.load_arrival.new.pass).seen c.args.self.now.comm c.args.self.now.round c.args.group.now c.args.declared.now (cond c.args.self.now.others Others Declared)
missing g c is =
    let a = c.args.self.now in
    missing_found (g.W.Words.sight c.load_arrival.new.pass).seen a.comm a.round c.args.group.now c.args.declared.now a.others a.next c.requires.at.asked (still g c).arrived (sym (found g c) ∙ is)

-- .. and with one who has arrived, one more has
came : (g : _) (c : After-load_arrival g) → c.load_arrival.result ≡ true
    → list_all (has_arrived (g.W.Words.sight c.load_arrival.new.pass).seen c.args.self.now.comm c.args.self.now.round) (asked_before c.args.group.now c.args.declared.now c.args.self.now.others (c.args.self.now.next + 1)) ≡ true
came g c is =
    let a = c.args.self.now in
    arrived_further (g.W.Words.sight c.load_arrival.new.pass).seen a.comm a.round c.args.group.now c.args.declared.now a.others a.next c.requires.at.asked (still g c).arrived (sym (found g c) ∙ is)

pub returns-then-self-2-clause-are : goal.returns-then-self-2-clause-are
returns-then-self-2-clause-are g c =
    let a = c.args.self.now in
    let said = missing g (goal.at.returns-then-self-2-clause-are g c).After-load_arrival c.if-not-load_arrival.true in
    subst (λ b. MissingAre (g.W.Words.sight c.load_arrival.new.pass).seen a.comm a.round c.args.group.now c.args.declared.now (cond b Others Declared)) c.if-self-2.true said

pub returns-else-self-2-clause-are : goal.returns-else-self-2-clause-are
returns-else-self-2-clause-are g c =
    let a = c.args.self.now in
    let said = missing g (goal.at.returns-else-self-2-clause-are g c).After-load_arrival c.if-not-load_arrival.true in
    subst (λ b. MissingAre (g.W.Words.sight c.load_arrival.new.pass).seen a.comm a.round c.args.group.now c.args.declared.now (cond b Others Declared)) c.if-self-2.false said

pub move_on-requires-clause-rises : goal.move_on-requires-clause-rises
move_on-requires-clause-rises g c = round_rises (g.W.Words.name c.args.words.now).limits (g.W.Words.sight c.args.pass.now).seen c.args.self.now.comm c.args.self.now.round c.args.group.now c.requires.round

pub returns-then-move_on-clause-at : goal.returns-then-move_on-clause-at
returns-then-move_on-clause-at g c =
    let e = c.move_on.ensures in
    let all = came g (goal.at.returns-then-move_on-clause-at g c).After-load_arrival c.if-not-load_arrival.false in
    at_arrival_next c.args.group.now c.args.declared.now c.args.self.now c.move_on.new.self (g.W.Words.sight c.load_arrival.new.pass).seen all e.comm e.round e.none_between c.if-move_on.ensures.next

pub returns-clause-are : goal.returns-clause-are
returns-clause-are g c =
    let a = c.args.self.now in
    let e = c.move_on.ensures in
    let all = came g (goal.at.returns-clause-are g c).After-load_arrival c.if-not-load_arrival.false in
    nobody_missing (g.W.Words.sight c.load_arrival.new.pass).seen a.comm a.round c.args.group.now c.args.declared.now (asked_before c.args.group.now c.args.declared.now a.others (a.next + 1))
    (asked_before c.args.group.now c.args.declared.now c.move_on.new.self.others c.move_on.new.self.next) all e.none_between c.if-move_on.ensures.next

-- it is one step, after which fewer are left
took : (g : _) (c : After-load_arrival g) (after : ℕ) → after + 1 ≤ arrivals_left c.args.group.now c.args.declared.now c.args.self.now
    → TakesFirst false (ArrivalAt c.args.self.now.comm c.args.self.now.round (rank_at c.args.group.now c.args.declared.now c.args.self.now.others c.args.self.now.next)) true (arrivals_left c.args.group.now c.args.declared.now c.args.self.now) after (g.W.Words.sight c.args.pass.now) (g.W.Words.sight c.load_arrival.new.pass)
took g c after fewer =
    let a = c.args.self.now in
    takes_load g.P.Meld.meld g.P.Packed.pack g.W.Words.alone (over g.P.Packed.pack (g.W.Words.name c.args.words.now)) (ArrivalAt a.comm a.round c.if-self.rank) (g.W.Words.sight c.args.pass.now) (g.W.Words.sight c.load_arrival.new.pass)
    (ArrivalAt a.comm a.round (rank_at c.args.group.now c.args.declared.now a.others a.next)) (arrivals_left c.args.group.now c.args.declared.now a) after c.load_arrival.ensures.loads
    (ap (λ r. ArrivalAt a.comm a.round r) (rank_is g (goal.at.After-load_arrival g c).Joined-self)) fewer

-- one was left, at least
one_left : (g : _) (c : After-load_arrival g) → 1 ≤ arrivals_left c.args.group.now c.args.declared.now c.args.self.now
one_left g c = let left = asked_left c.args.group.now c.args.declared.now c.args.self.now.others c.args.self.now.next c.requires.at.asked in omega (arith, left)

pub returns-then-self-2-clause-takes : goal.returns-then-self-2-clause-takes
returns-then-self-2-clause-takes g c = let at = (goal.at.returns-then-self-2-clause-takes g c).After-load_arrival in took g at 0 (one_left g at)

pub returns-else-self-2-clause-takes : goal.returns-else-self-2-clause-takes
returns-else-self-2-clause-takes g c = let at = (goal.at.returns-else-self-2-clause-takes g c).After-load_arrival in took g at 0 (one_left g at)

pub returns-then-move_on-clause-takes : goal.returns-then-move_on-clause-takes
returns-then-move_on-clause-takes g c =
    let at = (goal.at.returns-then-move_on-clause-takes g c).After-load_arrival in
    let a = c.args.self.now in
    let group = c.args.group.now in
    let declared = c.args.declared.now in
    let left = asked_left group declared a.others a.next c.requires.at.asked in
    let next = ap length (c.move_on.ensures.none_between ∙ asked_next group declared a.others a.next c.requires.at.asked) in
    let longer = length-append (asked_before group declared a.others a.next) (rank_at group declared a.others a.next ∷ []) in
    took g at (arrivals_left group declared c.move_on.new.self) (omega (arith, left, next, longer))

pub returns-clause-takes : goal.returns-clause-takes
returns-clause-takes g c = let at = (goal.at.returns-clause-takes g c).After-load_arrival in took g at 0 (one_left g at)
