use Rattle.std.proofs.Common.{◌≡◌, ◌+◌, ◌<◌, ℕ, Bool, true, [], length, slice_index_or, subst, ap, sym, ◌∙◌, arith, false}
use Rattle.std.specs.Prelude.{if◌then◌else◌}
use Rattle.std.specs.List.{list_all, slice_index}
use Rattle.ulfm_model.specs.History.{has_arrived}
use Rattle.ulfm_words.specs.Steps.{over, view_of}
use Rattle.ulfm_words.proofs.Trails.{did_prefix}
use Rattle.ulfm_steps.specs.Arriving.{IsAsked, asked_before, asks, rank_at, ranks_of}
use Rattle.ulfm_steps.proofs.{Arriving.{arrivals_stay, arrived_on, asked_at, asked_end, asked_fewer, asked_member, asked_missing, count_on, rank_is, within_ranks}, Going.{Went, went_most, went_on}, Groups.{round_rises}, Reading.{member_within, round_stays}}
use Rattle.ulfm_steps.proofs.arrivals.arrived_from.Goals as goal
use Rattle.ulfm_steps.proofs.arrivals.arrived_from.Goals.{Joined-others, After-is_asked-asked, After-load_arrival, then-others, else-others}

-- the ranks that the loop goes through
ranks_are : (g : _) (c : Joined-others g) → c.if-others.ranks.now ≡ ranks_of c.args.group.now c.args.declared.now c.args.others
ranks_are g c =
    elim c.if-others.branch [
      | then-others w ↦ ap (λ r. r.now) w.ranks-is ∙ ap (ranks_of c.args.group.now c.args.declared.now) (sym w.if-others.true)
      | else-others w ↦ ap (λ r. r.now) w.ranks-is ∙ ap (ranks_of c.args.group.now c.args.declared.now) (sym w.if-others.false)
    ]

below : (g : _) (c : After-is_asked-asked g) → c.loop-at.at < length (ranks_of c.args.group.now c.args.declared.now c.args.others)
below g c = subst (λ xs. c.loop-at.at < length xs) (ranks_are g (goal.at.After-is_asked-asked g c).Joined-others) c.loop-at-test.true

-- whether this one is asked about
asks_it : (g : _) (c : After-is_asked-asked g) → c.is_asked-asked.result ≡ asks c.args.group.now c.args.declared.now c.args.others (slice_index (ranks_of c.args.group.now c.args.declared.now c.args.others) c.loop-at.at)
asks_it g c = c.is_asked-asked.ensures ∙ ap (λ xs. asks c.args.group.now c.args.declared.now c.args.others (slice_index xs c.loop-at.at)) (ranks_are g (goal.at.After-is_asked-asked g c).Joined-others)

it_is : (g : _) (c : After-is_asked-asked g) → slice_index_or c.if-others.ranks.now c.loop-at.at 0 ≡ rank_at c.args.group.now c.args.declared.now c.args.others c.loop-at.at
it_is g c = ap (λ xs. slice_index xs c.loop-at.at) (ranks_are g (goal.at.After-is_asked-asked g c).Joined-others) ∙ sym (rank_is c.args.group.now c.args.declared.now c.args.others c.loop-at.at)

here : (g : _) (c : After-is_asked-asked g) → c.is_asked-asked.result ≡ true → IsAsked c.args.group.now c.args.declared.now c.args.others c.loop-at.at
here g c is = asked_at c.args.group.now c.args.declared.now c.args.others c.loop-at.at (below g c) (sym (asks_it g c) ∙ is)

-- the steps that were made, and this one
went : (g : _) (c : After-load_arrival g) → Went g.P.Meld.meld g.W.Words.alone false (view_of g.P.Packed.pack (g.W.Words.name c.args.words.now) (g.W.Words.sight c.args.pass.now)) (view_of g.P.Packed.pack (g.W.Words.name c.args.words.now) (g.W.Words.sight c.load_arrival.new.pass))
went g c =
    let l = c.load_arrival.ensures.loads in
    went_on g.P.Meld.meld g.W.Words.alone false (over g.P.Packed.pack (g.W.Words.name c.args.words.now)) 1 (g.W.Words.sight c.args.pass.now) (g.W.Words.sight c.loop-at.pass) (g.W.Words.sight c.load_arrival.new.pass) c.loop-at.invariant.went
    (record { of = l.of; did = l.did; cached = l.cached; caches = l.caches; onward = omega (arith, l.steps); steps = omega (arith, l.steps) })

pub is_asked-asked-requires : goal.is_asked-asked-requires
is_asked-asked-requires g c = round_rises (g.W.Words.name c.args.words.now).limits (g.W.Words.sight c.loop-at.pass).seen c.args.comm c.args.round c.args.group.now c.loop-at.invariant.round_of

pub load_arrival-requires-clause-within : goal.load_arrival-requires-clause-within
load_arrival-requires-clause-within g c =
    let before = (goal.at.load_arrival-requires-clause-within g c).After-is_asked-asked in
    let i = c.loop-at.invariant in
    let group = c.args.group.now in
    let declared = c.args.declared.now in
    rw (it_is g before)
    (member_within (g.W.Words.name c.args.words.now).limits g.P.Meld.meld (g.W.Words.sight c.loop-at.pass).seen c.args.comm c.args.round (rank_at group declared c.args.others c.loop-at.at) group i.went.of.legal i.went.of.may_open i.round_of
    (asked_member group declared c.args.others c.loop-at.at (here g before c.if-not-asked.false)))

pub returns-then-not-load_arrival-clause-goes : goal.returns-then-not-load_arrival-clause-goes
returns-then-not-load_arrival-clause-goes g c =
    let before = (goal.at.returns-then-not-load_arrival-clause-goes g c).After-is_asked-asked in
    let fewer = asked_fewer c.args.group.now c.args.declared.now c.args.others c.loop-at.at (here g before c.if-not-asked.false) in
    went_most g.P.Meld.meld g.W.Words.alone false (over g.P.Packed.pack (g.W.Words.name c.args.words.now)) _ (g.W.Words.sight c.args.pass.now) (g.W.Words.sight c.load_arrival.new.pass) (went g (goal.at.returns-then-not-load_arrival-clause-goes g c).After-load_arrival)
    (omega (arith, c.loop-at.invariant.steps, c.load_arrival.ensures.loads.steps, fewer))

pub returns-then-not-load_arrival-clause-arrived : goal.returns-then-not-load_arrival-clause-arrived
returns-then-not-load_arrival-clause-arrived g c =
    let before = (goal.at.returns-then-not-load_arrival-clause-arrived g c).After-is_asked-asked in
    let later = (g.W.Words.sight c.load_arrival.new.pass).seen in
    let missing = sym c.load_arrival.ensures.arrived ∙ c.if-not-load_arrival.true in
    sym (asked_missing later c.args.comm c.args.round c.args.group.now c.args.declared.now c.args.others c.loop-at.at (here g before c.if-not-asked.false) (ap (has_arrived later c.args.comm c.args.round) (sym (it_is g before)) ∙ missing))

-- one more stands before the next place, where it is asked about
counted : (g : _) (c : After-is_asked-asked g) → length (asked_before c.args.group.now c.args.declared.now c.args.others (c.loop-at.at + 1)) ≡ length (asked_before c.args.group.now c.args.declared.now c.args.others c.loop-at.at) + (if c.is_asked-asked.result then 1 else 0)
counted g c = count_on c.args.group.now c.args.declared.now c.args.others c.loop-at.at (below g c) c.is_asked-asked.result (asks_it g c)

-- .. and all who stand before that have come, where this one has
all_before : (g : _) (c : After-is_asked-asked g) (came : ℕ → Bool) → list_all came (asked_before c.args.group.now c.args.declared.now c.args.others c.loop-at.at) ≡ true
    → (c.is_asked-asked.result ≡ true → came (rank_at c.args.group.now c.args.declared.now c.args.others c.loop-at.at) ≡ true) → list_all came (asked_before c.args.group.now c.args.declared.now c.args.others (c.loop-at.at + 1)) ≡ true
all_before g c came = arrived_on c.args.group.now c.args.declared.now c.args.others c.loop-at.at (below g c) came c.is_asked-asked.result (asks_it g c)

-- a rank that isn't asked about is passed over
pub loop-at-preserved-then-not-asked : goal.loop-at-preserved-then-not-asked
loop-at-preserved-then-not-asked g c =
    let before = (goal.at.loop-at-preserved-then-not-asked g c).After-is_asked-asked in
    let i = c.loop-at.invariant in
    let off : c.is_asked-asked.result ≡ false = c.if-not-asked.true in
    record {
      went = i.went;
      round_of = i.round_of;
      steps = omega (arith, i.steps, rw off at (counted g before));
      arrived = all_before g before (has_arrived (g.W.Words.sight c.loop-at.pass).seen c.args.comm c.args.round) i.arrived (λ is. absurd (cc (off, is)));
    }

pub loop-at-preserved : goal.loop-at-preserved
loop-at-preserved g c =
    let before = (goal.at.loop-at-preserved g c).After-is_asked-asked in
    let i = c.loop-at.invariant in
    let e = c.load_arrival.ensures in
    let h = (g.W.Words.sight c.loop-at.pass).seen in
    let later = (g.W.Words.sight c.load_arrival.new.pass).seen in
    let begins = did_prefix g.W.Words.alone [] h later e.loads.did in
    let on : c.is_asked-asked.result ≡ true = c.if-not-asked.false in
    let came = has_arrived later c.args.comm c.args.round in
    record {
      went = went g (goal.at.loop-at-preserved g c).After-load_arrival;
      round_of = round_stays (g.W.Words.name c.args.words.now).limits h later c.args.comm c.args.round c.args.group.now begins i.round_of;
      steps = omega (arith, i.steps, e.loads.steps, rw on at (counted g before));
      arrived = all_before g before came (arrivals_stay h later c.args.comm c.args.round (asked_before c.args.group.now c.args.declared.now c.args.others c.loop-at.at) begins i.arrived)
          (λ is. ap came (sym (it_is g before)) ∙ (sym e.arrived ∙ c.if-not-load_arrival.false));
    }

pub returns-clause-more : goal.returns-clause-more
returns-clause-more g c asked =
    let group = c.args.group.now in
    let declared = c.args.declared.now in
    let others = c.args.others in
    let are = ap length (ranks_are g (goal.at.returns-clause-more g c).Joined-others) in
    let within = within_ranks group declared others c.args.start c.requires.within in
    let last : c.loop-at.at ≡ length (ranks_of group declared others) = omega (arith, c.loop-at-test.false, c.loop-at.auto.at-end, are, within) in
    let all = ap (λ n. length (asked_before group declared others n)) last ∙ ap length (asked_end group declared others) in
    omega (arith, c.loop-at.invariant.steps, all, asked_fewer group declared others c.args.start asked)
