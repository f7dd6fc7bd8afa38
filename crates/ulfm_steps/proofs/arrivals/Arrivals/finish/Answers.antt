use Rattle.std.proofs.Common.{◌≡◌, ◌⊎◌, inl, inr, ℕ, ◌-◌, ◌<◌, ◌≤◌, true, false, [], filter, length, ap, sym, ◌∙◌, subst, arith}
use Rattle.std.specs.List.{list_all}
use Rattle.ulfm_model.specs.History.{has, has_arrived}
use Rattle.ulfm_words.specs.Steps.{over, view_of, Goes}
use Rattle.ulfm_words.proofs.Trails.{did_prefix}
use Rattle.ulfm_steps.specs.Arriving.{IsAsked, IsPosition, asked_before, asked_members, in_order}
use Rattle.ulfm_steps.proofs.{Arriving.{arrivals_stay, asked_fewer, asked_left, asked_within, declared_came, declared_missing, listed_few, nobody_is, others_first, others_missing, turned_off, turned_on}, Reading.{round_stays}, Turning.{goes_none, goes_then}}
use Rattle.ulfm_steps.proofs.arrivals.Arrivals.finish.Goals as goal
use Rattle.ulfm_steps.proofs.arrivals.Arrivals.finish.Goals.{Joined-not-self, then-not-self+else-not-arrived_from, else-not-self}

pub arrived_from-requires-clause-within : goal.arrived_from-requires-clause-within
arrived_from-requires-clause-within g c =
    let a = c.args.self in
    subst (λ b. IsPosition c.args.group.now c.args.declared.now b a.next) (turned_off a.others c.if-not-self.true) (asked_within c.args.group.now c.args.declared.now a.others a.next c.requires.at.asked)

pub arrived_from-requires-clause-before : goal.arrived_from-requires-clause-before
arrived_from-requires-clause-before g c =
    let a = c.args.self in
    subst (λ b. list_all (has_arrived (g.W.Words.sight c.args.pass.now).seen a.comm a.round) (asked_before c.args.group.now c.args.declared.now b a.next) ≡ true) (turned_off a.others c.if-not-self.true) c.requires.at.arrived

pub returns-then-not-arrived_from-clause-goes : goal.returns-then-not-arrived_from-clause-goes
returns-then-not-arrived_from-clause-goes g c =
    let a = c.args.self in
    let e = c.arrived_from.ensures.goes in
    let before = ap (λ b. length (asked_before c.args.group.now c.args.declared.now b a.next)) (turned_off a.others c.if-not-self.true) in
    record { of = e.of; did = e.did; cached = e.cached; caches = e.caches; onward = e.onward; steps = omega (arith, e.steps, before, listed_few c.args.group.now c.args.declared.now) }

pub returns-then-not-arrived_from-clause-more : goal.returns-then-not-arrived_from-clause-more
returns-then-not-arrived_from-clause-more g c =
    let a = c.args.self in
    c.arrived_from.ensures.more (subst (λ b. IsAsked c.args.group.now c.args.declared.now b a.next) (turned_off a.others c.if-not-self.true) c.requires.at.asked)

pub returns-then-not-arrived_from-clause-are : goal.returns-then-not-arrived_from-clause-are
returns-then-not-arrived_from-clause-are g c =
    declared_missing (g.W.Words.sight c.arrived_from.new.pass).seen c.args.self.comm c.args.self.round c.args.group.now c.args.declared.now c.arrived_from.result c.arrived_from.ensures.arrived c.if-not-arrived_from.true

pub arrived_from-requires-2-clause-round : goal.arrived_from-requires-2-clause-round
arrived_from-requires-2-clause-round g c =
    let old = (g.W.Words.sight c.args.pass.now).seen in
    elim c.if-not-self.branch [
      | then-not-self+else-not-arrived_from w ↦
          let later = (g.W.Words.sight w.arrived_from.new.pass).seen in
          rw w.pass-is (round_stays (g.W.Words.name c.args.words.now).limits old later c.args.self.comm c.args.self.round c.args.group.now (did_prefix g.W.Words.alone [] old later w.arrived_from.ensures.goes.did) c.requires.round)
      | else-not-self w ↦ rw w.pass-is c.requires.round
    ]

-- once the others are read, no declared member is missing
listed : (g : _) (c : Joined-not-self g) → list_all (has_arrived (g.W.Words.sight c.if-not-self.pass).seen c.args.self.comm c.args.self.round) (filter (has c.args.group.now) c.args.declared.now) ≡ true
listed g c =
    elim c.if-not-self.branch [
      | then-not-self+else-not-arrived_from w ↦ rw w.pass-is (sym w.arrived_from.ensures.arrived ∙ w.if-not-arrived_from.false)
      | else-not-self w ↦
          rw w.pass-is
          (declared_came (g.W.Words.sight c.args.pass.now).seen c.args.self.comm c.args.self.round c.args.group.now c.args.declared.now c.args.self.others c.args.self.next w.if-not-self.false c.requires.at.arrived)
    ]

-- where the others are begun with
begins : (g : _) (c : Joined-not-self g) → IsPosition c.args.group.now c.args.declared.now true c.if-not-self.start
begins g c =
    let a = c.args.self in
    elim c.if-not-self.branch [
      | then-not-self+else-not-arrived_from w ↦ rw w.start-is (omega arith)
      | else-not-self w ↦
          rw w.start-is (subst (λ b. IsPosition c.args.group.now c.args.declared.now b a.next) (turned_on a.others w.if-not-self.false) (asked_within c.args.group.now c.args.declared.now a.others a.next c.requires.at.asked))
    ]

-- all before have arrived
before : (g : _) (c : Joined-not-self g) → list_all (has_arrived (g.W.Words.sight c.if-not-self.pass).seen c.args.self.comm c.args.self.round) (asked_before c.args.group.now c.args.declared.now true c.if-not-self.start) ≡ true
before g c =
    let a = c.args.self in
    let group = c.args.group.now in
    let declared = c.args.declared.now in
    elim c.if-not-self.branch [
      | then-not-self+else-not-arrived_from w ↦
          rw (w.pass-is, w.start-is)
          (ap (list_all (has_arrived (g.W.Words.sight w.arrived_from.new.pass).seen a.comm a.round)) (others_first group declared) ∙ (sym w.arrived_from.ensures.arrived ∙ w.if-not-arrived_from.false))
      | else-not-self w ↦
          rw (w.pass-is, w.start-is)
          (subst (λ b. list_all (has_arrived (g.W.Words.sight c.args.pass.now).seen a.comm a.round) (asked_before group declared b a.next) ≡ true) (turned_on a.others w.if-not-self.false) c.requires.at.arrived)
    ]

-- Where the others are begun with: no fewer stand before that than before the machine's own place, and no more than there are in all; one load was made
-- for each in between, at most.
record IsReached (g : _) (c : Joined-not-self g) : Type 0 where
  passed : length (asked_before c.args.group.now c.args.declared.now c.args.self.others c.args.self.next) ≤ length (asked_before c.args.group.now c.args.declared.now true c.if-not-self.start)
  left : length (asked_before c.args.group.now c.args.declared.now true c.if-not-self.start) ≤ length (in_order c.args.group.now c.args.declared.now)
  went : Goes g.P.Meld.meld g.W.Words.alone false (length (asked_before c.args.group.now c.args.declared.now true c.if-not-self.start) - length (asked_before c.args.group.now c.args.declared.now c.args.self.others c.args.self.next)) (view_of g.P.Packed.pack (g.W.Words.name c.args.words.now) (g.W.Words.sight c.args.pass.now)) (view_of g.P.Packed.pack (g.W.Words.name c.args.words.now) (g.W.Words.sight c.if-not-self.pass))

reached : (g : _) (c : Joined-not-self g) → IsReached g c
reached g c =
    let a = c.args.self in
    let before = asked_before c.args.group.now c.args.declared.now in
    let first = ap length (others_first c.args.group.now c.args.declared.now) in
    elim c.if-not-self.branch [
      | then-not-self+else-not-arrived_from w ↦
          let off = turned_off a.others w.if-not-self.true in
          let all = ap (λ b. length (asked_members c.args.group.now c.args.declared.now b)) off in
          let same = ap (λ b. length (before b a.next)) off in
          let e = w.arrived_from.ensures.goes in
          record {
            passed = rw w.start-is (omega (arith, asked_fewer c.args.group.now c.args.declared.now a.others a.next c.requires.at.asked, all, first));
            left = rw w.start-is (omega (arith, first, listed_few c.args.group.now c.args.declared.now));
            went = rw (w.pass-is, w.start-is) (record { of = e.of; did = e.did; cached = e.cached; caches = e.caches; onward = e.onward; steps = omega (arith, e.steps, same, first) });
          }
      | else-not-self w ↦
          let same = ap (λ b. length (before b a.next)) (turned_on a.others w.if-not-self.false) in
          record {
            passed = rw w.start-is (omega (arith, same));
            left = rw w.start-is (omega (arith, asked_left c.args.group.now c.args.declared.now a.others a.next c.requires.at.asked, same));
            went = rw w.pass-is (goes_none g.P.Meld.meld g.W.Words.alone (over g.P.Packed.pack (g.W.Words.name c.args.words.now)) _ (g.W.Words.sight c.args.pass.now) c.requires.of);
          }
    ]

-- a load was made, or somebody is asked about
stepped : (g : _) (c : Joined-not-self g) → ((g.W.Words.sight c.args.pass.now).steps < (g.W.Words.sight c.if-not-self.pass).steps) ⊎ IsAsked c.args.group.now c.args.declared.now true c.if-not-self.start
stepped g c =
    let a = c.args.self in
    elim c.if-not-self.branch [
      | then-not-self+else-not-arrived_from w ↦
          inl (rw w.pass-is (w.arrived_from.ensures.more (subst (λ b. IsAsked c.args.group.now c.args.declared.now b a.next) (turned_off a.others w.if-not-self.true) c.requires.at.asked)))
      | else-not-self w ↦ inr (rw w.start-is (subst (λ b. IsAsked c.args.group.now c.args.declared.now b a.next) (turned_on a.others w.if-not-self.false) c.requires.at.asked))
    ]

-- .. so that there was a step either way
some_step : (a b d : ℕ) (X : Type 0) → (a < b) ⊎ X → a ≤ b → b ≤ d → (X → b < d) → a < d
some_step a b d X (inl lt) le on more = omega (arith, lt, on)
some_step a b d X (inr x) le on more = omega (arith, le, more x)

pub arrived_from-requires-2-clause-of : goal.arrived_from-requires-2-clause-of
arrived_from-requires-2-clause-of g c = (reached g (goal.at.arrived_from-requires-2-clause-of g c).Joined-not-self).went.of

pub arrived_from-requires-2-clause-within : goal.arrived_from-requires-2-clause-within
arrived_from-requires-2-clause-within g c = begins g (goal.at.arrived_from-requires-2-clause-within g c).Joined-not-self

pub arrived_from-requires-2-clause-before : goal.arrived_from-requires-2-clause-before
arrived_from-requires-2-clause-before g c = before g (goal.at.arrived_from-requires-2-clause-before g c).Joined-not-self

pub returns-then-not-arrived_from-2-clause-goes : goal.returns-then-not-arrived_from-2-clause-goes
returns-then-not-arrived_from-2-clause-goes g c =
    let at = (goal.at.returns-then-not-arrived_from-2-clause-goes g c).Joined-not-self in
    goes_then g.P.Meld.meld g.W.Words.alone (over g.P.Packed.pack (g.W.Words.name c.args.words.now)) _ _ _ (g.W.Words.sight c.args.pass.now) (g.W.Words.sight c.if-not-self.pass) (g.W.Words.sight c.arrived_from-2.new.pass) (reached g at).passed (reached g at).left (reached g at).went
    c.arrived_from-2.ensures.goes

pub returns-then-not-arrived_from-2-clause-more : goal.returns-then-not-arrived_from-2-clause-more
returns-then-not-arrived_from-2-clause-more g c =
    let at = (goal.at.returns-then-not-arrived_from-2-clause-more g c).Joined-not-self in
    some_step _ _ _ _ (stepped g at) (reached g at).went.onward c.arrived_from-2.ensures.goes.onward c.arrived_from-2.ensures.more

pub returns-clause-goes : goal.returns-clause-goes
returns-clause-goes g c =
    let at = (goal.at.returns-clause-goes g c).Joined-not-self in
    goes_then g.P.Meld.meld g.W.Words.alone (over g.P.Packed.pack (g.W.Words.name c.args.words.now)) _ _ _ (g.W.Words.sight c.args.pass.now) (g.W.Words.sight c.if-not-self.pass) (g.W.Words.sight c.arrived_from-2.new.pass) (reached g at).passed (reached g at).left (reached g at).went
    c.arrived_from-2.ensures.goes

pub returns-clause-more : goal.returns-clause-more
returns-clause-more g c =
    let at = (goal.at.returns-clause-more g c).Joined-not-self in
    some_step _ _ _ _ (stepped g at) (reached g at).went.onward c.arrived_from-2.ensures.goes.onward c.arrived_from-2.ensures.more

pub returns-then-not-arrived_from-2-clause-are : goal.returns-then-not-arrived_from-2-clause-are
returns-then-not-arrived_from-2-clause-are g c =
    let h = (g.W.Words.sight c.if-not-self.pass).seen in
    let later = (g.W.Words.sight c.arrived_from-2.new.pass).seen in
    let before = listed g (goal.at.returns-then-not-arrived_from-2-clause-are g c).Joined-not-self in
    let still = arrivals_stay h later c.args.self.comm c.args.self.round (filter (has c.args.group.now) c.args.declared.now) (did_prefix g.W.Words.alone [] h later c.arrived_from-2.ensures.goes.did) before in
    others_missing later c.args.self.comm c.args.self.round c.args.group.now c.args.declared.now c.arrived_from-2.result still c.arrived_from-2.ensures.arrived c.if-not-arrived_from-2.true

pub returns-clause-are : goal.returns-clause-are
returns-clause-are g c =
    nobody_is (g.W.Words.sight c.arrived_from-2.new.pass).seen c.args.self.comm c.args.self.round c.args.group.now c.args.declared.now c.arrived_from-2.result c.arrived_from-2.ensures.arrived c.if-not-arrived_from-2.false
