use Rattle.std.proofs.Common.{◌≡◌, refl, true, false, [], length, subst, sym, ap, ◌∙◌, arith, append-nil}
use Rattle.ulfm_model.specs.declared.{limits.Limits.{Limits}}
use Rattle.ulfm_model.specs.History.{MayFollow, failures}
use Rattle.ulfm_words.specs.declared.step.Step.{Step}
use Rattle.ulfm_words.specs.Steps.{Sets, coding, view_of}
use Rattle.ulfm_words.proofs.Ranks.{failures_le}
use Rattle.ulfm_numbers.specs.{Seen.{Seen}, Telling.{TablesTell, seen_at}, Tests.{follow_test}}
use Rattle.ulfm_numbers.proofs.{Deciding.{follow_decides}, Seeing.{seen_now}}
use Rattle.ulfm_replica.proofs.Feeding.{came, is_fed, is_view, settled, tried}
use Rattle.ulfm_replica.proofs.replay.feed.Goals as goal
use Rattle.ulfm_replica.proofs.replay.feed.Goals.{After-len-declared}

differ : (b : _) → b ≡ true → b ≡ false → ⊥
differ b one other = let both : true ≡ false = sym one ∙ other in absurd (cc both)

pub returns-then-not-branch : goal.returns-then-not-branch
returns-then-not-branch g c =
    let sight = c.args.pass.now in
    let limits = sight.name.limits in
    let seen = seen_now limits.ranks c.args.numbers.now sight.seen c.requires.before.tells in
    let told = sym c.in_ok-may_follow.ensures ∙ c.if-not-branch.true in
    let here = subst (λ (l : Limits). follow_test g.P.Meld.meld l (seen_at c.args.numbers.now c.args.numbers.now.count) c.args.entry.now.event ≡ false) c.requires.limits told in
    let follows = subst (λ (s : Seen g.row.P.Denot). follow_test g.P.Meld.meld limits s c.args.entry.now.event ≡ false) seen here in (
      record {
        feeds = ((λ may. let yes = (follow_decides g.P.Meld.meld limits sight.seen c.args.entry.now.event).1 may in differ _ yes follows), refl);
        cached = ([], append-nil sight.cached);
        caches = sym (append-nil sight.caches);
        onward = omega arith;
      },
      c.requires.before,
    )

-- it may come next
may : (g : _) (c : After-len-declared g) → MayFollow g.P.Meld.meld c.args.pass.now.name.limits c.args.pass.now.seen c.args.entry.now.event
may g c =
    let sight = c.args.pass.now in
    let limits = sight.name.limits in
    let seen = seen_now limits.ranks c.args.numbers.now sight.seen c.requires.before.tells in
    let told = sym c.in_ok-may_follow.ensures ∙ c.if-not-branch.false in
    let here = subst (λ (l : Limits). follow_test g.P.Meld.meld l (seen_at c.args.numbers.now c.args.numbers.now.count) c.args.entry.now.event ≡ true) c.requires.limits told in
    let follows = subst (λ (s : Seen g.row.P.Denot). follow_test g.P.Meld.meld limits s c.args.entry.now.event ≡ true) seen here in
    (follow_decides g.P.Meld.meld limits sight.seen c.args.entry.now.event).0 follows

-- so many are declared
count : (g : _) (c : After-len-declared g) → c.len-declared.result ≡ length (failures c.args.pass.now.seen)
count g c = let here : length c.args.numbers.now.failures.items ≡ length (failures c.args.pass.now.seen) = ap length c.requires.before.tells.failures.0 in omega (arith, c.len-declared.ensures, here)

pub overflow_cast-declared : goal.overflow_cast-declared
overflow_cast-declared g c =
    let sight = c.args.pass.now in
    omega (arith, count g (goal.at.overflow_cast-declared g c).After-len-declared, failures_le g.P.Meld.meld sight.name.limits sight.seen c.requires.before.of.legal, c.requires.before.of.may_open.in_range.ranks)

pub spread-requires-clause-may : goal.spread-requires-clause-may
spread-requires-clause-may g c = may g (goal.at.spread-requires-clause-may g c).After-len-declared

pub set_once-requires-clause-within : goal.set_once-requires-clause-within
set_once-requires-clause-within g c =
    let at = (goal.at.set_once-requires-clause-within g c).After-len-declared in
    (tried g.P.Meld.meld g.P.Packed.pack g.P.Packed.unpack g.met.P.Packed.unpack_pack g.met.P.Packed.pack_fits c.args.pass.now c.spread.new.pass c.spread.new.pass c.args.entry.now c.requires.before.of (may g at) c.spread.ensures
    c.step_of-step.result (c.step_of-step.ensures c.args.pass.now.seen (count g at))).within

pub set_once-requires-clause-may : goal.set_once-requires-clause-may
set_once-requires-clause-may g c =
    let at = (goal.at.set_once-requires-clause-may g c).After-len-declared in
    (tried g.P.Meld.meld g.P.Packed.pack g.P.Packed.unpack g.met.P.Packed.unpack_pack g.met.P.Packed.pack_fits c.args.pass.now c.spread.new.pass c.spread.new.pass c.args.entry.now c.requires.before.of (may g at) c.spread.ensures
    c.step_of-step.result (c.step_of-step.ensures c.args.pass.now.seen (count g at))).may

pub set_once-requires-clause-winged : goal.set_once-requires-clause-winged
set_once-requires-clause-winged g c =
    let at = (goal.at.set_once-requires-clause-winged g c).After-len-declared in
    (tried g.P.Meld.meld g.P.Packed.pack g.P.Packed.unpack g.met.P.Packed.unpack_pack g.met.P.Packed.pack_fits c.args.pass.now c.spread.new.pass c.spread.new.pass c.args.entry.now c.requires.before.of (may g at) c.spread.ensures
    c.step_of-step.result (c.step_of-step.ensures c.args.pass.now.seen (count g at))).winged

pub returns : goal.returns
returns g c =
    let at = (goal.at.returns g c).After-len-declared in
    let step_is = c.step_of-step.ensures c.args.pass.now.seen (count g at) in
    let sight = c.args.pass.now in
    let pass = c.spread.new.pass in
    let new = c.set_once.new.self in
    let e = c.args.entry.now in
    let sets = subst (λ (s : Step). Sets g.P.Meld.meld (coding g.P.Packed.pack g.P.Packed.unpack) true s (view_of g.P.Packed.pack pass.name pass) c.set_once.result (view_of g.P.Packed.pack pass.name new)) step_is c.set_once.ensures in
    let follows = may g at in
    let fed = is_fed g.P.Meld.meld g.P.Packed.pack g.P.Packed.unpack g.met.P.Packed.unpack_pack g.met.P.Packed.pack_fits sight pass new e c.requires.before.of follows c.spread.ensures c.set_once.result sets in
    let is = came g.P.Meld.meld g.P.Packed.pack g.P.Packed.unpack g.met.P.Packed.unpack_pack g.met.P.Packed.pack_fits sight pass new e c.requires.before.of follows c.spread.ensures c.set_once.result sets in (
      fed,
      record {
        of = is_view g.P.Meld.meld g.P.Packed.pack g.P.Packed.unpack g.met.P.Packed.unpack_pack g.met.P.Packed.pack_fits sight pass new e c.requires.before.of follows c.spread.ensures c.set_once.result sets;
        tells = subst (λ h. TablesTell sight.name.limits.ranks c.note.new.self h) (sym is) (c.in_ok-note.ensures sight.name.limits.ranks sight.seen c.requires.before.tells);
        wings = settled g.P.Meld.meld g.P.Packed.pack g.P.Packed.unpack g.met.P.Packed.unpack_pack g.met.P.Packed.pack_fits sight pass new e c.requires.before.of follows c.spread.ensures c.set_once.result sets c.requires.before.wings;
      },
    )
