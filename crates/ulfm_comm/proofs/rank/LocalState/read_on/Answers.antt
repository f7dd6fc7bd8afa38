use Rattle.std.proofs.Common.{◌+◌, ◌<◌, ◌≤◌, ◌≡◌, vec_capacity, length, None, Some, ap, sym, ◌∙◌, subst, arith}
use Rattle.std.specs.List.{position}
use mathlib.Core.List.{IsPrefix}
use Rattle.ulfm_model.specs.History.{failures}
use Rattle.ulfm_model.specs.Records.{Held, Record, held_at}
use Rattle.ulfm_steps.specs.ReadsOn.{AtFailure, MayReadOn, ReadOnTakes}
use Rattle.ulfm_model.proofs.Places.{find_is, find_missing, is_of, position_below}
use Rattle.ulfm_comm.proofs.Others.{others_stay, room_in}
use Rattle.ulfm_comm.proofs.rank.LocalState.read_on.Goals as goal
use Rattle.ulfm_comm.proofs.rank.LocalState.read_on.Goals.{After-deref-2}

pub unreachable-requires : goal.unreachable-requires
unreachable-requires g c =
    let items = c.self.inside.held.items in
    let missing : held_at c.args.self.now c.args.comm ≡ None =
    ap (λ (own : Record). held_at own c.args.comm) (sym c.self.view_is) ∙ find_missing items c.args.comm
    (ap (position (is_of c.args.comm)) (sym c.deref.ensures.value) ∙ (sym c.place_of.ensures ∙ c.in_default.is)) in
    absurd (cc (missing, c.requires.may.1))

-- the members of what the rank holds
group_is : (g : _) (c : After-deref-2 g) → (x : Held) → held_at c.args.self.now c.args.comm ≡ Some x → c.deref-2.result.now ≡ x.group
group_is g c x held =
    let items = c.self.inside.held.items in
    let at : position (is_of c.args.comm) items ≡ Some c.in-Some.i = ap (position (is_of c.args.comm)) (sym c.deref.ensures.value) ∙
    (sym c.place_of.ensures ∙ c.in-Some.is) in
    let found = ap (λ (own : Record). held_at own c.args.comm) (sym c.self.view_is) ∙
    (find_is items c.args.comm c.in-Some.i c.index.result.now at ∙ ap Some (sym c.index.ensures)) in
    let same : c.index.result.now ≡ x = cc (found, held) in
    c.deref-2.ensures.value ∙ ap (λ (y : Held). y.group) (c.behind-self.view_is ∙ same)

pub advance-requires-clause-may : goal.advance-requires-clause-may
advance-requires-clause-may g c =
    let may = c.requires.may in
    let group = group_is g (goal.at.advance-requires-clause-may g c).After-deref-2 may.0 may.1 in
    let whole = failures (g.W.Words.sight c.args.pass.now).seen in
    let seen = ap (λ (own : Record). own.seen) c.self.view_is in
    subst (λ ms. MayReadOn ms c.args.count c.self.inside.seen.items whole) (sym group)
    (subst (λ s. MayReadOn may.0.group c.args.count s whole) (sym seen) may.2)

pub advance-requires-clause-at : goal.advance-requires-clause-at
advance-requires-clause-at g c =
    let may = c.requires.may in
    let group = group_is g (goal.at.advance-requires-clause-at g c).After-deref-2 may.0 may.1 in
    let seen = ap (λ (own : Record). own.seen) c.self.view_is in
    subst (λ ms. AtFailure ms c.args.count c.args.on.now c.self.inside.seen.items) (sym group)
    (subst (λ s. AtFailure may.0.group c.args.count c.args.on.now s) (sym seen) may.3)

pub returns-clause-at : goal.returns-clause-at
returns-clause-at g c = λ x held.
    let group = group_is g (goal.at.returns-clause-at g c).After-deref-2 x held in
    subst (λ ms. AtFailure ms c.args.count c.advance.new.self c.advance.new.seen.items) group c.advance.ensures.at

pub invariant_of-self : goal.invariant_of-self
invariant_of-self g c =
    let was = c.self.invariant.room in
    record {
      below = c.self.invariant.below;
      others_are = others_stay c.self.inside.number c.self.inside.seen.items c.advance.new.seen.items c.self.inside.others c.advance.ensures.goes_on
          c.self.invariant.others_are;
      room = room_in _ (omega (arith, was.room, c.advance.ensures.room)) was;
    }

pub returns-clause-goes : goal.returns-clause-goes
returns-clause-goes g c = c.advance.ensures.goes

pub returns-clause-takes : goal.returns-clause-takes
returns-clause-takes g c =
    subst (λ (own : Record). ReadOnTakes c.args.whole (g.W.Words.name c.args.words.now).limits own.seen c.advance.new.seen.items
    (g.W.Words.sight c.args.pass.now) (g.W.Words.sight c.advance.new.pass)) c.self.view_is c.advance.ensures.takes

pub returns-clause-further : goal.returns-clause-further
returns-clause-further g c =
    let loads = c.advance.ensures.further in
    subst (λ (own : Record). (g.W.Words.sight c.advance.new.pass).steps + length own.seen ≡ (g.W.Words.sight c.args.pass.now).steps + length
    c.advance.new.seen.items) c.self.view_is (omega (arith, loads, c.self.inside.seen.ok.0, c.advance.new.seen.ok.0))

pub returns-clause-kept : goal.returns-clause-kept
returns-clause-kept g c = ap (λ (own : Record). record own { seen = c.advance.new.seen.items }) c.self.view_is

pub returns-clause-goes_on : goal.returns-clause-goes_on
returns-clause-goes_on g c = subst (λ (own : Record). IsPrefix own.seen c.advance.new.seen.items) c.self.view_is c.advance.ensures.goes_on

pub returns-clause-begins : goal.returns-clause-begins
returns-clause-begins g c = c.advance.ensures.begins

pub returns-clause-done : goal.returns-clause-done
returns-clause-done g c = c.advance.ensures.done

pub index-requires : goal.index-requires
index-requires g c = subst (λ n. c.in-Some.i < n) c.deref.ensures.len (position_below (is_of c.args.comm) c.deref.result.now c.in-Some.i
    (sym c.place_of.ensures ∙ c.in-Some.is))

pub advance-requires-clause-of : goal.advance-requires-clause-of
advance-requires-clause-of g c = c.requires.of

pub advance-requires-clause-more : goal.advance-requires-clause-more
advance-requires-clause-more g c = c.requires.more

pub advance-requires-clause-room : goal.advance-requires-clause-room
advance-requires-clause-room g c =
    let ranks = ap (λ (own : Record). own.limits.ranks) c.self.view_is ∙ ap (λ l. l.ranks) c.requires.limits in
    subst (λ n. n ≤ vec_capacity c.self.inside.seen) ranks c.self.invariant.room.room
