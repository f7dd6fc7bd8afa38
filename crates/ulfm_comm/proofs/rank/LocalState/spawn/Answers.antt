use Rattle.std.proofs.Common.{List, false, ◌≡◌, ◌+◌, ◌<◌, ◌≤◌, ◌++◌, ◌∷◌, [], nat_eq, None, refl, ap, ap₂, sym, ◌∙◌, subst, arith, ℕ, length, vec_capacity}
use Rattle.std.specs.List.{AllByRecursion}
use Rattle.std.proofs.lemmas.Grind.{common_steps}
use Rattle.ulfm_model.specs.{Answers.{closed}, Records.{Held, Record, change_at}}
use Rattle.ulfm_model.specs.Terms.{contexts_of, new_held}
use Rattle.ulfm_steps.specs.Appends.{Passed, room}
use Rattle.ulfm_steps.specs.declared.item.Item.{Item}
use Rattle.ulfm_steps.specs.declared.item.Item.TheVariants.{Comm as OfComm}
use Rattle.ulfm_steps.specs.Rounds.{round_on}
use Rattle.ulfm_comm.specs.Spawning.{IsMadeBy}
use Rattle.ulfm_comm.proofs.Helds.{room_left, room_moved, room_pushed}
use Rattle.ulfm_comm.proofs.Spawn.{full_of, makes, number_fits}
use Rattle.ulfm_comm.proofs.rank.LocalState.spawn.Goals as goal
use Rattle.ulfm_comm.proofs.rank.LocalState.spawn.Goals.{In-Some-place_in, After-move_in, After-take_in}
use Rattle.ulfm_words.specs.Steps.{view_of, over}
use Rattle.ulfm_laws.specs.Ranges.{payload_bits}
use Rattle.ulfm_comm.specs.Prepared.{Prepared}

pub advance-requires-clause-passed : goal.advance-requires-clause-passed
advance-requires-clause-passed g c =
    let may = c.requires.may.1 in
    subst (λ (item : Item). Passed (g.W.Words.sight c.args.pass.now).seen item c.args.append.now.index) (sym may.item) may.passed

pub returns-in_default-clause-spawns : goal.returns-in_default-clause-spawns
returns-in_default-clause-spawns g c = λ k is.
    let ensures = c.in_default.ensures in (
      record {
        of = ensures.goes.of;
        did = ensures.goes.did;
        item = ensures.same.0;
        mine = ensures.same.1;
        passed = subst (λ (item : Item). Passed (g.W.Words.sight c.advance.new.pass).seen item c.advance.new.self.index) is ensures.passed;
        more = subst (λ (item : Item). c.advance.new.self.index < room item (g.W.Words.name c.args.words.now).limits) is ensures.within;
        onward = ensures.goes.onward;
        cached = ensures.goes.cached;
        caches = ensures.goes.caches;
      },
      refl,
    )

pub returns-in_default-place_in-clause-spawns : goal.returns-in_default-place_in-clause-spawns
returns-in_default-place_in-clause-spawns g c = λ k is.
    let name = over g.P.Packed.pack (g.W.Words.name c.args.words.now) in
    let at = g.W.Words.sight c.args.pass.now in
    let after = g.W.Words.sight c.advance.new.pass in (
      full_of g.P.Meld.meld g.W.Words.alone name c.args.append.now.by c.args.comm k at after _
          (rw (is, c.in_default-place_in.ensures) at c.in-Some.ensures.goes),
      refl,
    )

-- the round's communicator is there
made : (g : _) (c : In-Some-place_in g) → (k : ℕ) → c.args.append.now.item ≡ OfComm c.args.comm k
    → IsMadeBy g.P.Meld.meld g.W.Words.alone c.args.append.now.by (round_on c.args.comm k) (view_of g.P.Packed.pack (g.W.Words.name c.args.words.now) (g.W.Words.sight c.args.pass.now)) (c.in-Some-place_in.index + 1) (view_of g.P.Packed.pack (g.W.Words.name c.args.words.now) (g.W.Words.sight c.advance.new.pass))
made g c k is =
    makes g.P.Meld.meld g.W.Words.alone (over g.P.Packed.pack (g.W.Words.name c.args.words.now)) c.args.append.now.by c.args.comm k (g.W.Words.sight c.args.pass.now)
    (g.W.Words.sight c.advance.new.pass) _ c.in-Some-place_in.index c.in-Some.end
    c.in-Some-place_in.ensures (rw is at c.in-Some.ensures.goes)

pub overflow_add-number : goal.overflow_add-number
overflow_add-number g c =
    let may = c.requires.may in
    let below = number_fits g.P.Meld.meld g.W.Words.alone (over g.P.Packed.pack (g.W.Words.name c.args.words.now)) c.args.append.now.by c.args.comm may.0
    (g.W.Words.sight c.args.pass.now) (g.W.Words.sight c.advance.new.pass) _ (made g (goal.at.overflow_add-number g c).In-Some-place_in may.0 may.1.item) in
    omega (arith, below)

-- the context id of what is made is free
fresh : (g : _) (c : After-move_in g) → AllByRecursion (λ i. nat_eq i c.args.context ≡ false) (contexts_of c.self.inside.held.items)
fresh g c = subst (λ (own : Record). AllByRecursion (λ i. nat_eq i c.args.context ≡ false) (contexts_of own.held)) (sym c.self.view_is) c.requires.holds.fresh

pub move_in-requires-clause-empty : goal.move_in-requires-clause-empty
move_in-requires-clause-empty g c = c.members.invariant

pub move_in-requires-clause-places : goal.move_in-requires-clause-places
move_in-requires-clause-places g c = λ few.
    let held = ap (λ (own : Record). length own.held) c.self.view_is in
    let places = ap (λ (p : Prepared). p.places) (c.members.view_is ∙ c.replace.ensures.value) in
    subst (λ n. payload_bits ≤ n) (sym places) (c.requires.places (sym held ∙ few))

pub take_in-requires : goal.take_in-requires
take_in-requires g c =
    let at = (goal.at.take_in-requires g c).After-move_in in
    let left = room_left _ _ _ (vec_capacity c.move_in.new.held) c.self.inside.held.items c.self.invariant.room c.move_in.ensures.moved c.move_in.ensures.stays
    c.args.context c.requires.holds.id (fresh g at) in
    omega (arith, left, ap length c.move_in.ensures.items)

-- what is held afterwards
items_are : (g : _) (c : After-take_in g) → c.take_in.new.held.items ≡ change_at c.args.comm (λ y. record y { request = None }) c.self.inside.held.items ++
    new_held (c.in-Some-place_in.index + 1) c.args.context c.args.prepared.now.members ∷ []
items_are g c =
    let made = c.new-made.ensures ∙ ap (λ (p : Prepared). new_held (c.in-Some-place_in.index + 1) c.args.context p.members)
    (c.members.view_is ∙ c.replace.ensures.value) in
    c.take_in.ensures.items
    ∙ ap₂ (λ hs x. change_at c.args.comm (λ y. record y { request = None }) hs ++ x ∷ []) c.move_in.ensures.items made

pub invariant_of-self : goal.invariant_of-self
invariant_of-self g c =
    let moved = room_moved _ _ _ (vec_capacity c.move_in.new.held) c.self.inside.held.items c.self.invariant.room c.move_in.ensures.moved c.move_in.ensures.stays in
    let more = c.take_in.ensures.room in
    record {
      below = c.self.invariant.below;
      others_are = c.self.invariant.others_are;
      room = room_pushed _ _ _ _ c.args.comm (λ y. record y { request = None })
          (new_held (c.in-Some-place_in.index + 1) c.args.context c.args.prepared.now.members)
          c.self.inside.held.items c.take_in.new.held.items c.self.invariant.room (λ y. refl)
          c.requires.holds.id (fresh g (goal.at.invariant_of-self g c).After-move_in) (items_are g (goal.at.invariant_of-self g c).After-take_in)
          (omega (arith, moved.0, more)) (λ many. omega (arith, moved.1 many, more));
    }

pub returns-clause-spawns : goal.returns-clause-spawns
returns-clause-spawns g c = λ k is.
    let items = items_are g (goal.at.returns-clause-spawns g c).After-take_in in
    let as_record : List Held → Record = λ hs. record {
      number = c.self.inside.number;
      limits = c.self.inside.limits;
      held = hs;
      seen = c.self.inside.seen.items;
      refused = c.self.inside.refused;
    } in (
      made g (goal.at.returns-clause-spawns g c).In-Some-place_in k is,
      record {
        size_is = grind (arith, common_steps);
        record_is =
            ap as_record items
            ∙ ap (λ (own : Record). let rest = closed own c.args.comm in record rest {
              held = rest.held ++ new_held (c.in-Some-place_in.index + 1) c.args.context c.args.prepared.now.members ∷ [];
            }) c.self.view_is;
      },
    )
