use Rattle.std.proofs.Common.{◌≡◌, None, ℕ, ◌+◌, ◌-◌, ◌≤◌, ◌∙◌, refl, length, ap, subst, sym, arith, false, true, is_some, nat_lt}
use Rattle.ulfm_model.specs.Blocks.{block_word}
use Rattle.ulfm_model.proofs.Summed.{summed_none}
use Rattle.ulfm_words.specs.Steps.{over, view_of, Goes}
use Rattle.ulfm_words.proofs.{Trails.{did_prefix}, Tried.{tries_one}}
use Rattle.ulfm_steps.specs.Blocks.{reads_most}
use Rattle.ulfm_steps.specs.{Blocks.{BothTell, AreSet, MembersTell, blocks_left, is_whole, site_of}, Turns.{TakesAt}}
use Rattle.ulfm_steps.proofs.InBlocks.{apart_lt, are_with, few_members, nothing_held, known_with, next_by, next_cost, reads_within, takes_cache, writes}
use Rattle.ulfm_steps.proofs.KnownBlocks.{all_known, set_known}
use Rattle.ulfm_steps.proofs.blocks.ReadBlocks.cache.Goals as goal
use Rattle.ulfm_steps.proofs.blocks.ReadBlocks.cache.Goals.{Joined-self, in-Front, in-Back}

pub cache-requires-clause-within : goal.cache-requires-clause-within
cache-requires-clause-within g c = reads_within g.P.Meld.meld c.args.group.now _ c.requires.may

pub cache-requires-clause-may : goal.cache-requires-clause-may
cache-requires-clause-may g c = writes g.P.Meld.meld c.args.group.now _ (block_word g.P.Packed.pack) c.block_word.result c.requires.may c.requires.all c.block_word.ensures

pub overflow_cast-members : goal.overflow_cast-members
overflow_cast-members g c =
    let few = few_members (g.W.Words.name c.args.words.now).limits (g.W.Words.sight c.args.pass.now).seen c.args.self.now.comm c.args.self.now.round c.args.group.now c.requires.may.of.may_open c.requires.may.round in
    omega (arith, few)

-- nothing is held of a member
none_held : (g : _) (c : Joined-self g) → c.args.self.now.first ≡ None
none_held g c = nothing_held (view_of g.P.Packed.pack (g.W.Words.name c.args.words.now) (g.W.Words.sight c.args.pass.now)) c.args.group.now c.args.self.now c.requires.may.half (omega (arith, c.requires.all))

-- what is known after it
blocks_are : (g : _) (c : Joined-self g) → c.match-self.self ≡ record c.args.self.now { blocks = known_with c.args.self.now.blocks c.args.self.now.side c.args.self.now.all }
blocks_are g c =
    let r = c.args.self.now in
    elim c.match-self.branch [
      | in-Front w ↦ w.self-is ∙ ap (λ s. record r { blocks = known_with r.blocks s r.all }) (sym w.in-Front.is)
      | in-Back w ↦ w.self-is ∙ ap (λ s. record r { blocks = known_with r.blocks s r.all }) (sym w.in-Back.is)
    ]

known : (g : _) (c : Joined-self g) → BothTell g.P.Meld.meld (g.W.Words.sight c.cache.new.pass).seen c.args.self.now.comm c.args.self.now.round c.args.group.now (known_with c.args.self.now.blocks c.args.self.now.side c.args.self.now.all)
known g c =
    let old = (g.W.Words.sight c.args.pass.now).seen in
    let new = (g.W.Words.sight c.cache.new.pass).seen in
    are_with g.P.Meld.meld old new c.args.group.now c.args.self.now (did_prefix g.W.Words.alone _ old new c.cache.ensures.did) c.requires.may.at c.requires.all

-- it is one step, which makes no event
went : (g : _) (c : Joined-self g) → Goes g.P.Meld.meld g.W.Words.alone true (reads_most (length c.args.group.now)) (view_of g.P.Packed.pack (g.W.Words.name c.args.words.now) (g.W.Words.sight c.args.pass.now)) (view_of g.P.Packed.pack (g.W.Words.name c.args.words.now) (g.W.Words.sight c.cache.new.pass))
went g c = let e = c.cache.ensures in record { of = e.of; did = e.did; cached = e.cached; caches = tries_one _ _ _ e.caches tt; onward = omega (arith, e.steps); steps = omega (arith, e.steps) }

took : (g : _) (c : Joined-self g) (after : ℕ) → after + 1 ≤ blocks_left (length c.args.group.now) c.args.self.now
    → TakesAt false (site_of c.args.group.now c.args.self.now) (nat_lt c.args.self.now.read c.args.self.now.width) (blocks_left (length c.args.group.now) c.args.self.now) after (g.W.Words.sight c.args.pass.now) (g.W.Words.sight c.cache.new.pass)
took g c after fewer =
    let r = c.args.self.now in
    takes_cache c.args.group.now r (blocks_left (length c.args.group.now) r) after (g.W.Words.sight c.args.pass.now) (g.W.Words.sight c.cache.new.pass) g.P.Meld.meld g.W.Words.alone (over g.P.Packed.pack (g.W.Words.name c.args.words.now)) _ _
    (omega (arith, c.requires.all, c.requires.may.at.wide)) c.requires.winged fewer c.cache.ensures

-- it was put into its block, or stood there
known_set : (g : _) (c : Joined-self g) → AreSet (g.W.Words.sight c.args.pass.now).cached c.args.self.now.comm c.args.self.now.round c.args.self.now.blocks
    → AreSet (g.W.Words.sight c.cache.new.pass).cached c.args.self.now.comm c.args.self.now.round (known_with c.args.self.now.blocks c.args.self.now.side c.args.self.now.all)
known_set g c are =
    let r = c.args.self.now in
    set_known (g.W.Words.sight c.args.pass.now).cached (g.W.Words.sight c.cache.new.pass).cached r.comm r.round r.blocks c.cache.ensures.cached are r.side r.all c.cache.ensures.stands.set

pub returns-in-Some : goal.returns-in-Some
returns-in-Some g c =
    let at = (goal.at.returns-in-Some g c).Joined-self in
    let meld = g.P.Meld.meld in
    let new = (g.W.Words.sight c.cache.new.pass).seen in
    let r = c.args.self.now in
    let group = c.args.group.now in
    let is = blocks_are g at in
    let tells = c.all.ensures.tells new r.comm r.round group refl (rw is (known g at)) in
    record {
      goes = went g at;
      takes = took g at 0 (rw (c.requires.winged, none_held g at) (omega arith));
      comm = ap (λ x. x.comm) is;
      round = ap (λ x. x.round) is;
      tells = rw is (subst (MembersTell meld new r.comm r.round group) c.in-Some.is tells);
      half = λ no. absurd (cc no);
      sets = λ are.
          let whole : is_whole (known_with r.blocks r.side r.all) (length group) ≡ true = subst (λ b. is_whole b (length group) ≡ true) (ap (λ x. x.blocks) is) (sym c.all.ensures.whole ∙ ap is_some c.in-Some.is) in
          rw is (all_known (g.W.Words.sight c.cache.new.pass).cached r.comm r.round group (known_with r.blocks r.side r.all) (known_set g at are) whole);
      ends = λ _. refl;
    }

pub returns : goal.returns
returns g c =
    let at = (goal.at.returns g c).Joined-self in
    let meld = g.P.Meld.meld in
    let new = (g.W.Words.sight c.cache.new.pass).seen in
    let r = c.args.self.now in
    let group = c.args.group.now in
    let is = blocks_are g at in
    let whole : is_whole (known_with r.blocks r.side r.all) (length group) ≡ false = subst (λ b. is_whole b (length group) ≡ false) (ap (λ x. x.blocks) is) (sym c.in_default.ensures.whole) in
    let next = next_by r.side r.blocks r.all (length group) c.requires.may.at.front whole in
    let behind = next_cost r.side r.blocks r.all (length group) c.requires.may.at.front whole in
    record {
      goes = went g at;
      takes = took g at _ (rw (c.requires.winged, none_held g at) (omega (arith, behind, c.requires.all)));
      comm = ap (λ x. x.comm) is;
      round = ap (λ x. x.round) is;
      tells = rw (is, c.unit-self.ensures) (record {
        are = known g at;
        unknown = next.1;
        side = apart_lt (length group) next.2;
        front = λ _. next.0;
        wide = c.requires.may.at.wide;
        begins = ap (λ w. length group - w) c.requires.may.at.wide;
        within = omega arith;
        read = summed_none meld new r.comm r.round;
      });
      half = λ _. rw (is, c.unit-self.ensures) (rw (none_held g at) (record { first = tt; more = λ some. absurd (cc some); winged = λ set. absurd (cc set) }));
      sets = λ are. rw is (known_set g at are);
      ends = λ no. absurd (cc no);
    }
