use Rattle.std.proofs.Common.{◌≡◌, Bool, IsTrue, ap, refl, sym, ◌∙◌, subst, false}
use Rattle.ulfm_words.specs.Steps.{Name}
use Rattle.ulfm_model.specs.Records.{Record}
use Rattle.ulfm_words.specs.Steps.{IsView, Over, Sight, view_at, over}
use Rattle.ulfm_comm.specs.{Counts.{Counted, Ranked}, Phase.{Answered, Stands, UnderWay}, Step.{Stepped}}
use Rattle.ulfm_comm.specs.declared.phases.phase.{Next.{Next}, Next.TheVariants.{Ends, Goes}}
use Rattle.ulfm_comm.proofs.rank.Rank.step.Goals as goal
use Rattle.ulfm_comm.specs.{Local.{local}, Proposals.{WinsNext}, Wings.{WingsIn, WingsNext}}
use Rattle.ulfm_model.specs.declared.call.Call.{Call}

-- the call, its rank and its world, behind equal names
module _ {P : Type 0} (meld : P → P → P) (name world : Over P) (words_is : name ≡ world) (was is : UnderWay P) (way : was ≡ is) (own same : Record)
    (record_is : own ≡ same) where
  still_stands : (alone : Bool) (old : Record) (before now : Sight P) → Stands meld alone (local old (view_at world before)) is (local same (view_at world now))
      → Stands meld alone (local old (view_at name before)) was (local own (view_at name now))
  still_stands alone old before now u = subst (λ w. Stands meld alone (local old (view_at name before)) w (local own (view_at name now))) (sym way)
      (subst (λ o. Stands meld alone (local old (view_at name before)) is (local o (view_at name now))) (sym record_is)
      (subst (λ n. Stands meld alone (local old (view_at n before)) is (local same (view_at n now))) (sym words_is) u))

  has_stepped : (quiet : Bool) (now : Sight P) (next : Next P) (new : Record) (after : Sight P)
      → Stepped meld quiet was (local own (view_at name now)) next (local new (view_at name after))
      → Stepped meld quiet is (local same (view_at world now)) next (local new (view_at world after))
  has_stepped quiet now next new after stepped = subst (λ n. Stepped meld quiet is (local same (view_at n now)) next (local new (view_at n after))) words_is
      (subst (λ w. Stepped meld quiet w (local same (view_at name now)) next (local new (view_at name after))) way
      (subst (λ o. Stepped meld quiet was (local o (view_at name now)) next (local new (view_at name after))) record_is stepped))

-- what is left of wings, and which event was added
module _ {P : Type 0} (name world : Over P) (words_is : name ≡ world) (was is : UnderWay P) (way : was ≡ is) (own same : Record) (record_is : own ≡ same) (quiet : Bool) (now : Sight P)
    (next : Next P) where
  has_kept : (new : Record) (asked : Call P) (after : Sight P)
      → (IsTrue quiet → WingsIn own was.asked was.phase (view_at name now) → WingsNext new asked next (view_at name after))
      → IsTrue quiet → WingsIn same is.asked is.phase (view_at world now) → WingsNext new asked next (view_at world after)
  has_kept new asked after keeps = subst (λ n. IsTrue quiet → WingsIn same is.asked is.phase (view_at n now) → WingsNext new asked next (view_at n after)) words_is
      (subst (λ (w : UnderWay P). IsTrue quiet → WingsIn same w.asked w.phase (view_at name now) → WingsNext new asked next (view_at name after)) way
      (subst (λ o. IsTrue quiet → WingsIn o was.asked was.phase (view_at name now) → WingsNext new asked next (view_at name after)) record_is keeps))

  has_won : (meld : P → P → P) (after : Sight P) → WinsNext meld quiet was.asked was.phase (local own (view_at name now)) next (view_at name after)
      → WinsNext meld quiet is.asked is.phase (local same (view_at world now)) next (view_at world after)
  has_won meld after wins = subst (λ n. WinsNext meld quiet is.asked is.phase (local same (view_at n now)) next (view_at n after)) words_is
      (subst (λ (w : UnderWay P). WinsNext meld quiet w.asked w.phase (local same (view_at name now)) next (view_at name after)) way
      (subst (λ o. WinsNext meld quiet was.asked was.phase (local o (view_at name now)) next (view_at name after)) record_is wins))

pub step-requires-clause-of : goal.step-requires-clause-of
step-requires-clause-of g c =
    subst (λ (n : Name). IsView g.P.Meld.meld (view_at (over g.P.Packed.pack n) (g.W.Words.sight c.args.pass.now))) (sym c.world.view_is) c.requires.of

pub step-requires-clause-stood : goal.step-requires-clause-stood
step-requires-clause-stood g c =
    let p = c.requires.stood in
    let way = ap (λ (d : Counted g.row.P.Denot). d.way) c.doing.view_is ∙ c.count.ensures.way in
    let own = ap (λ (r : Ranked). r.own) c.self.view_is in (
      p.0,
      p.1,
      p.2,
      still_stands g.P.Meld.meld (over g.P.Packed.pack (g.W.Words.name c.world.inside.words)) (over g.P.Packed.pack c.args.world.now) (ap (over g.P.Packed.pack) c.world.view_is) c.doing.inside.way c.args.doing.now.way way c.self.inside.own
          c.args.self.now.own own false p.0 p.1 p.2 p.3,
      p.4,
    )

pub returns-in_default-clause-asked : goal.returns-in_default-clause-asked
returns-in_default-clause-asked g c = c.step.ensures.asked ∙ ap (λ (w : UnderWay g.row.P.Denot). w.asked)
    (ap (λ (d : Counted g.row.P.Denot). d.way) c.doing.view_is ∙ c.count.ensures.way)

pub returns-in_default-clause-stepped : goal.returns-in_default-clause-stepped
returns-in_default-clause-stepped g c =
    let way = ap (λ (d : Counted g.row.P.Denot). d.way) c.doing.view_is ∙ c.count.ensures.way in
    let own = ap (λ (r : Ranked). r.own) c.self.view_is in
    has_stepped g.P.Meld.meld (over g.P.Packed.pack (g.W.Words.name c.world.inside.words)) (over g.P.Packed.pack c.args.world.now) (ap (over g.P.Packed.pack) c.world.view_is) c.doing.inside.way c.args.doing.now.way way c.self.inside.own c.args.self.now.own own
    g.W.Words.alone (g.W.Words.sight c.args.pass.now) _ c.step.new.self (g.W.Words.sight c.step.new.pass) c.in_default.ensures.stepped

pub returns-clause-asked : goal.returns-clause-asked
returns-clause-asked g c = c.step.ensures.asked ∙ ap (λ (w : UnderWay g.row.P.Denot). w.asked)
    (ap (λ (d : Counted g.row.P.Denot). d.way) c.doing.view_is ∙ c.count.ensures.way)

pub returns-clause-stepped : goal.returns-clause-stepped
returns-clause-stepped g c =
    let way = ap (λ (d : Counted g.row.P.Denot). d.way) c.doing.view_is ∙ c.count.ensures.way in
    let own = ap (λ (r : Ranked). r.own) c.self.view_is in
    has_stepped g.P.Meld.meld (over g.P.Packed.pack (g.W.Words.name c.world.inside.words)) (over g.P.Packed.pack c.args.world.now) (ap (over g.P.Packed.pack) c.world.view_is) c.doing.inside.way c.args.doing.now.way way c.self.inside.own c.args.self.now.own own
    g.W.Words.alone (g.W.Words.sight c.args.pass.now) _ c.step.new.self (g.W.Words.sight c.step.new.pass) c.in-Some.ensures.stepped

pub returns-in_default-clause-ended : goal.returns-in_default-clause-ended
returns-in_default-clause-ended g c = tt

pub returns-clause-ended : goal.returns-clause-ended
returns-clause-ended g c = c.in-Some.ensures.ended

pub returns-in_default-clause-stands : goal.returns-in_default-clause-stands
returns-in_default-clause-stands g c =
    let way = ap (λ (d : Counted g.row.P.Denot). d.way) c.doing.view_is ∙ c.count.ensures.way in
    let own = ap (λ (r : Ranked). r.own) c.self.view_is in
    let name = over g.P.Packed.pack (g.W.Words.name c.world.inside.words) in
    let after = g.W.Words.sight c.step.new.pass in
    λ alone only old before stood u waits.
    subst (λ (n : Name). Stands g.P.Meld.meld alone (local old (view_at (over g.P.Packed.pack n) before)) c.step.new.doing (local c.step.new.self (view_at (over g.P.Packed.pack n) after))) c.world.view_is
    (c.in_default.ensures.stands alone only old before stood
    (still_stands g.P.Meld.meld name (over g.P.Packed.pack c.args.world.now) (ap (over g.P.Packed.pack) c.world.view_is) c.doing.inside.way c.args.doing.now.way way c.self.inside.own c.args.self.now.own own
    alone old before stood u) waits)

pub returns-clause-stands : goal.returns-clause-stands
returns-clause-stands g c =
    let way = ap (λ (d : Counted g.row.P.Denot). d.way) c.doing.view_is ∙ c.count.ensures.way in
    let own = ap (λ (r : Ranked). r.own) c.self.view_is in
    let name = over g.P.Packed.pack (g.W.Words.name c.world.inside.words) in
    let reply = c.in-Some.reply in
    let new = c.step.new.self in
    let after = g.W.Words.sight c.step.new.pass in
    λ alone only old before stood u waits.
    subst (λ (n : Name). Answered g.P.Meld.meld alone c.args.doing.now.way.asked (local old (view_at (over g.P.Packed.pack n) before)) reply (local new (view_at (over g.P.Packed.pack n) after)))
    c.world.view_is
    (subst (λ (w : UnderWay g.row.P.Denot). Answered g.P.Meld.meld alone w.asked (local old (view_at name before)) reply (local new (view_at name after))) way
    (c.in-Some.ensures.stands alone only old before stood
    (still_stands g.P.Meld.meld name (over g.P.Packed.pack c.args.world.now) (ap (over g.P.Packed.pack) c.world.view_is) c.doing.inside.way c.args.doing.now.way way c.self.inside.own c.args.self.now.own own
    alone old before stood u) waits))

pub returns-in_default-clause-last : goal.returns-in_default-clause-last
returns-in_default-clause-last g c = ap (λ (r : Ranked). r.last) c.self.view_is

pub returns-clause-last : goal.returns-clause-last
returns-clause-last g c = refl

pub returns-in_default-clause-wings : goal.returns-in_default-clause-wings
returns-in_default-clause-wings g c = λ here stood.
    let way = ap (λ (d : Counted g.row.P.Denot). d.way) c.doing.view_is ∙ c.count.ensures.way in
    let own = ap (λ (r : Ranked). r.own) c.self.view_is in
    has_kept (over g.P.Packed.pack (g.W.Words.name c.world.inside.words)) (over g.P.Packed.pack c.args.world.now) (ap (over g.P.Packed.pack) c.world.view_is) c.doing.inside.way c.args.doing.now.way way c.self.inside.own c.args.self.now.own own
    g.W.Words.alone (g.W.Words.sight c.args.pass.now) (Goes c.step.new.doing.phase) c.step.new.self c.step.new.doing.asked (g.W.Words.sight c.step.new.pass) c.in_default.ensures.wings here stood

pub returns-clause-wings : goal.returns-clause-wings
returns-clause-wings g c = λ here stood.
    let way = ap (λ (d : Counted g.row.P.Denot). d.way) c.doing.view_is ∙ c.count.ensures.way in
    let own = ap (λ (r : Ranked). r.own) c.self.view_is in
    has_kept (over g.P.Packed.pack (g.W.Words.name c.world.inside.words)) (over g.P.Packed.pack c.args.world.now) (ap (over g.P.Packed.pack) c.world.view_is) c.doing.inside.way c.args.doing.now.way way c.self.inside.own c.args.self.now.own own
    g.W.Words.alone (g.W.Words.sight c.args.pass.now) (Ends c.in-Some.reply) c.step.new.self c.step.new.doing.asked (g.W.Words.sight c.step.new.pass) c.in-Some.ensures.wings here stood

pub returns-in_default-clause-wins : goal.returns-in_default-clause-wins
returns-in_default-clause-wins g c =
    let way = ap (λ (d : Counted g.row.P.Denot). d.way) c.doing.view_is ∙ c.count.ensures.way in
    let own = ap (λ (r : Ranked). r.own) c.self.view_is in
    has_won (over g.P.Packed.pack (g.W.Words.name c.world.inside.words)) (over g.P.Packed.pack c.args.world.now) (ap (over g.P.Packed.pack) c.world.view_is) c.doing.inside.way c.args.doing.now.way way c.self.inside.own c.args.self.now.own own
    g.W.Words.alone (g.W.Words.sight c.args.pass.now) _ g.P.Meld.meld (g.W.Words.sight c.step.new.pass) c.in_default.ensures.wins

pub returns-clause-wins : goal.returns-clause-wins
returns-clause-wins g c =
    let way = ap (λ (d : Counted g.row.P.Denot). d.way) c.doing.view_is ∙ c.count.ensures.way in
    let own = ap (λ (r : Ranked). r.own) c.self.view_is in
    has_won (over g.P.Packed.pack (g.W.Words.name c.world.inside.words)) (over g.P.Packed.pack c.args.world.now) (ap (over g.P.Packed.pack) c.world.view_is) c.doing.inside.way c.args.doing.now.way way c.self.inside.own c.args.self.now.own own
    g.W.Words.alone (g.W.Words.sight c.args.pass.now) _ g.P.Meld.meld (g.W.Words.sight c.step.new.pass) c.in-Some.ensures.wins
