use Rattle.std.proofs.Common.{◌≡◌, ◌∷◌, ◌++◌, [], map, ap, sym, ◌∙◌, subst, length, arith}
use Rattle.std.proofs.lemmas.List.{length-map}
use Rattle.std.specs.Arc.{arc_value}
use Rattle.std.specs.List.{AllByRecursion}
use Rattle.ulfm_model.specs.Records.{Fits}
use Rattle.ulfm_model.proofs.Lists.{each_push}
use Rattle.ulfm_words.specs.Steps.{view_of, IsNew}
use Rattle.ulfm_comm.specs.Counts.{Ranked, records_of}
use Rattle.ulfm_wait.specs.Members.{IsMember, IsNewMember, viewing}
use Rattle.ulfm_wait.proofs.Opening.{all_made, one_member_more}
use Rattle.ulfm_wait.proofs.members.members_of.Goals as goal

pub new-requires : goal.new-requires
new-requires g c =
    let meld = g.P.Meld.meld in
    let name = arc_value c.args.world.now in
    let own = c.in-Some.rank.own in
    let pass = g.W.Words.sight c.in_ok-pass.pass in
    let new = subst (λ world. IsNew meld (view_of g.P.Packed.pack world pass)) c.deref.ensures c.in_ok-pass.ensures in
    let left = subst (λ rs. AllByRecursion (Fits meld name.limits []) (records_of rs)) c.in-Some.ensures.steps.0 c.loop-rank.invariant.2 in
    let fits = subst (λ seen. Fits meld name.limits seen own) (sym new.seen) left.0 in
    subst (λ world. IsMember meld g.P.Packed.pack (record { own = own; last = c.in-Some.rank.last; view = viewing world pass })) (sym c.in_ok-try_clone.ensures)
    (record { of = new.of; fits = fits })

pub loop-rank-preserved : goal.loop-rank-preserved
loop-rank-preserved g c =
    let meld = g.P.Meld.meld in
    let name = arc_value c.args.world.now in
    let pass = g.W.Words.sight c.in_ok-pass.pass in
    let all = c.loop-rank.all.items in
    let member = c.new.result in
    let rest = records_of c.next.new.self.rest.items in
    let new = subst (λ world. IsNew meld (view_of g.P.Packed.pack world pass)) c.deref.ensures c.in_ok-pass.ensures in
    let none = subst (AllByRecursion (λ (r : Ranked). r.last ≡ 0)) c.in-Some.ensures.steps.0 c.loop-rank.invariant.3 in
    let is_new = subst (IsNewMember meld g.P.Packed.pack name) (sym c.new.ensures) (record { name_is = ap (λ world. world) c.in_ok-try_clone.ensures; new = subst (λ world. IsNew meld (view_of g.P.Packed.pack world pass)) (sym c.in_ok-try_clone.ensures) new; last = none.0 }) in
    let left = subst (λ rs. AllByRecursion (Fits meld name.limits []) (records_of rs)) c.in-Some.ensures.steps.0 c.loop-rank.invariant.2 in
    let in_order =
    one_member_more all member rest ∙ (ap (λ x. map (λ m. m.own) all ++ x.own ∷ rest) c.new.ensures
    ∙ (ap (λ rs. map (λ m. m.own) all ++ records_of rs) (sym c.in-Some.ensures.steps.0) ∙ c.loop-rank.invariant.0)) in
    let items = sym c.in_ok-push.ensures.items in (
      subst (λ xs. map (λ m. m.own) xs ++ rest ≡ records_of c.args.ranks.items) items in_order,
      subst (AllByRecursion (IsNewMember meld g.P.Packed.pack name)) items (each_push (IsNewMember meld g.P.Packed.pack name) all member c.loop-rank.invariant.1 is_new),
      left.1,
      none.1,
    )

pub returns-clause-ranks : goal.returns-clause-ranks
returns-clause-ranks g c =
    let rest = c.loop-rank.rank-iterator.rest in
    let none : length rest.items ≡ 0 = omega (arith, c.in-None.ensures.steps.0, rest.ok.0) in
    all_made (map (λ m. m.own) c.loop-rank.all.items) (records_of rest.items) (records_of c.args.ranks.items) (length-map rest.items (λ (r : Ranked). r.own) ∙ none) c.loop-rank.invariant.0
