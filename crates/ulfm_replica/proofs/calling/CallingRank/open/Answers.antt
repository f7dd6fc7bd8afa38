use Rattle.std.proofs.Common.{◌≡◌, List, [], arith, length, refl, sym, ◌∙◌, ap, subst}
use Rattle.std.specs.List.{Contains}
use Rattle.ulfm_model.specs.declared.limits.Limits.{Limits}
use Rattle.ulfm_model.specs.Records.{Fits, new_record}
use Rattle.ulfm_words.specs.Steps.{Name}
use Rattle.ulfm_replica.proofs.Opening.{rank_new}
use Rattle.ulfm_replica.proofs.calling.CallingRank.open.Goals as goal
use Rattle.ulfm_replica.proofs.calling.CallingRank.open.Goals.{In-Ok}

-- nothing is in an empty list
none_tried : {X : Type 0} (xs : List X) (x : X) → xs ≡ [] → Contains xs x → ⊥
none_tried xs x none has = let below = has.1 in let few : length xs ≡ 0 = ap length none in omega (arith, below, few)

-- the rank of that number
new : (g : _) (c : In-Ok g) → (c.in-Some.rank.own ≡ new_record c.in_ok-words.words.limits c.args.number) × Fits g.P.Meld.meld c.in_ok-words.words.limits [] c.in-Some.rank.own
new g c = rank_new g.P.Meld.meld c.in_ok-words.words.limits c.in_ok-world.ranks.items c.args.number c.in-Some.rank c.in_ok-world.ensures.ranks c.in_ok-world.ensures.fits c.in-Some.ensures

limits_are : (g : _) (c : In-Ok g) → c.in_ok-world.world.limits ≡ c.in_ok-words.words.limits
limits_are g c = ap (λ (n : Name). n.limits) c.in_ok-world.ensures.world

pub invariant_of-result : goal.invariant_of-result
invariant_of-result g c =
    record {
      of = c.in-Ok.ensures.of;
      settled = λ comm round rank tried. absurd (none_tried c.in-Ok.pass.caches _ c.in-Ok.ensures.caches tried);
      unspread = tt;
      stands = subst (λ (l : Limits). Fits g.P.Meld.meld l c.in-Ok.pass.seen c.in-Some.rank.own) (sym (limits_are g c))
          (subst (λ h. Fits g.P.Meld.meld c.in_ok-words.words.limits h c.in-Some.rank.own) (sym c.in-Ok.ensures.seen) (new g c).1);
    }

pub returns-in-Ok : goal.returns-in-Ok
returns-in-Ok g c =
    (limits_are g c ∙ c.in_ok-words.ensures, (new g c).0 ∙ ap (λ (l : Limits). new_record l c.args.number) c.in_ok-words.ensures, c.in-Ok.ensures.seen, refl, refl)
