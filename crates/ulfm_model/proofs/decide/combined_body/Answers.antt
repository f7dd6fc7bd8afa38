use Rattle.std.proofs.Common.{◌≡◌, ◌++◌, ◌∷◌, [], List, Option, Some, None, map, take, ap, ◌∙◌, sym}
use Rattle.std.proofs.lemmas.List.{append-nil, map-append, take_more}
use Rattle.std.proofs.lemmas.List.Elements.{filter_map-append}
use Rattle.std.specs.List.{cons_option, filter_map}
use Rattle.ulfm_laws.specs.{Bodies.{body_lawful, body_meld, body_unit}, Combined.{combined, combined-push}, Lawful.{IsLawful}}
use Rattle.ulfm_model.specs.History.{body_of, contribution_of}
use Rattle.ulfm_model.specs.declared.contribution.{Contribution.{Contribution}, Slot.{Slot}}
use Rattle.ulfm_laws.specs.declared.summary.Body.{Body}
use Rattle.ulfm_model.proofs.decide.combined_body.Goals as goal
use Rattle.ulfm_model.proofs.decide.combined_body.Goals.{in-Some, in_default}

module _ {P : Type 0} {unit : P} {meld : P → P → P} (laws : IsLawful unit meld) where
  abbrev bodies : List (Slot P) → List (Body P)
  bodies xs = map (λ given. body_of given.offer) (filter_map contribution_of xs)

  abbrev sum : List (Slot P) → Body P
  sum xs = combined body_unit (body_meld meld) (bodies xs)

  -- the bodies with what one more place says
  bodies_push : (xs : List (Slot P)) (slot : Slot P) (said : Option (Contribution P)) → contribution_of slot ≡ said
      → bodies (xs ++ slot ∷ []) ≡ bodies xs ++ map (λ given. body_of given.offer) (cons_option said [])
  bodies_push xs slot said is =
      ap (map (λ given. body_of given.offer)) (filter_map-append contribution_of xs (slot ∷ []) ∙ ap (λ o. filter_map contribution_of xs ++ cons_option o []) is)
      ∙ map-append (λ given. body_of given.offer) (filter_map contribution_of xs) (cons_option said [])

  -- a mark adds nothing
  sum_none : (xs : List (Slot P)) (slot : Slot P) → contribution_of slot ≡ None → sum (xs ++ slot ∷ []) ≡ sum xs
  sum_none xs slot is = ap (combined body_unit (body_meld meld)) (bodies_push xs slot None is ∙ append-nil (bodies xs))

  -- a contribution's body is melded to those so far
  sum_some : (xs : List (Slot P)) (slot : Slot P) (given : Contribution P) → contribution_of slot ≡ Some given
      → sum (xs ++ slot ∷ []) ≡ body_meld meld (sum xs) (body_of given.offer)
  sum_some xs slot given is =
      ap (combined body_unit (body_meld meld)) (bodies_push xs slot (Some given) is) ∙ combined-push (body_lawful laws) (bodies xs) (body_of given.offer)

pub loop-slot-preserved : goal.loop-slot-preserved
loop-slot-preserved g c =
    let xs = take c.loop-slot.slot-index c.args.settled.now in
    let item = c.slot-item.result in
    let more = take_more c.args.settled.now c.loop-slot.slot-index item c.loop-slot-test.true in
    elim c.match-contribution_of.branch [
      | in-Some w ↦ (let push = sum_some g.met.P.Meld.lawful xs item w.in-Some.given (sym w.in-Some.ensures) in cc)
      | in_default w ↦ (let same = sum_none g.met.P.Meld.lawful xs item (sym w.in_default.ensures) in cc)
    ]
