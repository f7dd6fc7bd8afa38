-- Own events in a row, among those of others.
use Rattle.std.proofs.Common.{◌≡◌, Bool, IsTrue, List, [], ◌∷◌, ◌++◌, refl, ap, ap₂, sym, ◌∙◌, subst, append_assoc, append-nil, inl, inr}
use Rattle.std.proofs.lemmas.List.{map-append}
use mathlib.Core.List.{IsPrefix}
use Rattle.ulfm_model.specs.declared.{event.Caller.{Caller}, event.Entry.{Entry}, event.Event.{Event}}
use Rattle.ulfm_model.specs.{History.{History, entries_by}, Runs.{StandsIn, Did}}
use Rattle.ulfm_words.specs.Steps.{IsAdded}

stands_later : {E : Type 0} (xs ys : List E) (y : E) → StandsIn xs ys → StandsIn xs (y ∷ ys)
stands_later [] ys y p = tt
stands_later (x ∷ xs) ys y p = inr p

stands_append : {E : Type 0} (xs more ys rest : List E) → StandsIn xs ys → StandsIn more rest → StandsIn (xs ++ more) (ys ++ rest)
stands_append [] more [] rest p q = q
stands_append [] more (y ∷ ys) rest p q = stands_later more (ys ++ rest) y (stands_append [] more ys rest tt q)
stands_append (x ∷ xs) more [] rest p q = absurd p
stands_append (x ∷ xs) more (y ∷ ys) rest (inl p) q = inl (p.0, stands_append xs more ys rest p.1 q)
stands_append (x ∷ xs) more (y ∷ ys) rest (inr p) q = inr (stands_append (x ∷ xs) more ys rest p q)

module _ {P : Type 0} (alone : Bool) where
  -- nothing happened
  pub did_none : (h : History P) → Did alone [] h h
  did_none h = record { since = []; goes_on = append-nil h; stands = tt; quiet = λ a. refl }

  -- one after the other
  pub did_then : (a b x y z : History P) → Did alone a x y → Did alone b y z → Did alone (a ++ b) x z
  did_then a b x y z p q =
      record {
        since = p.since ++ q.since;
        goes_on = sym (append_assoc x p.since q.since) ∙ (ap (λ w. w ++ q.since) p.goes_on ∙ q.goes_on);
        stands = stands_append a b p.since q.since p.stands q.stands;
        quiet = λ here. ap₂ (λ v w. v ++ w) (p.quiet here) (q.quiet here);
      }

  -- the same, by one caller
  pub did_more : (by : Caller) (a b : List (Event P)) (x y z : History P) → Did alone (entries_by by a) x y → Did alone (entries_by by b) y z → Did alone (entries_by by (a ++ b)) x z
  did_more by a b x y z p q =
      let both = did_then (entries_by by a) (entries_by by b) x y z p q in
      let one : Event P → Entry P = λ e. record { by = by; event = e } in
      subst (λ w. Did alone w x z) (sym (map-append one a b)) both

  pub did_prefix : (a x y : History P) → Did alone a x y → IsPrefix x y
  did_prefix a x y p = (p.since, p.goes_on)

  -- others' events at the end
  pub did_wait : (a x y z : History P) → Did alone a x y → Did alone [] y z → Did alone a x z
  did_wait a x y z p q = subst (λ w. Did alone w x z) (append-nil a) (did_then a [] x y z p q)

  -- others' events at the start
  pub did_after : (a x y z : History P) → Did alone [] x y → Did alone a y z → Did alone a x z
  did_after a x y z p q = did_then [] a x y z p q

  -- where the caller is alone nothing came in
  pub did_quiet : (x y : History P) → Did alone [] x y → IsTrue alone → y ≡ x
  did_quiet x y p here = sym p.goes_on ∙ (ap (λ w. x ++ w) (p.quiet here) ∙ append-nil x)

  -- an event that came last is the caller's own
  pub did_added : (e : Entry P) (x y : History P) → IsAdded alone e x y → Did alone (e ∷ []) x y
  did_added e x y added =
      let one : Did alone (e ∷ []) added.before y = record { since = e ∷ []; goes_on = sym added.is; stands = inl (refl, tt); quiet = λ here. refl } in
      did_after (e ∷ []) x added.before y added.did one

  -- others' events came before it
  pub added_after : (e : Entry P) (x y z : History P) → Did alone [] x y → IsAdded alone e y z → IsAdded alone e x z
  added_after e x y z did added = record { before = added.before; did = did_after [] x y added.before did added.did; is = added.is }
