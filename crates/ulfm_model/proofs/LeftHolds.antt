-- What a rank may rely on where its record fits: whom it shares a communicator with, and that context ids tell its communicators apart.
use Rattle.std.proofs.Common.{◌≡◌, ℕ, ◌==◌, Bool, true, false, cond, List, [], ◌∷◌, map, Some, ap, sym, ◌∙◌, subst, nat_eq, IsTrue}
use Rattle.std.specs.Prelude.{find}
use Rattle.std.specs.List.{AllByRecursion, IsDistinct}
use Rattle.std.proofs.lemmas.Map.Keys.{IsDistinct-head, IsDistinct-tail, IsDistinct-cons}
use Rattle.std.proofs.lemmas.Bool.{eq-eqb, ne_eqb}
use Rattle.ulfm_model.specs.declared.limits.Limits.{Limits}
use Rattle.ulfm_model.specs.{History.{Exists, History, has, members}, Records.{Fits, FitsHeld, Held, IsContext, Record, held_at}}
use Rattle.ulfm_model.specs.Terms.{contexts_of}
use Rattle.ulfm_model.proofs.Contexts.{context_one}
use Rattle.ulfm_model.proofs.Lists.{find_holds}
use Rattle.ulfm_model.proofs.LeftFits.{each_by_two, held_fits}

-- what holds of each context id holds of that of each communicator
each_context : (P : ℕ → Type 0) (held : List Held) → AllByRecursion P (contexts_of held) → AllByRecursion (λ y. P y.context) held
each_context P [] all = tt
each_context P (y ∷ held) all = (all.0, each_context P held all.1)

found_apart : (c d : ℕ) (held : List Held) (x y : Held) → IsDistinct nat_eq (contexts_of held) → find (λ z. z.comm == c) held ≡ Some x → find (λ z. z.comm == d) held ≡ Some y → x.context ≡ y.context → x ≡ y
found_apart c d [] x y distinct at to same = absurd (cc at)
found_apart c d (z ∷ held) x y distinct at to same =
    go (z.comm == c) (z.comm == d) (each_context (λ i. nat_eq z.context i ≡ false) held (IsDistinct-head nat_eq z.context (contexts_of held) distinct))
    (λ at to. found_apart c d held x y (IsDistinct-tail nat_eq z.context (contexts_of held) distinct) at to same) at to
  where
    differs : (w : Held) (e : ℕ) → AllByRecursion (λ y. nat_eq z.context y.context ≡ false) held → find (λ z. z.comm == e) held ≡ Some w → z.context ≡ w.context → x ≡ y
    differs w e apart to this =
        let other = (find_holds (λ z. z.comm == e) (λ y. nat_eq z.context y.context ≡ false) held w apart to).0 in absurd (cc (other, eq-eqb z.context w.context this))

    go : (a b : Bool) → AllByRecursion (λ y. nat_eq z.context y.context ≡ false) held → (find (λ z. z.comm == c) held ≡ Some x → find (λ z. z.comm == d) held ≡ Some y → x ≡ y)
        → cond a (Some z) (find (λ z. z.comm == c) held) ≡ Some x → cond b (Some z) (find (λ z. z.comm == d) held) ≡ Some y → x ≡ y
    go true true apart more at to = cc
    go true false apart more at to = let this : z ≡ x = cc at in differs y d apart to (ap (λ w. w.context) this ∙ same)
    go false true apart more at to = let this : z ≡ y = cc to in differs x c apart at (ap (λ w. w.context) this ∙ sym same)
    go false false apart more at to = more at to

module _ {P : Type 0} (meld : P → P → P) where
  module _ (limits : Limits) (h : History P) where
    -- whoever holds a communicator is one of its members
    pub holder_is_member : (own : Record) (c : ℕ) (x : Held) → Fits meld limits h own → held_at own c ≡ Some x → Exists h c × (x.group ≡ members limits.ranks h c) × IsTrue (has (members limits.ranks h c) own.number)
    holder_is_member own c x fits at =
        let both = held_fits meld limits h own c x fits at in
        let group = both.0.group ∙ ap (members limits.ranks h) both.1 in
        (subst (Exists h) both.1 both.0.exists, group, ap (λ ms. has ms own.number) (sym group) ∙ both.0.member)

    -- all that hold a communicator have the same members and the same context id for it
    pub holders_agree : (own other : Record) (c : ℕ) (x y : Held) → Fits meld limits h own → Fits meld limits h other → held_at own c ≡ Some x → held_at other c ≡ Some y → (x.group ≡ y.group) × (x.context ≡ y.context)
    holders_agree own other c x y fits others at to =
        let mine = held_fits meld limits h own c x fits at in
        let theirs = held_fits meld limits h other c y others to in
        let one : IsContext meld limits.ranks h c x.context = subst (λ n. IsContext meld limits.ranks h n x.context) mine.1 mine.0.context in
        let two : IsContext meld limits.ranks h c y.context = subst (λ n. IsContext meld limits.ranks h n y.context) theirs.1 theirs.0.context in
        ((holder_is_member own c x fits at).1 ∙ sym (holder_is_member other c y others to).1, context_one meld limits.ranks h c x.context y.context one two)

    -- two communicators that a rank holds have two context ids
    pub contexts_apart : (own : Record) (c d : ℕ) (x y : Held) → Fits meld limits h own → held_at own c ≡ Some x → held_at own d ≡ Some y → x.context ≡ y.context → c ≡ d
    contexts_apart own c d x y fits at to same =
        sym (held_fits meld limits h own c x fits at).1 ∙ (ap (λ w. w.comm) (found_apart c d own.held x y fits.contexts at to same) ∙ (held_fits meld limits h own d y fits to).1)

    comms_apart : (r : ℕ) (ids : List ℕ) (held : List Held) → AllByRecursion (FitsHeld meld limits.ranks h r ids) held → IsDistinct nat_eq (contexts_of held) → IsDistinct nat_eq (map (λ y. y.comm) held)
    comms_apart r ids [] all distinct = distinct
    comms_apart r ids (y ∷ held) all distinct =
        IsDistinct-cons nat_eq y.comm (map (λ y. y.comm) held) (numbers held apart) (comms_apart r ids held all.1 (IsDistinct-tail nat_eq y.context (contexts_of held) distinct))
      where
        other : (z : Held) → FitsHeld meld limits.ranks h r ids z → nat_eq y.context z.context ≡ false → nat_eq y.comm z.comm ≡ false
        other z fits differs =
            ne_eqb y.comm z.comm (λ same. let one = context_one meld limits.ranks h z.comm y.context z.context (subst (λ n. IsContext meld limits.ranks h n y.context) same all.0.context) fits.context in
            absurd (cc (eq-eqb y.context z.context one, differs)))

        apart : AllByRecursion (λ z. nat_eq y.comm z.comm ≡ false) held
        apart = each_by_two (FitsHeld meld limits.ranks h r ids) (λ z. nat_eq y.context z.context ≡ false) (λ z. nat_eq y.comm z.comm ≡ false) other held all.1
            (each_context (λ i. nat_eq y.context i ≡ false) held (IsDistinct-head nat_eq y.context (contexts_of held) distinct))

        numbers : (zs : List Held) → AllByRecursion (λ z. nat_eq y.comm z.comm ≡ false) zs → AllByRecursion (λ n. nat_eq y.comm n ≡ false) (map (λ z. z.comm) zs)
        numbers [] each = tt
        numbers (z ∷ zs) each = (each.0, numbers zs each.1)

    -- no communicator is held twice
    pub comms_distinct : (own : Record) → Fits meld limits h own → IsDistinct nat_eq (map (λ y. y.comm) own.held)
    comms_distinct own fits = comms_apart own.number (contexts_of own.held) own.held fits.held fits.contexts
