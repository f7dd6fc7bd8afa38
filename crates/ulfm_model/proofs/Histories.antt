-- Legal histories: how they are put together and taken apart, and what no later event changes.
use Rattle.std.proofs.Common.{◌≡◌, ℕ, true, false, cond, ◌==◌, [], ◌∷◌, ◌++◌, length, Some, refl, ap, sym, ◌∙◌, ◌+◌, Option, None, subst, arith, append_assoc, append-nil, length-append, filter_map, slice_get}
use Rattle.std.specs.{List.{cons_option}, Option.{option_or}}
use Rattle.std.proofs.lemmas.List.Elements.{filter_map-append}
use Rattle.std.proofs.lemmas.List.{reverse-reverse}
use Rattle.std.proofs.lemmas.Bool.{eq-eqb, ne_eqb}
use mathlib.Core.List.{IsPrefix}
use Rattle.ulfm_model.specs.declared.limits.Limits.{Limits}
use Rattle.ulfm_model.specs.declared.event.Entry.{Entry}
use Rattle.ulfm_model.specs.declared.contribution.Slot.{Slot}
use Rattle.ulfm_model.specs.History.{without}
use Rattle.ulfm_model.specs.History.{History, failures, slot, spawns}
use Rattle.ulfm_model.proofs.OneEvent.{put_by, declared_by, made_by}
use Rattle.ulfm_model.specs.History.{Exists, IsLegal, IsLegalAfter, MayFollow, members, members_after, members_by}
use Rattle.ulfm_model.specs.Terms.{group_among}
use Rattle.ulfm_model.proofs.Lists.{reverse_push}

module _ {P : Type 0} (meld : P → P → P) (limits : Limits) where
  legal_after_push : (before h : History P) (e : Entry P) → IsLegalAfter meld limits before h → MayFollow meld limits (before ++ h) e.event → IsLegalAfter meld limits before (h ++ e ∷ [])
  legal_after_push before [] e legal may = (subst (λ w. MayFollow meld limits w e.event) (append-nil before) may, tt)
  legal_after_push before (x ∷ h) e legal may =
      (legal.0, legal_after_push (before ++ x ∷ []) h e legal.1 (subst (λ w. MayFollow meld limits w e.event) (sym (append_assoc before (x ∷ []) h)) may))

  -- an allowed event makes a legal history longer by one
  pub legal_push : (h : History P) (e : Entry P) → IsLegal meld limits h → MayFollow meld limits h e.event → IsLegal meld limits (h ++ e ∷ [])
  legal_push h e legal may = legal_after_push [] h e legal may

  -- a fact that no allowed event breaks survives a legal rest
  pub along : (Q : History P → Type 0) → ((h : History P) (e : Entry P) → IsLegal meld limits h → Q h → MayFollow meld limits h e.event → Q (h ++ e ∷ []))
      → (h rest : History P) → IsLegal meld limits h → Q h → IsLegalAfter meld limits h rest → Q (h ++ rest)
  along Q step h [] legal q after = subst Q (sym (append-nil h)) q
  along Q step h (e ∷ rest) legal q after =
      subst Q (append_assoc h (e ∷ []) rest) (along Q step (h ++ e ∷ []) rest (legal_push h e legal after.0) (step h e legal q after.0) after.1)

  -- induction over legal histories, event by event
  pub by_events : (Q : History P → Type 0) → Q [] → ((h : History P) (e : Entry P) → IsLegal meld limits h → Q h → MayFollow meld limits h e.event → Q (h ++ e ∷ [])) → (h : History P) → IsLegal meld limits h → Q h
  by_events Q first step h legal = along Q step [] h tt first legal

  after_append : (before h rest : History P) → IsLegalAfter meld limits before h → IsLegalAfter meld limits (before ++ h) rest → IsLegalAfter meld limits before (h ++ rest)
  after_append before [] rest legal more = subst (λ w. IsLegalAfter meld limits w rest) (append-nil before) more
  after_append before (e ∷ h) rest legal more = (legal.0, after_append (before ++ e ∷ []) h rest legal.1 (subst (λ w. IsLegalAfter meld limits w rest) (sym (append_assoc before (e ∷ []) h)) more))

  -- a legal history goes on by whatever is legal after it
  pub legal_append : (h rest : History P) → IsLegal meld limits h → IsLegalAfter meld limits h rest → IsLegal meld limits (h ++ rest)
  legal_append h rest legal more = after_append [] h rest legal more

  split_after : (before h rest : History P) → IsLegalAfter meld limits before (h ++ rest) → IsLegalAfter meld limits before h × IsLegalAfter meld limits (before ++ h) rest
  split_after before [] rest legal = (tt, subst (λ w. IsLegalAfter meld limits w rest) (sym (append-nil before)) legal)
  split_after before (e ∷ h) rest legal =
      let parts = split_after (before ++ e ∷ []) h rest legal.1 in
      ((legal.0, parts.0), subst (λ w. IsLegalAfter meld limits w rest) (append_assoc before (e ∷ []) h) parts.1)

  -- both parts of a legal history are legal, the second after the first
  pub legal_parts : (h rest : History P) → IsLegal meld limits (h ++ rest) → IsLegal meld limits h × IsLegalAfter meld limits h rest
  legal_parts h rest legal = split_after [] h rest legal

  -- a fact that no allowed event breaks holds from then on
  pub stays : (Q : History P → Type 0) → ((h : History P) (e : Entry P) → IsLegal meld limits h → Q h → MayFollow meld limits h e.event → Q (h ++ e ∷ []))
      → (h longer : History P) → IsPrefix h longer → IsLegal meld limits longer → Q h → Q longer
  stays Q step h longer begins legal q =
      let parts = legal_parts h begins.0 (subst (IsLegal meld limits) (sym begins.1) legal) in
      subst Q begins.1 (along Q step h begins.0 parts.0 q parts.1)

-- declared failures keep their places in the list
pub failures_begin : {P : Type 0} (h longer : History P) → IsPrefix h longer → IsPrefix (failures h) (failures longer)
failures_begin h longer begins =
    (failures begins.0, sym (filter_map-append (λ e. declared_by e.event) h begins.0) ∙ ap failures begins.1)

module _ {P : Type 0} where
  -- what events before settle, or else those after
  pub slot_append : (h more : History P) (c k r : ℕ) → slot (h ++ more) c k r ≡ option_or (slot h c k r) (slot more c k r)
  slot_append [] more c k r = refl
  slot_append (e ∷ h) more c k r = go (put_by c k r e.event) (slot_append h more c k r)
    where
      go : (o : Option (Slot P)) → slot (h ++ more) c k r ≡ option_or (slot h c k r) (slot more c k r)
          → option_or o (slot (h ++ more) c k r) ≡ option_or (option_or o (slot h c k r)) (slot more c k r)
      go None later = later
      go (Some s) later = refl

  -- it is the first of all that events put there
  pub slot_first : (h : History P) (c k r : ℕ) → slot h c k r ≡ slice_get (filter_map (λ e. put_by c k r e.event) h) 0
  slot_first [] c k r = refl
  slot_first (e ∷ h) c k r = go (put_by c k r e.event) (slot_first h c k r)
    where
      go : (o : Option (Slot P)) → slot h c k r ≡ slice_get (filter_map (λ e. put_by c k r e.event) h) 0
          → option_or o (slot h c k r) ≡ slice_get (cons_option o (filter_map (λ e. put_by c k r e.event) h)) 0
      go None later = later
      go (Some s) later = refl

  or_none : (o : Option (Slot P)) → option_or o None ≡ o
  or_none None = refl
  or_none (Some s) = refl

  -- at an empty place the next event decides what is settled
  pub slot_push : (h : History P) (e : Entry P) (c k r : ℕ) → slot h c k r ≡ None → slot (h ++ e ∷ []) c k r ≡ put_by c k r e.event
  slot_push h e c k r empty = slot_append h (e ∷ []) c k r ∙ (ap (λ o. option_or o (slot (e ∷ []) c k r)) empty ∙ or_none (put_by c k r e.event))

  -- an event that puts nothing at a place leaves it
  pub slot_kept : (h : History P) (e : Entry P) (c k r : ℕ) → put_by c k r e.event ≡ None → slot (h ++ e ∷ []) c k r ≡ slot h c k r
  slot_kept h e c k r none = slot_append h (e ∷ []) c k r ∙ (ap (λ o. option_or (slot h c k r) (option_or o None)) none ∙ or_none (slot h c k r))

  -- whatever settles a place settles it for good
  pub slot_stays : (h longer : History P) (c k r : ℕ) (s : Slot P) → IsPrefix h longer → slot h c k r ≡ Some s → slot longer c k r ≡ Some s
  slot_stays h longer c k r s begins is =
      subst (λ w. slot w c k r ≡ Some s) begins.1 (slot_append h begins.0 c k r ∙ ap (λ o. option_or o (slot begins.0 c k r)) is)

  -- .. with one more event
  pub slot_remains : (h : History P) (e : Entry P) (c k r : ℕ) (s : Slot P) → slot h c k r ≡ Some s → slot (h ++ e ∷ []) c k r ≡ Some s
  slot_remains h e c k r s is = slot_stays h (h ++ e ∷ []) c k r s (e ∷ [], refl) is

-- an event adds at most one communicator, at the end of the list
pub spawns_push : {P : Type 0} (h : History P) (e : Entry P) → spawns (h ++ e ∷ []) ≡ spawns h ++ cons_option (made_by e.event) []
spawns_push h e = filter_map-append (λ e. made_by e.event) h (e ∷ [])

-- one more event takes no communicator away
pub exists_push : {P : Type 0} (h : History P) (e : Entry P) (c : ℕ) → Exists h c → Exists (h ++ e ∷ []) c
exists_push h e c here = omega (arith, ap length (spawns_push h e) ∙ length-append (spawns h) (cons_option (made_by e.event) []))

-- one more event leaves the members of existing communicators alone
pub members_same : {P : Type 0} (ranks : ℕ) (h : History P) (e : Entry P) (c : ℕ) → Exists h c → members ranks (h ++ e ∷ []) c ≡ members ranks h c
members_same ranks h e c here =
    ap (λ past. members_by ranks past c) (reverse_push h e) ∙ (ap (λ w. members_after (members ranks h) w (made_by e.event) c) (reverse-reverse h) ∙ kept (made_by e.event))
  where
    kept : (made : Option (ℕ × ℕ)) → members_after (members ranks h) h made c ≡ members ranks h c
    kept None = refl
    kept (Some made) =
        let other : (c == length (spawns h) + 1) ≡ false = ne_eqb c (length (spawns h) + 1) (λ same. omega (arith, here, same)) in
        ap (λ b. cond b (without (members ranks h made.0) (group_among (members ranks h made.0) h made.0 made.1)) (members ranks h c)) other

-- a new communicator has the members of its parent but for the group that its round leaves out
pub members_made : {P : Type 0} (ranks : ℕ) (h : History P) (e : Entry P) (j c k : ℕ) → made_by e.event ≡ Some (c, k) → j ≡ length (spawns h) + 1 → members ranks (h ++ e ∷ []) j ≡ without (members ranks h c) (group_among (members ranks h c) h c k)
members_made ranks h e j c k makes next =
    let this : (j == length (spawns h) + 1) ≡ true = eq-eqb j (length (spawns h) + 1) next in
    ap (λ past. members_by ranks past j) (reverse_push h e)
    ∙ (ap (λ w. members_after (members ranks h) w (made_by e.event) j) (reverse-reverse h)
    ∙ (ap (λ made. members_after (members ranks h) h made j) makes
    ∙ ap (λ b. cond b (without (members ranks h c) (group_among (members ranks h c) h c k)) (members ranks h j)) this))

-- an existing communicator stays, with the same members
pub members_stay : {P : Type 0} (ranks : ℕ) (h longer : History P) (c : ℕ) → IsPrefix h longer → Exists h c → Exists longer c × (members ranks longer c ≡ members ranks h c)
members_stay {P = P} ranks h longer c begins here = subst (λ w. Exists w c × (members ranks w c ≡ members ranks h c)) begins.1 (go h begins.0 (here, refl))
  where
    go : (w rest : History P) → Exists w c × (members ranks w c ≡ members ranks h c) → Exists (w ++ rest) c × (members ranks (w ++ rest) c ≡ members ranks h c)
    go w [] both = subst (λ v. Exists v c × (members ranks v c ≡ members ranks h c)) (sym (append-nil w)) both
    go w (e ∷ rest) both =
        subst (λ v. Exists v c × (members ranks v c ≡ members ranks h c)) (append_assoc w (e ∷ []) rest)
        (go (w ++ e ∷ []) rest (exists_push w e c both.0, members_same ranks w e c both.0 ∙ both.1))
