-- That a reply is an answer to a start or to an agreement's poll is decided by tests that compute.
use Rattle.std.proofs.Common.{◌≡◌, ◌⊎◌, ◌≤◌, ◌<◌, ◌+◌, ◌==◌, ℕ, Bool, [], ◌∷◌, length, Option, Some, None, refl, sym, ap, ap₂, ◌∙◌, subst, IsTrue, IsFalse, inl, inr}
use Rattle.std.specs.Bool.{Decides}
use Rattle.std.specs.Coded.{le_prop}
use Rattle.std.proofs.lemmas.Bool.Decides.{Decides-and, Decides-like, Decides-or}
use Rattle.ulfm_laws.specs.declared.{summary.Acked.{Acked}, summary.Body.{Body}, summary.CtxMask.{CtxMask}, summary.Known.{Known}}
use Rattle.ulfm_laws.specs.{Counts.{same_acked, same_known}, Masks.{same_mask}}
use Rattle.ulfm_model.specs.declared.{event.Event.{Event}, limits.Limits.{Limits}, refusal.Refusal.{Refusal}, reply.Reply.{Reply}}
use Rattle.ulfm_model.specs.declared.{contribution.Contribution.{Contribution}, contribution.Offer.{Offer}, contribution.Slot.{Slot}}
use Rattle.ulfm_model.specs.Answers.{AgreeReplies, ShrinkReplies, StartReplies, AtPoint}
use Rattle.ulfm_model.specs.Computed.{lowest_id}
use Rattle.ulfm_model.specs.History.{Decision, History, has, is_made, made_of, members, slot, spawns}
use Rattle.ulfm_model.specs.Records.{Held, IsLowestId, Record}
use Rattle.ulfm_model.proofs.LowestId.{lowest_is as lowest_of}
use Rattle.ulfm_model.proofs.OnlySpawned.{lowest_is}
use Rattle.ulfm_judge.specs.declared.replies.Due.{Due}
use Rattle.ulfm_judge.specs.CallsAt.{CallAt, call_of}
use Rattle.ulfm_judge.specs.ReplyTests.{agree_test, clash_test, due_of, flag_test, full_test, given_test, gives_test, least_test, made_test, no_ids_test, offer_test, same_offer, shrink_test, shrunk_test, stands_test, unmade_test}
use Rattle.ulfm_numbers.proofs.Deciding.{eq_decides, false_decides, ids_decides, lt_decides, never_decides, true_decides}
use Rattle.ulfm_judge.proofs.Replying.{answer_decides, empty_decides, only_decides, refusal_decides}

-- contributions with equal offers and counts are one
same_given : {P : Type 0} (x y : Contribution P) → x.offer ≡ y.offer → x.known ≡ y.known → x.acked ≡ y.acked → x ≡ y
same_given {P = P} x y offers known acked =
    let Q : Offer P → Known → Acked → Type 0 = λ o m n. (within : n.count ≤ m.count) → x ≡ record { offer = o; known = m; acked = n; within = within } in
    let make : (x.acked.count ≤ x.known.count) → Contribution P = λ w. record { offer = x.offer; known = x.known; acked = x.acked; within = w } in
    subst (λ o. Q o y.known y.acked) offers (subst (λ m. Q x.offer m y.acked) known (subst (λ n. Q x.offer x.known n) acked (λ w. ap make (le_prop x.within w)))) y.within

-- a contribution is the one that is due
abbrev IsThat : {P : Type 0} → Due P → Contribution P → Type 0
IsThat due given = (given.offer ≡ due.offer) × ((given.known.count ≡ due.known) × (given.acked.count ≡ due.acked))

-- there is one such
same_that : {P : Type 0} (due : Due P) (x y : Contribution P) → IsThat due x → IsThat due y → x ≡ y
same_that due x y one other =
    same_given x y (one.0 ∙ sym other.0) (same_known x.known y.known (one.1.0 ∙ sym other.1.0)) (same_acked x.acked y.acked (one.1.1 ∙ sym other.1.1))

-- a communicator was made of this round
made_decides : (o : Option (ℕ × ℕ)) (c k : ℕ) → Decides (made_test o c k) (o ≡ Some (c, k))
made_decides None c k = never_decides (λ e. cc e)
made_decides (Some made) c k =
    Decides-like _ (λ p. ap₂ (λ x y. Some (x, y)) p.0 p.1)
    (λ e. let same : made ≡ (c, k) = cc e in (ap (λ (x : ℕ × ℕ). x.0) same, ap (λ (x : ℕ × ℕ). x.1) same))
    (Decides-and _ _ (eq_decides (made.0) c) (eq_decides (made.1) k))

clash_decides : {P : Type 0} (body : Body P) → Decides (clash_test body) (body ≡ Body.Clash)
clash_decides Body.Clash = (λ e. refl, λ e. refl)
clash_decides _ = never_decides (λ e. cc e)

no_ids_decides : {P : Type 0} (body : Body P) → Decides (no_ids_test body) ((mask : CtxMask) × (body ≡ Body.Ctx mask) × (mask.bits ≡ 0))
no_ids_decides (Body.Ctx mask) =
    Decides-like _ (λ none. (mask, refl, none)) (λ m. let same : m.0 ≡ mask = cc (m.1) in ap (λ (x : CtxMask). x.bits) (sym same) ∙ m.2) (eq_decides mask.bits 0)
no_ids_decides _ = never_decides (λ m. cc (m.1))

least_decides : {P : Type 0} (body : Body P) (context : ℕ) → Decides (least_test body context) ((mask : CtxMask) × (body ≡ Body.Ctx mask) × (0 < mask.bits) × (context ≡ lowest_id mask.bits))
least_decides (Body.Ctx mask) context =
    Decides-like _ (λ p. (mask, refl, p.0, p.1))
    (λ m. let same : m.0 ≡ mask = cc (m.1) in (subst (λ (x : CtxMask). 0 < x.bits) same m.2, m.3 ∙ ap (λ (x : CtxMask). lowest_id x.bits) same))
    (Decides-and _ _ (lt_decides 0 mask.bits) (eq_decides context (lowest_id mask.bits)))
least_decides _ context = never_decides (λ m. cc (m.1))

module _ {P : Type 0} (pack : P → ℕ) (tells : (x y : P) → pack x ≡ pack y → x ≡ y) where
  value_decides : (x y : P) → Decides (pack x == pack y) (x ≡ y)
  value_decides x y = Decides-like _ (tells x y) (λ e. ap pack e) (eq_decides (pack x) (pack y))

  -- two offers are one
  offer_decides : (x y : Offer P) → Decides (same_offer pack x y) (x ≡ y)
  offer_decides (Offer.Flag x) (Offer.Flag y) = Decides-like _ (λ e. ap Offer.Flag e) (λ e. cc e) (value_decides x y)
  offer_decides (Offer.Flag x) (Offer.Ctx y) = never_decides (λ e. cc e)
  offer_decides (Offer.Ctx x) (Offer.Flag y) = never_decides (λ e. cc e)
  offer_decides (Offer.Ctx x) (Offer.Ctx y) =
      Decides-like _ (λ e. ap Offer.Ctx (same_mask x y e)) (λ e. let same : x ≡ y = cc e in ap (λ (m : CtxMask). m.bits) same) (eq_decides x.bits y.bits)

  that_decides : (due : Due P) (given : Contribution P) → Decides (given_test pack due given) (IsThat due given)
  that_decides due given =
      Decides-and _ _ (offer_decides given.offer due.offer) (Decides-and _ _ (eq_decides given.known.count due.known) (eq_decides given.acked.count due.acked))

  -- an event is the contribution that is due, of a rank to a round
  gives_decides : (c k r : ℕ) (due : Due P) (event : Event P)
      → Decides (gives_test pack c k r due event) ((given : Contribution P) × (event ≡ Event.Settle c k r given) × IsThat due given)
  gives_decides c k r due (Event.Settle d l s given) =
      Decides-like _ (λ p. (given, cc (p.0, p.1.0, p.1.1.0), p.1.1.1))
      (λ q.
      let comm : d ≡ c = cc (q.1) in
      let round : l ≡ k = cc (q.1) in
      let rank : s ≡ r = cc (q.1) in
      let same : q.0 ≡ given = cc (q.1) in
      (comm, (round, (rank, subst (IsThat due) same q.2))))
      (Decides-and _ _ (eq_decides d c) (Decides-and _ _ (eq_decides l k) (Decides-and _ _ (eq_decides s r) (that_decides due given))))
  gives_decides c k r due _ = never_decides (λ q. cc (q.1))

  -- the contribution that is due stands there
  stands_decides : (due : Due P) (stood : Option (Slot P))
      → Decides (stands_test pack due stood) ((given : Contribution P) × (stood ≡ Some (Slot.Given given)) × IsThat due given)
  stands_decides due (Some (Slot.Given given)) =
      Decides-like _ (λ p. (given, refl, p)) (λ q. let same : q.0 ≡ given = cc (q.1) in subst (IsThat due) same q.2) (that_decides due given)
  stands_decides due (Some (Slot.Mark mark)) = never_decides (λ q. cc (q.1))
  stands_decides due None = never_decides (λ q. cc (q.1))

  -- the start of an agree or of a shrink is answered so, where the wing of its place may be set
  pub start_decides : (limits : Limits) (view : AtPoint P) → IsTrue view.spread → (old : Record) (x : Held) (offer : Offer P) (reply : Reply P)
      → Decides (offer_test pack (call_of limits view old) x offer reply) (StartReplies view old x offer reply)
  start_decides limits view wing old x offer Reply.Started =
      let due : Due P = due_of (call_of limits view old) x offer in
      Decides-like _
      (λ p.
      let own = p.0 in
      let gives = own.2 in
      let there = p.1 in
      let same : there.0 ≡ gives.0 = same_that due there.0 gives.0 there.2 gives.2 in
      inl (
        refl,
        record {
          given = gives.0;
          own = own.1 ∙ ap (λ e. e ∷ []) gives.1;
          stands = there.1 ∙ ap (λ g. Some (Slot.Given g)) same;
          offer_is = gives.2.0;
          known = gives.2.1.0;
          acked = gives.2.1.1;
        },
      ))
      (λ q. elim q [
        | inl a ↦
            let did = a.1 in
            let that : IsThat due did.given = (did.offer_is, (did.known, did.acked)) in
            ((Event.Settle x.comm x.next_agreement old.number did.given, did.own, (did.given, refl, that)), (did.given, did.stands, that))
        | inr b ↦ absurd (cc (b.0))
      ])
      (Decides-and _ _
      (only_decides (gives_test pack x.comm x.next_agreement old.number due)
      (λ event. (given : Contribution P) × (event ≡ Event.Settle x.comm x.next_agreement old.number given) × IsThat due given)
      (gives_decides x.comm x.next_agreement old.number due) view.own)
      (stands_decides due (slot view.history x.comm x.next_agreement old.number)))
  start_decides limits view wing old x offer (Reply.Refused refusal) =
      Decides-like _ (λ p. inr (ap Reply.Refused p.0, p.1, inr wing))
      (λ q. elim q [ inl a ↦ absurd (cc (a.0)) | inr b ↦ let same : refusal ≡ Refusal.Twice = cc (b.0) in (same, b.1) ])
      (Decides-and _ _ (refusal_decides refusal Refusal.Twice) (empty_decides view.own))
  start_decides limits view wing old x offer _ = never_decides (λ q. elim q [ inl a ↦ cc (a.0) | inr b ↦ cc (b.0) ])

  flag_decides : (body : Body P) (value : P) → Decides (flag_test pack body value) (body ≡ Body.Flag value)
  flag_decides (Body.Flag x) value = Decides-like _ (λ e. ap Body.Flag e) (λ e. cc e) (value_decides x value)
  flag_decides _ value = never_decides (λ e. cc e)

  -- what a pending round, or a decided one, is answered
  abbrev Either : Type 0 → Bool → Type 0 → Reply P → Type 0
  Either Late decided answers reply = (Late × (reply ≡ Reply.Pending)) ⊎ (IsTrue decided × answers)

  module _ (Late : Type 0) (late : Bool) (pending : Decides late Late) (decided : Bool) (made : Decision P) where
    -- an agree's poll is answered so
    pub agree_decides : (reply : Reply P) → Decides (agree_test pack late decided made reply) (Either Late decided (AgreeReplies made reply) reply)
    agree_decides Reply.Pending =
        Decides-like _ (λ p. inl (p, refl)) (λ q. elim q [ inl a ↦ a.0 | inr b ↦ elim (b.1) [ inl f ↦ absurd (cc (f.2)) | inr g ↦ absurd (cc (g.1)) ] ]) pending
    agree_decides (Reply.Agreed raised count value) =
        Decides-like _
        (λ p. inr (p.0, inl (value, p.1.0, ap₂ (λ n b. Reply.Agreed b n value) p.1.1.0 p.1.1.1)))
        (λ q. elim q [
          | inl a ↦ absurd (cc (a.1))
          | inr b ↦ elim (b.1) [
            | inl f ↦
                let same : value ≡ f.0 = cc (f.2) in
                let size : count ≡ length made.failed = cc (f.2) in
                let told : raised ≡ made.raised = cc (f.2) in
                (b.0, (f.1 ∙ ap Body.Flag (sym same), (size, told)))
            | inr g ↦ absurd (cc (g.1))
          ]
        ])
        (Decides-and _ _ (true_decides decided)
        (Decides-and _ _ (flag_decides made.body value) (Decides-and _ _ (eq_decides count (length made.failed)) (answer_decides raised made.raised))))
    agree_decides (Reply.Refused refusal) =
        Decides-like _ (λ p. inr (p.0, inr (p.1.1, ap Reply.Refused p.1.0)))
        (λ q. elim q [
          | inl a ↦ absurd (cc (a.1))
          | inr b ↦ elim (b.1) [ inl f ↦ absurd (cc (f.2)) | inr g ↦ let same : refusal ≡ Refusal.Mismatch = cc (g.1) in (b.0, (same, g.0)) ]
        ])
        (Decides-and _ _ (true_decides decided) (Decides-and _ _ (refusal_decides refusal Refusal.Mismatch) (clash_decides made.body)))
    agree_decides _ = never_decides (λ q. elim q [ inl a ↦ cc (a.1) | inr b ↦ elim (b.1) [ inl f ↦ cc (f.2) | inr g ↦ cc (g.1) ] ])

    module _ (limits : Limits) (view : AtPoint P) (old : Record) (c k : ℕ) where
      abbrev call : CallAt P
      call = call_of limits view old

      abbrev h : History P
      h = view.history

      abbrev r : ℕ
      r = old.number

      -- no room is left for what a shrink would make
      full_decides : Decides (full_test call c k made)
          (((mask : CtxMask) × (made.body ≡ Body.Ctx mask) × (0 < mask.bits)) × (IsFalse (has made.failed r) × ((length (spawns h) + 1 ≡ limits.comms) × IsFalse (is_made h c k))))
      full_decides =
          Decides-and _ _ (ids_decides made.body)
          (Decides-and _ _ (false_decides (has made.failed r)) (Decides-and _ _ (eq_decides (length (spawns h) + 1) limits.comms) (false_decides (is_made h c k))))

      -- what a decided shrink is answered
      abbrev Decided : Reply P → Type 0
      Decided reply = ShrinkReplies limits h r c k made reply

      -- such a reply is that of a shrink that made a communicator, or a refusal
      not_other : (reply : Reply P) → ((j context size : ℕ) → reply ≡ Reply.Shrunk j context size → ⊥) → ((refusal : Refusal) → reply ≡ Reply.Refused refusal → ⊥) → Decided reply → ⊥
      not_other reply unmade unrefused answers = elim answers [
        | inl s ↦ elim (s.2) [
          | inl none ↦ unrefused Refusal.NoContext (none.1)
          | inr some ↦ elim (some.2) [
            | inl w ↦ unmade (w.0) (w.1) (length (members limits.ranks h (w.0))) (w.5)
            | inr full ↦ unrefused Refusal.NoRoom (full.2)
          ]
        ]
        | inr clash ↦ unrefused Refusal.Mismatch (clash.1)
      ]

      shrunk_decides : (j context size : ℕ) → Decides (shrunk_test call c k made (record { comm = j; context = context; size = size })) (Decided (Reply.Shrunk j context size))
      shrunk_decides j context size =
          Decides-like _
          (λ p.
          let m = p.0 in
          let least : IsLowestId (m.0).bits context = subst (IsLowestId (m.0).bits) (sym m.3) (lowest_of m.0 m.2) in
          inl (m.0, m.1, inr (m.2, p.1.0, inl (j, context, p.1.1.0, p.1.1.1.0, least, ap (λ n. Reply.Shrunk j context n) p.1.1.1.1))))
          (λ answers. elim answers [
            | inl s ↦ elim (s.2) [
              | inl none ↦ absurd (cc (none.1))
              | inr some ↦ elim (some.2) [
                | inl w ↦
                    let one : w.0 ≡ j = cc (w.5) in
                    let id : context ≡ w.1 = cc (w.5) in
                    let many : size ≡ length (members limits.ranks h (w.0)) = cc (w.5) in (
                      (s.0, s.1, some.0, id ∙ lowest_is (s.0).bits (w.1) (s.0).fits w.4),
                      (some.1, (subst (λ n. 0 < n) one w.2, (subst (λ n. made_of h n ≡ Some (c, k)) one w.3, many ∙ ap (λ n. length (members limits.ranks h n)) one))),
                    )
                | inr full ↦ absurd (cc (full.2))
              ]
            ]
            | inr clash ↦ absurd (cc (clash.1))
          ])
          (Decides-and _ _ (least_decides made.body context)
          (Decides-and _ _ (false_decides (has made.failed r))
          (Decides-and _ _ (lt_decides 0 j) (Decides-and _ _ (made_decides (made_of h j) c k) (eq_decides size (length (members limits.ranks h j)))))))

      unmade_decides : (refusal : Refusal) → Decides (unmade_test call c k made refusal) (Decided (Reply.Refused refusal))
      unmade_decides refusal =
          Decides-like _
          (λ p. elim p [
            | inl none ↦ inl (none.1.0, none.1.1, inl (none.1.2, ap Reply.Refused none.0))
            | inr (inl full) ↦ let m = full.1.0 in inl (m.0, m.1, inr (m.2, full.1.1.0, inr (full.1.1.1.0, full.1.1.1.1, ap Reply.Refused full.0)))
            | inr (inr clash) ↦ inr (clash.1, ap Reply.Refused clash.0)
          ])
          (λ answers. elim answers [
            | inl s ↦ elim (s.2) [
              | inl none ↦ let same : refusal ≡ Refusal.NoContext = cc (none.1) in inl (same, (s.0, s.1, none.0))
              | inr some ↦ elim (some.2) [
                | inl w ↦ absurd (cc (w.5))
                | inr full ↦ let same : refusal ≡ Refusal.NoRoom = cc (full.2) in inr (inl (same, ((s.0, s.1, some.0), (some.1, (full.0, full.1)))))
              ]
            ]
            | inr clash ↦ let same : refusal ≡ Refusal.Mismatch = cc (clash.1) in inr (inr (same, clash.0))
          ])
          (Decides-or _ _ (Decides-and _ _ (refusal_decides refusal Refusal.NoContext) (no_ids_decides made.body))
          (Decides-or _ _ (Decides-and _ _ (refusal_decides refusal Refusal.NoRoom) full_decides)
          (Decides-and _ _ (refusal_decides refusal Refusal.Mismatch) (clash_decides made.body))))

      -- a shrink's poll is answered so
      pub shrink_decides : (reply : Reply P) → Decides (shrink_test call c k late decided made reply) (Either Late decided (Decided reply) reply)
      shrink_decides Reply.Pending =
          Decides-like _ (λ p. inl (p, refl)) (λ q. elim q [ inl a ↦ a.0 | inr b ↦ absurd (not_other Reply.Pending (λ j context size e. cc e) (λ refusal e. cc e) (b.1)) ]) pending
      shrink_decides (Reply.Shrunk j context size) =
          Decides-like _ (λ p. inr p) (λ q. elim q [ inl a ↦ absurd (cc (a.1)) | inr b ↦ b ]) (Decides-and _ _ (true_decides decided) (shrunk_decides j context size))
      shrink_decides (Reply.Refused refusal) =
          Decides-like _ (λ p. inr p) (λ q. elim q [ inl a ↦ absurd (cc (a.1)) | inr b ↦ b ]) (Decides-and _ _ (true_decides decided) (unmade_decides refusal))
      shrink_decides _ = never_decides (λ q. elim q [ inl a ↦ cc (a.1) | inr b ↦ not_other _ (λ j context size e. cc e) (λ refusal e. cc e) (b.1) ])
