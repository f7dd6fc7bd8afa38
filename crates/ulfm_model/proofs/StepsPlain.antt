-- Calls that neither start nor poll: what is computed for them is an answer.
use Rattle.std.proofs.Common.{◌≡◌, ℕ, Bool, true, false, List, [], ◌∷◌, ◌++◌, Some, None, refl, ap, sym, ◌∙◌, subst, append-nil, nat_eq, filter_map, inl, inr, if◌then◌else◌}
use Rattle.std.proofs.lemmas.Bool.{eqb-true, eq-eqb, or_left, or_right}
use Rattle.std.proofs.lemmas.List.Elements.{filter_map-append}
use Rattle.std.proofs.lemmas.List.Folds.{list_any-append}
use Rattle.ulfm_model.specs.declared.call.Call.TheVariants as call
use Rattle.ulfm_model.specs.declared.reply.Reply.TheVariants.{AlreadyRevoked, Revoked}
use Rattle.ulfm_model.specs.declared.limits.Limits.{Limits}
use Rattle.ulfm_model.specs.declared.event.Caller.TheVariants.{Rank}
use Rattle.ulfm_model.specs.declared.event.Entry.{Entry}
use Rattle.ulfm_model.specs.declared.event.Event.TheVariants.{Revoke}
use Rattle.ulfm_model.specs.History.{History, failures, has, is_revoked, says}
use Rattle.ulfm_model.specs.{History.{Exists}, Records.{Fits, FitsHeld, Held, Record, held_at}}
use Rattle.ulfm_model.specs.Computed.{held_outcome}
use Rattle.ulfm_model.specs.Terms.{contexts_of}
use Rattle.ulfm_model.specs.Answers.{refusal_of}
use Rattle.ulfm_model.proofs.Lists.{find_holds}
use Rattle.ulfm_model.proofs.StepsAlone.{IsGood, call_good}

-- the last one is in a list
pub has_last : (xs : List ℕ) (r : ℕ) → has (xs ++ r ∷ []) r ≡ true
has_last xs r = list_any-append (λ x. nat_eq x r) xs (r ∷ []) ∙ or_right (has xs r) (has (r ∷ []) r) (or_left (nat_eq r r) false (eq-eqb r r refl))

module _ {P : Type 0} (meld : P → P → P) (limits : Limits) (h : History P) (own : Record) (fits : Fits meld limits h own) where
  -- what a fitting record holds fits, and has the number by which it is found
  pub holds : (c : ℕ) (x : Held) → held_at own c ≡ Some x → FitsHeld meld limits.ranks h own.number (contexts_of own.held) x × (x.comm ≡ c)
  holds c x at =
      let found = find_holds (λ y. nat_eq y.comm c) (FitsHeld meld limits.ranks h own.number (contexts_of own.held)) own.held x fits.held at in
      (found.0, eqb-true x.comm c found.1)

module _ {P : Type 0} (meld : P → P → P) (limits : Limits) (h : History P) (own : Record) (alive : has (failures h) own.number ≡ false) (x : Held) where
  -- a query of the failed group
  pub get_good : (rank c : ℕ) → held_at own c ≡ Some x → refusal_of {P = P} own (call.GetFailed rank c) ≡ None → IsGood meld limits h own (call.GetFailed rank c) (held_outcome meld limits h own x (call.GetFailed rank c))
  get_good rank c at passed =
      call_good meld limits h own (call.GetFailed rank c) x (held_outcome meld limits h own x (call.GetFailed rank c)) at passed alive tt tt (ap failures (append-nil h), refl) (λ polls. refl)

  -- an acknowledgement
  pub ack_good : (rank c count : ℕ) → held_at own c ≡ Some x → refusal_of {P = P} own (call.Ack rank c count) ≡ None → IsGood meld limits h own (call.Ack rank c count) (held_outcome meld limits h own x (call.Ack rank c count))
  ack_good rank c count at passed =
      call_good meld limits h own (call.Ack rank c count) x (held_outcome meld limits h own x (call.Ack rank c count)) at passed alive tt tt (ap failures (append-nil h), refl) (λ polls. refl)

  -- the same two by their older names
  pub get_acked_good : (rank c : ℕ) → held_at own c ≡ Some x → refusal_of {P = P} own (call.FailureGetAcked rank c) ≡ None → IsGood meld limits h own (call.FailureGetAcked rank c) (held_outcome meld limits h own x (call.FailureGetAcked rank c))
  get_acked_good rank c at passed =
      call_good meld limits h own (call.FailureGetAcked rank c) x (held_outcome meld limits h own x (call.FailureGetAcked rank c)) at passed alive tt tt (ap failures (append-nil h), refl) (λ polls. refl)

  pub failure_ack_good : (rank c : ℕ) → held_at own c ≡ Some x → refusal_of {P = P} own (call.FailureAck rank c) ≡ None → IsGood meld limits h own (call.FailureAck rank c) (held_outcome meld limits h own x (call.FailureAck rank c))
  failure_ack_good rank c at passed =
      call_good meld limits h own (call.FailureAck rank c) x (held_outcome meld limits h own x (call.FailureAck rank c)) at passed alive tt tt (ap failures (append-nil h), refl) (λ polls. refl)

  -- a query of a revocation
  pub standing_good : (rank c : ℕ) → held_at own c ≡ Some x → refusal_of {P = P} own (call.IsRevoked rank c) ≡ None → IsGood meld limits h own (call.IsRevoked rank c) (held_outcome meld limits h own x (call.IsRevoked rank c))
  standing_good rank c at passed =
      call_good meld limits h own (call.IsRevoked rank c) x (held_outcome meld limits h own x (call.IsRevoked rank c)) at passed alive tt tt refl (λ polls. refl)

  -- a communicator given back
  pub free_good : (rank c : ℕ) → held_at own c ≡ Some x → refusal_of {P = P} own (call.Free rank c) ≡ None → IsGood meld limits h own (call.Free rank c) (held_outcome meld limits h own x (call.Free rank c))
  free_good rank c at passed =
      call_good meld limits h own (call.Free rank c) x (held_outcome meld limits h own x (call.Free rank c)) at passed alive tt tt refl (λ polls. refl)

  -- a revocation
  pub revoke_good : (rank c : ℕ) → held_at own c ≡ Some x → refusal_of {P = P} own (call.Revoke rank c) ≡ None → Exists h x.comm → x.comm ≡ c
      → IsGood meld limits h own (call.Revoke rank c) (held_outcome meld limits h own x (call.Revoke rank c))
  revoke_good rank c at passed exists same = by_standing (is_revoked h c) refl
    where
      by_standing : (b : Bool) → is_revoked h c ≡ b → IsGood meld limits h own (call.Revoke rank c) (record { own = if b then [] else Revoke c ∷ []; reply = if b then AlreadyRevoked else Revoked })
      by_standing true stood =
          call_good meld limits h own (call.Revoke rank c) x (record { own = []; reply = AlreadyRevoked }) at passed alive tt tt
          (ap (λ w. is_revoked w c) (append-nil h) ∙ stood, inr (refl, refl)) (λ polls. refl)
      by_standing false stood =
          let entry : Entry P = record { by = Rank own.number; event = Revoke c } in
          let stands : is_revoked (h ++ entry ∷ []) c ≡ true =
          ap (λ cs. has cs c) (filter_map-append (λ e. (says e.event).revokes) h (entry ∷ [])) ∙ has_last (filter_map (λ e. (says e.event).revokes) h) c in
          call_good meld limits h own (call.Revoke rank c) x (record { own = Revoke c ∷ []; reply = Revoked }) at passed alive
          ((subst (Exists h) same exists, stood), tt) (ap Revoke (sym same), tt) (stands, inl (refl, refl)) (λ polls. refl)
