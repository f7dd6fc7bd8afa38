-- Revocations, and what is asked of them.
use Rattle.std.proofs.Common.{◌≡◌, ℕ, ◌<◌, ◌≤◌, Bool, true, false, [], ◌∷◌, Some, None, refl, ap, sym, arith, inl, inr, IsTrue, MatchBool}
use mathlib.Core.List.{IsPrefix}
use Rattle.ulfm_model.specs.declared.call.Call.TheVariants as call
use Rattle.ulfm_model.specs.declared.{event.Caller.TheVariants.{Rank}, event.Event.TheVariants.{Revoke}, limits.Limits.{Limits}}
use Rattle.ulfm_model.specs.declared.reply.Reply.TheVariants.{AlreadyRevoked, Revoked, Standing}
use Rattle.ulfm_model.specs.{History.{History, IsLegal, is_revoked}, Records.{Fits, Held, Record, held_at}, Runs.{Did}, Words.{MayOpen}}
use Rattle.ulfm_model.proofs.Stable.{revoke_stays}
use Rattle.ulfm_words.specs.{Steps.{IsAdded, IsView, Over, Sight}, Tries.{MayEnd}}
use Rattle.ulfm_words.proofs.{Growing.{revoked_stays}, Ranks.{spawns_below}, Trails.{did_added}}
use Rattle.ulfm_words.specs.Steps.{view_at}
use Rattle.ulfm_comm.specs.{Calls.{Linearizes}, Look.{Looked}, Revokes.{revoked}}
use Rattle.ulfm_comm.proofs.{CallRuns.{calls_is}, Holding.{comm_is, exists_is}, WholeCall.{held_before, replied}, Refusals.{by_tests}}
use Rattle.ulfm_comm.specs.Local.{local}

-- a communicator that isn't revoked wasn't before
pub standing_before : {P : Type 0} (h longer : History P) (c : ℕ) → IsPrefix h longer → is_revoked longer c ≡ false → is_revoked h c ≡ false
standing_before h longer c begins standing = go (is_revoked h c) refl
  where
    go : (b : Bool) → is_revoked h c ≡ b → b ≡ false
    go false is = refl
    go true is = absurd (cc (revoked_stays h longer c begins is, standing))

-- a communicator that a rank holds
module _ {P : Type 0} (meld : P → P → P) (limits : Limits) (look : History P) (own : Record) (c : ℕ) (x : Held) (fits : Fits meld limits look own)
    (held : held_at own c ≡ Some x) where
  -- has a place of its own
  pub held_below : IsLegal meld limits look → MayOpen limits → c < limits.comms
  held_below legal may =
      let few = spawns_below meld limits look legal may.in_range.some_comms in
      let exists = exists_is meld limits look own c x fits held in
      omega (arith, few, exists)

  -- and may be revoked while it isn't
  pub held_may_end : MayEnd meld limits look c
  held_may_end more begins legal standing =
      revoke_stays meld limits look more c begins legal (exists_is meld limits look own c x fits held, standing_before look more c begins standing) standing

module _ {P : Type 0} (meld : P → P → P) (alone : Bool) (name : Over P) (before look after : Sight P) (onward : before.steps ≤ after.steps) (rank c : ℕ)
    (old mid : Record) (fits : Fits meld name.limits before.seen old)
    (looked : Looked alone before.seen look.seen old mid) (now : Fits meld name.limits look.seen mid) (x : Held) (held : held_at mid c ≡ Some x) where
  -- the communicator is revoked, by this call or before
  pub calls_revoked : (won : Bool) → IsView meld (view_at name after) → MatchBool won (IsAdded alone (record { by = Rank old.number; event = Revoke c }) look.seen
      after.seen) (Did alone [] look.seen after.seen) → IsTrue (is_revoked after.seen c)
      → Linearizes meld alone (call.Revoke rank c) (local old (view_at name before)) (revoked won) (local mid (view_at name after))
  calls_revoked true of outcome stands =
      calls_is meld alone name before after onward (call.Revoke rank c) old Revoked mid of fits (λ is no. absurd (cc (is, no)))
      (replied meld name.limits alone before.seen look.seen old mid looked after.seen (Revoke c ∷ []) (call.Revoke rank c) Revoked mid x
      (did_added alone (record { by = Rank old.number; event = Revoke c }) look.seen after.seen outcome) of.legal
      (held_before meld name.limits alone before.seen look.seen old mid looked c (Some x) held)
      (by_tests meld alone name before look (call.Revoke rank c) old mid fits looked x held None refl)
      (ap Revoke (sym (comm_is meld name.limits look.seen mid c x now held)), tt) (stands, inl (refl, refl)) refl (λ here polls. absurd (cc polls)))
  calls_revoked false of outcome stands =
      calls_is meld alone name before after onward (call.Revoke rank c) old AlreadyRevoked mid of fits (λ is no. absurd (cc (is, no)))
      (replied meld name.limits alone before.seen look.seen old mid looked after.seen [] (call.Revoke rank c) AlreadyRevoked mid x outcome of.legal
      (held_before meld name.limits alone before.seen look.seen old mid looked c (Some x) held)
      (by_tests meld alone name before look (call.Revoke rank c) old mid fits looked x held None refl)
      tt (stands, inr (refl, refl)) refl (λ here polls. absurd (cc polls)))

  -- whether the communicator is revoked, at the end
  pub calls_standing : (found : Bool) → IsView meld (view_at name after) → Did alone [] look.seen after.seen → found ≡ is_revoked after.seen c
      → Linearizes meld alone (call.IsRevoked rank c) (local old (view_at name before)) (Standing found) (local mid (view_at name after))
  calls_standing found of did is =
      calls_is meld alone name before after onward (call.IsRevoked rank c) old (Standing found) mid of fits (λ is no. absurd (cc (is, no)))
      (replied meld name.limits alone before.seen look.seen old mid looked after.seen [] (call.IsRevoked rank c) (Standing found) mid x did of.legal
      (held_before meld name.limits alone before.seen look.seen old mid looked c (Some x) held)
      (by_tests meld alone name before look (call.IsRevoked rank c) old mid fits looked x held None refl)
      tt (ap Standing is) refl (λ here polls. absurd (cc polls)))
