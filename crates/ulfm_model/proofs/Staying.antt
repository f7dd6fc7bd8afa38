-- Replies stay what they are.
use Rattle.std.proofs.Common.{◌≡◌, ◌⊎◌, ℕ, ◌-◌, ◌<◌, Bool, List, inl, inr, ap, sym, ◌∙◌, subst, length, IsTrue, arith}
use mathlib.Core.List.{IsPrefix}
use Rattle.ulfm_model.specs.declared.{contribution.Slot.TheVariants.{Given}, limits.Limits.{Limits}, refusal.Refusal.{Refusal}, refusal.Refusal.TheVariants.{Busy, Idle, IsRevoked, Mismatch, NoContext, NoRoom, NoSuchComm, NoSuchRank, OutOfMemory, ProcFailed, RoundsUsedUp, SelfFailed, ShrinkOpen, Twice, WorldKept}, reply.Reply.{Reply}, reply.Reply.TheVariants.{Agreed, Shrunk}}
use Rattle.ulfm_model.specs.History.{Decision, Exists, History, IsLegal, failures, has, spawns}
use Rattle.ulfm_model.proofs.{Decisions.{decision_stays}, Histories.{failures_begin, members_stay, slot_stays}, Lists.{get_prefix, has_prefix, in_list, length_prefix}, Stable.{context_stays, spawns_begin}, StepsShrinks.{spawns_fit}}
use Rattle.ulfm_model.specs.{Rounds.{AreAgreed, Gave, IsDecision, IsMadeOf, IsReason, IsRefusal}, Told.{RepliesStay}}

module _ {P : Type 0} (meld : P → P → P) (limits : Limits) (h longer : History P) (begins : IsPrefix h longer) (legal : IsLegal meld limits longer) where
  -- the communicator exists of a round that is told of
  pub gave_lasts : (c k r : ℕ) (flag : P) → Gave h c k r flag → Gave longer c k r flag
  gave_lasts c k r flag gave = record { given = gave.given; stands = slot_stays h longer c k r (Given gave.given) begins gave.stands; flag_is = gave.flag_is }

  pub decision_lasts : (c k : ℕ) (reply : Reply P) → Exists h c → IsDecision meld limits h c k reply → IsDecision meld limits longer c k reply
  decision_lasts c k reply here is =
      let stays = decision_stays meld limits h longer c k begins legal here is.decided in
      record {
        decided = stays.0;
        value = is.value;
        body = ap (λ (d : Decision P). d.body) stays.1 ∙ is.body;
        reply_is = subst (λ (d : Decision P). reply ≡ Agreed d.raised (length d.failed) is.value) (sym stays.1) is.reply_is;
      }

  pub made_lasts : (c k r : ℕ) (reply : Reply P) → Exists h c → IsMadeOf meld limits h c k r reply → IsMadeOf meld limits longer c k r reply
  made_lasts c k r reply here is =
      let stays = decision_stays meld limits h longer c k begins legal here is.decided in
      let below = in_list (spawns h) (is.comm - 1) (c, k) is.made in
      let above = is.above in
      let same = (members_stay limits.ranks h longer is.comm begins (omega (arith, below, above))).1 in
      record {
        decided = stays.0;
        comm = is.comm;
        above = is.above;
        made = get_prefix (spawns h) (spawns longer) (is.comm - 1) (c, k) (spawns_begin h longer begins) is.made;
        context = is.context;
        context_is = context_stays meld limits h longer is.comm is.context begins legal is.context_is;
        member = subst (λ g. IsTrue (has g r)) (sym same) is.member;
        reply_is = subst (λ ms. reply ≡ Shrunk is.comm is.context (length ms)) (sym same) is.reply_is;
      }

  reason_lasts : 0 < limits.comms → (c k r : ℕ) (spread : Bool) (refusal : Refusal) → Exists h c → IsReason meld limits h (c, k) r spread refusal → IsReason meld limits longer (c, k) r spread refusal
  reason_lasts room c k r spread SelfFailed here is = has_prefix (failures h) (failures longer) r (failures_begin h longer begins) is
  reason_lasts room c k r spread Twice here (inl is) = inl (is.0, slot_stays h longer c k r (Given is.0) begins is.1)
  reason_lasts room c k r spread Twice here (inr wing) = inr wing
  reason_lasts room c k r spread Mismatch here is = let stays = decision_stays meld limits h longer c k begins legal here is.0 in (stays.0, ap (λ (d : Decision P). d.body) stays.1 ∙ is.1)
  reason_lasts room c k r spread NoContext here is = let stays = decision_stays meld limits h longer c k begins legal here is.0 in (stays.0, (is.1.0, ap (λ (d : Decision P). d.body) stays.1 ∙ is.1.1, is.1.2))
  reason_lasts room c k r spread NoRoom here is =
      let more = length_prefix (spawns h) (spawns longer) (spawns_begin h longer begins) in
      let most = spawns_fit meld limits longer legal room in
      omega (arith, is, more, most)
  reason_lasts room c k r spread NoSuchComm here is = absurd is
  reason_lasts room c k r spread Busy here is = absurd is
  reason_lasts room c k r spread ShrinkOpen here is = absurd is
  reason_lasts room c k r spread RoundsUsedUp here is = absurd is
  reason_lasts room c k r spread Idle here is = absurd is
  reason_lasts room c k r spread IsRevoked here is = absurd is
  reason_lasts room c k r spread ProcFailed here is = absurd is
  reason_lasts room c k r spread WorldKept here is = absurd is
  reason_lasts room c k r spread NoSuchRank here is = absurd is
  reason_lasts room c k r spread OutOfMemory here is = absurd is

  pub refusal_lasts : 0 < limits.comms → (c k r : ℕ) (reply : Reply P) → Exists h c → IsRefusal meld limits h c k r reply → IsRefusal meld limits longer c k r reply
  refusal_lasts room c k r reply here is = record { refusal = is.refusal; reply_is = is.reply_is; spread = is.spread; reason = reason_lasts room c k r is.spread is.refusal here is.reason }

  pub agreed_last : (c : ℕ) (flag : ℕ → P) (r : ℕ) (agreed : List (Reply P)) → Exists h c → AreAgreed meld limits h c flag r agreed → AreAgreed meld limits longer c flag r agreed
  agreed_last c flag r agreed here each k reply at = let was = each k reply at in (decision_lasts c k reply here was.0, gave_lasts c k r (flag k) was.1)

module _ {P : Type 0} (meld : P → P → P) where
  pub replies_last : RepliesStay meld
  replies_last limits h longer c rounds flag r replies room here begins legal is = record {
    agreed = is.agreed;
    last = is.last;
    all = is.all;
    few = is.few;
    each = agreed_last meld limits h longer begins legal c flag r is.agreed here is.each;
    ends = go is.ends;
  }
    where
      go : IsRefusal meld limits h c (length is.agreed) r is.last ⊎ ((length is.agreed ≡ rounds) × IsMadeOf meld limits h c rounds r is.last) → IsRefusal meld limits longer c (length is.agreed) r is.last ⊎ ((length is.agreed ≡ rounds) × IsMadeOf meld limits longer c rounds r is.last)
      go (inl refused) = inl (refusal_lasts meld limits h longer begins legal room c (length is.agreed) r is.last here refused)
      go (inr made) = inr (made.0, made_lasts meld limits h longer begins legal c rounds r is.last here made.1)
