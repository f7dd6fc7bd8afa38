-- What walks and histories keep.
use Rattle.std.proofs.Common.{◌≡◌, ℕ, ◌==◌, Bool, true, false, Option, Some, None, ap, ◌∙◌, arith, if◌then◌else◌}
use Rattle.std.specs.Prelude.{⊤}
use Rattle.std.proofs.lemmas.Option.{same_Some}
use mathlib.Core.List.{IsPrefix}
use Rattle.ulfm_laws.specs.{Flags.{flag_meld}, declared.flag_and.FlagAnd.{FlagAnd}}
use Rattle.ulfm_model.specs.declared.{call.Call.{Call}, limits.Limits.{Limits}}
use Rattle.ulfm_model.specs.declared.call.Call.TheVariants as call
use Rattle.ulfm_model.specs.declared.reply.Reply.TheVariants as reply_of
use Rattle.ulfm_model.specs.{History.{Exists, History, IsLegal}, Records.{Record}}
use Rattle.ulfm_observed.specs.declared.log.{Seen.{Seen}, Seen.TheVariants.{Agreed, Shrunk, Whole}}
use Rattle.ulfm_observed.specs.Stages.{starts}
use Rattle.ulfm_observed.specs.declared.walk.Walk.{Walk}
use Rattle.ulfm_observed.specs.Refuted.{answered, begun, is_due, is_refused, is_started, one_less, polled, polled_world, start_answered, went_on}
use Rattle.ulfm_observed.specs.Tells.{IsSaid, Reaches, Tells}
use Rattle.ulfm_model.proofs.Staying.{decision_lasts, gave_lasts}

-- what is said of a history is said of every longer legal one
module _ (limits : Limits) (r k : ℕ) (h longer : History FlagAnd) (begins : IsPrefix h longer) (legal : IsLegal flag_meld limits longer) where
  exists : Exists h 0
  exists = omega arith

  tells_last : (seen : Seen) → Tells limits k h seen → Tells limits k longer seen
  tells_last seen t = record { reply = t.reply; decided = decision_lasts flag_meld limits h longer begins legal 0 k t.reply exists t.decided; seen_is = t.seen_is }

  pub said_lasts : (walk : Walk) → IsSaid limits r k h walk → IsSaid limits r k longer walk
  said_lasts walk said =
      record {
        gave = λ flag some. gave_lasts flag_meld limits h longer begins legal 0 k r flag (said.gave flag some);
        told = λ seen some. tells_last seen (said.told seen some);
      }

  pub reaches_last : (own : Record) (walk : Walk) → Reaches limits r k h own walk → Reaches limits r k longer own walk
  reaches_last own walk is = record { x = is.x; held = is.held; at = is.at; said = said_lasts walk is.said }

-- the call that is under way is no part of it
pub said_call : (limits : Limits) (r k : ℕ) (h : History FlagAnd) (walk : Walk) (now : Option (Call FlagAnd)) → IsSaid limits r k h walk → IsSaid limits r k h (record walk { under_way = now })
said_call limits r k h walk now is = record { gave = is.gave; told = is.told }

pub reaches_call : (limits : Limits) (r k : ℕ) (h : History FlagAnd) (own : Record) (walk : Walk) (now : Option (Call FlagAnd)) → Reaches limits r k h own walk
    → Reaches limits r k h own (record walk { under_way = now })
reaches_call limits r k h own walk now is =
    record { x = is.x; held = is.held; at = record { left = is.at.left; waits = is.at.waits }; said = record { gave = is.said.gave; told = is.said.told } }

-- a reply leaves no call under way that wasn't
abbrev pub IsFree : Option Walk → Type 0
IsFree None = ⊤
IsFree (Some walk) = walk.under_way ≡ None

pub begun_free : (a : Call FlagAnd) (walk : Walk) → walk.under_way ≡ None → (begun a walk).under_way ≡ None
begun_free (call.Agree p c flag) walk free = go (c == 0)
  where
    go : (b : Bool) → (if b then record walk { left = one_less walk.left; gave = if is_due walk.left then Some flag else walk.gave; waits = is_due walk.left } else walk).under_way ≡ None
    go true = free
    go false = free
begun_free (call.Shrink p c) walk free = go (c == 0)
  where
    go : (b : Bool) → (if b then record walk { left = one_less walk.left; waits = false } else walk).under_way ≡ None
    go true = free
    go false = free
begun_free (call.Barrier p c) walk free = go (c == 0)
  where
    go : (b : Bool) → (if b then record walk { waits = false } else walk).under_way ≡ None
    go true = free
    go false = free
begun_free _ walk free = free

went_free : (seen : Seen) (walk : Walk) → walk.under_way ≡ None → IsFree (went_on seen walk)
went_free seen walk free = go (is_refused seen)
  where
    go : (b : Bool) → IsFree (if b then None else Some walk)
    go true = tt
    go false = free

world_free : (seen : Seen) (walk : Walk) → walk.under_way ≡ None → IsFree (polled_world seen walk)
world_free (Agreed value failed raised) walk free = free
world_free (Shrunk comm context) walk free = free
world_free (Whole reply_of.Done) walk free = free
world_free (Whole reply_of.Pending) walk free = free
world_free (Whole _) walk free = tt

pub polled_free : (c : ℕ) (seen : Seen) (walk : Walk) → walk.under_way ≡ None → IsFree (polled c seen walk)
polled_free c seen walk free = go (c == 0)
  where
    go : (b : Bool) → IsFree (if b then polled_world seen walk else went_on seen walk)
    go true = world_free seen walk free
    go false = went_free seen walk free

start_free : (c : ℕ) (a : Call FlagAnd) (seen : Seen) (walk : Walk) → walk.under_way ≡ None → IsFree (start_answered c a seen walk)
start_free c a seen walk free = go (is_started seen)
  where
    go : (b : Bool) → IsFree (if b then Some (begun a walk) else polled c seen (begun a walk))
    go true = begun_free a walk free
    go false = polled_free c seen (begun a walk) (begun_free a walk free)

pub answered_free : (a : Call FlagAnd) (seen : Seen) (walk : Walk) → walk.under_way ≡ None → IsFree (answered a seen walk)
answered_free (call.Agree p c flag) seen walk free = start_free c (call.Agree p c flag) seen walk free
answered_free (call.Shrink p c) seen walk free = start_free c (call.Shrink p c) seen walk free
answered_free (call.Barrier p c) seen walk free = start_free c (call.Barrier p c) seen walk free
answered_free (call.Poll p c) seen walk free = polled_free c seen walk free
answered_free (call.Free p c) seen walk free = go (c == 0)
  where
    go : (b : Bool) → IsFree (if b then None else went_on seen walk)
    go true = tt
    go false = went_free seen walk free
answered_free (call.Fail p) seen walk free = tt
answered_free (call.GetFailed p c) seen walk free = went_free seen walk free
answered_free (call.FailureGetAcked p c) seen walk free = went_free seen walk free
answered_free (call.Ack p c n) seen walk free = went_free seen walk free
answered_free (call.FailureAck p c) seen walk free = went_free seen walk free
answered_free (call.Revoke p c) seen walk free = went_free seen walk free
answered_free (call.IsRevoked p c) seen walk free = went_free seen walk free

late_is : (a : Call FlagAnd) (c d : ℕ) (seen : Seen) (walk : Walk) → c ≡ d → is_started seen ≡ false → start_answered c a seen walk ≡ polled d seen (begun a walk)
late_is a c d seen walk same late =
    ap (λ (b : Bool). if b then Some (begun a walk) else polled c seen (begun a walk)) late ∙ ap (λ n. polled n seen (begun a walk)) same

-- a start that was answered by the poll behind it
pub answered_late : (a : Call FlagAnd) (d : ℕ) (seen : Seen) (walk : Walk) → starts a ≡ Some d → is_started seen ≡ false → answered a seen walk ≡ polled d seen (begun a walk)
answered_late (call.Agree p c flag) d seen walk is late = late_is (call.Agree p c flag) c d seen walk (same_Some {A = ℕ} _ _ is) late
answered_late (call.Shrink p c) d seen walk is late = late_is (call.Shrink p c) c d seen walk (same_Some {A = ℕ} _ _ is) late
answered_late (call.Barrier p c) d seen walk is late = late_is (call.Barrier p c) c d seen walk (same_Some {A = ℕ} _ _ is) late
answered_late _ d seen walk is late = absurd (cc is)
