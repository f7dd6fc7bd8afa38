-- Two calls that are equal by their derived test are one.
use Rattle.std.proofs.Common.{◌≡◌, ℕ, Bool, IsTrue, arith}
use Rattle.ulfm_laws.specs.{Flags.{same_flag}, declared.flag_and.FlagAnd.{FlagAnd}}
use Rattle.ulfm_laws.specs.contracts.flag_and.FlagAnd as flag
use Rattle.ulfm_laws.specs.contracts.flag_and.FlagAndPartialEq.TheImpl as flag_eq
use Rattle.ulfm_model.specs.contracts.call.CallPartialEq.TheImpl as call_eq
use Rattle.ulfm_model.specs.declared.call.Call.{Call}
use Rattle.ulfm_model.specs.declared.call.Call.TheVariants as call

-- the derived test of calls
abbrev is_call : Call FlagAnd → Call FlagAnd → Bool
is_call = (call_eq.ghosts flag.the_row flag_eq.ghosts call_eq.no_dict).eq

-- Two starts of an agree that are equal by it are one.
same_agree : (r s c d : ℕ) (v w : FlagAnd) → IsTrue (is_call (call.Agree r c v) (call.Agree s d w)) → call.Agree r c v ≡ call.Agree s d w
same_agree r s c d v w t =
    let rank : r ≡ s = grind arith in
    let comm : c ≡ d = grind arith in
    let bits : v.bits ≡ w.bits = grind arith in
    let flag = same_flag v w bits in cc

-- Two calls that are equal by it are one.
pub same_call : (a b : Call FlagAnd) → IsTrue (is_call a b) → a ≡ b
same_call (call.Fail r) b t = grind arith
same_call (call.GetFailed r c) b t = grind arith
same_call (call.Ack r c n) b t = grind arith
same_call (call.FailureAck r c) b t = grind arith
same_call (call.FailureGetAcked r c) b t = grind arith
same_call (call.Agree r c v) b t = grind (arith, same_agree)
same_call (call.Shrink r c) b t = grind arith
same_call (call.Barrier r c) b t = grind arith
same_call (call.Poll r c) b t = grind arith
same_call (call.Revoke r c) b t = grind arith
same_call (call.IsRevoked r c) b t = grind arith
same_call (call.Free r c) b t = grind arith
