-- Two replies that are equal by their derived test are one.
use Rattle.std.proofs.Common.{◌≡◌, ℕ, Bool, true, false, IsTrue, rules, arith}
use denote.Enum.Bare.{same_true}
use Rattle.ulfm_laws.specs.{Flags.{same_flag}, declared.flag_and.FlagAnd.{FlagAnd}}
use Rattle.ulfm_laws.specs.contracts.flag_and.FlagAnd as flag
use Rattle.ulfm_laws.specs.contracts.flag_and.FlagAndPartialEq.TheImpl as flag_eq
use Rattle.ulfm_model.specs.contracts.refusal.Refusal.{the_type}
use Rattle.ulfm_model.specs.contracts.refusal.RefusalPartialEq.TheImpl as refusal_eq
use Rattle.ulfm_model.specs.contracts.reply.ReplyPartialEq.TheImpl as reply_eq
use Rattle.ulfm_model.specs.declared.{refusal.Refusal.{Refusal}, reply.Reply.{Reply}}
use Rattle.ulfm_model.specs.declared.reply.Reply.TheVariants as reply

-- Two refusals that are equal by their derived test are one.
same_refusal : (x y : Refusal) → refusal_eq.ghosts.eq x y ≡ true → x ≡ y
same_refusal x y t = same_true the_type (search rules) x y t

-- the derived test of replies
abbrev is_reply : Reply FlagAnd → Reply FlagAnd → Bool
is_reply = (reply_eq.ghosts flag.the_row flag_eq.ghosts reply_eq.no_dict).eq

-- Two decisions that are equal by it are one.
same_agreed : (v w : FlagAnd) (f g : ℕ) (r s : Bool) → IsTrue (is_reply (reply.Agreed r f v) (reply.Agreed s g w)) → reply.Agreed r f v ≡ reply.Agreed s g w
same_agreed v w f g true true t =
    let bits : v.bits ≡ w.bits = grind arith in
    let count : f ≡ g = grind arith in
    let flag = same_flag v w bits in cc
same_agreed v w f g false false t =
    let bits : v.bits ≡ w.bits = grind arith in
    let count : f ≡ g = grind arith in
    let flag = same_flag v w bits in cc
same_agreed v w f g true false t = grind arith
same_agreed v w f g false true t = grind arith

-- Two replies that are equal by it are one.
pub same_reply : (a b : Reply FlagAnd) → IsTrue (is_reply a b) → a ≡ b
same_reply reply.Started b t = grind arith
same_reply reply.Pending b t = grind arith
same_reply (reply.Agreed r f v) b t = grind (arith, same_agreed)
same_reply (reply.Shrunk c x s) b t = grind arith
same_reply reply.Done b t = grind arith
same_reply (reply.FailedGroup c) b t = grind arith
same_reply (reply.Acked c) b t = grind arith
same_reply reply.Declared b t = grind arith
same_reply reply.AlreadyFailed b t = grind arith
same_reply reply.Revoked b t = grind arith
same_reply reply.AlreadyRevoked b t = grind arith
same_reply (reply.Standing true) b t = grind arith
same_reply (reply.Standing false) b t = grind arith
same_reply reply.Freed b t = grind arith
same_reply (reply.Refused x) b t = grind (arith, same_refusal)
