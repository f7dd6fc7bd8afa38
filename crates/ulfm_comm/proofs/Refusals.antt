-- A call's refusal is that of the tests of the rank's record.
use Rattle.std.proofs.Common.{◌≡◌, Bool, Option, Some, ap, ◌∙◌}
use Rattle.ulfm_model.specs.declared.{call.Call.{Call}, refusal.Refusal.{Refusal}}
use Rattle.ulfm_model.specs.{Answers.{first_refusal, refusal_of, refusal_on}, Records.{Fits, Held, Record, held_at}}
use Rattle.ulfm_model.specs.Terms.{comm_of, tests_of}
use Rattle.ulfm_words.specs.Steps.{Over, Sight}
use Rattle.ulfm_comm.specs.Look.{Looked}
use Rattle.ulfm_comm.proofs.WholeCall.{held_before}

module _ {P : Type 0} (meld : P → P → P) (alone : Bool) (name : Over P) (before after : Sight P) (asked : Call P) (old mid : Record)
    (fits : Fits meld name.limits before.seen old)
    (looked : Looked alone before.seen after.seen old mid) (x : Held) (held : held_at mid (comm_of asked) ≡ Some x) where
  -- the refusal is that of the tests, whether there is one
  pub by_tests : (refusal : Option Refusal) → first_refusal (tests_of old x asked) ≡ refusal → refusal_of old asked ≡ refusal
  by_tests refusal is = ap (λ w. refusal_on old w asked) (held_before meld name.limits alone before.seen after.seen old mid looked (comm_of asked)
      (Some x) held) ∙ is
