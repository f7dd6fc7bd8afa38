-- The tests of a call, which read of a record its limits and what it holds.
use Rattle.std.proofs.Common.{◌≡◌, refl}
use Rattle.ulfm_model.specs.declared.{call.Call.{Call}}
use Rattle.ulfm_model.specs.declared.call.Call.TheVariants as call
use Rattle.ulfm_model.specs.Records.{Held, Record}
use Rattle.ulfm_model.specs.Terms.{tests_of}
use Rattle.ulfm_model.specs.Kept.{tested}

-- a record has the tests of its limits and of what it holds
pub tests_are : {P : Type 0} (own : Record) (x : Held) (asked : Call P) → tests_of (tested own.limits own.held) x asked ≡ tests_of own x asked
tests_are own x (call.Fail rank) = refl
tests_are own x (call.GetFailed rank c) = refl
tests_are own x (call.FailureGetAcked rank c) = refl
tests_are own x (call.Ack rank c count) = refl
tests_are own x (call.FailureAck rank c) = refl
tests_are own x (call.Agree rank c value) = refl
tests_are own x (call.Shrink rank c) = refl
tests_are own x (call.Barrier rank c) = refl
tests_are own x (call.Poll rank c) = refl
tests_are own x (call.Revoke rank c) = refl
tests_are own x (call.IsRevoked rank c) = refl
tests_are own x (call.Free rank c) = refl
