-- A communicator that is given back.
use Rattle.std.proofs.Common.{◌≡◌, ℕ, ◌≤◌, ◌==◌, Bool, not, [], filter, Some, None, refl}
use Rattle.ulfm_model.specs.declared.call.Call.TheVariants as call
use Rattle.ulfm_model.specs.declared.reply.Reply.TheVariants.{Freed}
use Rattle.ulfm_model.specs.{Answers.{first_refusal}, Records.{Fits, Held, Record, held_at}}
use Rattle.ulfm_model.specs.Terms.{tests_of}
use Rattle.ulfm_words.specs.Steps.{IsView, Over, Sight, view_at}
use Rattle.ulfm_words.proofs.Trails.{did_none}
use Rattle.ulfm_comm.specs.{Calls.{Linearizes}, Look.{Looked}}
use Rattle.ulfm_comm.proofs.{CallRuns.{calls_is}, WholeCall.{held_before, replied}, Refusals.{by_tests}}
use Rattle.ulfm_comm.specs.Local.{local}

-- the rank holds all but this one
pub calls_freed : {P : Type 0} (meld : P → P → P) (alone : Bool) (name : Over P) (before after : Sight P) → before.steps ≤ after.steps
    → (rank c : ℕ) (old mid new : Record) → IsView meld (view_at name after) → Fits meld name.limits before.seen old
    → Looked alone before.seen after.seen old mid → (x : Held) → held_at mid c ≡ Some x → first_refusal (tests_of {P = P} old x (call.Free rank c)) ≡ None
    → new ≡ record mid { held = filter (λ y. not (y.comm == c)) mid.held }
    → Linearizes meld alone (call.Free rank c) (local old (view_at name before)) Freed (local new (view_at name after))
calls_freed {P} meld alone name before after onward rank c old mid new of fits looked x held passed is =
    calls_is meld alone name before after onward (call.Free rank c) old Freed new of fits (λ is no. absurd (cc (is, no)))
    (replied meld name.limits alone before.seen after.seen old mid looked after.seen [] (call.Free rank c) Freed new x (did_none alone after.seen) of.legal
    (held_before meld name.limits alone before.seen after.seen old mid looked c (Some x) held)
    (by_tests meld alone name before after (call.Free rank c) old mid fits looked x held None passed) tt refl is
    (λ here polls. absurd (cc polls)))
