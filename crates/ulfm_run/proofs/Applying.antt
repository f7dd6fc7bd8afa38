-- A call on the elements of a job's vector of ranks, as a call on the job.
use Rattle.std.proofs.Common.{◌≡◌, Bool, List, length, sym, subst, IsTrue}
use Rattle.std.specs.{Prelude.{Result, Ok, Err, IfOk, OnErr, Vec}, Vec.{with_items}}
use Rattle.std.proofs.lemmas.List.{with_items_is}
use mathlib.Core.List.{IsPrefix}
use Rattle.ulfm_model.specs.declared.{call.Call.{Call}, reply.Reply.{Reply}}
use Rattle.ulfm_model.specs.{Answers.{traits_of}, Runs.{IsStep, State}}
use Rattle.ulfm_words.specs.Steps.{Over, Sight, view_at}
use Rattle.ulfm_comm.specs.Counts.{Ranked, records_of}
use Rattle.ulfm_run.specs.Jobs.{crew, IsJob, StepsBy, state_seen}

-- what follows from a fact about a value follows where there is a value
pub at_value : {X E : Type 0} {Q R : X → Type 0} (result : Result X E) → ((x : X) → Q x → R x) → IfOk result Q → IfOk result R
at_value (Ok x) follows is = follows x is
at_value (Err fault) follows is = tt

-- what follows from a fact about an error follows where there is one
pub on_error : {X E : Type 0} {Q R : Type 0} (result : Result X E) → (Q → R) → OnErr result Q → OnErr result R
on_error (Ok x) follows is = tt
on_error (Err fault) follows is = follows is

-- The elements that the call was given are the vector's, those that it left fill the vector, and the state before it is known.
module _ {P Z : Type 0} (meld : P → P → P) (alone : Bool) (name : Over P) (before : Sight P) (old : State P) (after : Sight P) (v : Vec Ranked Z)
    (given new : List Ranked) (same : given ≡ v.items) (fills : length new ≡ v.len) (was : state_seen (view_at name before) (records_of v.items) ≡ old) where
  pub applied_step : (call asked : Call P) → asked ≡ call → (reply : Reply P) → StepsBy meld alone call (crew (view_at name before) (records_of given)) reply (crew (view_at name after) (records_of new))
      → IsTrue alone → IsStep meld old (traits_of asked).by asked reply (state_seen (view_at name after) (records_of (with_items v new).items))
  applied_step call asked is reply steps here =
      subst (λ c. IsStep meld old (traits_of c).by c reply (state_seen (view_at name after) (records_of (with_items v new).items))) (sym is)
      (subst (λ s. IsStep meld s (traits_of call).by call reply (state_seen (view_at name after) (records_of (with_items v new).items))) was
      (subst (λ rs. IsStep meld (state_seen (view_at name before) (records_of v.items)) (traits_of call).by call reply (state_seen (view_at name after) (records_of rs)))
      (sym (with_items_is v new fills))
      (subst (λ rs. IsStep meld (state_seen (view_at name before) (records_of rs)) (traits_of call).by call reply (state_seen (view_at name after) (records_of new))) same
      (steps.step here))))

  pub applied_begins : IsPrefix before.seen after.seen → IsPrefix old.history after.seen
  applied_begins begins = subst (λ (s : State P). IsPrefix s.history after.seen) was begins

  pub applied_job : IsJob meld alone (view_at name after) (records_of new) → IsJob meld alone (view_at name after) (records_of (with_items v new).items)
  applied_job job = subst (λ rs. IsJob meld alone (view_at name after) (records_of rs)) (sym (with_items_is v new fills)) job
