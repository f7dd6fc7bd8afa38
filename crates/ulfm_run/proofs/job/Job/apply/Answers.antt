use Rattle.std.proofs.Common.{false, true, refl, vec_capacity, ◌∙◌}
use Rattle.ulfm_words.specs.Steps.{over}
use Rattle.ulfm_model.specs.Answers.{rank_of}
use Rattle.ulfm_model.specs.declared.call.Call.TheVariants as call
use Rattle.ulfm_run.proofs.{Applying.{applied_begins, applied_job, applied_step, at_value, on_error}, Lacking.{applied_keeps, applied_lacks, applied_polls, lacks_poll}}
use Rattle.ulfm_run.proofs.OtherRanks.{is_other}
use Rattle.ulfm_run.proofs.job.Job.apply.Goals as goal

pub returns-in-Fail : goal.returns-in-Fail
returns-in-Fail g c =
    record {
      about = rw c.in-Fail.is (rw c.deref.ensures.value at c.fail_by.ensures.about c.args.group.now.items);
      step = rw (← c.self.view_is, c.in-Fail.is) (rw c.deref.ensures.value at c.fail_by.ensures.step.step);
      memory = tt;
      kept = tt;
      group = tt;
      begins = rw (← c.self.view_is) c.fail_by.ensures.step.begins;
    }

pub returns-in-GetFailed : goal.returns-in-GetFailed
returns-in-GetFailed g c =
    record {
      about = rw c.in-GetFailed.is c.get_by.ensures.about;
      step = at_value c.get_by.result (applied_step g.P.Meld.meld g.W.Words.alone (over g.P.Packed.pack c.self.inside.world)
          (g.W.Words.sight c.self.inside.pass) c.args.self.now (g.W.Words.sight c.get_by.new.pass) c.self.inside.ranks c.deref_mut.result.now c.get_by.new.ranks
          c.deref_mut.ensures.value (c.get_by.auto.ranks ∙ c.deref_mut.ensures.len) c.self.view_is (call.GetFailed c.in-GetFailed.rank c.in-GetFailed.comm)
          c.args.asked.now c.in-GetFailed.is) c.get_by.ensures.step;
      memory = on_error c.get_by.result (λ few. rw c.in-GetFailed.is (applied_lacks false (over g.P.Packed.pack c.self.inside.world) (g.W.Words.sight c.self.inside.pass)
          c.args.self.now c.self.inside.ranks c.deref_mut.result.now c.deref_mut.ensures.value c.self.view_is c.in-GetFailed.rank c.in-GetFailed.comm _ _ few))
          c.get_by.ensures.memory;
      kept = on_error c.get_by.result (applied_keeps (over g.P.Packed.pack c.self.inside.world) (g.W.Words.sight c.self.inside.pass) c.args.self.now
          c.self.inside.ranks c.deref_mut.result.now c.get_by.new.ranks c.deref_mut.ensures.value (c.get_by.auto.ranks ∙ c.deref_mut.ensures.len)
          c.self.view_is) c.get_by.ensures.kept;
      group = c.get_by.ensures.group;
      begins = applied_begins g.P.Meld.meld g.W.Words.alone (over g.P.Packed.pack c.self.inside.world) (g.W.Words.sight c.self.inside.pass) c.args.self.now
          (g.W.Words.sight c.get_by.new.pass) c.self.inside.ranks c.deref_mut.result.now c.get_by.new.ranks c.deref_mut.ensures.value
          (c.get_by.auto.ranks ∙ c.deref_mut.ensures.len) c.self.view_is c.get_by.ensures.begins;
    }

pub returns-in-FailureGetAcked : goal.returns-in-FailureGetAcked
returns-in-FailureGetAcked g c =
    record {
      about = rw c.in-FailureGetAcked.is c.get_by-in-FailureGetAcked.ensures.about;
      step = at_value c.get_by-in-FailureGetAcked.result (applied_step g.P.Meld.meld g.W.Words.alone (over g.P.Packed.pack c.self.inside.world)
          (g.W.Words.sight c.self.inside.pass) c.args.self.now (g.W.Words.sight c.get_by-in-FailureGetAcked.new.pass) c.self.inside.ranks c.deref_mut-in-FailureGetAcked.result.now c.get_by-in-FailureGetAcked.new.ranks
          c.deref_mut-in-FailureGetAcked.ensures.value (c.get_by-in-FailureGetAcked.auto.ranks ∙ c.deref_mut-in-FailureGetAcked.ensures.len) c.self.view_is (call.FailureGetAcked c.in-FailureGetAcked.rank c.in-FailureGetAcked.comm)
          c.args.asked.now c.in-FailureGetAcked.is) c.get_by-in-FailureGetAcked.ensures.step;
      memory = on_error c.get_by-in-FailureGetAcked.result (λ few. rw c.in-FailureGetAcked.is (applied_lacks true (over g.P.Packed.pack c.self.inside.world) (g.W.Words.sight c.self.inside.pass)
          c.args.self.now c.self.inside.ranks c.deref_mut-in-FailureGetAcked.result.now c.deref_mut-in-FailureGetAcked.ensures.value c.self.view_is c.in-FailureGetAcked.rank c.in-FailureGetAcked.comm _ _ few))
          c.get_by-in-FailureGetAcked.ensures.memory;
      kept = on_error c.get_by-in-FailureGetAcked.result (applied_keeps (over g.P.Packed.pack c.self.inside.world) (g.W.Words.sight c.self.inside.pass) c.args.self.now
          c.self.inside.ranks c.deref_mut-in-FailureGetAcked.result.now c.get_by-in-FailureGetAcked.new.ranks c.deref_mut-in-FailureGetAcked.ensures.value (c.get_by-in-FailureGetAcked.auto.ranks ∙ c.deref_mut-in-FailureGetAcked.ensures.len)
          c.self.view_is) c.get_by-in-FailureGetAcked.ensures.kept;
      group = c.get_by-in-FailureGetAcked.ensures.group;
      begins = applied_begins g.P.Meld.meld g.W.Words.alone (over g.P.Packed.pack c.self.inside.world) (g.W.Words.sight c.self.inside.pass) c.args.self.now
          (g.W.Words.sight c.get_by-in-FailureGetAcked.new.pass) c.self.inside.ranks c.deref_mut-in-FailureGetAcked.result.now c.get_by-in-FailureGetAcked.new.ranks c.deref_mut-in-FailureGetAcked.ensures.value
          (c.get_by-in-FailureGetAcked.auto.ranks ∙ c.deref_mut-in-FailureGetAcked.ensures.len) c.self.view_is c.get_by-in-FailureGetAcked.ensures.begins;
    }

pub call_by-requires-clause-other : goal.call_by-requires-clause-other
call_by-requires-clause-other g c = is_other c.args.asked.now c.in_default.not-Fail c.in_default.not-GetFailed c.in_default.not-FailureGetAcked

pub returns-in_default : goal.returns-in_default
returns-in_default g c =
    record {
      about = c.call_by.ensures.about;
      step = at_value c.call_by.result (applied_step g.P.Meld.meld g.W.Words.alone (over g.P.Packed.pack c.self.inside.world)
          (g.W.Words.sight c.self.inside.pass) c.args.self.now (g.W.Words.sight c.call_by.new.pass) c.self.inside.ranks c.deref_mut-in_default.result.now
          c.call_by.new.ranks c.deref_mut-in_default.ensures.value (c.call_by.auto.ranks ∙ c.deref_mut-in_default.ensures.len) c.self.view_is c.args.asked.now
          c.args.asked.now refl) c.call_by.ensures.step;
      memory = on_error c.call_by.result (λ polls.
          lacks_poll (vec_capacity c.args.group.now) c.args.self.now _ c.args.asked.now
          (is_other c.args.asked.now c.in_default.not-Fail c.in_default.not-GetFailed c.in_default.not-FailureGetAcked)
          (applied_polls (over g.P.Packed.pack c.self.inside.world) (g.W.Words.sight c.self.inside.pass) c.args.self.now c.self.inside.ranks
          c.deref_mut-in_default.result.now c.deref_mut-in_default.ensures.value c.self.view_is (rank_of c.args.asked.now) c.args.asked.now polls))
          c.call_by.ensures.memory;
      kept = on_error c.call_by.result (applied_keeps (over g.P.Packed.pack c.self.inside.world) (g.W.Words.sight c.self.inside.pass) c.args.self.now
          c.self.inside.ranks c.deref_mut-in_default.result.now c.call_by.new.ranks c.deref_mut-in_default.ensures.value
          (c.call_by.auto.ranks ∙ c.deref_mut-in_default.ensures.len) c.self.view_is) c.call_by.ensures.kept;
      group = c.call_by.ensures.group;
      begins = applied_begins g.P.Meld.meld g.W.Words.alone (over g.P.Packed.pack c.self.inside.world) (g.W.Words.sight c.self.inside.pass) c.args.self.now
          (g.W.Words.sight c.call_by.new.pass) c.self.inside.ranks c.deref_mut-in_default.result.now c.call_by.new.ranks c.deref_mut-in_default.ensures.value
          (c.call_by.auto.ranks ∙ c.deref_mut-in_default.ensures.len) c.self.view_is c.call_by.ensures.begins;
    }

pub invariant_of-self-in-GetFailed : goal.invariant_of-self-in-GetFailed
invariant_of-self-in-GetFailed g c = applied_job g.P.Meld.meld g.W.Words.alone (over g.P.Packed.pack c.self.inside.world)
    (g.W.Words.sight c.self.inside.pass) c.args.self.now (g.W.Words.sight c.get_by.new.pass) c.self.inside.ranks c.deref_mut.result.now c.get_by.new.ranks
    c.deref_mut.ensures.value (c.get_by.auto.ranks ∙ c.deref_mut.ensures.len) c.self.view_is c.get_by.ensures.job

pub invariant_of-self-in-FailureGetAcked : goal.invariant_of-self-in-FailureGetAcked
invariant_of-self-in-FailureGetAcked g c = applied_job g.P.Meld.meld g.W.Words.alone (over g.P.Packed.pack c.self.inside.world)
    (g.W.Words.sight c.self.inside.pass) c.args.self.now (g.W.Words.sight c.get_by-in-FailureGetAcked.new.pass) c.self.inside.ranks c.deref_mut-in-FailureGetAcked.result.now c.get_by-in-FailureGetAcked.new.ranks
    c.deref_mut-in-FailureGetAcked.ensures.value (c.get_by-in-FailureGetAcked.auto.ranks ∙ c.deref_mut-in-FailureGetAcked.ensures.len) c.self.view_is c.get_by-in-FailureGetAcked.ensures.job

pub invariant_of-self-in_default : goal.invariant_of-self-in_default
invariant_of-self-in_default g c = applied_job g.P.Meld.meld g.W.Words.alone (over g.P.Packed.pack c.self.inside.world)
    (g.W.Words.sight c.self.inside.pass) c.args.self.now (g.W.Words.sight c.call_by.new.pass) c.self.inside.ranks c.deref_mut-in_default.result.now
    c.call_by.new.ranks c.deref_mut-in_default.ensures.value (c.call_by.auto.ranks ∙ c.deref_mut-in_default.ensures.len) c.self.view_is c.call_by.ensures.job

pub invariant_of-self : goal.invariant_of-self
invariant_of-self g c = rw c.deref.ensures.value at c.fail_by.ensures.step.job
