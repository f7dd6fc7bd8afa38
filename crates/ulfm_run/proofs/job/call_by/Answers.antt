use Rattle.std.proofs.Common.{◌≡◌, [], refl, append-nil, slice_set, ap, sym, subst, ◌∙◌, arith}
use Rattle.std.proofs.lemmas.{List.{set-get_or}, Result.{IfOk-from_err}}
use Rattle.ulfm_model.specs.declared.event.Caller.TheVariants.{Rank}
use Rattle.ulfm_model.specs.declared.refusal.Refusal.TheVariants.{OutOfMemory}
use Rattle.ulfm_model.specs.declared.reply.Reply.TheVariants.{Refused}
use Rattle.ulfm_model.specs.Terms.{comm_of}
use Rattle.ulfm_comm.specs.Counts.{records_of}
use Rattle.ulfm_run.specs.Jobs.{crew, IsAbout, IsJob, StepsBy, state_seen}
use Rattle.ulfm_run.proofs.{Jobs.{at_error, ranked_fits, ranked_missing}, Lacking.{keeps_same, polls_shrink}}
use Rattle.ulfm_run.proofs.OtherRanks.{by_rank, mine, other_about, other_begins, other_few, other_job, other_keeps, other_made, other_polls, other_step, out_polls}
use Rattle.ulfm_run.proofs.job.call_by.Goals as goal
use Rattle.ulfm_run.proofs.job.call_by.Goals.{After-call-reply, After-from_residual-in_err-put_members-in-Shrunk, In-Shrunk}
use Rattle.ulfm_words.specs.Steps.{over, view_of}

pub returns-then-rank-ranks-clause-step : goal.returns-then-rank-ranks-clause-step
returns-then-rank-ranks-clause-step g c =
    ranked_missing g.P.Meld.meld g.W.Words.alone (over g.P.Packed.pack c.args.world.now) (g.W.Words.sight c.args.pass.now) c.args.ranks.now c.requires.job
    c.args.asked c.rank_of-rank.result
    (by_rank c.args.asked c.requires.other ∙ ap Rank (sym c.rank_of-rank.ensures)) c.if-rank-ranks.true

pub returns-then-rank-ranks-clause-job : goal.returns-then-rank-ranks-clause-job
returns-then-rank-ranks-clause-job g c = c.requires.job

pub returns-then-rank-ranks-clause-begins : goal.returns-then-rank-ranks-clause-begins
returns-then-rank-ranks-clause-begins g c = ([], append-nil _)

pub returns-then-rank-ranks-clause-about : goal.returns-then-rank-ranks-clause-about
returns-then-rank-ranks-clause-about g c = refl

pub returns-then-rank-ranks-clause-memory : goal.returns-then-rank-ranks-clause-memory
returns-then-rank-ranks-clause-memory g c = tt

pub returns-in_err-make_room_for-clause-job : goal.returns-in_err-make_room_for-clause-job
returns-in_err-make_room_for-clause-job g c =
    subst (λ rs. IsJob g.P.Meld.meld g.W.Words.alone (view_of g.P.Packed.pack c.args.world.now (g.W.Words.sight c.args.pass.now)) (records_of rs))
    (sym (set-get_or c.args.ranks.now c.rank_of-rank.result c.index-ranks-rank.result)) c.requires.job

pub returns-in_err-make_room_for-clause-begins : goal.returns-in_err-make_room_for-clause-begins
returns-in_err-make_room_for-clause-begins g c = ([], append-nil _)

pub returns-in_err-make_room_for-clause-memory : goal.returns-in_err-make_room_for-clause-memory
returns-in_err-make_room_for-clause-memory g c =
    at_error c.from_residual.result (polls_shrink g.P.Meld.meld g.W.Words.alone (over g.P.Packed.pack c.args.world.now)
    (g.W.Words.sight c.args.pass.now) c.args.ranks.now c.requires.job c.args.asked c.rank_of-rank.result c.index-ranks-rank.result c.rank_of-rank.ensures
    (omega (arith, c.if-rank-ranks.false)) c.in_err-make_room_for.ensures.memory)

pub returns-in_err-make_room_for-clause-kept : goal.returns-in_err-make_room_for-clause-kept
returns-in_err-make_room_for-clause-kept g c = at_error c.from_residual.result (keeps_same c.args.ranks.now c.rank_of-rank.result c.index-ranks-rank.result)

pub returns-in_err-make_room_for-clause-group : goal.returns-in_err-make_room_for-clause-group
returns-in_err-make_room_for-clause-group g c = at_error c.from_residual.result c.make_room_for.ensures.kept

pub call-reply-requires-clause-of : goal.call-reply-requires-clause-of
call-reply-requires-clause-of g c = c.requires.job.of

pub call-reply-requires-clause-fits : goal.call-reply-requires-clause-fits
call-reply-requires-clause-fits g c =
    ranked_fits g.P.Meld.meld g.W.Words.alone (over g.P.Packed.pack c.args.world.now) (g.W.Words.sight c.args.pass.now) c.args.ranks.now c.requires.job
    c.rank_of-rank.result c.index-ranks-rank.result (omega (arith, c.if-rank-ranks.false))

pub call-reply-requires-clause-mine : goal.call-reply-requires-clause-mine
call-reply-requires-clause-mine g c =
    mine g.P.Meld.meld g.W.Words.alone (over g.P.Packed.pack c.args.world.now) (g.W.Words.sight c.args.pass.now) c.args.ranks.now c.requires.job c.args.asked
    c.requires.other c.rank_of-rank.result c.index-ranks-rank.result c.rank_of-rank.ensures (omega (arith, c.if-rank-ranks.false))

-- the call is one step, unless memory ran out
stepped : (g : _) (c : After-call-reply g) → (c.call-reply.result ≡ Refused OutOfMemory → ⊥)
    → StepsBy g.P.Meld.meld g.W.Words.alone c.args.asked (crew (view_of g.P.Packed.pack c.args.world.now (g.W.Words.sight c.args.pass.now)) (records_of c.args.ranks.now)) c.call-reply.result (crew (view_of g.P.Packed.pack c.args.world.now (g.W.Words.sight c.call-reply.new.pass)) (records_of (slice_set c.args.ranks.now c.rank_of-rank.result c.call-reply.new.self)))
stepped g c kept =
    other_step g.P.Meld.meld g.W.Words.alone (over g.P.Packed.pack c.args.world.now) (g.W.Words.sight c.args.pass.now) c.args.ranks.now c.requires.job
    c.args.asked c.requires.other c.rank_of-rank.result c.index-ranks-rank.result c.rank_of-rank.ensures (omega (arith, c.if-rank-ranks.false))
    c.call-reply.new.self (g.W.Words.sight c.call-reply.new.pass) c.call-reply.result c.call-reply.ensures.ends kept

pub returns-in-OutOfMemory : goal.returns-in-OutOfMemory
returns-in-OutOfMemory g c =
    let out = c.in-Refused.is ∙ ap Refused c.in-OutOfMemory.is in
    record {
      step = tt;
      job = other_job g.P.Meld.meld g.W.Words.alone (over g.P.Packed.pack c.args.world.now) (g.W.Words.sight c.args.pass.now) c.args.ranks.now c.requires.job
          c.args.asked c.requires.other c.rank_of-rank.result c.index-ranks-rank.result c.rank_of-rank.ensures (omega (arith, c.if-rank-ranks.false))
          c.call-reply.new.self (g.W.Words.sight c.call-reply.new.pass) c.call-reply.result c.call-reply.ensures.ends out;
      begins = other_begins g.P.Meld.meld g.W.Words.alone (over g.P.Packed.pack c.args.world.now) (g.W.Words.sight c.args.pass.now) c.args.ranks.now
          c.requires.job c.args.asked c.requires.other c.rank_of-rank.result c.index-ranks-rank.result c.rank_of-rank.ensures
          (omega (arith, c.if-rank-ranks.false)) c.call-reply.new.self (g.W.Words.sight c.call-reply.new.pass) c.call-reply.result c.call-reply.ensures.ends
          out;
      about = tt;
      memory = out_polls g.P.Meld.meld g.W.Words.alone (over g.P.Packed.pack c.args.world.now) (g.W.Words.sight c.args.pass.now) c.args.ranks.now c.requires.job
          c.args.asked c.requires.other c.rank_of-rank.result c.index-ranks-rank.result c.rank_of-rank.ensures (omega (arith, c.if-rank-ranks.false))
          c.call-reply.new.self (g.W.Words.sight c.call-reply.new.pass) c.call-reply.result c.call-reply.ensures.ends out;
      kept = other_keeps g.P.Meld.meld g.W.Words.alone (over g.P.Packed.pack c.args.world.now) (g.W.Words.sight c.args.pass.now) c.args.ranks.now c.requires.job
          c.args.asked c.requires.other c.rank_of-rank.result c.index-ranks-rank.result c.rank_of-rank.ensures (omega (arith, c.if-rank-ranks.false))
          c.call-reply.new.self (g.W.Words.sight c.call-reply.new.pass) c.call-reply.result c.call-reply.ensures.ends out;
      group = c.make_room_for.ensures.kept;
    }

pub returns-in_default-refusal : goal.returns-in_default-refusal
returns-in_default-refusal g c =
    let at = (goal.at.returns-in_default-refusal g c).After-call-reply in
    let step = subst (λ r. StepsBy g.P.Meld.meld g.W.Words.alone c.args.asked (crew (view_of g.P.Packed.pack c.args.world.now (g.W.Words.sight c.args.pass.now)) (records_of c.args.ranks.now)) r (crew (view_of g.P.Packed.pack c.args.world.now (g.W.Words.sight c.call-reply.new.pass)) (records_of
    (slice_set c.args.ranks.now c.rank_of-rank.result c.call-reply.new.self)))) c.in-Refused.is
    (stepped g at (λ out. c.in_default-refusal.not-OutOfMemory (cc (c.in-Refused.is, out)))) in
    record { step = step; job = step.job; begins = step.begins; about = c.make_room_for.ensures.kept; memory = tt; kept = tt; group = tt }

-- where a communicator was made
made : (g : _) (c : In-Shrunk g) → c.call-reply.result ≡ Refused OutOfMemory → ⊥
made g c out = cc (out, c.in-Shrunk.is)

pub returns-in_ok-put_members-in-Shrunk : goal.returns-in_ok-put_members-in-Shrunk
returns-in_ok-put_members-in-Shrunk g c =
    let at = goal.at.returns-in_ok-put_members-in-Shrunk g c in
    let step = subst (λ r. StepsBy g.P.Meld.meld g.W.Words.alone c.args.asked (crew (view_of g.P.Packed.pack c.args.world.now (g.W.Words.sight c.args.pass.now)) (records_of c.args.ranks.now)) r (crew (view_of g.P.Packed.pack c.args.world.now (g.W.Words.sight c.call-reply.new.pass)) (records_of
    (slice_set c.args.ranks.now c.rank_of-rank.result c.call-reply.new.self)))) c.in-Shrunk.is (stepped g at.After-call-reply (made g at.In-Shrunk)) in
    let about = other_made g.P.Meld.meld g.W.Words.alone (over g.P.Packed.pack c.args.world.now) (g.W.Words.sight c.args.pass.now) c.args.ranks.now
    c.requires.job c.args.asked c.requires.other c.rank_of-rank.result c.index-ranks-rank.result c.rank_of-rank.ensures
    (omega (arith, c.if-rank-ranks.false)) c.call-reply.new.self (g.W.Words.sight c.call-reply.new.pass) c.call-reply.result c.call-reply.ensures.ends
    (made g at.In-Shrunk) c.in-Shrunk.comm c.in-Shrunk.context c.in-Shrunk.size c.in-Shrunk.is (comm_of c.args.asked) c.args.found.now.items
    c.put_members.new.found.items c.in_ok-put_members-in-Shrunk.ensures.ok in
    record { step = step; job = step.job; begins = step.begins; about = rw c.in-Shrunk.is at about; memory = tt; kept = tt; group = tt }

pub returns-in_err-put_members-in-Shrunk-clause-job : goal.returns-in_err-put_members-in-Shrunk-clause-job
returns-in_err-put_members-in-Shrunk-clause-job g c =
    let at = goal.at.returns-in_err-put_members-in-Shrunk-clause-job g c in (stepped g at.After-call-reply (made g at.In-Shrunk)).job

pub returns-in_err-put_members-in-Shrunk-clause-begins : goal.returns-in_err-put_members-in-Shrunk-clause-begins
returns-in_err-put_members-in-Shrunk-clause-begins g c =
    let at = goal.at.returns-in_err-put_members-in-Shrunk-clause-begins g c in (stepped g at.After-call-reply (made g at.In-Shrunk)).begins

-- the members have room, since they are no more than the parent's
full : (g : _) (c : After-from_residual-in_err-put_members-in-Shrunk g) → ⊥
full g c =
    let out : c.call-reply.result ≡ Refused OutOfMemory → ⊥ = λ is. cc (is, c.in-Shrunk.is) in
    let lacks = c.in_err-put_members-in-Shrunk.ensures.lacks in
    let parent = other_few g.P.Meld.meld g.W.Words.alone (over g.P.Packed.pack c.args.world.now) (g.W.Words.sight c.args.pass.now) c.args.ranks.now
    c.requires.job c.args.asked c.requires.other c.rank_of-rank.result c.index-ranks-rank.result c.rank_of-rank.ensures
    (omega (arith, c.if-rank-ranks.false)) c.call-reply.new.self (g.W.Words.sight c.call-reply.new.pass) c.call-reply.result c.call-reply.ensures.ends out
    c.in-Shrunk.comm c.in-Shrunk.context c.in-Shrunk.size c.in-Shrunk.is lacks.0 lacks.1 in
    let polls = other_polls g.P.Meld.meld g.W.Words.alone (over g.P.Packed.pack c.args.world.now) (g.W.Words.sight c.args.pass.now) c.args.ranks.now
    c.requires.job c.args.asked c.requires.other c.rank_of-rank.result c.index-ranks-rank.result c.rank_of-rank.ensures
    (omega (arith, c.if-rank-ranks.false)) c.call-reply.new.self (g.W.Words.sight c.call-reply.new.pass) c.call-reply.result c.call-reply.ensures.ends out
    c.in-Shrunk.comm c.in-Shrunk.context c.in-Shrunk.size c.in-Shrunk.is in
    let room = c.in_ok-make_room_for.ensures.room polls parent.x parent.held parent.shrinks in
    omega (arith, lacks.2, parent.few, room)

pub returns-in_err-put_members-in-Shrunk-clause-memory : goal.returns-in_err-put_members-in-Shrunk-clause-memory
returns-in_err-put_members-in-Shrunk-clause-memory g c = absurd (full g c)

pub returns-in_err-put_members-in-Shrunk-clause-kept : goal.returns-in_err-put_members-in-Shrunk-clause-kept
returns-in_err-put_members-in-Shrunk-clause-kept g c = absurd (full g c)

pub returns-in_err-put_members-in-Shrunk-clause-group : goal.returns-in_err-put_members-in-Shrunk-clause-group
returns-in_err-put_members-in-Shrunk-clause-group g c = absurd (full g c)

pub returns-in_default : goal.returns-in_default
returns-in_default g c =
    let kept : c.call-reply.result ≡ Refused OutOfMemory → ⊥ = c.in_default.not-Refused OutOfMemory in
    let step = other_step g.P.Meld.meld g.W.Words.alone (over g.P.Packed.pack c.args.world.now) (g.W.Words.sight c.args.pass.now) c.args.ranks.now
    c.requires.job c.args.asked c.requires.other c.rank_of-rank.result c.index-ranks-rank.result c.rank_of-rank.ensures
    (omega (arith, c.if-rank-ranks.false)) c.call-reply.new.self (g.W.Words.sight c.call-reply.new.pass) c.call-reply.result c.call-reply.ensures.ends
    kept in
    record {
      step = step;
      job = step.job;
      begins = step.begins;
      about =
          subst (λ old. IsAbout (state_seen (view_of g.P.Packed.pack c.args.world.now (g.W.Words.sight c.call-reply.new.pass))
          (records_of (slice_set c.args.ranks.now c.rank_of-rank.result c.call-reply.new.self))) (comm_of c.args.asked) old c.make_room_for.new.found.items
          c.call-reply.result) c.make_room_for.ensures.kept
          (other_about g.P.Meld.meld g.W.Words.alone (over g.P.Packed.pack c.args.world.now) (g.W.Words.sight c.args.pass.now) c.args.ranks.now c.requires.job
          c.args.asked c.requires.other c.rank_of-rank.result c.index-ranks-rank.result c.rank_of-rank.ensures
          (omega (arith, c.if-rank-ranks.false)) c.call-reply.new.self (g.W.Words.sight c.call-reply.new.pass) c.call-reply.result c.call-reply.ensures.ends
          kept (comm_of c.args.asked) c.make_room_for.new.found.items c.in_default.not-Shrunk c.in_default.not-Refused);
      memory = tt;
      kept = tt;
      group = tt;
    }

pub returns-in_err-make_room_for-clause-step : goal.returns-in_err-make_room_for-clause-step
returns-in_err-make_room_for-clause-step g c = IfOk-from_err c.from_residual.result _ c.from_residual.ensures.0

pub returns-in_err-make_room_for-clause-about : goal.returns-in_err-make_room_for-clause-about
returns-in_err-make_room_for-clause-about g c = IfOk-from_err c.from_residual.result _ c.from_residual.ensures.0

pub returns-in_err-put_members-in-Shrunk-clause-step : goal.returns-in_err-put_members-in-Shrunk-clause-step
returns-in_err-put_members-in-Shrunk-clause-step g c = IfOk-from_err c.from_residual-in_err-put_members-in-Shrunk.result _
    c.from_residual-in_err-put_members-in-Shrunk.ensures.0

pub returns-in_err-put_members-in-Shrunk-clause-about : goal.returns-in_err-put_members-in-Shrunk-clause-about
returns-in_err-put_members-in-Shrunk-clause-about g c = IfOk-from_err c.from_residual-in_err-put_members-in-Shrunk.result _
    c.from_residual-in_err-put_members-in-Shrunk.ensures.0
