-- The typed calls, by the reply of a whole call.
use Rattle.std.proofs.Common.{◌≡◌, ◌∙◌, ℕ, Bool, true, false, List, [], ◌∷◌, length, filter, take, Some, None, Result, Ok, Err, IfOk, refl, ap, ap₂, sym, subst, inl, inr}
use Rattle.std.proofs.lemmas.Bool.{false≢true}
use Rattle.std.specs.{List.{AllByRecursion, Sorted.{IsStrictlyIncreasing}}, Prelude.{OnErr}, Result.{is_err}}
use Rattle.ulfm_model.specs.declared.{block.Beside.{Beside}, call.Call.{Call}, event.Caller.TheVariants.{Rank}, event.Event.{Event}, limits.Limits.{Limits}, reply.Reply.{Reply}}
use Rattle.ulfm_model.specs.declared.reply.Reply.TheVariants.{FailedGroup, Refused}
use Rattle.ulfm_model.specs.{Answers.{AtPoint, MayOwn, Replies, Sees, polled_by}, History.{entries_by, failed, failures, has, spawns}, Records.{Fits, Held, Record, held_at, is_shrink}}
use Rattle.ulfm_model.specs.Runs.{IsCall, IsRun}
use Rattle.ulfm_model.specs.{Records.{moment}, Terms.{comm_of, rests_on}}
use Rattle.ulfm_model.proofs.Histories.{members_stay}
use Rattle.ulfm_words.specs.Steps.{Over, Sight, view_at}
use Rattle.ulfm_comm.specs.Calls.{Calls, EndsAs, EndsBy, EndsReply, HadCome, RunsOut, is_out_of_memory, reply_of, wants_memory}
use Rattle.ulfm_comm.specs.{Counts.{TakesSteps}, Polls.{Polls, polled}, Queries.{query}, Requests.{BlocksStand}}
use Rattle.ulfm_comm.specs.declared.{calls.polled.Polled.{Polled}, calls.polled.Polled.TheVariants.{Agreed, Done, Pending, Shrunk}}
use Rattle.ulfm_model.specs.declared.{refusal.Refusal.{Refusal}, refusal.Refusal.TheVariants.{OutOfMemory}}
use Rattle.ulfm_comm.proofs.{CallRuns.{called_counts, called_run}, Holding.{exists_is, failed_is, group_rises}, ReplyKinds.{answered_on}}
use Rattle.ulfm_comm.specs.Local.{Local, local}

module _ {P : Type 0} {meld : P → P → P} {alone : Bool} {asked : Call P} {old new : Local P} where
  calls_as : (reply : Reply P) (b : Bool) → EndsAs meld alone asked old reply b new → is_shrink (polled_by old.own asked) ≡ false
      → Calls meld alone asked old reply new
  calls_as reply true ended other = absurd (cc (ended.1, other))
  calls_as reply false ended other = ended

  -- only the poll of a shrink runs out of memory
  pub ends_calls : (reply : Reply P) → EndsReply meld alone asked old reply new → is_shrink (polled_by old.own asked) ≡ false
      → Calls meld alone asked old reply new
  ends_calls reply ends other = calls_as reply (wants_memory reply) ends other

-- The typed call, which is asked of the rank by its number: the whole call has it by another name, and its own reply stands for that of the whole
-- call.
module _ {P : Type 0} {old new : Local P} (asked : ℕ → Call P) {number same : ℕ} (mine : number ≡ same) where
  pub typed_calls : {meld : P → P → P} {alone : Bool} {reply told : Reply P} → told ≡ reply → EndsReply meld alone (asked number) old reply new
      → is_shrink (polled_by old.own (asked number)) ≡ false → Calls meld alone (asked same) old told new
  typed_calls {meld} {alone} {reply} {told} by_told ends other =
      subst (λ n. Calls meld alone (asked n) old told new) mine
      (ends_calls told (subst (λ r. EndsReply meld alone (asked number) old r new) (sym by_told) ends) other)

  -- and it takes the steps of the whole call
  pub typed_steps : {last : ℕ} → TakesSteps {P = P} (asked number) old last new → TakesSteps {P = P} (asked same) old last new
  typed_steps {last} takes = subst (λ n. TakesSteps {P = P} (asked n) old last new) mine takes

-- what holds where a result is a value, and where it is an error
pub ok_of : {E : Type 0} {Q : Type 0} (result : Result (Unit {0}) E) → IfOk result (λ _. Q) → is_err result ≡ false → Q
ok_of (Ok x) holds ok = holds
ok_of (Err e) holds ok = absurd (cc ok)

pub err_of : {E : Type 0} {Q : Type 0} (result : Result (Unit {0}) E) → OnErr result Q → is_err result ≡ true → Q
err_of (Ok x) holds wrong = absurd (cc wrong)
err_of (Err e) holds wrong = holds

-- the ranks of a failed group that a query lists
abbrev pub lists : Bool → Held → List ℕ → List ℕ
lists false x group = group
lists true x group = take x.acked group

module _ (P : Type 0) (old : Record) (rank c : ℕ) where
  on_comm : (some : Bool) → comm_of {P = P} (query some rank c) ≡ c
  on_comm false = refl
  on_comm true = refl

  polls_none : (some : Bool) → polled_by {P = P} old (query some rank c) ≡ None
  polls_none false = refl
  polls_none true = refl

  knows_none : (some : Bool) (cached : List Beside) → BlocksStand {P = P} old (query some rank c) cached
  knows_none false cached = tt
  knows_none true cached = tt

  -- it adds nothing
  none_made : (some : Bool) (look : List ℕ) (own : List (Event P)) → AllByRecursion (MayOwn look old (query some rank c)) own
      → spawns (entries_by (Rank old.number) own) ≡ []
  none_made some look [] all = refl
  none_made false look (e ∷ own) all = absurd (all.0.adds.2)
  none_made true look (e ∷ own) all = absurd (all.0.adds.2)

  -- its answer counts those that it lists
  lists_so_many : (meld : P → P → P) (limits : Limits) (view : AtPoint P) (x : Held) (count : ℕ) (some : Bool)
      → Replies meld limits view old x (query some rank c) (FailedGroup count)
      → (failures view.history ≡ view.look) × (count ≡ length (lists some x (failed limits.ranks view.history c)))
  lists_so_many meld limits view x count false replies = (replies.0, cc (replies.1))
  lists_so_many meld limits view x count true replies = (replies.0, cc (replies.1))

-- what such a query finds, once it counted so many
pub record HasCounted {P : Type 0} (meld : P → P → P) (alone : Bool) (name : Over P) (some : Bool) (rank c count : ℕ) (old : Record) (before : Sight P)
    (new : Record) (after : Sight P) : Type 0 where
  pub x : Held
  pub held : held_at new c ≡ Some x
  pub rises : IsStrictlyIncreasing x.group
  pub group : filter (has x.group) new.seen ≡ failed name.limits.ranks after.seen c
  pub counted : count ≡ length (lists some x (filter (has x.group) new.seen))
  pub run_out : RunsOut meld alone (query some rank c) (local old (view_at name before)) (local new (view_at name after))

module _ {P : Type 0} (meld : P → P → P) (alone : Bool) (name : Over P) (some : Bool) (rank c count : ℕ) (old : Record) (before : Sight P) (new : Record)
    (after : Sight P) (fits : Fits meld name.limits before.seen old)
    (called : Calls meld alone (query some rank c) (local old (view_at name before)) (FailedGroup count) (local new (view_at name after))) where
  abbrev asked : Call P
  asked = query some rank c

  by_run : IsRun meld name.limits alone (moment old before.seen) asked (FailedGroup count) (moment new after.seen)
      → HasCounted meld alone name some rank c count old before new after
  by_run run =
      let limits = name.limits in
      let span = run.span in
      let answered = answered_on meld limits alone before.seen after.seen old asked (FailedGroup count) new run (λ refusal is. absurd (cc is)) in
      let is : new ≡ record old { seen = new.seen } = run.answer.leaves.record_is in
      let held_old : held_at old c ≡ Some answered.x = ap (held_at old) (sym (on_comm P old rank c some)) ∙ answered.held in
      let held : held_at new c ≡ Some answered.x = ap (λ (r : Record). held_at r c) is ∙ held_old in
      let end = called_counts meld alone name asked old before (FailedGroup count) new after called count refl in
      let group : filter (has answered.x.group) new.seen ≡ failed limits.ranks after.seen c = ap (filter (has answered.x.group)) end
      ∙ failed_is meld limits after.seen new c answered.x called.linearizes.fits held in
      let exists = (members_stay limits.ranks before.seen span.point c span.point_begins
      (exists_is meld limits before.seen old c answered.x fits held_old)).0 in
      let members_same = (members_stay limits.ranks span.point after.seen c span.point_ends exists).1 in
      let told = lists_so_many P old rank c meld limits (rests_on span) answered.x count some answered.replies in
      let look : new.seen ≡ failures span.look =
      subst (λ r. Sees (is_shrink r) (failures span.look) after.seen new.seen) (polls_none P old rank c some) run.answer.leaves.seen in
      let seen : failures after.seen ≡ failures span.point = sym end ∙ (look ∙ sym told.0) in
      let failed_same : failed limits.ranks after.seen c ≡ failed limits.ranks span.point c = ap₂ (λ ms fs. filter (has ms) fs) members_same seen in
      record {
        x = answered.x;
        held = held;
        rises = group_rises meld limits after.seen new c answered.x called.linearizes.fits held;
        group = group;
        counted = told.1 ∙ ap (λ g. length (lists some answered.x g)) (sym failed_same ∙ sym group);
        run_out = record {
          ran_out = record {
            of = called.linearizes.of;
            onward = called.linearizes.onward;
            fits = called.linearizes.fits;
            run_out = record {
              in_use = run.in_use;
              span = span;
              not_declared = answered.not_declared;
              not_refused = answered.passed;
              own = run.answer.own;
              makes_none = none_made P old rank c some (failures span.look) span.own run.answer.own;
              had_come = subst (HadCome meld limits span.point old.number (comm_of asked)) (sym (polls_none P old rank c some)) tt;
              sees = run.answer.leaves.seen;
              record_is = is;
            };
          };
          blocks = record {
            cached = called.blocks.cached;
            caches = called.blocks.caches;
            wings = called.blocks.wings;
            knows = λ _. knows_none P old rank c some after.cached;
          };
        };
      }

  by_call : IsCall meld name.limits alone (moment old before.seen) asked (FailedGroup count) (moment new after.seen)
      → HasCounted meld alone name some rank c count old before new after
  by_call (inl refused) = absurd (cc (refused.2))
  by_call (inr run) = by_run run

  pub has_counted : HasCounted meld alone name some rank c count old before new after
  has_counted = by_call (called_run meld alone name asked old before (FailedGroup count) new after called)

-- the same by the reply of the whole call, whose rank has this number
module _ {P : Type 0} (meld : P → P → P) (alone : Bool) (name : Over P) (some : Bool) (number c count : ℕ) (old : Record) (before : Sight P) (new : Record)
    (after : Sight P) (mine : number ≡ old.number) (reply : Reply P) (told : FailedGroup count ≡ reply)
    (ends : EndsReply meld alone (query some number c) (local old (view_at name before)) reply (local new (view_at name after))) where
  pub counted_call : Calls meld alone (query some old.number c) (local old (view_at name before)) (FailedGroup count) (local new (view_at name after))
  counted_call = typed_calls (λ r. query some r c) mine told ends (ap is_shrink (polls_none P old number c some))

  pub counted_by : Fits meld name.limits before.seen old → HasCounted meld alone name some old.number c count old before new after
  counted_by fits = has_counted meld alone name some old.number c count old before new after fits counted_call

-- the same of a poll, by its result
module _ {P : Type 0} {meld : P → P → P} {alone : Bool} {asked : Call P} {old new : Local P} where
  polls_on : (answer : Polled P) → Calls meld alone asked old (polled answer) new → Polls meld alone asked old (Ok answer) new
  polls_on answer calls =
      record { of = calls.linearizes.of; fits = calls.linearizes.fits; run = calls; memory = λ is. absurd (cc is); blocks = calls.blocks }

  by_answer : (answer : Polled P) → EndsReply meld alone asked old (polled answer) new → Polls meld alone asked old (Ok answer) new
  by_answer Pending ends = polls_on Pending ends
  by_answer (Agreed raised failed value) ends = polls_on (Agreed raised failed value) ends
  by_answer (Shrunk j context size) ends = polls_on (Shrunk j context size) ends
  by_answer Done ends = polls_on Done ends

  by_refusal : (refusal : Refusal) (b : Bool) → is_out_of_memory refusal ≡ b → EndsAs meld alone asked old (Refused refusal) b new
      → Polls meld alone asked old (Err refusal) new
  by_refusal refusal true wants ends = record {
    of = ends.0.ran_out.of;
    fits = ends.0.ran_out.fits;
    run = subst (λ b. EndsBy meld alone asked old refusal b new) (sym wants) ends.0;
    memory = λ _. ends.1;
    blocks = record { cached = ends.0.blocks.cached; caches = ends.0.blocks.caches; wings = ends.0.blocks.wings; knows = λ _. ends.0.blocks.knows refl };
  }
  by_refusal refusal false wants ends = record {
    of = ends.linearizes.of;
    fits = ends.linearizes.fits;
    run = subst (λ b. EndsBy meld alone asked old refusal b new) (sym wants) ends;
    memory = λ is. let same : refusal ≡ OutOfMemory = cc is in absurd (false≢true (sym wants ∙ ap is_out_of_memory same));
    blocks = ends.blocks;
  }

  by_result : (result : Result (Polled P) Refusal) → EndsReply meld alone asked old (reply_of polled result) new → Polls meld alone asked old result new
  by_result (Ok answer) ends = by_answer answer ends
  by_result (Err refusal) ends = by_refusal refusal (is_out_of_memory refusal) refl ends

pub typed_polls : {P : Type 0} {meld : P → P → P} {alone : Bool} {old new : Local P} (asked : ℕ → Call P) {number same : ℕ} {reply : Reply P}
    (result : Result (Polled P) Refusal) → number ≡ same → reply_of polled result ≡ reply → EndsReply meld alone (asked number) old reply new
    → Polls meld alone (asked same) old result new
typed_polls {meld = meld} {alone = alone} {old = old} {new = new} asked {number = number} result mine by_told ends =
    subst (λ n. Polls meld alone (asked n) old result new) mine
    (by_result result (subst (λ r. EndsReply meld alone (asked number) old r new) (sym by_told) ends))
