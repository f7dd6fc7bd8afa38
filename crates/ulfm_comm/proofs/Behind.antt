-- What comes next behind a look that has just ended.
use Rattle.std.proofs.Common.{◌≡◌, ◌<◌, List, ap, subst, sym}
use Rattle.ulfm_model.specs.declared.{block.Beside.{Beside}, call.Call.{Call}, reply.Reply.{Reply}}
use Rattle.ulfm_model.specs.Records.{Record}
use Rattle.ulfm_comm.specs.{AlsoLeft.{FindsSetIn, also_behind_look, also_left}, Known.{KnowsIn, KnowsNext}, Local.{Local}, Look.{Passes}, Phase.{left}}
use Rattle.ulfm_comm.specs.{Step.{ComesBehind, FollowsLook}, StepsLeft.{behind_look, steps_left, with_look}}
use Rattle.ulfm_comm.specs.declared.phases.phase.{Next.TheVariants.{Ends, Goes}, Phase.{Phase}}
use Rattle.ulfm_comm.proofs.{AlsoLeft.{follows_behind, follows_ends}, StepsLeft.{behind_left}}

module _ {P : Type 0} {meld : P → P → P} {asked : Call P} {now : Local P} where
  -- the reply
  pub ends_behind : {reply : Reply P} {new : Record} → new.seen ≡ now.own.seen → ((cached : List Beside) → KnowsNext now.own asked cached (Ends reply))
      → FollowsLook meld asked now (Ends reply) new → ComesBehind meld asked now (Ends reply) new
  ends_behind {reply} {new} same knows turns = record {
    further = tt;
    nearer = tt;
    also = follows_ends now.view.words.limits now.own asked reply new same;
    knows = knows;
    turns = turns;
  }

  -- a phase in which as many steps are left as by the call's name
  pub goes_behind : {phase : Phase P} {same : Call P} → Passes now.own asked → asked ≡ same → left phase < 8
      → steps_left now.view.words.limits now.own asked phase ≡ behind_look now.view.words.limits now.own same
      → also_left now.view.words.limits now.own asked phase ≡ also_behind_look now.view.words.limits now.own same
      → ((cached : List Beside) → FindsSetIn now.own asked cached phase) → ((cached : List Beside) → KnowsIn now.own asked cached phase)
      → FollowsLook meld asked now (Goes phase) now.own → ComesBehind meld asked now (Goes phase) now.own
  goes_behind {phase} {same} may is few left also sets knows turns =
      let limits = now.view.words.limits in
      record {
        further = few;
        nearer = subst (λ n. n < with_look limits now.own asked) (sym left) (behind_left limits now.own asked _ may (ap (behind_look limits now.own) is));
        also = follows_behind limits now.own asked phase _ also sets may (ap (also_behind_look limits now.own) is);
        knows = knows;
        turns = turns;
      }
