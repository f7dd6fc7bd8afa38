-- A look that begins behind what was seen: a turn of it from there on is one of the call's beginning.
use Rattle.std.proofs.Common.{◌≡◌, ◌<◌, ◌-◌, Bool, false, length, take, ap, arith, refl, subst, sym, ◌∙◌}
use Rattle.ulfm_model.specs.Records.{Record, held_at}
use Rattle.ulfm_words.specs.Steps.{IsView, Over, Sight, view_at}
use Rattle.ulfm_comm.specs.{Local.{Local, local}, Phase.{NextBelow, StillStands, under_way}, Prepared.{Prepared}, Step.{Coming, RunsThrough, TakesTurn, Walks}}
use Rattle.ulfm_comm.specs.declared.phases.phase.{Next.{Next}, Next.TheVariants.{Ends, Goes}, Phase.TheVariants.{Begun, Looking}}
use Rattle.ulfm_model.specs.declared.{call.Call.{Call}, reply.Reply.{Reply}}
use Rattle.ulfm_comm.proofs.{AlsoLeft.{also_resumes, looks_resumed}, Known.{next_same}, Look.{begins_looking, begun_within}}
use Rattle.ulfm_comm.proofs.{Others.{not_resumed}, StepsLeft.{fewer_more, resumed_left}, Wings.{try_seen}}

-- what is nearer than a look that goes on is nearer than one that begins
further : {P : Type 0} (next : Next P) → NextBelow 8 next → NextBelow 9 next
further (Goes phase) below = omega (arith, below)
further (Ends reply) below = tt

-- where not all were seen, it begins where the rank is
pub resumed_there : {P : Type 0} {meld : P → P → P} {name : Over P} {asked : Call P} {own : Record} {now : Sight P} {prepared : Prepared}
    → StillStands meld (under_way asked Begun prepared) (local own (view_at name now)) → length own.seen < name.limits.ranks
    → own ≡ record own { seen = take (own.limits.ranks - 1) own.seen }
resumed_there {own = own} still some =
    let u = still.2 in
    not_resumed own _ (ap (λ (w : Record). w.limits.ranks) u.at.1 ∙ ap (λ l. l.ranks) u.fits.same_limits) some

module _ {P : Type 0} {meld : P → P → P} {name : Over P} {asked : Call P} {own mid : Record} {now : Sight P} {prepared : Prepared} (of : IsView meld (view_at name now))
    (is : mid ≡ record own { seen = take (own.limits.ranks - 1) own.seen })
    (still : StillStands meld (under_way asked Begun prepared) (local own (view_at name now))) where
  -- the look stands where it goes on
  pub resumed_stands : StillStands meld (under_way asked Looking prepared) (local mid (view_at name now))
  resumed_stands = (still.0, still.1, begins_looking meld false name asked still.0 still.1 prepared own mid now of is still.2)

  -- its turn
  pub resumed_turn : {quiet whole : Bool} {other : Prepared} {comes : Coming P} {new : Record} {after : Sight P}
      → TakesTurn meld quiet whole (under_way asked Looking other) (local mid (view_at name now)) comes (local new (view_at name after))
      → TakesTurn meld quiet whole (under_way asked Begun other) (local own (view_at name now)) comes (local new (view_at name after))
  resumed_turn {quiet} {whole} {other} {comes} {new} {after} turn =
      let limits = name.limits in
      let u = still.2 in
      let same = ap (λ (w : Record). w.limits.ranks) u.at.1 ∙ ap (λ l. l.ranks) u.fits.same_limits in
      let some = of.may_open.in_range.some_ranks in
      let fewer = resumed_left limits own mid asked same (omega (arith, some)) is in
      let within = begun_within meld false name asked still.0 still.1 prepared own now of u in
      let spends = turn.spends in
      record {
        walks = subst (λ (w : Record). Walks meld quiet w.number (view_at name now) (view_at name after)) is turn.walks;
        beside = record {
          caches = try_seen own mid _ asked now.caches after.caches is turn.beside.caches;
          wings = turn.beside.wings;
        };
        named = turn.named;
        nearer = λ single. fewer_more limits new asked _ _ fewer comes.next (turn.nearer single);
        spends = omega (arith, fewer, spends);
        also = also_resumes limits own mid asked same is within now after comes.next new turn.also;
        further = λ all. further comes.next (turn.further all);
        adds = turn.adds;
        sees = tt;
        looks = λ at. looks_resumed limits own mid asked same is (omega (arith, some)) now after comes.next new (turn.looks refl);
        knows = λ known. next_same mid own asked after.cached (λ comm. sym (ap (λ (w : Record). held_at w comm) is)) comes.next (turn.knows tt);
        leads = tt;
        turns = λ alone only old before stands.
            turn.turns alone only old before (begins_looking meld alone name asked old before other own mid now of is stands);
      }

  -- what it runs to
  pub resumed_run : {alone : Bool} {other : Prepared} {reply : Reply P} {new : Local P}
      → RunsThrough meld alone (under_way asked Looking other) (local mid (view_at name now)) reply new
      → RunsThrough meld alone (under_way asked Begun other) (local own (view_at name now)) reply new
  resumed_run run = record { next = run.next; mid = run.mid; looked = run.looked; turn = resumed_turn run.turn; past = run.past; runs = run.runs }
