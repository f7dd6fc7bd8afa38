-- What a rank's own lines tell holds in every legal trace that has them.
use Rattle.std.proofs.Common.{◌≡◌, ◌⊎◌, ℕ, ◌&&◌, Bool, true, false, List, [], ◌∷◌, filter, find, map, Option, Some, None, inl, inr, refl, ap, sym, ◌∙◌, subst, append-nil, IsTrue, if◌then◌else◌}
use Rattle.std.specs.Prelude.{⊤}
use Rattle.std.proofs.lemmas.Bool.{eqb-true}
use Rattle.std.specs.Option.{option_map_or}
use mathlib.Core.List.{IsPrefix}
use Rattle.ulfm_laws.specs.{Flags.{flag_meld}, declared.flag_and.FlagAnd.{FlagAnd}}
use Rattle.ulfm_model.specs.declared.{call.Call.{Call}, event.Caller.{Caller}, event.Caller.TheVariants.{Rank}, limits.Limits.{Limits}, reply.Reply.{Reply}}
use Rattle.ulfm_model.specs.declared.call.Call.TheVariants as call
use Rattle.ulfm_model.specs.declared.reply.Reply.TheVariants as reply_of
use Rattle.ulfm_model.specs.{Answers.{traits_of}, History.{IsLegal}, Records.{Record}}
use Rattle.ulfm_model.proofs.Lists.{prefix_trans}
use Rattle.ulfm_model.specs.declared.line.Line.{Line}
use Rattle.ulfm_model.specs.declared.line.Line.TheVariants as line
use Rattle.ulfm_model.specs.Traces.{Told, AnswersRank, AreLegalAfter, MayCome, MayReply, Traced, Under, after, after_reply, call_by, caller_of, change_by, record_in, said_by, same_caller, taken_in, with_event}
use Rattle.ulfm_model.proofs.{Callers.{find_change, same_is, same_rank}, Kept.{IsKept, kept_after, kept_along, limits_stay}}
use Rattle.ulfm_lines.specs.Callers.{line_by}
use Rattle.ulfm_observed.specs.declared.log.{Item.{Item}, Seen.{Seen}}
use Rattle.ulfm_observed.specs.declared.log.Item.TheVariants as item
use Rattle.ulfm_observed.specs.declared.{shows.Whose.TheVariants.{Of}, stages.Stage.{Stage}}
use Rattle.ulfm_observed.specs.declared.stages.Stage.TheVariants as stage
use Rattle.ulfm_observed.specs.{Explains.{AreHeard, IsHeard, IsSeen, is_shown_by, is_told_by}, LogTexts.{Heard}}
use Rattle.ulfm_observed.specs.Stages.{Shown, acted_stage, called_stage, ends, hidden_call, hidden_reply, may_stop, next_stage, own_stage, polls, replied_stage, says_started, stage_after, starts}
use Rattle.ulfm_observed.specs.declared.walk.Walk.{Walk}
use Rattle.ulfm_observed.specs.Refuted.{answered, begun, called, is_started, passed, polled, replied, walked}
use Rattle.ulfm_observed.specs.Tells.{IsSaid, MayReach, Reaches}
use Rattle.ulfm_observed.proofs.Answered.{answered_left, polled_left, seen_started, started_left}
use Rattle.ulfm_observed.proofs.Kept.{IsFree, answered_free, answered_late, begun_free, polled_free, reaches_call, reaches_last, said_lasts}
use Rattle.ulfm_lines.proofs.{Bystanders.{find_push, line_call, line_entries, line_history, line_record, own_record}, Calls.{keeps_asked}}

module _ (limits : Limits) (r k : ℕ) where
  abbrev me : Caller
  me = Rank r

  -- a walk without its call
  abbrev free : Walk → Walk
  free walk = record walk { under_way = None }

  -- the rank has this call under way
  pub record Calls (now : Traced FlagAnd) (a : Call FlagAnd) : Type 0 where
    pub u : Under FlagAnd
    pub is_open : call_by now me ≡ Some u
    pub asked : u.asked ≡ a

  abbrev Says : Traced FlagAnd → Walk → Type 0
  Says now walk = IsSaid limits r k now.history walk

  abbrev ReachesAt : Traced FlagAnd → Record → Walk → Type 0
  ReachesAt now own walk = Reaches limits r k now.history own walk

  -- a call that the log has is under way
  pub record IsUnder (now : Traced FlagAnd) (own : Record) (walk : Walk) (start : Option ℕ) : Type 0 where
    pub a : Call FlagAnd
    pub under_way : walk.under_way ≡ Some a
    pub start_is : start ≡ starts a
    pub calls : Calls now a
    pub reaches : ReachesAt now own walk

  -- a start was answered `started`, which the log lacks
  pub record IsBegun (now : Traced FlagAnd) (own : Record) (walk : Walk) (d : ℕ) : Type 0 where
    pub a : Call FlagAnd
    pub under_way : walk.under_way ≡ Some a
    pub starts_is : starts a ≡ Some d
    pub reaches : ReachesAt now own (begun a (free walk))
    pub said : Says now walk

  -- and the poll behind it is under way
  pub record IsEnding (now : Traced FlagAnd) (own : Record) (walk : Walk) : Type 0 where
    pub d : ℕ
    pub is_begun : IsBegun now own walk d
    pub p : ℕ
    pub calls : Calls now (call.Poll p d)

  -- where a rank stands, by its record, its walk and its stage
  abbrev Stands : Traced FlagAnd → Record → Walk → Stage → Type 0
  Stands now own walk stage.Idle = (walk.under_way ≡ None) × ReachesAt now own walk
  Stands now own walk (stage.Under start) = IsUnder now own walk start
  Stands now own walk (stage.Acted d) = IsUnder now own walk (Some d)
  Stands now own walk (stage.Begun d) = IsBegun now own walk d
  Stands now own walk stage.Ending = IsEnding now own walk
  Stands now own walk stage.Gone = ⊥
  Stands now own walk stage.Wrong = ⊥

  pub record Stood (now : Traced FlagAnd) (walk : Walk) (at : Stage) : Type 0 where
    pub own : Record
    pub has_record : record_in now r ≡ Some own
    pub stands : Stands now own walk at

  abbrev MayStand : Traced FlagAnd → Option Walk → Stage → Type 0
  MayStand now None at = ⊤
  MayStand now (Some walk) at = Stood now walk at

  said_of : (now : Traced FlagAnd) (own : Record) (walk : Walk) (at : Stage) → Stands now own walk at → Says now walk
  said_of now own walk stage.Idle s = s.1.said
  said_of now own walk (stage.Under start) s = s.reaches.said
  said_of now own walk (stage.Acted d) s = s.reaches.said
  said_of now own walk (stage.Begun d) s = s.said
  said_of now own walk stage.Ending s = s.is_begun.said
  said_of now own walk stage.Gone s = absurd s
  said_of now own walk stage.Wrong s = absurd s

  -- a line after which the rank stands with the same call, and as much has happened or more
  module _ (now t : Traced FlagAnd) (kept : IsKept flag_meld t) (limits_is : t.limits ≡ limits) (grown : IsPrefix now.history t.history) (own : Record) (walk : Walk) where
    legal : IsLegal flag_meld limits t.history
    legal = subst (λ l. IsLegal flag_meld l t.history) limits_is kept.legal

    reaches_then : (v : Walk) → ReachesAt now own v → ReachesAt t own v
    reaches_then v is = reaches_last limits r k now.history t.history grown legal own v is

    says_then : (v : Walk) → Says now v → Says t v
    says_then v is = said_lasts limits r k now.history t.history grown legal v is

    begun_then : (d : ℕ) → IsBegun now own walk d → IsBegun t own walk d
    begun_then d is = record { a = is.a; under_way = is.under_way; starts_is = is.starts_is; reaches = reaches_then (begun is.a (free walk)) is.reaches; said = says_then walk is.said }

    pub stands_then : ((a : Call FlagAnd) → Calls now a → Calls t a) → (at : Stage) → Stands now own walk at → Stands t own walk at
    stands_then calls stage.Idle s = (s.0, reaches_then walk s.1)
    stands_then calls (stage.Under start) s = record { a = s.a; under_way = s.under_way; start_is = s.start_is; calls = calls s.a s.calls; reaches = reaches_then walk s.reaches }
    stands_then calls (stage.Acted d) s = record { a = s.a; under_way = s.under_way; start_is = s.start_is; calls = calls s.a s.calls; reaches = reaches_then walk s.reaches }
    stands_then calls (stage.Begun d) s = begun_then d s
    stands_then calls stage.Ending s = record { d = s.d; is_begun = begun_then s.d s.is_begun; p = s.p; calls = calls (call.Poll s.p s.d) s.calls }
    stands_then calls stage.Gone s = absurd s
    stands_then calls stage.Wrong s = absurd s

    -- its own event in its call
    pub acted_then : ((a : Call FlagAnd) → Calls now a → Calls t a) → (at : Stage) → Stands now own walk at → Stands t own walk (acted_stage at)
    acted_then calls (stage.Under (Some d)) s = record { a = s.a; under_way = s.under_way; start_is = s.start_is; calls = calls s.a s.calls; reaches = reaches_then walk s.reaches }
    acted_then calls (stage.Under None) s = stands_then calls (stage.Under None) s
    acted_then calls stage.Idle s = stands_then calls stage.Idle s
    acted_then calls (stage.Acted d) s = stands_then calls (stage.Acted d) s
    acted_then calls (stage.Begun d) s = stands_then calls (stage.Begun d) s
    acted_then calls stage.Ending s = stands_then calls stage.Ending s
    acted_then calls stage.Gone s = absurd s
    acted_then calls stage.Wrong s = absurd s

  -- what comes of a line: the rank went wrong; the log lacks the line, and the rank stands; or the log has it, and the rank stands where its walk goes
  abbrev Goes : Traced FlagAnd → Shown → Walk → Stage → Type 0
  Goes t shown walk at =
      (at ≡ stage.Wrong) ⊎ (((is_shown_by (Of me) shown ≡ false) × Stood t walk at)
      ⊎ ((is_shown_by (Of me) shown ≡ true) × ((heard : Item) → IsHeard heard shown.told.line → MayStand t (passed heard walk) at)))

  module _ (now : Traced FlagAnd) (kept : IsKept flag_meld now) (limits_is : now.limits ≡ limits) (own : Record) (at_r : record_in now r ≡ Some own) (walk : Walk) where
    -- a reply to its own call
    module _ (point : ℕ) (group : List ℕ) (reply : Reply FlagAnd) (may : MayReply flag_meld now me point group reply) (a : Call FlagAnd) (calls : Calls now a) where
      t : Traced FlagAnd
      t = after now (line.Replied me point (Some reply))

      same : may.call ≡ calls.u
      same = cc (may.is_open, calls.is_open)

      asked : may.call.asked ≡ a
      asked = ap (λ (u : Under FlagAnd). u.asked) same ∙ calls.asked

      answers : AnswersRank flag_meld now may.call point reply (Some own)
      answers = subst (AnswersRank flag_meld now may.call point reply) at_r may.answers

      t_is : after now (line.Replied me point (Some reply)) ≡ after_reply now me point reply (Some may.call)
      t_is = ap (after_reply now me point reply) may.is_open

      abbrev left : Record
      left = taken_in now may.call point reply own

      record_then : record_in (after now (line.Replied me point (Some reply))) r ≡ Some left
      record_then = ap (λ (w : Traced FlagAnd). record_in w r) t_is ∙ own_record now r may.call point reply own at_r

      history_then : (after now (line.Replied me point (Some reply))).history ≡ now.history
      history_then = ap (λ (w : Traced FlagAnd). w.history) t_is

      stood_by : (at : Stage) (v : Walk) → Stands (after_reply now me point reply (Some may.call)) left v at → Stood (after now (line.Replied me point (Some reply))) v at
      stood_by at v s = record { own = left; has_record = record_then; stands = subst (λ (w : Traced FlagAnd). Stands w left v at) (sym t_is) s }

      idle_by : (o : Option Walk) → IsFree o → MayReach limits r k now.history left o → MayStand (after now (line.Replied me point (Some reply))) o stage.Idle
      idle_by None is_free is = tt
      idle_by (Some v) is_free is = stood_by stage.Idle v (is_free, is)

      -- the log has it: an answer to the logged call
      pub answered_then : walk.under_way ≡ Some a → ReachesAt now own walk → (seen : Seen) → IsSeen seen reply
          → MayStand (after now (line.Replied me point (Some reply))) (replied seen walk walk.under_way) stage.Idle
      answered_then under_way reaches seen seen_is =
          let at_free = reaches_call limits r k now.history own walk None reaches in
          subst (λ o. MayStand (after now (line.Replied me point (Some reply))) (replied seen walk o) stage.Idle) (sym under_way)
          (idle_by (answered a seen (free walk)) (answered_free a seen (free walk) refl)
          (answered_left limits r k now kept limits_is own at_r may.call point reply answers at_free.x at_free.held (free walk) at_free.at at_free.said a asked seen seen_is))

      -- the log lacks it: `started`
      pub started_then : (d : ℕ) → walk.under_way ≡ Some a → starts a ≡ Some d → ReachesAt now own walk → reply ≡ reply_of.Started
          → Stood (after now (line.Replied me point (Some reply))) walk (stage.Begun d)
      started_then d under_way starts_is reaches started =
          let at_free = reaches_call limits r k now.history own walk None reaches in
          stood_by (stage.Begun d) walk
          (record {
            a = a;
            under_way = under_way;
            starts_is = starts_is;
            reaches = started_left limits r k now kept limits_is own at_r may.call point reply answers at_free.x at_free.held (free walk) at_free.at at_free.said started a d starts_is asked;
            said = reaches.said;
          })

    -- the log has it: the answer to the poll that it lacks
    pub ended_then : (point : ℕ) (group : List ℕ) (reply : Reply FlagAnd) (may : MayReply flag_meld now me point group reply) → (s : IsEnding now own walk) → ends (Some reply) ≡ true → (seen : Seen) → IsSeen seen reply
        → MayStand (after now (line.Replied me point (Some reply))) (replied seen walk walk.under_way) stage.Idle
    ended_then point group reply may s is_end seen seen_is =
        subst (λ o. MayStand (after now (line.Replied me point (Some reply))) (replied seen walk o) stage.Idle) (sym b.under_way)
        (subst (λ o. MayStand (after now (line.Replied me point (Some reply))) o stage.Idle) (sym (answered_late b.a s.d seen (free walk) b.starts_is (late (is_started seen) refl)))
        (idle_by point group reply may (call.Poll s.p s.d) s.calls (polled s.d seen (begun b.a (free walk))) (polled_free s.d seen (begun b.a (free walk)) (begun_free b.a (free walk) refl))
        (polled_left limits r k now kept limits_is own at_r may.call point reply (answers point group reply may (call.Poll s.p s.d) s.calls) b.reaches.x b.reaches.held (begun b.a (free walk)) b.reaches.at b.reaches.said s.p s.d (asked point group reply may (call.Poll s.p s.d) s.calls) seen seen_is)))
      where
        b : IsBegun now own walk s.d
        b = s.is_begun

        late : (q : Bool) → is_started seen ≡ q → is_started seen ≡ false
        late false is = is
        late true is = absurd (cc (ap (λ g. ends (Some g)) (seen_started seen reply is seen_is), is_end))

    -- a change to its call that leaves what is asked
    calls_changed : (f : Under FlagAnd → Under FlagAnd) → ((u : Under FlagAnd) → (f u).asked ≡ u.asked) → (t : Traced FlagAnd) → t.calls ≡ change_by me f now.calls → (a : Call FlagAnd) → Calls now a → Calls t a
    calls_changed f keeps t is a calls =
        record {
          u = f calls.u;
          is_open = ap (find (λ v. same_caller (caller_of v) me)) is ∙ find_change me f keeps now.calls calls.u calls.is_open;
          asked = keeps calls.u ∙ calls.asked;
        }

    module _ (group : List ℕ) (logged : Bool) where
      abbrev shown_as : Line FlagAnd → Shown
      shown_as l = record { told = record { line = l; group = group }; logged = logged }

      abbrev unlogged : Bool → Bool
      unlogged b = logged && b

      never_shown : (logged && false) ≡ false
      never_shown = go logged
        where
          go : (b : Bool) → (b && false) ≡ false
          go true = refl
          go false = refl

    -- a call that the log has
    called_logged : (group : List ℕ) (asked : Call FlagAnd) (padded : Bool) → (traits_of asked).by ≡ me → call_by now me ≡ None → (at : Stage) → Stands now own walk at
        → Goes (after now (line.Called asked padded)) (record { told = record { line = line.Called asked padded; group = group }; logged = true }) walk (called_stage at asked)
    called_logged group asked padded mine none stage.Idle s =
        inr (inr (ap (λ by. same_caller by me) mine ∙ same_rank r, by_item))
      where
        t : Traced FlagAnd
        t = after now (line.Called asked padded)

        calls_then : Calls (after now (line.Called asked padded)) asked
        calls_then =
            record {
              u = _;
              is_open = find_push (λ v. same_caller (caller_of v) me) now.calls _ none (ap (λ by. same_caller by me) mine ∙ same_rank r);
              asked = refl;
            }

        stood : (other : Call FlagAnd) → other ≡ asked → MayStand (after now (line.Called asked padded)) (called other walk walk.under_way) (stage.Under (starts asked))
        stood other is =
            subst (λ o. MayStand (after now (line.Called asked padded)) (called other walk o) (stage.Under (starts asked))) (sym s.0)
            (record {
              own = own;
              has_record = at_r;
              stands = record {
                a = other;
                under_way = refl;
                start_is = ap starts (sym is);
                calls = subst (Calls (after now (line.Called asked padded))) (sym is) calls_then;
                reaches = reaches_call limits r k now.history own walk (Some other) s.1;
              };
            })

        by_item : (heard : Item) → IsHeard heard (line.Called asked padded) → MayStand (after now (line.Called asked padded)) (passed heard walk) (stage.Under (starts asked))
        by_item (item.Called other spelled) is = stood other is
        by_item (item.Replied by seen) is = absurd is
        by_item (item.Lost n) is = absurd is
    called_logged group asked padded mine none (stage.Under start) s = inl refl
    called_logged group asked padded mine none (stage.Acted d) s = inl refl
    called_logged group asked padded mine none (stage.Begun d) s = inl refl
    called_logged group asked padded mine none stage.Ending s = inl refl
    called_logged group asked padded mine none stage.Gone s = absurd s
    called_logged group asked padded mine none stage.Wrong s = absurd s

    -- a call that it lacks: the poll behind a start
    called_hidden : (group : List ℕ) (asked : Call FlagAnd) (padded : Bool) → (traits_of asked).by ≡ me → call_by now me ≡ None → (at : Stage) → Stands now own walk at
        → Goes (after now (line.Called asked padded)) (record { told = record { line = line.Called asked padded; group = group }; logged = false }) walk (hidden_call false at asked)
    called_hidden group asked padded mine none (stage.Begun d) s = go (polls d asked) refl
      where
        poll_is : (a : Call FlagAnd) → polls d a ≡ true → (p : ℕ) × (a ≡ call.Poll p d)
        poll_is (call.Poll p e) is = (p, ap (call.Poll p) (sym (eqb-true d e is)))
        poll_is _ is = absurd (cc is)

        calls_then : (p : ℕ) → asked ≡ call.Poll p d → Calls (after now (line.Called asked padded)) (call.Poll p d)
        calls_then p is =
            record {
              u = _;
              is_open = find_push (λ v. same_caller (caller_of v) me) now.calls _ none (ap (λ by. same_caller by me) mine ∙ same_rank r);
              asked = is;
            }

        go : (b : Bool) → polls d asked ≡ b
            → Goes (after now (line.Called asked padded)) (record { told = record { line = line.Called asked padded; group = group }; logged = false }) walk (if b then stage.Ending else stage.Wrong)
        go true is =
            let poll = poll_is asked is in
            inr (inl (
              refl,
              record {
                own = own;
                has_record = at_r;
                stands = record {
                  d = d;
                  is_begun = record { a = s.a; under_way = s.under_way; starts_is = s.starts_is; reaches = s.reaches; said = s.said };
                  p = poll.0;
                  calls = calls_then poll.0 poll.1;
                };
              },
            ))
        go false is = inl refl
    called_hidden group asked padded mine none stage.Idle s = inl refl
    called_hidden group asked padded mine none (stage.Under start) s = inl refl
    called_hidden group asked padded mine none (stage.Acted d) s = inl refl
    called_hidden group asked padded mine none stage.Ending s = inl refl
    called_hidden group asked padded mine none stage.Gone s = absurd s
    called_hidden group asked padded mine none stage.Wrong s = absurd s

    -- a reply that the log has
    replied_logged : (group : List ℕ) (point : ℕ) (reply : Reply FlagAnd) → MayReply flag_meld now me point group reply → (at : Stage) → Stands now own walk at
        → Goes (after now (line.Replied me point (Some reply))) (record { told = record { line = line.Replied me point (Some reply); group = group }; logged = true }) walk (replied_stage at (Some reply))
    replied_logged group point reply may at s = by_stage at s
      where
        items : (at : Stage) → ((seen : Seen) → IsSeen seen reply → MayStand (after now (line.Replied me point (Some reply))) (replied seen walk walk.under_way) at)
            → (heard : Item) → IsHeard heard (line.Replied me point (Some reply)) → MayStand (after now (line.Replied me point (Some reply))) (passed heard walk) at
        items at stood (item.Replied by seen) is = stood seen is.1
        items at stood (item.Called other spelled) is = absurd is
        items at stood (item.Lost n) is = absurd is

        by_end : (b : Bool) → ends (Some reply) ≡ b → IsEnding now own walk
            → Goes (after now (line.Replied me point (Some reply))) (record { told = record { line = line.Replied me point (Some reply); group = group }; logged = true }) walk (if b then stage.Idle else stage.Wrong)
        by_end true is s = inr (inr (same_rank r, items stage.Idle (λ seen seen_is. ended_then point group reply may s is seen seen_is)))
        by_end false is s = inl refl

        by_stage : (at : Stage) → Stands now own walk at
            → Goes (after now (line.Replied me point (Some reply))) (record { told = record { line = line.Replied me point (Some reply); group = group }; logged = true }) walk (replied_stage at (Some reply))
        by_stage (stage.Under start) s = inr (inr (same_rank r, items stage.Idle (λ seen seen_is. answered_then point group reply may s.a s.calls s.under_way s.reaches seen seen_is)))
        by_stage (stage.Acted d) s = inr (inr (same_rank r, items stage.Idle (λ seen seen_is. answered_then point group reply may s.a s.calls s.under_way s.reaches seen seen_is)))
        by_stage stage.Ending s = by_end (ends (Some reply)) refl s
        by_stage stage.Idle s = inl refl
        by_stage (stage.Begun d) s = inl refl
        by_stage stage.Gone s = absurd s
        by_stage stage.Wrong s = absurd s

    -- a reply that it lacks: `started`
    replied_hidden : (group : List ℕ) (point : ℕ) (reply : Reply FlagAnd) → MayReply flag_meld now me point group reply → (at : Stage) → Stands now own walk at
        → Goes (after now (line.Replied me point (Some reply))) (record { told = record { line = line.Replied me point (Some reply); group = group }; logged = false }) walk (hidden_reply false at (Some reply))
    replied_hidden group point reply may at s = by_stage at s
      where
        started_is : (g : Reply FlagAnd) → says_started (Some g) ≡ true → g ≡ reply_of.Started
        started_is reply_of.Started is = refl
        started_is _ is = absurd (cc is)

        by_start : (d : ℕ) (b : Bool) → says_started (Some reply) ≡ b → (start : Option ℕ) → start ≡ Some d → IsUnder now own walk start
            → Goes (after now (line.Replied me point (Some reply))) (record { told = record { line = line.Replied me point (Some reply); group = group }; logged = false }) walk (if b then stage.Begun d else stage.Wrong)
        by_start d true is start start_is s = inr (inl (refl, started_then point group reply may s.a s.calls d s.under_way (sym s.start_is ∙ start_is) s.reaches (started_is reply is)))
        by_start d false is start start_is s = inl refl

        by_stage : (at : Stage) → Stands now own walk at
            → Goes (after now (line.Replied me point (Some reply))) (record { told = record { line = line.Replied me point (Some reply); group = group }; logged = false }) walk (hidden_reply false at (Some reply))
        by_stage (stage.Under (Some d)) s = by_start d (says_started (Some reply)) refl (Some d) refl s
        by_stage (stage.Acted d) s = by_start d (says_started (Some reply)) refl (Some d) refl s
        by_stage (stage.Under None) s = inl refl
        by_stage stage.Idle s = inl refl
        by_stage (stage.Begun d) s = inl refl
        by_stage stage.Ending s = inl refl
        by_stage stage.Gone s = absurd s
        by_stage stage.Wrong s = absurd s

    and_false : (b q : Bool) → q ≡ false → (b && q) ≡ false
    and_false true q no_such = no_such
    and_false false q no_such = refl

    -- a line of the rank's own
    module _ (group : List ℕ) (logged : Bool) where
      abbrev shows : Line FlagAnd → Shown
      shows l = record { told = record { line = l; group = group }; logged = logged }

      module _ (at : Stage) (s : Stands now own walk at) where
        called_goes : (asked : Call FlagAnd) (padded : Bool) → (traits_of asked).by ≡ me → call_by now me ≡ None → (b : Bool) → b ≡ logged
            → Goes (after now (line.Called asked padded)) (record { told = record { line = line.Called asked padded; group = group }; logged = b }) walk (own_stage false at b (line.Called asked padded))
        called_goes asked padded mine none true is = called_logged group asked padded mine none at s
        called_goes asked padded mine none false is = called_hidden group asked padded mine none at s

        replied_goes : (point : ℕ) (reply : Reply FlagAnd) → MayReply flag_meld now me point group reply → (b : Bool)
            → Goes (after now (line.Replied me point (Some reply))) (record { told = record { line = line.Replied me point (Some reply); group = group }; logged = b }) walk (own_stage false at b (line.Replied me point (Some reply)))
        replied_goes point reply may true = replied_logged group point reply may at s
        replied_goes point reply may false = replied_hidden group point reply may at s

        pub own_line : (l : Line FlagAnd) → same_caller (line_by l) me ≡ true → MayCome flag_meld now group l → IsKept flag_meld (after now l) → Goes (after now l) (shows l) walk (own_stage false at logged l)
        own_line (line.Called asked padded) mine may kept_then =
            let by_is = same_is (traits_of asked).by me mine in
            called_goes asked padded by_is (subst (λ by. call_by now by ≡ None) by_is may) logged refl
        own_line (line.Looked n count) mine may kept_then =
            inr (inl (
              and_false logged false refl,
              record {
                own = own;
                has_record = at_r;
                stands = stands_then now (after now (line.Looked n count)) kept_then limits_is ([], append-nil now.history) own walk
                    (calls_changed (λ u. record u { look = Some count }) (λ u. refl) (after now (line.Looked n count)) (ap (λ m. change_by (Rank m) (λ u. record u { look = Some count }) now.calls) (eqb-true n r mine)))
                    at s;
              },
            ))
        own_line (line.Happened by None) mine may kept_then = absurd may
        own_line (line.Happened by (Some event)) mine may kept_then =
            inr (inl (
              and_false logged false refl,
              record {
                own = own;
                has_record = at_r;
                stands = acted_then now (after now (line.Happened by (Some event))) kept_then limits_is (record { by = by; event = event } ∷ [], refl) own walk
                    (calls_changed (with_event event) (keeps_asked event) (after now (line.Happened by (Some event))) (ap (λ c. change_by c (with_event event) now.calls) (same_is by me mine)))
                    at s;
              },
            ))
        own_line (line.Replied by point None) mine may kept_then = absurd may
        own_line (line.Replied by point (Some reply)) mine may kept_then =
            let by_is = same_is by me mine in
            subst (λ c. Goes (after now (line.Replied c point (Some reply))) (shows (line.Replied c point (Some reply))) walk (own_stage false at logged (line.Replied c point (Some reply)))) (sym by_is)
            (replied_goes point reply (subst (λ c. MayReply flag_meld now c point group reply) by_is may) logged)

        -- and another's
        not_told : (l : Line FlagAnd) → same_caller (line_by l) me ≡ false → is_told_by (Of me) l ≡ false
        not_told (line.Called asked padded) other = other
        not_told (line.Looked n count) other = refl
        not_told (line.Happened by event) other = refl
        not_told (line.Replied by point told) other = other

        pub other_line : (l : Line FlagAnd) → same_caller (line_by l) me ≡ false → IsKept flag_meld (after now l) → Goes (after now l) (shows l) walk at
        other_line l other kept_then =
            inr (inl (
              and_false logged (is_told_by (Of me) l) (not_told l other),
              record {
                own = own;
                has_record = line_record now l r other ∙ at_r;
                stands = stands_then now (after now l) kept_then (limits_stay flag_meld now (record { line = l; group = group } ∷ []) ∙ limits_is) (line_entries l, sym (line_history now l)) own walk
                    (λ a calls. record { u = calls.u; is_open = line_call now l me other ∙ calls.is_open; asked = calls.asked }) at s;
              },
            ))

        -- any line
        pub goes_on : (l : Line FlagAnd) → MayCome flag_meld now group l → Goes (after now l) (shows l) walk (next_stage r false at (shows l))
        goes_on l may = by_caller (same_caller (line_by l) me) refl
          where
            by_caller : (b : Bool) → same_caller (line_by l) me ≡ b → Goes (after now l) (shows l) walk (if b then own_stage false at logged l else at)
            by_caller true mine = own_line l mine may (kept_after flag_meld now group l may kept)
            by_caller false other = other_line l other (kept_after flag_meld now group l may kept)

  -- who went wrong stays so
  wrong_line : (b logged : Bool) (l : Line FlagAnd) → (if b then own_stage false stage.Wrong logged l else stage.Wrong) ≡ stage.Wrong
  wrong_line false logged l = refl
  wrong_line true true (line.Called asked padded) = refl
  wrong_line true false (line.Called asked padded) = refl
  wrong_line true logged (line.Looked n count) = refl
  wrong_line true logged (line.Happened by event) = refl
  wrong_line true true (line.Replied by point told) = refl
  wrong_line true false (line.Replied by point told) = refl

  wrong_stays : (rest : List Shown) → stage_after r false stage.Wrong rest ≡ stage.Wrong
  wrong_stays [] = refl
  wrong_stays (shown ∷ rest) =
      ap (λ at. stage_after r false at rest) (wrong_line (same_caller (line_by shown.told.line) me) shown.logged shown.told.line) ∙ wrong_stays rest

  -- what has happened goes on
  grown_by : (now : Traced FlagAnd) (by : Caller) (point : ℕ) (reply : Reply FlagAnd) (o : Option (Under FlagAnd)) → (after_reply now by point reply o).history ≡ now.history
  grown_by now by point reply None = refl
  grown_by now by point reply (Some u) = refl

  grown_after : (now : Traced FlagAnd) (l : Line FlagAnd) → IsPrefix now.history (after now l).history
  grown_after now (line.Called asked padded) = ([], append-nil now.history)
  grown_after now (line.Looked n count) = ([], append-nil now.history)
  grown_after now (line.Happened by None) = ([], append-nil now.history)
  grown_after now (line.Happened by (Some event)) = (record { by = by; event = event } ∷ [], refl)
  grown_after now (line.Replied by point None) = ([], append-nil now.history)
  grown_after now (line.Replied by point (Some reply)) = ([], append-nil now.history ∙ sym (grown_by now by point reply (call_by now by)))

  grown_along : (now : Traced FlagAnd) (lines : List (Told FlagAnd)) → IsPrefix now.history (said_by now lines).history
  grown_along now [] = ([], append-nil now.history)
  grown_along now (told ∷ lines) =
      prefix_trans now.history (after now told.line).history (said_by (after now told.line) lines).history (grown_after now told.line) (grown_along (after now told.line) lines)

  -- what the rest of a trace gives
  abbrev More : Traced FlagAnd → Stage → List Shown → Type 0
  More t at rest =
      (v : Walk) → Stood t v at → (others : List Heard) → AreHeard others (filter (is_shown_by (Of me)) rest)
      → IsSaid limits r k (said_by t (map (λ shown. shown.told) rest)).history (walked others v)

  pub along : (now : Traced FlagAnd) → IsKept flag_meld now → now.limits ≡ limits → (walk : Walk) (at : Stage) → Stood now walk at → (rest : List Shown) (items : List Heard)
      → AreLegalAfter flag_meld now (map (λ shown. shown.told) rest) → IsTrue (may_stop (stage_after r false at rest)) → AreHeard items (filter (is_shown_by (Of me)) rest)
      → IsSaid limits r k (said_by now (map (λ shown. shown.told) rest)).history (walked items walk)
  along now kept limits_is walk at stood [] [] may stop heard = said_of now stood.own walk at stood.stands
  along now kept limits_is walk at stood [] (item ∷ items) may stop heard = absurd heard
  along now kept limits_is walk at stood (shown ∷ rest) items may stop heard =
      go (λ v s others are. along (after now shown.told.line) kept_then limits_then v (next_stage r false at shown) s rest others may.1 stop are)
      (goes_on now kept limits_is stood.own stood.has_record walk shown.told.group shown.logged at stood.stands shown.told.line may.0)
    where
      kept_then : IsKept flag_meld (after now shown.told.line)
      kept_then = kept_after flag_meld now shown.told.group shown.told.line may.0 kept

      limits_then : (after now shown.told.line).limits ≡ limits
      limits_then = limits_stay flag_meld now (shown.told ∷ []) ∙ limits_is

      -- where nothing more is concluded, what was said still holds
      stopped : IsSaid limits r k (said_by (after now shown.told.line) (map (λ shown. shown.told) rest)).history walk
      stopped =
          let lines = map (λ shown. shown.told) rest in
          let last = said_by (after now shown.told.line) lines in
          let legal : IsLegal flag_meld limits last.history =
          subst (λ l. IsLegal flag_meld l last.history) (limits_stay flag_meld (after now shown.told.line) lines ∙ limits_then)
          (kept_along flag_meld (after now shown.told.line) lines may.1 kept_then).legal in
          said_lasts limits r k now.history last.history
          (prefix_trans now.history (after now shown.told.line).history last.history (grown_after now shown.told.line) (grown_along (after now shown.told.line) lines)) legal walk
          (said_of now stood.own walk at stood.stands)

      by_walk : More (after now shown.told.line) (next_stage r false at shown) rest → (o : Option Walk) → MayStand (after now shown.told.line) o (next_stage r false at shown) → (others : List Heard) → AreHeard others (filter (is_shown_by (Of me)) rest)
          → IsSaid limits r k (said_by (after now shown.told.line) (map (λ shown. shown.told) rest)).history (option_map_or (walked others) o walk)
      by_walk more None s others are = stopped
      by_walk more (Some v) s others are = more v s others are

      by_items : More (after now shown.told.line) (next_stage r false at shown) rest → (those : List Heard) → AreHeard those (shown ∷ filter (is_shown_by (Of me)) rest) → ((heard : Item) → IsHeard heard shown.told.line → MayStand (after now shown.told.line) (passed heard walk) (next_stage r false at shown))
          → IsSaid limits r k (said_by (after now shown.told.line) (map (λ shown. shown.told) rest)).history (walked those walk)
      by_items more [] are stands = absurd are
      by_items more (one ∷ others) are stands = by_walk more (passed one.item walk) (stands one.item are.0) others are.1.1

      hidden : is_shown_by (Of me) shown ≡ false → AreHeard items (filter (is_shown_by (Of me)) rest)
      hidden is = subst (λ (b : Bool). AreHeard items (if b then shown ∷ filter (is_shown_by (Of me)) rest else filter (is_shown_by (Of me)) rest)) is heard

      seen : is_shown_by (Of me) shown ≡ true → AreHeard items (shown ∷ filter (is_shown_by (Of me)) rest)
      seen is = subst (λ (b : Bool). AreHeard items (if b then shown ∷ filter (is_shown_by (Of me)) rest else filter (is_shown_by (Of me)) rest)) is heard

      go : More (after now shown.told.line) (next_stage r false at shown) rest → Goes (after now shown.told.line) shown walk (next_stage r false at shown) → IsSaid limits r k (said_by (after now shown.told.line) (map (λ shown. shown.told) rest)).history (walked items walk)
      go more (inl wrong) = absurd (cc (ap (λ a. may_stop (stage_after r false a rest)) wrong, ap may_stop (wrong_stays rest), stop))
      go more (inr (inl (is, s))) = more walk s items (hidden is)
      go more (inr (inr (is, stands))) = by_items more items (seen is) stands
