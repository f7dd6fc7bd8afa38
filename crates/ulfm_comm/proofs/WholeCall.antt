-- A call, put together of its look and of what came after it.
use Rattle.std.proofs.Common.{◌≡◌, ◌⊎◌, Bool, true, false, List, [], ℕ, Option, Some, None, refl, ap, ap₂, sym, ◌∙◌, subst, append-nil, if◌then◌else◌, inl, inr}
use Rattle.ulfm_comm.specs.Requests.{contributes}
use Rattle.std.proofs.Common.{IsTrue, IsFalse}
use Rattle.std.specs.List.{AllByRecursion}
use mathlib.Core.List.{IsPrefix}
use Rattle.ulfm_model.specs.declared.{call.Call.{Call}, event.Caller.{Caller}, event.Caller.TheVariants.{Rank}, event.Event.{Event}, limits.Limits.{Limits}, refusal.Refusal.{Refusal}}
use Rattle.ulfm_model.specs.declared.{refusal.Refusal.TheVariants.{NoSuchComm, SelfFailed, Twice}, reply.Reply.{Reply}, reply.Reply.TheVariants.{Refused}}
use Rattle.ulfm_model.specs.Answers.{CallAdds, IsReply, IsSelfFailed, MayOwn, Replies, RepliesBy, Sees, AtPoint, left_by, polled_by, refusal_of, refusal_on}
use Rattle.ulfm_model.specs.Answers.{traits_of}
use Rattle.ulfm_model.specs.{History.{History, IsLegal, entries_by, failures, has}, Records.{Held, Record, held_at, is_shrink}, Runs.{Did, IsSpan, unsettled_of}}
use Rattle.ulfm_model.specs.Terms.{comm_of, request_of, settled_by}
use Rattle.ulfm_model.proofs.{Histories.{failures_begin}, LeftRuns.{left_keeps}, Lists.{each_from, prefix_trans}}
use Rattle.ulfm_model.specs.Records.{moment}
use Rattle.ulfm_words.proofs.Trails.{did_none, did_prefix, did_quiet}
use Rattle.ulfm_comm.specs.{Ends.{IsEndRun}, Look.{Looked}}

-- a rank that has seen what its look found has seen what it may
pub sees_look : {P : Type 0} (shrinks : Bool) (look : List ℕ) (after : History P) → IsPrefix look (failures after) → Sees shrinks look after look
sees_look false look after begins = refl
sees_look true look after begins = (([], append-nil look), begins)

-- what a rank may have seen at the end of a call it may have seen at a later one
pub sees_later : {P : Type 0} (shrinks : Bool) (look : List ℕ) (after longer : History P) (seen : List ℕ) → IsPrefix after longer → Sees shrinks look after seen
    → Sees shrinks look longer seen
sees_later false look after longer seen more is = is
sees_later true look after longer seen more sees = (sees.0, prefix_trans seen (failures after) (failures longer) sees.1 (failures_begin after longer more))

-- a span whose point is its end
abbrev pub span_ends : {P : Type 0} {meld : P → P → P} {limits : Limits} {alone : Bool} {before look after : History P} (caller : Caller) (own : List (Event P))
    (spread : Bool) → Did alone [] before look → Did alone (entries_by caller own) look after → IsLegal meld limits after
    → IsSpan meld limits alone before after caller
span_ends {alone = alone} {before = before} {look = look} {after = after} caller own spread looked did legal = record {
  look = look;
  point = after;
  own = own;
  spread = spread;
  looked = looked;
  did = did;
  point_begins = prefix_trans before look after (did_prefix alone [] before look looked) (did_prefix alone (entries_by caller own) look after did);
  point_ends = ([], append-nil after);
  legal = legal;
}

module _ {P : Type 0} (meld : P → P → P) (limits : Limits) (alone : Bool) (before look : History P) (old : Record) where
  -- what a reply at the end of a call rests on
  abbrev pub at_point : Bool → History P → List (Event P) → AtPoint P
  at_point spread after own = record { look = failures look; history = after; own = own; spread = spread }

  -- where nobody else steps, the poll of a rank that isn't declared has marked the unsettled declared members
  abbrev pub Marks : Call P → List (Event P) → Type 0
  Marks asked own = IsTrue alone → IsTrue (traits_of asked).polls → IsFalse (has (failures before) old.number)
      → settled_by own ≡ unsettled_of limits.ranks before (comm_of asked) (polled_by old asked)

  -- a call with its point at its end, of a rank that has then seen so much
  pub run_ends : (spread : Bool) (after : History P) (own : List (Event P)) (asked : Call P) (reply : Reply P) (new : Record) (seen : List ℕ) → IsFalse old.refused
      → Did alone [] before look
      → Did alone (entries_by (Rank old.number) own) look after → IsLegal meld limits after → AllByRecursion (MayOwn (failures look) old asked) own
      → IsSelfFailed (at_point spread after own) old asked reply ⊎ IsReply meld limits (at_point spread after own) old asked reply
      → Sees (is_shrink (polled_by old asked)) (failures look) after seen
      → new ≡ left_by limits.ranks after (record old { seen = seen }) asked reply → Marks asked own → (IsTrue spread → (contributes asked ≡ true) × (reply ≡ Refused Twice))
      → IsEndRun meld limits alone (moment old before) asked reply (moment new after)
  run_ends spread after own asked reply new seen in_use looked did legal may replies sees is marks rests =
      let same : new.seen ≡ seen = ap (λ (w : Record). w.seen) is ∙ (left_keeps limits.ranks after (record old { seen = seen }) asked reply).1 in
      record {
        run = record {
          in_use = in_use;
          span = span_ends (Rank old.number) own spread looked did legal;
          answer = record {
            own = may;
            replies = replies;
            leaves = record {
              seen = subst (Sees (is_shrink (polled_by old asked)) (failures look) after) (sym same) sees;
              record_is = is ∙ ap (λ s. left_by limits.ranks after (record old { seen = s }) asked reply) (sym same);
            };
          };
        };
        at_end = refl;
        rests = rests;
        marks = marks;
      }

  -- the same, where it has seen what its look found
  run_at_end : (spread : Bool) (after : History P) (own : List (Event P)) (asked : Call P) (reply : Reply P) (new : Record) → IsFalse old.refused → Did alone [] before look
      → Did alone (entries_by (Rank old.number) own) look after → IsLegal meld limits after → AllByRecursion (MayOwn (failures look) old asked) own
      → IsSelfFailed (at_point spread after own) old asked reply ⊎ IsReply meld limits (at_point spread after own) old asked reply
      → new ≡ left_by limits.ranks after (record old { seen = failures look }) asked reply → Marks asked own → (IsTrue spread → (contributes asked ≡ true) × (reply ≡ Refused Twice))
      → IsEndRun meld limits alone (moment old before) asked reply (moment new after)
  run_at_end spread after own asked reply new in_use looked did legal may replies is marks rests =
      run_ends spread after own asked reply new (failures look) in_use looked did legal may replies
      (sees_look (is_shrink (polled_by old asked)) (failures look) after (failures_begin look after
      (did_prefix alone (entries_by (Rank old.number) own) look after did))) is marks rests

  -- a rank that is declared at the end, in a call that has added nothing; where nobody else steps, and the call is a poll, it was so at the look
  pub self_failed : (after : History P) (asked : Call P) (new : Record) → IsFalse old.refused → Did alone [] before look → Did alone [] look after
      → IsLegal meld limits after
      → IsTrue (has (failures after) old.number) → new ≡ record old { seen = failures look; refused = true }
      → IsEndRun meld limits alone (moment old before) asked (Refused SelfFailed) (moment new after)
  self_failed after asked new in_use looked did legal declared is =
      run_at_end false after [] asked (Refused SelfFailed) new in_use looked did legal tt (inl (record {
        reply_is = refl;
        declared = declared;
        adds_nothing = λ x starts. refl;
      })) is
      (λ here polls not_declared.
      let same : after ≡ before = did_quiet alone look after did here ∙ did_quiet alone before look looked here in
      let clash = ap (λ h. has (failures h) old.number) (sym same) in absurd (cc (clash, not_declared, declared)))
      (λ on. absurd (cc on))

module _ {P : Type 0} (meld : P → P → P) (limits : Limits) (alone : Bool) (before look : History P) (old mid : Record)
    (looked : Looked alone before look old mid) where
  -- what the rank holds is as it was
  pub held_before : (c : ℕ) (held : Option Held) → held_at mid c ≡ held → held_at old c ≡ held
  held_before c held is = sym (ap (λ (w : Record). held_at w c) looked.record_is) ∙ is

  left_is : (after : History P) (asked : Call P) (reply : Reply P) (new : Record) → new ≡ left_by limits.ranks after mid asked reply
      → new ≡ left_by limits.ranks after (record old { seen = failures look }) asked reply
  left_is after asked reply new is = is ∙ ap (λ w. left_by limits.ranks after w asked reply) looked.record_is

  -- a call that its record refuses
  pub refused : (asked : Call P) (refusal : Refusal) (new : Record) → IsLegal meld limits look → refusal_of old asked ≡ Some refusal
      → new ≡ left_by limits.ranks look mid asked (Refused refusal)
      → (IsTrue (traits_of asked).polls → polled_by old asked ≡ None) → IsEndRun meld limits alone (moment old before) asked (Refused refusal) (moment new look)
  refused asked refusal new legal is left idle =
      run_at_end meld limits alone before look old false look [] asked (Refused refusal) new looked.in_use looked.did (did_none alone look) legal tt
      (inr (record {
        not_declared = looked.not_declared;
        replies = subst (RepliesBy {P = P} (λ x. Replies meld limits (at_point meld limits alone before look old false look []) old x asked (Refused refusal)) (Refused refusal) (held_at old (comm_of asked)))
            (sym is) refl;
      }))
      (left_is look asked (Refused refusal) new left)
      (λ here polls not_declared. sym (ap (unsettled_of limits.ranks before (comm_of asked)) (idle polls)))
      (λ on. absurd (cc on))

  -- a call on a communicator that the rank doesn't hold
  pub refused_missing : (asked : Call P) (new : Record) → IsLegal meld limits look → held_at mid (comm_of asked) ≡ None → new ≡ mid
      → IsEndRun meld limits alone (moment old before) asked (Refused NoSuchComm) (moment new look)
  refused_missing asked new legal missing is =
      refused asked NoSuchComm new legal (ap (λ held. refusal_on old held asked) (held_before (comm_of asked) None missing)) is
      (λ polls. ap₂ (λ (b : Bool) held. if b then request_of held else None) polls (held_before (comm_of asked) None missing))

  -- a call that its record doesn't refuse, with its reply, which may rest on a wing
  pub replied_with : (spread : Bool) (after : History P) (own : List (Event P)) (asked : Call P) (reply : Reply P) (new : Record) (x : Held)
      → Did alone (entries_by (Rank old.number) own) look after → IsLegal meld limits after
      → held_at old (comm_of asked) ≡ Some x → refusal_of old asked ≡ None → AllByRecursion (CallAdds (failures look) old.number x asked) own
      → Replies meld limits (record { look = failures look; history = after; own = own; spread = spread }) old x asked reply → new ≡ left_by limits.ranks after mid asked reply
      → Marks meld limits alone before look old asked own → (IsTrue spread → (contributes asked ≡ true) × (reply ≡ Refused Twice)) → IsEndRun meld limits alone (moment old before) asked reply (moment new after)
  replied_with spread after own asked reply new x did legal held passed adds replies left marks rests =
      let view : AtPoint P = record { look = failures look; history = after; own = own; spread = spread } in
      run_at_end meld limits alone before look old spread after own asked reply new looked.in_use looked.did did legal
      (each_from (CallAdds (failures look) old.number x asked) (MayOwn (failures look) old asked) (λ e added. record {
        not_declared = looked.not_declared;
        not_refused = passed;
        adds = (x, held, added);
      }) own adds)
      (inr (record {
        not_declared = looked.not_declared;
        replies = subst (λ held. RepliesBy {P = P} (λ x. Replies meld limits view old x asked reply) reply held (refusal_of old asked)) (sym held)
            (subst (RepliesBy {P = P} (λ x. Replies meld limits view old x asked reply) reply (Some x)) (sym passed) replies);
      }))
      (left_is after asked reply new left)
      marks rests

  -- .. which rests on none
  pub replied : (after : History P) (own : List (Event P)) (asked : Call P) (reply : Reply P) (new : Record) (x : Held)
      → Did alone (entries_by (Rank old.number) own) look after → IsLegal meld limits after
      → held_at old (comm_of asked) ≡ Some x → refusal_of old asked ≡ None → AllByRecursion (CallAdds (failures look) old.number x asked) own
      → Replies meld limits (record { look = failures look; history = after; own = own; spread = false }) old x asked reply → new ≡ left_by limits.ranks after mid asked reply
      → Marks meld limits alone before look old asked own → IsEndRun meld limits alone (moment old before) asked reply (moment new after)
  replied after own asked reply new x did legal held passed adds replies left marks = replied_with false after own asked reply new x did legal held passed adds replies left marks (λ on. absurd (cc on))
