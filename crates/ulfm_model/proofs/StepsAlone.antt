-- What is asked of a call's events and reply, so that they make a run where nobody else steps.
use Rattle.std.proofs.Common.{◌≡◌, ◌⊎◌, ℕ, Bool, true, false, List, [], ◌∷◌, ◌++◌, Some, None, refl, ap, sym, subst, append-nil, inl, inr, IsTrue}
use Rattle.std.specs.Prelude.{IsFalse}
use Rattle.std.specs.List.{AllByRecursion}
use mathlib.Core.List.{IsPrefix}
use Rattle.ulfm_model.specs.declared.call.Call.{Call}
use Rattle.ulfm_model.specs.declared.reply.Reply.{Reply}
use Rattle.ulfm_model.specs.declared.reply.Reply.TheVariants.{Refused}
use Rattle.ulfm_model.specs.declared.limits.Limits.{Limits}
use Rattle.ulfm_model.specs.declared.event.Caller.{Caller}
use Rattle.ulfm_model.specs.declared.event.Caller.TheVariants.{Rank}
use Rattle.ulfm_model.specs.declared.event.Event.{Event}
use Rattle.ulfm_model.specs.History.{History, entries_by, failures, has}
use Rattle.ulfm_model.specs.{Answers.{CallAdds, Effect, IsReply, IsSelfFailed, MayOwn, Replies, RepliesBy, Sees, AtPoint, left_by, polled_by, printed, refusal_of, left_with, traits_of}, Answers.Effect.{Ends, ForGood, Keeps}, History.{IsLegal, IsLegalAfter}, Runs.{IsAloneRun, unsettled_of}}
use Rattle.ulfm_model.specs.Computed.{CallOutcome}
use Rattle.ulfm_model.specs.Terms.{comm_of, settled_by}
use Rattle.ulfm_model.specs.Records.{Held, Record, held_at, is_shrink}
use Rattle.ulfm_model.specs.Runs.{IsSpan, StandsIn}
use Rattle.ulfm_model.specs.Records.{moment}
use Rattle.ulfm_model.proofs.Lists.{each_from}
use Rattle.ulfm_model.proofs.Histories.{failures_begin, legal_append}

-- a list stands in itself
pub stands_itself : {E : Type 0} (xs : List E) → StandsIn xs xs
stands_itself [] = tt
stands_itself (x ∷ xs) = inl (refl, stands_itself xs)

-- a call where nobody else steps: it looks at the history before it, and its point is its end
abbrev pub span_alone : {P : Type 0} (meld : P → P → P) (limits : Limits) (h : History P) (caller : Caller) (events : List (Event P)) → IsLegal meld limits h → IsLegalAfter meld limits h (entries_by caller events)
    → IsSpan meld limits true h (h ++ entries_by caller events) caller
span_alone meld limits h caller events legal after = record {
  look = h;
  point = h ++ entries_by caller events;
  own = events;
  spread = false;
  looked = record { since = []; goes_on = append-nil h; stands = tt; quiet = λ alone. refl };
  did = record { since = entries_by caller events; goes_on = refl; stands = stands_itself (entries_by caller events); quiet = λ alone. refl };
  point_begins = (entries_by caller events, refl);
  point_ends = ([], append-nil (h ++ entries_by caller events));
  legal = legal_append meld limits h (entries_by caller events) legal after;
}

-- what a refusal leaves has seen what the rank has
refused_sees : (now : Record) (c : ℕ) (effect : Effect) → (left_with now c effect).seen ≡ now.seen
refused_sees now c Keeps = refl
refused_sees now c Ends = refl
refused_sees now c ForGood = refl

-- and so has what any reply leaves
left_sees : {P : Type 0} (ranks : ℕ) (h : History P) (now : Record) (asked : Call P) (reply : Reply P) → (left_by ranks h now asked reply).seen ≡ now.seen
left_sees ranks h now asked (Refused refusal) = refused_sees now (comm_of asked) (printed refusal).2
left_sees ranks h now asked _ = refl

-- all that may be said of what was seen is said of what the look found
sees_look : {P : Type 0} (b : Bool) (look : List ℕ) (after : History P) → IsPrefix look (failures after) → Sees b look after look
sees_look false look after begins = refl
sees_look true look after begins = (([], append-nil look), begins)

module _ {P : Type 0} (meld : P → P → P) (limits : Limits) (h : History P) (own : Record) where
  -- the view of a call that adds these events
  abbrev pub view_with : List (Event P) → AtPoint P
  view_with events = record { look = failures h; history = h ++ entries_by (Rank own.number) events; own = events; spread = false }

  -- the events may follow, and may be the call's own; the reply is an answer; a poll marks whom it has to
  pub record IsGood (asked : Call P) (out : CallOutcome P) : Type 0 where
    pub legal_after : IsLegalAfter meld limits h (entries_by (Rank own.number) out.own)
    pub owns : AllByRecursion (MayOwn (failures h) own asked) out.own
    pub replies : IsSelfFailed (view_with out.own) own asked out.reply ⊎ IsReply meld limits (view_with out.own) own asked out.reply
    pub marks : IsTrue (traits_of asked).polls → IsFalse (has (failures h) own.number) → settled_by out.own ≡ unsettled_of limits.ranks h (comm_of asked) (polled_by own asked)

  -- the outcome's run, from this history and record to those that it leaves
  abbrev pub IsRunOf : Call P → CallOutcome P → Type 0
  IsRunOf asked out =
      let after = h ++ entries_by (Rank own.number) out.own in
      IsAloneRun meld limits (moment own h) asked out.reply (moment (left_by limits.ranks after (record own { seen = failures h }) asked out.reply) after)

  -- such an outcome makes a run where nobody else steps
  pub good_run : (asked : Call P) (out : CallOutcome P) → IsLegal meld limits h → IsFalse own.refused → IsGood asked out → IsRunOf asked out
  good_run asked out legal in_use good =
      let after : History P = h ++ entries_by (Rank own.number) out.own in
      let now : Record = record own { seen = failures h } in
      let seen : (left_by limits.ranks after now asked out.reply).seen ≡ failures h = left_sees limits.ranks after now asked out.reply in
      let begins : IsPrefix h after = (entries_by (Rank own.number) out.own, refl) in
      record {
        run = record {
          in_use = in_use;
          span = span_alone meld limits h (Rank own.number) out.own legal good.legal_after;
          answer = record {
            own = good.owns;
            replies = good.replies;
            leaves = record {
              seen = subst (Sees (is_shrink (polled_by own asked)) (failures h) after) (sym seen) (sees_look (is_shrink (polled_by own asked)) (failures h) after (failures_begin h after begins));
              record_is = ap (λ w. left_by limits.ranks after (record own { seen = w }) asked out.reply) (sym seen);
            };
          };
        };
        at_end = refl;
        unspread = refl;
        marks = good.marks;
      }

  -- so it is where the record doesn't refuse the call and the rank isn't declared
  pub call_good : (asked : Call P) (x : Held) (out : CallOutcome P) → held_at own (comm_of asked) ≡ Some x → refusal_of own asked ≡ None → has (failures h) own.number ≡ false
      → IsLegalAfter meld limits h (entries_by (Rank own.number) out.own) → AllByRecursion (CallAdds (failures h) own.number x asked) out.own
      → Replies meld limits (view_with out.own) own x asked out.reply
      → (IsTrue (traits_of asked).polls → settled_by out.own ≡ unsettled_of limits.ranks h (comm_of asked) (polled_by own asked)) → IsGood asked out
  call_good asked x out at passed alive legal_after adds replies marks = record {
    legal_after = legal_after;
    owns =
        each_from (CallAdds (failures h) own.number x asked) (MayOwn (failures h) own asked)
        (λ event added. record { not_declared = alive; not_refused = passed; adds = (x, at, added) }) out.own adds;
    replies = inr (record {
      not_declared = alive;
      replies =
          subst (RepliesBy (λ x. Replies meld limits (view_with out.own) own x asked out.reply) out.reply (held_at own (comm_of asked))) (sym passed)
          (subst (λ held. RepliesBy (λ x. Replies meld limits (view_with out.own) own x asked out.reply) out.reply held None) (sym at) replies);
    });
    marks = λ polls not_declared. marks polls;
  }
