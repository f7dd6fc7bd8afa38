-- Worked calls with others' steps in between.
use Rattle.std.proofs.Common.{◌≡◌, IsTrue, ℕ, [], ◌∷◌, ◌++◌, append-nil, Some, true, false, refl, arith, inl, inr}
use Rattle.std.specs.Prelude.{bit_and}
use mathlib.Core.List.{IsPrefix}
use Rattle.ulfm_laws.specs.declared.summary.Body.TheVariants.{Unit as NoBody}
use Rattle.ulfm_model.specs.declared.call.Call.TheVariants.{Agree as Ask, Poll}
use Rattle.ulfm_model.specs.declared.reply.Reply.TheVariants.{Started, Shrunk, Refused}
use Rattle.ulfm_model.specs.declared.refusal.Refusal.TheVariants.{SelfFailed, IsRevoked, ProcFailed}
use Rattle.ulfm_model.specs.declared.call.Request.TheVariants.{Agree, Shrink, Barrier}
use Rattle.ulfm_model.specs.declared.contribution.Offer.TheVariants.{Flag, Ctx}
use Rattle.ulfm_model.specs.declared.event.Caller.{Caller}
use Rattle.ulfm_model.specs.declared.event.Caller.TheVariants.{Outside, Rank}
use Rattle.ulfm_model.specs.declared.event.Entry.{Entry}
use Rattle.ulfm_model.specs.declared.event.Event.{Event}
use Rattle.ulfm_model.specs.declared.event.Event.TheVariants.{Fail, Settle, Mark, Arrive, Revoke, Spawn}
use Rattle.ulfm_model.specs.declared.limits.Limits.{Limits}
use Rattle.ulfm_model.specs.Answers.{closed}
use Rattle.ulfm_model.specs.History.{IsLegal, MayFollow, decision, is_decided}
use Rattle.ulfm_model.specs.Computed.{given_at, mark_at}
use Rattle.ulfm_model.specs.Terms.{new_held}
use Rattle.ulfm_model.specs.History.{History}
use Rattle.ulfm_model.specs.Records.{Record, all_but, new_record, with_held}
use Rattle.ulfm_model.specs.Runs.{IsRun, IsSpan}
use Rattle.ulfm_model.specs.Records.{moment}

-- an event in the name of its caller
abbrev by : Caller → Event ℕ → Entry ℕ
by caller event = record { by = caller; event = event }

-- a world of three ranks
abbrev three : Limits
three = record { ranks = 3; comms = 2; rounds = 4 }

-- a world of two
abbrev two : Limits
two = record { ranks = 2; comms = 1; rounds = 2 }

never : {X : Type 0} → IsTrue false → X
never alone = absurd (cc alone)

-- a call of a rank that looks at what it has seen before and adds nothing, while others add these
abbrev span_of : (limits : Limits) (r : ℕ) (before since point : History ℕ) → IsPrefix before point → IsPrefix point (before ++ since) → IsLegal bit_and limits (before ++ since)
    → IsSpan bit_and limits false before (before ++ since) (Rank r)
span_of limits r before since point begins ends legal = record {
  look = before;
  point = point;
  own = [];
  spread = false;
  looked = record { since = []; goes_on = append-nil before; stands = tt; quiet = λ alone. refl };
  did = record { since = since; goes_on = refl; stands = tt; quiet = never };
  point_begins = begins;
  point_ends = ends;
  legal = legal;
}

-- rank 2 is declared between its look and its exchange
abbrev late : History ℕ
late = by Outside (Fail 2) ∷ by (Rank 2) (Settle 0 0 2 (given_at (Flag 0x5) 0 0)) ∷ []

-- its agree is answered started all the same, since its contribution came before any mark
contribution_in_flight : IsRun bit_and three false (moment (new_record three 2) []) (Ask 2 0 0x5) Started (moment (with_held (new_record three 2) 0 (λ x. record x { next_agreement = 1; request = Some (Agree 0) })) late)
contribution_in_flight = record {
  in_use = refl;
  span = record {
    look = [];
    point = late;
    own = Settle 0 0 2 (given_at (Flag 0x5) 0 0) ∷ [];
    spread = false;
    looked = record { since = []; goes_on = refl; stands = tt; quiet = λ alone. refl };
    did = record { since = late; goes_on = refl; stands = inr (inl (refl, tt)); quiet = λ alone. absurd (cc alone) };
    point_begins = (late, refl);
    point_ends = ([], refl);
    legal = search arith;
  };
  answer = record {
    own = (record { not_declared = refl; not_refused = refl; adds = (_, refl, (given_at (Flag 0x5) 0 0, refl)) }, tt);
    replies = inr (record {
      not_declared = refl;
      replies = inl (refl, record { given = given_at (Flag 0x5) 0 0; own = refl; stands = refl; offer_is = refl; known = refl; acked = refl });
    });
    leaves = record { seen = refl; record_is = refl };
  };
}

-- rank 2 is declared and marked between its look and its exchange
abbrev marked : History ℕ
marked = by Outside (Fail 2) ∷ by (Rank 0) (Mark 0 0 2 (mark_at 1)) ∷ []

-- its agree is refused for good, without an event
mark_comes_first : IsRun bit_and three false (moment (new_record three 2) []) (Ask 2 0 0x5) (Refused SelfFailed) (moment (record (new_record three 2) { refused = true }) marked)
mark_comes_first = record {
  in_use = refl;
  span = span_of three 2 [] marked marked (marked, refl) ([], refl) (search arith);
  answer = record {
    own = tt;
    replies = inl (record { reply_is = refl; declared = refl; adds_nothing = λ x starts. refl });
    leaves = record { seen = refl; record_is = refl };
  };
}

-- rank 0 waits in a barrier
abbrev waiting : Record
waiting = with_held (new_record two 0) 0 (λ x. record x { next_barrier = 1; request = Some (Barrier 0) })

-- both have arrived in it
abbrev arrived : History ℕ
arrived = by (Rank 0) (Arrive 0 0 0) ∷ by (Rank 1) (Arrive 0 0 1) ∷ []

-- a revocation between the loads of a poll decides its answer
revoked_between_loads : IsRun bit_and two false (moment waiting arrived) (Poll 0 0) (Refused IsRevoked) (moment (closed waiting 0) (arrived ++ by (Rank 1) (Revoke 0) ∷ []))
revoked_between_loads = record {
  in_use = refl;
  span = span_of two 0 arrived (by (Rank 1) (Revoke 0) ∷ []) (arrived ++ by (Rank 1) (Revoke 0) ∷ []) (by (Rank 1) (Revoke 0) ∷ [], refl) ([], refl) (search arith);
  answer = record {
    own = tt;
    replies = inr (record { not_declared = refl; replies = refl });
    leaves = record { seen = refl; record_is = refl };
  };
}

-- rank 1 is declared with its arrival in flight
abbrev declared : History ℕ
declared = by Outside (Fail 1) ∷ by (Rank 0) (Arrive 0 0 0) ∷ []

-- a poll may have its point before the arrival
late_arrival : IsRun bit_and two false (moment (record waiting { seen = 1 ∷ [] }) declared) (Poll 0 0) (Refused ProcFailed) (moment (closed (record waiting { seen = 1 ∷ [] }) 0) (declared ++ by (Rank 1) (Arrive 0 0 1) ∷ []))
late_arrival = record {
  in_use = refl;
  span = span_of two 0 declared (by (Rank 1) (Arrive 0 0 1) ∷ []) declared ([], refl) (by (Rank 1) (Arrive 0 0 1) ∷ [], refl) (search arith);
  answer = record {
    own = tt;
    replies = inr (record { not_declared = refl; replies = refl });
    leaves = record { seen = refl; record_is = refl };
  };
}

-- all three have given a shrink the ids that they don't hold, and communicator 1 is made of its round
abbrev spawned : History ℕ
spawned =
    by (Rank 0) (Settle 0 0 0 (given_at (Ctx (all_but 0)) 0 0)) ∷ by (Rank 1) (Settle 0 0 1 (given_at (Ctx (all_but 0)) 0 0))
    ∷ by (Rank 2) (Settle 0 0 2 (given_at (Ctx (all_but 0)) 0 0)) ∷ by (Rank 1) (Spawn 1 0 0) ∷ []

-- rank 0 waits in this shrink
abbrev shrinking : Record
shrinking = with_held (new_record three 0) 0 (λ x. record x { next_agreement = 1; request = Some (Shrink 0) })

-- rank 2 is declared before the look of a poll, and the poll may have its point before that
shrunk_before_the_look : IsRun bit_and three false (moment shrinking spawned) (Poll 0 0) (Shrunk 1 1 3) (moment (let left = closed (record shrinking { seen = 2 ∷ [] }) 0 in record left { held = left.held ++ new_held 1 1 (0 ∷ 1 ∷ 2 ∷ []) ∷ [] }) (spawned ++ by Outside (Fail 2) ∷ []))
shrunk_before_the_look = record {
  in_use = refl;
  span = record {
    look = spawned ++ by Outside (Fail 2) ∷ [];
    point = spawned;
    own = [];
    spread = false;
    looked = record { since = by Outside (Fail 2) ∷ []; goes_on = refl; stands = tt; quiet = λ alone. absurd (cc alone) };
    did = record { since = []; goes_on = refl; stands = tt; quiet = λ alone. refl };
    point_begins = ([], refl);
    point_ends = (by Outside (Fail 2) ∷ [], refl);
    legal = (search arith, (search arith, (search arith, (record { next = refl; room = search arith; exists = search arith; in_rounds = search arith; decided = refl; ids = (_, refl, search arith); first = refl }, search arith))));
  };
  answer = record {
    own = tt;
    replies = inr (record {
      not_declared = refl;
      replies = inr (refl, inl (_, refl, inr (search arith, refl, inl (1, 1, search arith, refl, record { in_it = refl; least = search arith }, refl))));
    });
    leaves = record { seen = (([], refl), ([], refl)); record_is = refl };
  };
}

-- both ranks are declared and marked
abbrev nobody : History ℕ
nobody = by Outside (Fail 0) ∷ by Outside (Fail 1) ∷ by Outside (Mark 0 0 0 (mark_at 1)) ∷ by Outside (Mark 0 0 1 (mark_at 2)) ∷ []

-- their round is decided without a contribution: both have failed, and nobody is there to lack an acknowledgement
decision_of_nobody : IsLegal bit_and two nobody × IsTrue (is_decided 2 nobody 0 0) × (decision bit_and 2 nobody 0 0 ≡ record { body = NoBody; failed = 0 ∷ 1 ∷ []; raised = false })
decision_of_nobody = (search arith, refl, refl)

-- the mark of rank 1 may not leave out that rank 0 failed first
mark_counts_one_too_few : ¬ MayFollow bit_and two (by Outside (Fail 0) ∷ by Outside (Fail 1) ∷ by Outside (Mark 0 0 0 (mark_at 1)) ∷ []) (Mark 0 0 1 (mark_at 1))
mark_counts_one_too_few may = cc (may.2)
