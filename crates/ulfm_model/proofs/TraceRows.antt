-- Worked traces, computed.
use Rattle.std.proofs.Common.{◌≡◌, ℕ, List, [], ◌∷◌, ◌++◌, Some, true, false, refl, subst, arith, inl, inr}
use Rattle.std.specs.Prelude.{bit_and}
use Rattle.ulfm_model.specs.declared.{call.Call.{Call}, contribution.Offer.{Offer}, event.Caller.{Caller}, event.Event.{Event}, limits.Limits.{Limits}}
use Rattle.ulfm_model.specs.declared.{refusal.Refusal.{Refusal}, reply.Reply.{Reply}}
use Rattle.ulfm_model.specs.Computed.{given_at, mark_at}
use Rattle.ulfm_model.specs.declared.{line.Line.{Line}, line.Why.{Why}, step_line.StepLine.{StepLine}}
use Rattle.ulfm_model.specs.Follows.{IsPiece, fail_piece}
use Rattle.ulfm_model.specs.Traces.{AnswersCall, IsBad, IsLegalTrace, MayCome, Told, Under, nothing, said_by}
use Rattle.ulfm_model.proofs.Parts.{legal_parts}

-- a world of three ranks
abbrev three : Limits
three = record { ranks = 3; comms = 2; rounds = 4 }

-- a world of two
abbrev two : Limits
two = record { ranks = 2; comms = 1; rounds = 2 }

-- a line that lists nobody; flags are numbers here, combined bit by bit
abbrev plain : Line ℕ → Told ℕ
plain line = record { line = line; group = [] }

-- a rank's call with its look, which finds so many failures
abbrev asks : ℕ → Call ℕ → ℕ → List (Told ℕ)
asks r asked count = plain (Line.Called asked false) ∷ plain (Line.Looked r count) ∷ []

abbrev did : Caller → Event ℕ → Told ℕ
did by event = plain (Line.Happened by (Some event))

abbrev replied : Caller → ℕ → Reply ℕ → Told ℕ
replied by point reply = plain (Line.Replied by point (Some reply))

-- the outside declares a rank, as the event of this number
abbrev fails : ℕ → ℕ → List (Told ℕ)
fails r point = plain (Line.Called (Call.Fail r) false) ∷ did Caller.Outside (Event.Fail r) ∷ replied Caller.Outside point Reply.Declared ∷ []

-- a rank contributes a flag to the first round, as the event of this number
abbrev gives : ℕ → ℕ → ℕ → ℕ → List (Told ℕ)
gives r flag known point =
    did (Caller.Rank r) (Event.Settle 0 0 r (given_at (Offer.Flag flag) known 0)) ∷ replied (Caller.Rank r) point Reply.Started ∷ []

-- contribution_in_flight: rank 2 is declared between its look and its exchange; all contribute, and rank 0 asks
abbrev all_contribute : List (Told ℕ)
all_contribute =
    asks 2 (Call.Agree 2 0 5) 0 ++ fails 2 1 ++ gives 2 5 0 2
    ++ asks 0 (Call.Agree 0 0 0xf) 1 ++ gives 0 0xf 1 3 ++ asks 1 (Call.Agree 1 0 7) 1 ++ gives 1 7 1 4
    ++ asks 0 (Call.Poll 0 0) 1

-- rank 0 is told this flag, and rank 2 that it is declared
abbrev told_so : ℕ → List (Told ℕ)
told_so flag =
    replied (Caller.Rank 0) 4 (Reply.Agreed true 1 flag) ∷ asks 2 (Call.Poll 2 0) 1
    ++ replied (Caller.Rank 2) 4 (Reply.Refused Refusal.SelfFailed) ∷ []

-- each line may come after those before it
contribution_in_flight : IsLegalTrace bit_and three (all_contribute ++ told_so 5)
contribution_in_flight = (
  refl,
  (
    (record { call = _; is_open = refl; first = refl; own = _; has_record = refl; in_use = refl }, refl),
    (
      refl,
      (
        ((search arith, refl), tt),
        (
          record { call = _; is_open = refl; since_begin = search arith; by_now = search arith; answers = inl (refl, refl, refl); lists = refl },
          (
            ((record { exists = search arith; member = refl; in_rounds = search arith }, refl, search arith), record { call = _; is_open = refl; looked = refl; own = _; has_record = refl; may_own = record { not_declared = refl; not_refused = refl; adds = (_, refl, (_, refl)) } }),
            (
              record { call = _; is_open = refl; since_begin = search arith; by_now = search arith; lists = refl; answers = inr (refl, refl, inr (record { not_declared = refl; replies = inl (refl, record { given = _; own = refl; stands = refl; offer_is = refl; known = refl; acked = refl }) })) },
              (
                refl,
                (
                  (record { call = _; is_open = refl; first = refl; own = _; has_record = refl; in_use = refl }, refl),
                  (
                    ((record { exists = search arith; member = refl; in_rounds = search arith }, refl, search arith), record { call = _; is_open = refl; looked = refl; own = _; has_record = refl; may_own = record { not_declared = refl; not_refused = refl; adds = (_, refl, (_, refl)) } }),
                    (
                      record { call = _; is_open = refl; since_begin = search arith; by_now = search arith; lists = refl; answers = inr (refl, refl, inr (record { not_declared = refl; replies = inl (refl, record { given = _; own = refl; stands = refl; offer_is = refl; known = refl; acked = refl }) })) },
                      (
                        refl,
                        (
                          (record { call = _; is_open = refl; first = refl; own = _; has_record = refl; in_use = refl }, refl),
                          (
                            ((record { exists = search arith; member = refl; in_rounds = search arith }, refl, search arith), record { call = _; is_open = refl; looked = refl; own = _; has_record = refl; may_own = record { not_declared = refl; not_refused = refl; adds = (_, refl, (_, refl)) } }),
                            (
                              record { call = _; is_open = refl; since_begin = search arith; by_now = search arith; lists = refl; answers = inr (refl, refl, inr (record { not_declared = refl; replies = inl (refl, record { given = _; own = refl; stands = refl; offer_is = refl; known = refl; acked = refl }) })) },
                              (
                                refl,
                                (
                                  (record { call = _; is_open = refl; first = refl; own = _; has_record = refl; in_use = refl }, refl),
                                  (
                                    record { call = _; is_open = refl; since_begin = search arith; by_now = search arith; lists = refl; answers = inr (refl, refl, inr (record { not_declared = refl; replies = inr (refl, inl (_, refl, refl)) })) },
                                    (
                                      refl,
                                      (
                                        (record { call = _; is_open = refl; first = refl; own = _; has_record = refl; in_use = refl }, refl),
                                        (
                                          record { call = _; is_open = refl; since_begin = search arith; by_now = search arith; lists = refl; answers = inr (refl, refl, inl (record { reply_is = refl; declared = refl; adds_nothing = λ x starts. refl })) },
                                          tt,
                                        ),
                                      ),
                                    ),
                                  ),
                                ),
                              ),
                            ),
                          ),
                        ),
                      ),
                    ),
                  ),
                ),
              ),
            ),
          ),
        ),
      ),
    ),
  ),
)

-- rank 0 polls its agree
abbrev asked : Under ℕ
asked = record { asked = Call.Poll 0 0; begun = 4; look = Some 1; own = [] }

-- rank 0 is answered another flag
abbrev AnswersAnother : Under ℕ → Type 0
AnswersAnother u = AnswersCall bit_and (said_by (nothing three) all_contribute) (Caller.Rank 0) u 4 (Reply.Agreed true 1 7)

no_answer : AnswersAnother asked → ⊥
no_answer answers =
    elim answers [
      | inl before ↦ cc (before.0)
      | inr now ↦ elim (now.2) [
        | inl self ↦ cc (self.reply_is)
        | inr reply ↦ elim (reply.replies) [
          | inl pending ↦ cc (pending.1)
          | inr decided ↦ elim (decided.1) [
            | inl agreed ↦ cc (agreed.1, agreed.2)
            | inr clash ↦ cc (clash.0)
          ]
        ]
      ]
    ]

no_other_flag : MayCome bit_and (said_by (nothing three) all_contribute) [] (Line.Replied (Caller.Rank 0) 4 (Some (Reply.Agreed true 1 7))) → ⊥
no_other_flag may = let same : may.call ≡ asked = cc (may.is_open) in no_answer (subst AnswersAnother same may.answers)

-- with the flag that rank 0 is told changed it is no legal trace
flag_changed : ¬ IsLegalTrace bit_and three (all_contribute ++ told_so 7)
flag_changed legal = no_other_flag ((legal_parts bit_and (nothing three) all_contribute (told_so 7) legal).1.0)

-- decision_of_nobody: both are declared with one contribution in flight, and each poll is told so
in_flight_of_two : IsLegalTrace bit_and two (
    asks 1 (Call.Agree 1 0 1) 0 ++ fails 0 1 ++ fails 1 2 ++ gives 1 1 0 3
    ++ asks 0 (Call.Poll 0 0) 2 ++ replied (Caller.Rank 0) 3 (Reply.Refused Refusal.SelfFailed) ∷ []
    ++ asks 1 (Call.Poll 1 0) 2 ++ replied (Caller.Rank 1) 3 (Reply.Refused Refusal.SelfFailed) ∷ [])
in_flight_of_two = (
  refl,
  (
    (record { call = _; is_open = refl; first = refl; own = _; has_record = refl; in_use = refl }, refl),
    (
      refl,
      (
        ((search arith, refl), tt),
        (
          record { call = _; is_open = refl; since_begin = search arith; by_now = search arith; answers = inl (refl, refl, refl); lists = refl },
          (
            refl,
            (
              ((search arith, refl), tt),
              (
                record { call = _; is_open = refl; since_begin = search arith; by_now = search arith; answers = inl (refl, refl, refl); lists = refl },
                (
                  ((record { exists = search arith; member = refl; in_rounds = search arith }, refl, search arith), record { call = _; is_open = refl; looked = refl; own = _; has_record = refl; may_own = record { not_declared = refl; not_refused = refl; adds = (_, refl, (_, refl)) } }),
                  (
                    record { call = _; is_open = refl; since_begin = search arith; by_now = search arith; lists = refl; answers = inr (refl, refl, inr (record { not_declared = refl; replies = inl (refl, record { given = _; own = refl; stands = refl; offer_is = refl; known = refl; acked = refl }) })) },
                    (
                      refl,
                      (
                        (record { call = _; is_open = refl; first = refl; own = _; has_record = refl; in_use = refl }, refl),
                        (
                          record { call = _; is_open = refl; since_begin = search arith; by_now = search arith; lists = refl; answers = inr (refl, refl, inl (record { reply_is = refl; declared = refl; adds_nothing = λ x starts. refl })) },
                          (
                            refl,
                            (
                              (record { call = _; is_open = refl; first = refl; own = _; has_record = refl; in_use = refl }, refl),
                              (
                                record { call = _; is_open = refl; since_begin = search arith; by_now = search arith; lists = refl; answers = inr (refl, refl, inl (record { reply_is = refl; declared = refl; adds_nothing = λ x starts. refl })) },
                                tt,
                              ),
                            ),
                          ),
                        ),
                      ),
                    ),
                  ),
                ),
              ),
            ),
          ),
        ),
      ),
    ),
  ),
)

-- both are declared, and the first is marked
abbrev one_marked : List (Told ℕ)
one_marked =
    did Caller.Outside (Event.Fail 0) ∷ did Caller.Outside (Event.Fail 1) ∷ did Caller.Outside (Event.Mark 0 0 0 (mark_at 1)) ∷ []

-- the second is marked with this count
abbrev marks_other : ℕ → Told ℕ
marks_other known = did Caller.Outside (Event.Mark 0 0 1 (mark_at known))

-- both are marked: a decision without contributors
both_marked : IsLegalTrace bit_and two (one_marked ++ marks_other 2 ∷ [])
both_marked = (
  ((search arith, refl), tt),
  (
    ((search arith, refl), tt),
    (
      ((record { exists = search arith; member = refl; in_rounds = search arith }, refl, refl), tt),
      (
        ((record { exists = search arith; member = refl; in_rounds = search arith }, refl, refl), tt),
        tt,
      ),
    ),
  ),
)

-- a mark counts the failures up to and with its rank: with another count it may not come, as an event
count_changed : IsBad bit_and (said_by (nothing two) one_marked) [] (marks_other 1).line Why.Event
count_changed = inl (refl, λ may. cc (may.2))

-- and it is no legal trace
count_changed_is_not_legal : ¬ IsLegalTrace bit_and two (one_marked ++ marks_other 1 ∷ [])
count_changed_is_not_legal legal = cc ((legal_parts bit_and (nothing two) one_marked (marks_other 1 ∷ []) legal).1.0.0.2)

-- a declaration is the piece of its line
fails_is_piece : IsPiece (nothing three) (StepLine.Failed 2) (fails 2 1)
fails_is_piece = (1, Reply.Declared, refl)

-- the lines of one that declares another rank too are none
abbrev fails_another : List (Told ℕ)
fails_another =
    plain (Line.Called (Call.Fail 2) false) ∷ did Caller.Outside (Event.Fail 1) ∷ did Caller.Outside (Event.Fail 2)
    ∷ replied Caller.Outside 2 Reply.Declared ∷ []

fails_another_is_no_piece : ¬ IsPiece (nothing three) (StepLine.Failed 2) fails_another
fails_another_is_no_piece is = go is.1 is.2
  where
    go : (reply : Reply ℕ) → fails_another ≡ fail_piece 2 is.0 reply → ⊥
    go Reply.Declared same = cc same
    go _ same = cc same
