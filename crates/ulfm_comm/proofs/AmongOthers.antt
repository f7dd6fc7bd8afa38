-- What holds where the words are alone holds among the steps of others.
use Rattle.std.proofs.Common.{ℕ, Bool, true, false, List, [], IsTrue, MatchBool, append-nil, arith}
use Rattle.ulfm_model.specs.declared.{event.Entry.{Entry}}
use Rattle.ulfm_model.specs.{History.{History}, Runs.{Did}}
use Rattle.ulfm_words.specs.Steps.{IsAdded, Sight}
use Rattle.ulfm_steps.specs.Marks.{Marks}
use Rattle.ulfm_comm.specs.Phase.{Waits}
use mathlib.Core.List.{IsPrefix}

module _ {P : Type 0} (alone quiet : Bool) (only : IsTrue alone → IsTrue quiet) where
  -- own events among those of others
  pub did_loosely : (own x y : History P) → Did quiet own x y → Did alone own x y
  did_loosely own x y did = record { since = did.since; goes_on = did.goes_on; stands = did.stands; quiet = λ here. did.quiet (only here) }

  -- an event that came last
  pub added_loosely : (entry : Entry P) (x y : History P) → IsAdded quiet entry x y → IsAdded alone entry x y
  added_loosely entry x y added = record { before = added.before; did = did_loosely [] x added.before added.did; is = added.is }

  -- an exchange that was won or lost
  pub tried_loosely : (won : Bool) (entry : Entry P) (x y : History P) → MatchBool won (IsAdded quiet entry x y) (Did quiet [] x y)
      → MatchBool won (IsAdded alone entry x y) (Did alone [] x y)
  tried_loosely true entry x y outcome = added_loosely entry x y outcome
  tried_loosely false entry x y outcome = did_loosely [] x y outcome

  -- marks
  pub marks_loosely : (number c k : ℕ) (ranks : List ℕ) (x y : History P) → Marks quiet number c k ranks x y → Marks alone number c k ranks x y
  marks_loosely number c k ranks x y m =
      record {
        own = m.own;
        did = did_loosely _ x y m.did;
        marks = m.marks;
        settled = m.settled;
        exact = λ here. m.exact (only here);
        others = λ here. m.others (only here);
      }

-- any longer history is one of others' events
pub did_among : {P : Type 0} (x y : History P) → IsPrefix x y → Did false [] x y
did_among x y begins = record { since = begins.0; goes_on = begins.1; stands = tt; quiet = λ here. absurd (cc here) }

-- nothing has come since
pub waits_none : {P : Type 0} (now : Sight P) → Waits false now now
waits_none now = record { cached = ([], append-nil now.cached); did = did_among now.seen now.seen ([], append-nil now.seen); onward = omega arith }
