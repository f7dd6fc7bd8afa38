use Rattle.std.proofs.Common.{rules, append-nil, [], ◌≡◌, Bool, false, arith, inl, refl, subst, sym, ◌∙◌}
use Rattle.std.proofs.lemmas.Bool.{false≢true}
use Rattle.ulfm_model.specs.declared.call.Call.{Call}
use Rattle.ulfm_words.proofs.Trails.{did_none}
use Rattle.ulfm_comm.specs.declared.phases.phase.{Phase.{Phase}, Phase.TheVariants.{Over}}
use Rattle.ulfm_comm.specs.{Local.{Local}, Missing.{AnsweredNow, AnswersMissing, FindsMissing, FoundNow, midway}, Phase.{StillStands, UnderWay, under_way}}
use Rattle.ulfm_comm.specs.{Prepared.{Prepared}, Proposals.{WinsNext, proposes}, Step.{Coming, GoesOn, TakesTurn}}
use Rattle.ulfm_comm.proofs.{Resumes.{resumed_stands, resumed_turn}, Wings.{turn_same}}
use Rattle.ulfm_comm.proofs.rank.LocalState.go.Goals as goal

-- where it stands is said of that phase
still : {P : Type 0} {meld : P → P → P} {asked : Call P} {prepared : Prepared} {at : Local P} {phase here : Phase P} → phase ≡ here
    → StillStands meld (under_way asked phase prepared) at → StillStands meld (under_way asked here prepared) at
still {meld = meld} {asked = asked} {prepared = prepared} {at = at} is stands =
    subst (λ phase. StillStands meld (under_way asked phase prepared) at) is stands

-- .. with something prepared
still_so : {P : Type 0} {meld : P → P → P} {asked : Call P} {prepared : Prepared} {at : Local P} {phase here : Phase P} → phase ≡ here
    → StillStands meld (under_way asked phase prepared) at → (some : Prepared) × StillStands meld (under_way asked here some) at
still_so {prepared = prepared} is stands = (prepared, still is stands)

module _ {P : Type 0} {meld : P → P → P} {quiet whole : Bool} {was : UnderWay P} {old : Local P} {comes : Coming P} {new : Local P} where
  -- a call that isn't over goes on by its turn, where it finds who is missing as its phase asks, and wins its exchange
  goes : (was.phase ≡ Over → ⊥) → FoundNow (FindsMissing meld quiet (midway was old) new) was.phase comes.next
      → AnsweredNow (AnswersMissing meld quiet (midway was old) new.own) was.phase comes.next
      → (whole ≡ false → WinsNext meld quiet was.asked was.phase old comes.next new.view)
      → TakesTurn meld quiet whole was old comes new → GoesOn meld quiet whole was old comes new
  goes not checks early wins turn = record { turn = turn; over = λ at. absurd (not at); checks = checks; early = early; wins = wins }

  -- .. where its phase proposes no event
  looks : (was.phase ≡ Over → ⊥) → proposes was.phase ≡ false → FoundNow (FindsMissing meld quiet (midway was old) new) was.phase comes.next
      → AnsweredNow (AnswersMissing meld quiet (midway was old) new.own) was.phase comes.next
      → TakesTurn meld quiet whole was old comes new → GoesOn meld quiet whole was old comes new
  looks not none checks early = goes not checks early (λ single here wings some. absurd (false≢true (sym none ∙ some)))

pub returns-in-Over : goal.returns-in-Over
returns-in-Over g c =
    rw c.in-Over.is (record {
      turn = record {
        walks = record {
          of = c.requires.of;
          own = [];
          did = did_none g.W.Words.alone (g.W.Words.sight c.args.pass.now).seen;
          onward = omega arith;
          cached = ([], append-nil (g.W.Words.sight c.args.pass.now).cached);
        };
        beside = turn_same _ _ _ _ _ (λ w. w) ([], append-nil (g.W.Words.sight c.args.pass.now).seen) refl;
        named = λ not. refl;
        nearer = λ not. tt;
        spends = omega arith;
        also = λ all. record { few = omega arith; sets = tt };
        further = λ is. tt;
        adds = λ not. did_none g.W.Words.alone (g.W.Words.sight c.args.pass.now).seen;
        sees = refl;
        looks = λ at. absurd (cc at);
        knows = λ known of. absurd (cc of);
        leads = tt;
        turns = λ alone only old before u.
            record {
              ends = inl (record { refused = u.at.0; reply_is = refl; record_is = u.at.1 }, record { did = u.at.2; onward = u.onward });
              pending = λ waits. absurd (cc waits);
            };
      };
      over = λ at. (refl, refl);
      checks = tt;
      early = tt;
      wins = λ not here wings some. absurd (cc some);
    })

pub returns-in-Begun : goal.returns-in-Begun
returns-in-Begun g c =
    rw c.in-Begun.is (looks (λ at. absurd (cc at)) refl tt tt (resumed_turn c.requires.of c.resume.ensures (still c.in-Begun.is c.requires.stands)
    (c.go_looking.ensures.turn c.args.prepared.now)))

pub returns-in-Looking : goal.returns-in-Looking
returns-in-Looking g c = rw c.in-Looking.is (looks (λ at. absurd (cc at)) refl tt tt (c.go_looking-in-Looking.ensures.turn c.args.prepared.now))

pub returns-in-Spreading : goal.returns-in-Spreading
returns-in-Spreading g c =
    rw c.in-Spreading.is (goes (λ at. absurd (cc at)) (search rules) (search rules) (λ not. c.go_spreading.ensures.wins)
    (c.go_spreading.ensures.turn c.args.prepared.now c.args.whole))

pub returns-in-Settling : goal.returns-in-Settling
returns-in-Settling g c =
    rw c.in-Settling.is (goes (λ at. absurd (cc at)) tt tt (λ not. c.go_settling.ensures.wins) (c.go_settling.ensures.turn c.args.prepared.now c.args.whole))

pub returns-in-Arriving : goal.returns-in-Arriving
returns-in-Arriving g c =
    rw c.in-Arriving.is (goes (λ at. absurd (cc at)) tt tt (λ not. c.go_arriving.ensures.wins) (c.go_arriving.ensures.turn c.args.prepared.now c.args.whole))

pub returns-in-Revoking : goal.returns-in-Revoking
returns-in-Revoking g c =
    rw c.in-Revoking.is (goes (λ at. absurd (cc at)) tt tt (λ not. c.go_revoking.ensures.wins) (c.go_revoking.ensures.turn c.args.prepared.now c.args.whole))

pub returns-in-Asking : goal.returns-in-Asking
returns-in-Asking g c = rw c.in-Asking.is (looks (λ at. absurd (cc at)) refl tt tt (c.go_asking.ensures c.args.prepared.now c.args.whole))

pub returns-in-Peeking : goal.returns-in-Peeking
returns-in-Peeking g c = rw c.in-Peeking.is (looks (λ at. absurd (cc at)) refl tt tt c.go_peeking.ensures)

pub returns-in-Marking : goal.returns-in-Marking
returns-in-Marking g c = rw c.in-Marking.is (goes (λ at. absurd (cc at)) tt tt c.go_marking.ensures.wins (c.go_marking.ensures.turn c.args.prepared.now))

pub returns-in-Reading : goal.returns-in-Reading
returns-in-Reading g c = rw c.in-Reading.is (looks (λ at. absurd (cc at)) refl tt tt c.go_reading.ensures)

pub returns-in-ReadingOn : goal.returns-in-ReadingOn
returns-in-ReadingOn g c = rw c.in-ReadingOn.is (looks (λ at. absurd (cc at)) refl tt tt c.go_reading_on.ensures)

pub returns-in-Spawning : goal.returns-in-Spawning
returns-in-Spawning g c = rw c.in-Spawning.is (goes (λ at. absurd (cc at)) tt tt c.go_spawning.ensures.wins c.go_spawning.ensures.turn)

pub returns-in-Waiting : goal.returns-in-Waiting
returns-in-Waiting g c =
    rw c.in-Waiting.is (looks (λ at. absurd (cc at)) refl (c.go_waiting.ensures.checks c.args.prepared.now) tt (c.go_waiting.ensures.turn c.args.prepared.now))

pub returns-in-Checking : goal.returns-in-Checking
returns-in-Checking g c =
    rw c.in-Checking.is (looks (λ at. absurd (cc at)) refl tt (c.go_checking.ensures.early c.args.prepared.now)
    (c.go_checking.ensures.turn c.args.prepared.now c.args.whole))

pub go_looking-requires-clause-stands : goal.go_looking-requires-clause-stands
go_looking-requires-clause-stands g c =
    (c.args.prepared.now, resumed_stands c.requires.of c.resume.ensures (still c.in-Begun.is c.requires.stands))

pub go_looking-requires-in-Looking-clause-stands : goal.go_looking-requires-in-Looking-clause-stands
go_looking-requires-in-Looking-clause-stands g c = still_so c.in-Looking.is c.requires.stands

pub go_spreading-requires-clause-stands : goal.go_spreading-requires-clause-stands
go_spreading-requires-clause-stands g c = still_so c.in-Spreading.is c.requires.stands

pub go_settling-requires-clause-stands : goal.go_settling-requires-clause-stands
go_settling-requires-clause-stands g c = still_so c.in-Settling.is c.requires.stands

pub go_arriving-requires-clause-stands : goal.go_arriving-requires-clause-stands
go_arriving-requires-clause-stands g c = still_so c.in-Arriving.is c.requires.stands

pub go_revoking-requires-clause-stands : goal.go_revoking-requires-clause-stands
go_revoking-requires-clause-stands g c = still_so c.in-Revoking.is c.requires.stands

pub go_asking-requires-clause-stands : goal.go_asking-requires-clause-stands
go_asking-requires-clause-stands g c = still_so c.in-Asking.is c.requires.stands

pub go_peeking-requires-clause-stands : goal.go_peeking-requires-clause-stands
go_peeking-requires-clause-stands g c = still c.in-Peeking.is c.requires.stands

pub go_marking-requires-clause-stands : goal.go_marking-requires-clause-stands
go_marking-requires-clause-stands g c = still_so c.in-Marking.is c.requires.stands

pub go_reading-requires-clause-stands : goal.go_reading-requires-clause-stands
go_reading-requires-clause-stands g c = still c.in-Reading.is c.requires.stands

pub go_reading_on-requires-clause-stands : goal.go_reading_on-requires-clause-stands
go_reading_on-requires-clause-stands g c = still c.in-ReadingOn.is c.requires.stands

pub go_spawning-requires-clause-stands : goal.go_spawning-requires-clause-stands
go_spawning-requires-clause-stands g c = still c.in-Spawning.is c.requires.stands

pub go_waiting-requires-clause-stands : goal.go_waiting-requires-clause-stands
go_waiting-requires-clause-stands g c = still_so c.in-Waiting.is c.requires.stands

pub go_checking-requires-clause-stands : goal.go_checking-requires-clause-stands
go_checking-requires-clause-stands g c = still_so c.in-Checking.is c.requires.stands
