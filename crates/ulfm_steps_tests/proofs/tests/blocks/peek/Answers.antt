use Rattle.std.proofs.Common.{◌≡◌, Option, Some, None, is_some, false, ℕ, List}
use Rattle.ulfm_laws.specs.declared.summary.Summary.{Summary}
use Rattle.ulfm_model.specs.History.{History}
use Rattle.ulfm_steps.specs.Blocks.{MembersTell}
use Rattle.ulfm_steps.proofs.Reading.{world_round}
use Rattle.ulfm_steps_tests.proofs.tests.blocks.peek.Goals as goal

-- nothing is known of a block that isn't
tells_none : {P : Type 0} (meld : P → P → P) (h : History P) (group : List ℕ) (said : Option (Summary P)) → is_some said ≡ false → MembersTell meld h 0 0 group said
tells_none meld h group None none = tt
tells_none meld h group (Some all) none = absurd (cc none)

pub advance-requires : goal.advance-requires
advance-requires g c =
    let name = g.W.Words.name c.args.words.now in
    let seen = (g.W.Words.sight c.args.pass.now).seen in
    let new = c.new-peek.ensures in
    record {
      of = c.requires.of;
      round = rw (new.comm, new.round, c.requires.group) (world_round name.limits seen 0 c.requires.rounds);
      some = rw new.side c.requires.some;
      first = rw new.first tt;
      are = rw (new.comm, new.round) (record {
        front = tells_none g.P.Meld.meld seen _ c.new-peek.result.blocks.front new.none.0;
        back = tells_none g.P.Meld.meld seen _ c.new-peek.result.blocks.back new.none.1;
      });
    }
