use Rattle.std.proofs.Common.{false}
use Rattle.ulfm_laws.specs.Flags.{flag_meld}
use Rattle.ulfm_model.proofs.LeftRuns.{fail_fits}
use Rattle.ulfm_race.proofs.Stopping.{fail_declares}
use Rattle.ulfm_race.proofs.worker.declare.Goals as goal

pub returns-then-stopped-clause-own : goal.returns-then-stopped-clause-own
returns-then-stopped-clause-own c = record {
  of = c.fail.ensures.of;
  fits =
      fail_fits flag_meld c.args.world.now.limits false c.args.pass.now.seen c.fail.new.pass.seen c.args.rank.now.own _ _ c.fail.ensures.run c.requires.own.fits;
}

pub returns-then-stopped-clause-declared : goal.returns-then-stopped-clause-declared
returns-then-stopped-clause-declared c stopped below =
    fail_declares c.args.world.now.limits false c.args.pass.now.seen c.fail.new.pass.seen c.args.number _ c.fail.ensures.run c.fail.ensures.at_end below
