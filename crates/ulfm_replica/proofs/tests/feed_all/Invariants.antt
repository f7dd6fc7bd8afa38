use Rattle.std.proofs.Common.{◌≡◌}
use Rattle.ulfm_laws.specs.Flags.{flag_meld}
use Rattle.ulfm_laws.specs.declared.flag_and.FlagAnd.{FlagAnd}
use Rattle.ulfm_words.specs.Steps.{view_of}
use Rattle.ulfm_replica.specs.Replays.{AreReplayed}
use Rattle.ulfm_replica.proofs.tests.feed_all.Given as goal

abbrev pub invariant-loop-entry : goal.invariant-loop-entry
invariant-loop-entry g l = (l.limits ≡ l.pass.name.limits) × AreReplayed flag_meld (view_of (λ (f : FlagAnd). f.bits) l.pass.name l.pass) l.numbers
