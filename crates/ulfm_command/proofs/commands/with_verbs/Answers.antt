use Rattle.std.proofs.Common.{rules, subst, take_all}
use Rattle.std.proofs.lemmas.List.Sums.{fold_more}
use Rattle.std.specs.List.{fold}
use Rattle.ulfm_command.specs.CommandLines.{IsCommand}
use Rattle.ulfm_command.specs.Verbs.{with_verb}
use Rattle.ulfm_command.proofs.commands.with_verbs.Goals as goal

pub loop-verb-preserved : goal.loop-verb-preserved
loop-verb-preserved c = λ app is. let so = c.loop-verb.invariant app is in search (rules, fold_more, so)

pub returns : goal.returns
returns c = λ app is. subst (λ verbs. IsCommand (fold with_verb app verbs) c.loop-verb.command) (take_all c.loop-verb.verb-index c.args.verbs.now c.loop-verb-test.false) (c.loop-verb.invariant app is)
