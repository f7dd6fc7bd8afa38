use Rattle.std.proofs.Common.{◌∙◌}
use Rattle.ulfm_wait.proofs.InTurn.{is_short}
use Rattle.ulfm_wait.proofs.in_turn.poll_in_turn.Goals as goal

pub learn-requires : goal.learn-requires
learn-requires g c = c.told.ensures.name_is ∙ (c.poll-answer.ensures.words ∙ c.requires)

pub returns-clause-second : goal.returns-clause-second
returns-clause-second g c = record {
  told = g.W.OpenWords.heard c.told.result;
  is_told = c.told.ensures;
  mid = c.learn.new.self;
  learns = c.learn.ensures;
  polls = c.poll.ensures;
}

pub returns-clause-short : goal.returns-clause-short
returns-clause-short g c =
    is_short g.P.Meld.meld g.P.Packed.pack g.W.Words.alone g.W.OpenWords.tells_all c.args.comm c.args.first.now c.poll-answer.new.self c.poll-answer.result c.args.second.now c.learn.new.self c.poll.new.self c.poll.result (g.W.OpenWords.heard c.told.result)
    c.known_fit.ensures c.poll-answer.ensures c.told.ensures c.learn.ensures c.known_fit-2.ensures c.poll.ensures c.requires
