use Rattle.ulfm_script.proofs.Leading.{same_word}
use Rattle.ulfm_script.proofs.words.is_word.Goals as goal

pub returns-then-word-text : goal.returns-then-word-text
returns-then-word-text c = same_word c.args.word.now c.args.text.now c.starts_with.result c.if-word-text.true c.starts_with.ensures.value
