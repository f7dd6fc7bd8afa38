use Rattle.std.proofs.Common.{sym, subst}
use Rattle.ulfm_words.specs.{Blocks.{IsBodyOf}, Slots.{half_in, number_in, tag_in}}
use Rattle.ulfm_words.proofs.Pairs.{number_tag}
use Rattle.ulfm_words.proofs.summaries.read_block.Goals as goal

pub returns-in_err-body : goal.returns-in_err-body
returns-in_err-body g c =
    rw c.from_residual.ensures
    (λ all is.
    c.in_err-body.ensures all.body
    (subst (λ t. IsBodyOf g.P.Packed.unpack t c.payload_in.result all.body) (number_tag c.args.word (half_in c.args.wing))
    (subst (λ p. IsBodyOf g.P.Packed.unpack (tag_in (number_in c.args.word (half_in c.args.wing))) p all.body) (sym c.payload_in.ensures) is.number.body)))
