-- All of the reader's text is read, and what is shown is of it.
use Rattle.std.proofs.Common.{◌≡◌, IfSome, subst}
use Rattle.std.proofs.lemmas.Result.{IfOk-weaker}
use Rattle.ulfm_search.specs.Shown.{Observes, Shows}
use Rattle.ulfm_search.proofs.observing.observe.Goals as goal

-- where the reader was read to its end
pub returns-in-Ok : goal.returns-in-Ok
returns-in-Ok g c =
    let got = c.read_to_end.new.buf.items in
    let all : IfSome (g.R.Read.remaining c.args.reader.now) (λ xs. got ≡ xs) = rw c.new-text.ensures.items at c.in-Ok.ensures.bytes in
    IfOk-weaker c.observe_text.result (Shows c.deref.result.now c.args.witness) (Observes (g.R.Read.remaining c.args.reader.now) c.args.witness)
    (λ shown shows. (got, all, subst (λ xs. Shows xs c.args.witness shown) c.deref.ensures.value shows)) c.observe_text.ensures
