-- What runs of calls print.
use Rattle.std.proofs.Common.{ℕ, List, [], ◌∷◌, ◌++◌, refl, sym, ap, subst, ◌∙◌, append_assoc}
use Rattle.std.proofs.lemmas.List.{append-nil}
use Rattle.ulfm_model.specs.Answers.{traits_of}
use Rattle.ulfm_script.specs.{Calls.{ScriptCall}, Runs.{PrintsReply, ArePrinted, Prints, ScriptState, reply_group}}

-- calls, and one more
pub prints_on : (s t u : ScriptState) (calls : List ScriptCall) (call : ScriptCall) (out line : List ℕ) → Prints s calls out t → PrintsReply t call u line → Prints s (calls ++ call ∷ []) (out ++ line) u
prints_on s t u [] call out line h k =
    let from : PrintsReply s call u line = subst (λ (x : ScriptState). PrintsReply x call u line) h.1 k in
    (u, line, [], from, ap (λ (t : List ℕ). t ++ line) h.0 ∙ sym (append-nil line), (refl, refl))
prints_on s t u (first ∷ calls) call out line h k =
    (h.0, h.1, h.2 ++ line, h.3, ap (λ (t : List ℕ). t ++ line) h.4 ∙ append_assoc h.1 h.2 line, prints_on h.0 t u calls call h.2 line h.5 k)

-- what calls print are the replies
pub printed_replies : (old new : ScriptState) (calls : List ScriptCall) (out : List ℕ) → Prints old calls out new → ArePrinted old calls out
printed_replies old new [] out h = ([], tt, h.0)
printed_replies old new (call ∷ calls) out h =
    let rest = printed_replies h.0 new calls h.2 h.5 in
    let reply = h.3.0 in
    (reply ∷ rest.0, (h.0, h.3.1, rest.1), (reply_group h.0 (traits_of call).comm reply, h.2, h.4 ∙ ap (λ (t : List ℕ). t ++ h.2) h.3.2, rest.2))
