-- Calls that are printed with their replies.
use Rattle.std.proofs.Common.{◌≡◌, ℕ, List, [], ◌∷◌, ◌++◌, refl, sym, ap, subst, ◌∙◌, append_assoc}
use Rattle.std.proofs.lemmas.List.{append-nil}
use Rattle.ulfm_script.specs.Runs.{PrintsReply, ScriptState}
use Rattle.ulfm_filters.specs.Echoes.{Asked, EchoesFrom, echoed_line}

-- calls, and one more
pub echoes_on : (s t u : ScriptState) (calls : List Asked) (call : Asked) (out plain line text : List ℕ) → EchoesFrom s calls out plain t
    → PrintsReply t call.call u line → text ≡ echoed_line call.line line → EchoesFrom s (calls ++ call ∷ []) (out ++ text) (plain ++ line) u
echoes_on s t u [] call out plain line text h k is =
    let from : PrintsReply s call.call u line = subst (λ (x : ScriptState). PrintsReply x call.call u line) h.2 k in
    (u, line, [], [], from, ap (λ (x : List ℕ). x ++ text) h.0 ∙ is ∙ sym (append-nil (echoed_line call.line line)), ap (λ (x : List ℕ). x ++ line) h.1 ∙ sym (append-nil line), (refl, refl, refl))
echoes_on s t u (first ∷ calls) call out plain line text h k is = (
  h.0,
  h.1,
  h.2 ++ text,
  h.3 ++ line,
  h.4,
  ap (λ (x : List ℕ). x ++ text) h.5 ∙ append_assoc (echoed_line first.line h.1) h.2 text,
  ap (λ (x : List ℕ). x ++ line) h.6 ∙ append_assoc h.1 h.3 line,
  echoes_on h.0 t u calls call h.2 h.3 line text h.7 k is,
)
