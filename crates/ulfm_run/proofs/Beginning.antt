-- A call that begins.
use Rattle.std.proofs.Common.{◌≡◌, Bool, true, false, [], length, Some, None, refl, ap, sym, ◌∙◌, subst, arith, inl}
use Rattle.ulfm_model.specs.declared.{call.Call.{Call}, event.Caller.TheVariants.{Rank}, refusal.Refusal.TheVariants.{SelfFailed}, reply.Reply.{Reply}, reply.Reply.TheVariants.{Refused}}
use Rattle.ulfm_model.specs.{Answers.{comm_of, traits_of}, Records.{Record}}
use Rattle.ulfm_words.specs.Steps.{Sight, Over, view_at}
use Rattle.ulfm_comm.specs.Phase.{Stands, UnderWay, is_looking}
use Rattle.ulfm_comm.specs.declared.phases.phase.{Phase.TheVariants.{Begun}}
use Rattle.ulfm_comm.specs.Local.{local}
use Rattle.ulfm_model.specs.declared.line.Line.TheVariants.{Called}
use Rattle.ulfm_model.specs.Traces.{AnswersRank, MayCome, Traced, Under, after, after_reply, call_by, same_caller, taken_in}
use Rattle.ulfm_run.specs.Stepping.{HasBegun, IsIdle}
use Rattle.ulfm_lines.proofs.{Bystanders.{find_push, own_record}, Calls.{find_left_out}}
use Rattle.ulfm_run.proofs.{Reseen.{reseen}, Turns.{EndsSo}}
use Rattle.ulfm_model.proofs.Callers.{same_rank}

module _ {P : Type 0} (meld : P → P → P) (name : Over P) (now : Traced P) (pass : Sight P) (own : Record) (idle : IsIdle meld name now pass own) (asked : Call P) (mine : (traits_of asked).by ≡ Rank own.number) where
  abbrev told : Traced P
  told = after now (Called asked false)

  abbrev u : Under P
  u = record { asked = asked; begun = length now.history; look = None; own = [] }

  pub may_call : MayCome meld now [] (Called asked false)
  may_call = ap (call_by now) mine ∙ idle.said.call_is

  call_is : call_by told (Rank own.number) ≡ Some u
  call_is = find_push (λ (v : Under P). same_caller (traits_of v.asked).by (Rank own.number)) now.calls u idle.said.call_is (ap (λ by. same_caller by (Rank own.number)) mine ∙ same_rank own.number)

  -- it looks next
  pub begun : (doing : UnderWay P) → doing.asked ≡ asked → own.refused ≡ false → doing.phase ≡ Begun → Stands meld false (local own (view_at name pass)) doing (local own (view_at name pass)) → HasBegun meld name told pass own doing
  begun doing asked_is in_use phase stands =
      record {
        u = u;
        old = own;
        known = record {
          said = record { limits = idle.said.limits; history = idle.said.history; call_is = call_is; seen = idle.said.seen; record_is = idle.said.record_is };
          asked_is = sym asked_is;
          in_use = in_use;
        };
        number = refl;
        looking = ap is_looking phase;
        stands = stands;
        begun = omega (arith, ap length idle.said.history);
        look = refl;
        own_is = refl;
      }

  -- or it is refused at once, and its record stays
  module _ (is : own.refused ≡ true) where
    abbrev answer : Reply P
    answer = Refused SelfFailed

    same : taken_in told u (length pass.seen) answer (reseen own idle.said.seen) ≡ reseen own idle.said.seen
    same = ap (λ (b : Bool). record own { seen = idle.said.seen; refused = b }) (sym is)

    stays : IsIdle meld name (after_reply told (Rank own.number) (length pass.seen) answer (Some u)) pass own
    stays =
        record {
          said = record {
            limits = idle.said.limits;
            history = idle.said.history;
            call_is = find_left_out (Rank own.number) told.calls;
            seen = idle.said.seen;
            record_is = own_record told own.number u (length pass.seen) answer (reseen own idle.said.seen) idle.said.record_is ∙ ap Some same;
          };
          fits = idle.fits;
        }

    pub refused : EndsSo meld name told pass own.number (comm_of asked) (length pass.seen) answer own
    refused =
        let as_long = ap length idle.said.history in
        record {
          may = record {
            call = u;
            is_open = call_is;
            since_begin = omega (arith, as_long);
            by_now = omega (arith, as_long);
            answers = subst (λ o. AnswersRank meld told u (length pass.seen) answer o) (sym idle.said.record_is) (inl (is, refl));
            lists = refl;
          };
          number = refl;
          list = tt;
          idle = subst (λ o. IsIdle meld name (after_reply told (Rank own.number) (length pass.seen) answer o) pass own) (sym call_is) stays;
        }
