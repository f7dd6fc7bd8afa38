use Rattle.std.proofs.Common.{◌≡◌, ◌∷◌, ◌++◌, [], List, arith, length, ap, sym, subst, Some, None, ◌∙◌}
use Rattle.std.specs.List.{cons_option}
use Rattle.ulfm_model.specs.History.{says}
use Rattle.ulfm_story.specs.declared.rows.Row.{Row}
use Rattle.ulfm_story.specs.Rounds.{TellRounds}
use Rattle.ulfm_story.specs.Stories.{Told, entry_of, events_of, told_at}
use Rattle.ulfm_story.proofs.Stories.{decisions_loud, decisions_quiet, events_loud, events_quiet}
use Rattle.ulfm_story.proofs.telling.Telling.tell.Goals as goal

pub returns-in_default : goal.returns-in_default
returns-in_default g c = λ limits rows told less.
    let row = c.in_ok-row.row in
    let none : entry_of row.line ≡ None = ap entry_of c.in_ok-row.ensures.told ∙ (sym c.entry_of.ensures ∙ c.in_default.is) in (
      row,
      c.in_ok-row.ensures,
      record {
        world = told.world;
        rows_are = c.in_ok-push.ensures.items ∙ ap (λ (rs : List Row). rs ++ row ∷ []) told.rows_are;
        notes = told.notes ∙ sym (decisions_quiet limits.ranks rows row none);
        rounds = subst (TellRounds limits.ranks c.args.self.now.rounds) (sym (events_quiet rows row none)) told.rounds;
      },
    )

pub returns : goal.returns
returns g c = λ limits rows told less.
    let row = c.in_ok-row.row in
    let entry = c.in-Some.entry in
    let some : entry_of row.line ≡ Some entry = ap entry_of c.in_ok-row.ensures.told ∙ (sym c.entry_of.ensures ∙ c.in-Some.is) in
    let count : c.len.result ≡ length rows = omega (arith, c.len.ensures, c.args.self.now.rows.ok.0, ap length told.rows_are) in
    let at : c.short-at.result ≡ length rows = c.short-at.ensures (omega (arith, count, less)) ∙ count in
    let happened = c.in_ok-happen.ensures limits.ranks (events_of rows) told.rounds in
    let noted = c.in_ok-note_decision.ensures limits.ranks (events_of rows ++ entry ∷ []) happened in
    let one = cons_option (told_at limits.ranks (events_of rows ++ entry ∷ []) c.short-at.result (says entry.event).settles) [] in (
      row,
      c.in_ok-row.ensures,
      record {
        world = told.world;
        rows_are = c.in_ok-push.ensures.items ∙ ap (λ (rs : List Row). rs ++ row ∷ []) told.rows_are;
        notes = c.in_ok-note_arrived.ensures ∙ (noted ∙ (ap (λ (ts : List Told). ts ++ one) told.notes ∙ sym (decisions_loud limits.ranks rows row entry c.short-at.result some at)));
        rounds = subst (TellRounds limits.ranks c.happen.new.self) (sym (events_loud rows row entry some)) happened;
      },
    )
