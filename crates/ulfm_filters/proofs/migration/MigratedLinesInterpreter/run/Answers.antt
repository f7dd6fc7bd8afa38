use Rattle.std.proofs.Common.{ℕ, List, [], ◌∷◌, ◌++◌, sym, ap, ◌∙◌}
use Rattle.ulfm_filters.specs.Migrations.{migrated_line}
use Rattle.ulfm_filters.proofs.Migrating.{migrates_on}
use Rattle.ulfm_filters.proofs.migration.MigratedLinesInterpreter.run.Goals as goal

pub returns-in_ok-push-in-Ok : goal.returns-in_ok-push-in-Ok
returns-in_ok-push-in-Ok g c = λ plan before ran. (
  c.in-Ok.call,
  sym c.in-Ok.ensures.exact,
  migrates_on before.heading.limits before.items c.in-Ok.call before.out c.push.new.self.items ran
      (c.in_ok-push-in-Ok.ensures.items ∙ ap (λ (t : List ℕ). t ++ 10 ∷ []) (
      c.in_ok-print_migrated-in-Ok.ensures ∙ ap (λ (t : List ℕ). t ++ migrated_line c.in-Ok.call) c.clear.ensures.items
      )),
)
